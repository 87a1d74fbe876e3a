-- The search for the level at which a table settles.
use Rattle.std.proofs.Common.{◌≡◌, ℕ, suc, ◌+◌, ◌-◌, ◌*◌, ◌<◌, ◌^◌, cond, ap, ◌∙◌, arith}
use Rattle.std.proofs.lemmas.Bool.{lt-leb}
use Rattle.intern_log.specs.Buckets.{settle_from}

-- a level whose row is too small is passed
pub settle_from-next : (load live level max_level : ℕ) → level < max_level → 2 ^ level * load < live →
    settle_from load live level (max_level - level) ≡ settle_from load live (level + 1) (max_level - (level + 1))
settle_from-next load live level max_level below small =
    let more : max_level - level ≡ suc (max_level - (level + 1)) = omega arith in
    ap (settle_from load live level) more ∙ ap (λ b. cond b level (settle_from load live (level + 1) (max_level - (level + 1)))) (lt-leb live (2 ^ level * load) small)
