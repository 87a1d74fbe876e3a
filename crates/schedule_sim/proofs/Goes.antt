-- A call that goes on, step by step.
use Rattle.std.proofs.Common.{◌≡◌, ℕ, suc, ◌+◌, arith, false, subst, IsTrue, List, [], ◌++◌, append-nil, Option, refl, sym}
use Rattle.atomic_step.specs.declared.access.StepKind.{StepKind}
use Rattle.cht_core.specs.State.{Core}
use Rattle.schedule_sim.specs.Turns.{Goes, Steps, Stops, Prints, next_of}
use Rattle.schedule_sim.proofs.Texts.{more_lines}

-- so many steps were made and printed
abbrev pub WentOn : Option StepKind → ℕ → ℕ → Core → Core → List ℕ → List ℕ → Type 0
WentOn until k n c d out new = Prints (λ items. Goes until k n c items d) out new

pub went_nowhere : (until : Option StepKind) (k : ℕ) (c : Core) (out : List ℕ) → WentOn until k 0 c c out out
went_nowhere until k c out = ([], (refl, refl), sym (append-nil out))

pub went_on : (until : Option StepKind) (k n : ℕ) (c mid d : Core) (out between new : List ℕ) → WentOn until k n c mid out between → ¬ (Stops until (next_of mid k)) →
    Prints (λ items. Steps mid k d items) between new → WentOn until k (n + 1) c d out new
went_on until k n c mid d out between new (before, goes, is_between) on (after, steps, is_new) =
    let one : suc n ≡ n + 1 = omega arith in
    subst (λ m. WentOn until k m c d out new) one
    (before ++ after, (mid, before, after, goes, on, steps, refl), more_lines out between new before after is_between is_new)

-- a test that has said no
pub not_true : IsTrue false → ⊥
not_true is = cc
