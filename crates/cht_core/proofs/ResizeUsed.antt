-- To which heads callers come at the stages of a resize.
use Rattle.std.proofs.Common.{◌≡◌, ℕ, ◌+◌, ◌^◌, ◌<◌, ◌⊎◌, List, [], ◌∷◌, Option, refl, sym, ap, subst, ◌∙◌, inl, inr, arith}
use Rattle.chain_core.specs.Nodes.{On}
use Rattle.chain_core.specs.Path.{IsPath}
use Rattle.intern_log.specs.Now.{Now}
use Rattle.cht_core.specs.Flow.{Flow, IsUsed}
use Rattle.cht_core.specs.KnowsResize.{NoHead, Resizing}
use Rattle.cht_core.specs.Stage.{Stage, Splitting, Shrinking, Joining, Turning, next_row, IsLeft, IsOpen}
use Rattle.cht_core.proofs.Stages.{next_row_size}

-- a path stays where the links of its nodes do
pub path_kept : (next new : ℕ → Option ℕ) (first : Option ℕ) (nodes : List ℕ) → ((s : ℕ) → On s nodes → new s ≡ next s) → IsPath next first nodes → IsPath new first nodes
path_kept next new first [] same h = h
path_kept next new first (x ∷ nodes) same h =
    (h.0, subst (λ (to : Option ℕ). IsPath new to nodes) (sym (same x (inl refl))) (path_kept next new (next x) nodes (λ s on. same s (inr on)) h.1))

-- HEADS TO WHICH CALLERS COME AT A STAGE

module _ (n : Now) (f : Flow) (i : ℕ) where
  -- of the level's row
  pub left_used : (level bucket : ℕ) (stage : Stage) (except : ℕ → ℕ → Type 0) → Resizing n f i level stage except → IsLeft stage bucket → bucket < 2 ^ level → IsUsed n f level bucket
  left_used level bucket stage except h left below = inl (sym h.at_level, subst (λ (st : Stage). IsLeft st bucket) (sym h.at_stage) left, below)

  -- and of the next one
  pub open_used : (level row bucket : ℕ) (stage : Stage) (except : ℕ → ℕ → Type 0) → Resizing n f i level stage except → next_row stage level ≡ row → IsOpen stage level bucket → IsUsed n f row bucket
  open_used level row bucket stage except h is comes = inr (
    sym is ∙ sym (ap (λ (st : Stage). next_row st level) h.at_stage) ∙ sym (ap (next_row f.stage) h.at_level),
    subst (λ (l : ℕ). IsOpen f.stage l bucket) (sym h.at_level) (subst (λ (st : Stage). IsOpen st level bucket) (sym h.at_stage) comes),
  )

-- the two new heads of a bucket that is unzipped
pub split_used : (n : Now) (f : Flow) (i level b c : ℕ) → Resizing n f i level (Splitting b) NoHead → b < 2 ^ level → (c ≡ b) ⊎ (c ≡ b + 2 ^ level) → IsUsed n f (level + 1) c
split_used n f i level b c h below side = open_used n f i level (level + 1) c (Splitting b) NoHead h refl (elim side [
  | inl e ↦ inl (omega (arith, e))
  | inr e ↦ inr (omega (arith, e), omega (arith, e))
])

-- the old heads of a pair that is not redirected, of one that is joined, and the odd one after the even one is redirected
pub pair_below : (k b : ℕ) → b < 2 ^ k → (b < 2 ^ (k + 1)) × (b + 2 ^ k < 2 ^ (k + 1))
pair_below k b below = let size : 2 ^ (k + 1) ≡ 2 ^ k + 2 ^ k = next_row_size k in (omega (arith, below, size), omega (arith, below, size))

pub even_used : (n : Now) (f : Flow) (i k b : ℕ) (except : ℕ → ℕ → Type 0) → Resizing n f i (k + 1) (Shrinking k b) except → b < 2 ^ k → IsUsed n f (k + 1) b
even_used n f i k b except h below = left_used n f i (k + 1) b (Shrinking k b) except h (omega arith, inl below) (pair_below k b below).0

pub even_joined_used : (n : Now) (f : Flow) (i k b : ℕ) (except : ℕ → ℕ → Type 0) → Resizing n f i (k + 1) (Joining k b) except → b < 2 ^ k → IsUsed n f (k + 1) b
even_joined_used n f i k b except h below = left_used n f i (k + 1) b (Joining k b) except h (omega arith, inl below) (pair_below k b below).0

pub odd_joined_used : (n : Now) (f : Flow) (i k b : ℕ) (except : ℕ → ℕ → Type 0) → Resizing n f i (k + 1) (Joining k b) except → b < 2 ^ k → IsUsed n f (k + 1) (b + 2 ^ k)
odd_joined_used n f i k b except h below = left_used n f i (k + 1) (b + 2 ^ k) (Joining k b) except h (omega arith, inr (omega arith)) (pair_below k b below).1

pub odd_turned_used : (n : Now) (f : Flow) (i k b : ℕ) (except : ℕ → ℕ → Type 0) → Resizing n f i (k + 1) (Turning k b) except → b < 2 ^ k → IsUsed n f (k + 1) (b + 2 ^ k)
odd_turned_used n f i k b except h below = left_used n f i (k + 1) (b + 2 ^ k) (Turning k b) except h (omega (arith, below), inr (omega arith)) (pair_below k b below).1

pub new_turned_used : (n : Now) (f : Flow) (i k b : ℕ) (except : ℕ → ℕ → Type 0) → Resizing n f i (k + 1) (Turning k b) except → IsUsed n f k b
new_turned_used n f i k b except h = open_used n f i (k + 1) k b (Turning k b) except h refl (omega arith)
