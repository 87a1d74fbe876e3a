-- What a resize knows after a step on the level or on the new-level word.
use Rattle.std.proofs.Common.{◌≡◌, ℕ, ◌+◌, ◌^◌, ◌<◌, ◌≤◌, Bool, cond, List, Option, Some, None, refl, sym, ap, ◌∙◌, inl, inr, arith}
use Rattle.std.specs.Prelude.{if◌then◌else◌}
use Rattle.std.proofs.lemmas.Bool.{cases_eq, eq-eqb, ne_eqb}
use Rattle.intern_log.specs.declared.event.What.TheVariants as what
use Rattle.intern_log.specs.Now.{locks_of_row}
use Rattle.atomic_step.specs.declared.step.Step.TheVariants as step
use Rattle.cht_core.specs.Flow.{Flow, begins_at}
use Rattle.cht_core.specs.KnowsResize.{NoHead, Resizing}
use Rattle.cht_core.specs.Memory.{Memory}
use Rattle.cht_core.specs.Past.{Past, told}
use Rattle.cht_core.specs.Stage.{Quiet, Growing, Shrinking, Closing}
use Rattle.cht_core.proofs.ResizeParts.{free_at, resizing_at, resizing_on}
use Rattle.cht_core.proofs.Stages.{next_row_size}
use Rattle.cht_core.proofs.Turns.{flow_of}

-- the new level is told
begins_up : (level l : ℕ) → l ≡ level → begins_at l (level + 1) ≡ Growing 0
begins_up level l e = ap (λ (b : Bool). if b then Growing 0 else Shrinking (level + 1) 0) (eq-eqb (level + 1) (l + 1) (ap (λ (x : ℕ). x + 1) (sym e)))

begins_down : (k l : ℕ) → l ≡ k + 1 → begins_at l k ≡ Shrinking k 0
begins_down k l e = ap (λ (b : Bool). if b then Growing 0 else Shrinking k 0) (ne_eqb k (l + 1) (λ same. omega (arith, e, same)))

pub grow_begun : (m : Memory) (p : Past) (f : Flow) (i : ℕ) (text : List ℕ) (level : ℕ) → Resizing p.now f i level Quiet NoHead
    → Resizing p.now (flow_of p f i text (step.PutNewLevel (Some (level + 1))) m) i level (Growing 0) NoHead
grow_begun m p f i text level h = resizing_on p.now p.now f (flow_of p f i text (step.PutNewLevel (Some (level + 1))) m) i level Quiet (Growing 0) NoHead NoHead h refl refl
    (begins_up level p.now.level h.at_level) (λ row bucket is no. absurd no) (λ row bucket no. absurd no) (λ row bucket unused out free. free)

pub shrink_begun : (m : Memory) (p : Past) (f : Flow) (i : ℕ) (text : List ℕ) (k : ℕ) → Resizing p.now f i (k + 1) Quiet NoHead
    → Resizing p.now (flow_of p f i text (step.PutNewLevel (Some k)) m) i (k + 1) (Shrinking k 0) NoHead
shrink_begun m p f i text k h = resizing_on p.now p.now f (flow_of p f i text (step.PutNewLevel (Some k)) m) i (k + 1) Quiet (Shrinking k 0) NoHead NoHead h refl refl
    (begins_down k p.now.level h.at_level) (λ row bucket is no. absurd no) (λ row bucket no. absurd no) (λ row bucket unused out free. free)

-- it is told no longer
pub resize_quiet : (m : Memory) (p : Past) (f : Flow) (i : ℕ) (text : List ℕ) (level : ℕ) → Resizing p.now f i level Closing NoHead
    → Resizing p.now (flow_of p f i text (step.PutNewLevel None) m) i level Quiet NoHead
resize_quiet m p f i text level h = resizing_on p.now p.now f (flow_of p f i text (step.PutNewLevel None) m) i level Closing Quiet NoHead NoHead h refl refl
    refl (λ row bucket is no. absurd no) (λ row bucket no. absurd no) (λ row bucket unused out free. free)

-- the level is stored: of its row no head beyond its size is locked, and of the other rows none is
stored_free : (lock : ℕ → ℕ → Option ℕ) (new row bucket : ℕ) → (row ≡ new → lock row bucket ≡ None) → locks_of_row lock new row bucket ≡ None
stored_free lock new row bucket free = elim (cases_eq row new) [
  | inl same ↦ ap (λ (b : Bool). cond b (lock row bucket) None) (eq-eqb row new same) ∙ free same
  | inr differ ↦ ap (λ (b : Bool). cond b (lock row bucket) None) (ne_eqb row new differ)
]

pub grow_stored : (m : Memory) (p : Past) (f : Flow) (i : ℕ) (text : List ℕ) (level : ℕ) → Resizing p.now f i level (Growing (2 ^ level)) NoHead
    → Resizing (told p i (Some (what.Level (level + 1)))).now (flow_of p f i text (step.StoreLevel (level + 1)) m) i (level + 1) Closing NoHead
grow_stored m p f i text level h = resizing_at (told p i (Some (what.Level (level + 1)))).now (flow_of p f i text (step.StoreLevel (level + 1)) m) i (level + 1) Closing NoHead h.owner refl refl
    (λ row bucket unused out up. stored_free p.now.lock (level + 1) row bucket (λ e.
    let above : 2 ^ (level + 1) ≤ bucket = up e in
    let size : 2 ^ (level + 1) ≡ 2 ^ level + 2 ^ level = next_row_size level in
    free_at p.now f i level row bucket (Growing (2 ^ level)) NoHead h (λ used. elim used [
      | inl a ↦ (let same : row ≡ level = a.0 in omega (arith, same, e))
      | inr a ↦ elim a.1 [ inl x ↦ omega (arith, x, above, size) | inr x ↦ (let y : bucket < 2 ^ level + 2 ^ level = x.1 in omega (arith, y, above, size)) ]
    ]) out (λ same. absurd (omega (arith, same, e)))))

pub shrink_stored : (m : Memory) (p : Past) (f : Flow) (i : ℕ) (text : List ℕ) (k : ℕ) → Resizing p.now f i (k + 1) (Shrinking k (2 ^ k)) NoHead
    → Resizing (told p i (Some (what.Level k))).now (flow_of p f i text (step.StoreLevel k) m) i k Closing NoHead
shrink_stored m p f i text k h = resizing_at (told p i (Some (what.Level k))).now (flow_of p f i text (step.StoreLevel k) m) i k Closing NoHead h.owner refl refl
    (λ row bucket unused out up. stored_free p.now.lock k row bucket (λ e.
    let above : 2 ^ k ≤ bucket = up e in
    free_at p.now f i (k + 1) row bucket (Shrinking k (2 ^ k)) NoHead h (λ used. elim used [
      | inl a ↦ (let same : row ≡ k + 1 = a.0 in omega (arith, same, e))
      | inr a ↦ (let below : bucket < 2 ^ k = a.1 in omega (arith, below, above))
    ]) out (λ same. absurd (omega (arith, same, e)))))
