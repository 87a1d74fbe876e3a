-- Creates that are numbered from a slot on, one by one.
use Rattle.std.proofs.Common.{◌≡◌, ℕ, ◌+◌, List, [], ◌∷◌, ◌++◌, count_by, cond, ◌↔◌, refl, ap, subst, ◌∙◌}
use native.Mathlib.Omega.{arith}
use Rattle.std.proofs.lemmas.List.Sums.{sum_by-cons}
use Rattle.intern_log.specs.declared.event.Handle.{Handle}
use Rattle.intern_log.specs.declared.event.What.{What}
use Rattle.intern_log.specs.declared.event.What.TheVariants.{Create, Take, Found, Drop, Perm, Kill, Claim, Free, Open, Close, Grace, Lock, Unlock, Unlink, ResizeTaken, ResizeGiven, Level, Rehash}
use Rattle.intern_log.specs.Counts.{is_create}
use Rattle.intern_log.specs.PlainLogs.{slot_handle, slots_taken, IsNumbered, IsNumberedFrom}
use Rattle.intern_log.proofs.PlainLogLaws.{IsNumberedFrom-rest}

-- each Create has the slot that lies as many above the first as there are Creates before
abbrev AreNumbered : ℕ → List What → Type 0
AreNumbered first whats = (front back : List What) (text : List ℕ) (h : Handle) → whats ≡ front ++ Create text h ∷ back → h ≡ record { slot = first + count_by is_create front; generation = 0 }

one_by_one : (first : ℕ) (whats : List What) → IsNumberedFrom first whats → AreNumbered first whats
one_by_one first whats numbered front back text h is = (IsNumberedFrom-rest first front (Create text h ∷ back) (subst (IsNumberedFrom first) is numbered)).0

count_first : (first : ℕ) (what : What) (whats : List What) → first + count_by is_create (what ∷ whats) ≡ first + slots_taken what + count_by is_create whats
count_first first what whats = omega (arith, sum_by-cons (λ w. cond (is_create w) 1 0) what whats)

numbered_first : (first : ℕ) (what : What) → ((text : List ℕ) (h : Handle) → what ≡ Create text h → h ≡ slot_handle first) → IsNumbered first what
numbered_first first (Create text h) is = is text h refl
numbered_first first (Take text h) is = tt
numbered_first first (Found text h) is = tt
numbered_first first (Drop h) is = tt
numbered_first first (Perm h) is = tt
numbered_first first (Kill h) is = tt
numbered_first first (Claim x) is = tt
numbered_first first (Free x) is = tt
numbered_first first (Open counter) is = tt
numbered_first first Close is = tt
numbered_first first Grace is = tt
numbered_first first (Lock r b) is = tt
numbered_first first (Unlock r b) is = tt
numbered_first first (Unlink x) is = tt
numbered_first first ResizeTaken is = tt
numbered_first first ResizeGiven is = tt
numbered_first first (Level l) is = tt
numbered_first first (Rehash n) is = tt

from_each : (first : ℕ) (whats : List What) → AreNumbered first whats → IsNumberedFrom first whats
from_each first [] each = tt
from_each first (what ∷ whats) each = (
  numbered_first first what (λ text h is. each [] whats text h (ap (λ w. w ∷ whats) is) ∙ ap slot_handle (add_nothing first)),
  from_each (first + slots_taken what) whats (λ front back text h is.
      each (what ∷ front) back text h (ap (λ ws. what ∷ ws) is) ∙ ap slot_handle (count_first first what front)),
)
  where
    add_nothing : (n : ℕ) → n + count_by is_create [] ≡ n
    add_nothing n = omega arith

pub numbered_is : (first : ℕ) (whats : List What) → IsNumberedFrom first whats ↔ AreNumbered first whats
numbered_is first whats = (one_by_one first whats, from_each first whats)
