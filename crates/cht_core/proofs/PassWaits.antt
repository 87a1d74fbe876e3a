-- The slots that wait to be freed, over the steps of their seat on a bucket.
use Rattle.std.proofs.Common.{◌≡◌, ℕ, ◌≤◌, List, [], ◌∷◌, ◌++◌, inl, inr, sym, subst}
use Rattle.std.proofs.lemmas.List.{map_push}
use Rattle.chain_core.specs.Nodes.{On, Once}
use Rattle.chain_core.proofs.Members.{once_push}
use Rattle.intern_log.specs.Now.{Unlinked}
use Rattle.call_machine.specs.declared.pass.Waiting.{Waiting}
use Rattle.cht_core.specs.KnowsWork.{IsWaiting, AreWaiting, KnowsWaiting, slots_in}
use Rattle.cht_core.specs.Memory.{Memory}
use Rattle.cht_core.specs.Past.{Past}
use Rattle.cht_core.proofs.Waits.{IsAsItWas, waiting_stays, waiting_later}

-- a slot that waits was unlinked by the seat
pub waiting_unlinked : (m : Memory) (p : Past) (i by s : ℕ) (xs : List Waiting) → AreWaiting m p i by xs → On s (slots_in xs) → (at : ℕ) × (p.now.slot s ≡ Unlinked i at)
waiting_unlinked m p i by s [] waiting on = absurd on
waiting_unlinked m p i by s (x ∷ xs) waiting on = elim on [
  | inl here ↦ (waiting.0.0, subst (λ (k : ℕ). p.now.slot k ≡ Unlinked i waiting.0.0) here waiting.0.1)
  | inr later ↦ waiting_unlinked m p i by s xs waiting.1 later
]

-- all that wait go on waiting where unlinked slots of the seat are as they were
pub waits_on : (m : Memory) (p : Past) (m' : Memory) (p' : Past) (i : ℕ) (xs : List Waiting) → p.now.place ≤ p'.now.place →
    ((s at : ℕ) → p.now.slot s ≡ Unlinked i at → IsAsItWas m p m' p' s) → KnowsWaiting m p i xs → KnowsWaiting m' p' i xs
waits_on m p m' p' i xs later same waiting = (
  waiting_later m' p' i p.now.place p'.now.place xs later
      (waiting_stays m p m' p' i p.now.place xs (λ s on. let is = waiting_unlinked m p i p.now.place s xs waiting.0 on in same s is.0 is.1) waiting.0),
  waiting.1,
)

are_waiting_push : (m : Memory) (p : Past) (i by : ℕ) (xs : List Waiting) (x : Waiting) → AreWaiting m p i by xs → IsWaiting m p i by x → AreWaiting m p i by (xs ++ x ∷ [])
are_waiting_push m p i by [] x waiting one = (one, tt)
are_waiting_push m p i by (y ∷ xs) x waiting one = (waiting.0, are_waiting_push m p i by xs x waiting.1 one)

-- one more slot waits, which did not wait before
pub waits_push : (m : Memory) (p : Past) (i : ℕ) (xs : List Waiting) (x : Waiting) → KnowsWaiting m p i xs → IsWaiting m p i p.now.place x → (On x.slot (slots_in xs) → ⊥) →
    KnowsWaiting m p i (xs ++ x ∷ [])
waits_push m p i xs x waiting one absent = (
  are_waiting_push m p i p.now.place xs x waiting.0 one,
  subst Once (sym (map_push (λ (y : Waiting). y.slot) xs x)) (once_push (slots_in xs) x.slot waiting.1 absent),
)
