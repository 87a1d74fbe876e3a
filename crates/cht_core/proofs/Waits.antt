-- The slots that wait to be freed, over steps that leave them as they are.
use Rattle.std.proofs.Common.{sym, subst, ◌≡◌, ℕ, ◌+◌, ◌<◌, ◌≤◌, inl, inr, refl, ◌∙◌, arith, List, [], ◌∷◌}
use Rattle.chain_core.specs.Nodes.{On}
use Rattle.table_shape.specs.declared.place.Place.TheVariants as place
use Rattle.call_machine.specs.declared.pass.Waiting.{Waiting}
use Rattle.cht_core.specs.KnowsWork.{AreWaiting, KnowsWaiting, slots_in}
use Rattle.cht_core.specs.Memory.{Memory}
use Rattle.cht_core.specs.Past.{Past}

-- a slot is as it was: its phase and its count word are the same
pub record IsAsItWas (m : Memory) (p : Past) (m' : Memory) (p' : Past) (s : ℕ) : Type 0 where
  pub phase : p'.now.slot s ≡ p.now.slot s
  pub count : m' (place.Count s) ≡ m (place.Count s)
  pub uses : p.uses s ≤ p'.uses s

-- those that wait go on waiting where their slots are as they were
pub waiting_stays : (m : Memory) (p : Past) (m' : Memory) (p' : Past) (i at : ℕ) (xs : List Waiting) → ((s : ℕ) → On s (slots_in xs) → IsAsItWas m p m' p' s)
    → AreWaiting m p i at xs → AreWaiting m' p' i at xs
waiting_stays m p m' p' i at [] same waiting = tt
waiting_stays m p m' p' i at (x ∷ xs) same waiting =
    let (one, rest) = waiting in
    let here : IsAsItWas m p m' p' x.slot = same x.slot (inl refl) in
    let old : x.generation + 1 ≤ p.uses x.slot = one.4 in
    let more : p.uses x.slot ≤ p'.uses x.slot = here.uses in
    ((one.0, here.phase ∙ one.1, one.2, here.count ∙ one.3, omega (arith, old, more)), waiting_stays m p m' p' i at xs (λ s on. same s (inr on)) rest)

-- and so before a later place
pub waiting_later : (m : Memory) (p : Past) (i at later : ℕ) (xs : List Waiting) → at ≤ later → AreWaiting m p i at xs → AreWaiting m p i later xs
waiting_later m p i at later [] less waiting = tt
waiting_later m p i at later (x ∷ xs) less waiting =
    let (one, rest) = waiting in
    let before : one.0 < at = one.2 in
    ((one.0, one.1, omega (arith, before, less), one.3, one.4), waiting_later m p i at later xs less rest)

-- where no slot waits there is nothing to know
pub none_wait : (m : Memory) (p : Past) (i : ℕ) (xs : List Waiting) → xs ≡ [] → KnowsWaiting m p i xs
none_wait m p i xs none = subst (KnowsWaiting m p i) (sym none) (tt, tt)
