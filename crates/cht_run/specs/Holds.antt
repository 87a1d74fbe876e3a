-- Which handles seats hold, and for which texts they were given them.
use Rattle.std.specs.Prelude.{◌≡◌, ◌⊎◌, ℕ, List, ◌∷◌, ◌++◌}
use Rattle.intern_log.specs.declared.event.Event.{Event}
use Rattle.intern_log.specs.declared.event.Handle.{Handle}
use Rattle.intern_log.specs.declared.event.What.{What}
use Rattle.intern_log.specs.declared.event.What.TheVariants as what
use Rattle.intern_log.specs.Log.{map_of}
use Rattle.intern_log.specs.TextMap.{IsLive}
use Rattle.cht_core.specs.Begins.{IsHeld}
use Rattle.cht_run.specs.declared.intern_wait.Interned.{Interned}
use Rattle.cht_run.specs.declared.intern_wait.Interned.TheVariants as interned
use Rattle.cht_run.specs.declared.seat.Seat.{Seat}
use Rattle.cht_run.specs.Begins.{HasLedger}
use Rattle.cht_run.specs.Seats.{sight, seen, numbers}

-- the event is a Create or a Take of the text with the handle; and the log has such an event
abbrev pub Gives : What → List ℕ → Handle → Type 0
Gives w text h = (w ≡ what.Create text h) ⊎ (w ≡ what.Take text h)

abbrev pub WasGiven : List Event → List ℕ → Handle → Type 0
WasGiven log text h = (front back : List Event) × (e : Event) × (log ≡ front ++ e ∷ back) × Gives e.what text h

-- each handle that these numbers hold is live
abbrev pub HoldLive : List Event → List ℕ → Type 0
HoldLive log numbers = (h : Handle) → IsHeld log numbers h → IsLive (map_of log) h

-- a seat holds the handle, which was given for the text; and it has let go of nothing that it had not had
pub record Holds (seat : Seat) (text : List ℕ) (h : Handle) : Type 0 where
  pub held : IsHeld (seen seat) (numbers seat) h
  pub given : WasGiven (seen seat) text h
  pub ledger : HasLedger (sight seat)

-- a seat whose intern has answered with a handle holds it for the text
abbrev pub InternedGives : Seat → List ℕ → Interned → Type 0
InternedGives seat text (interned.Taken h) = Holds seat text h
InternedGives seat text (interned.Created h) = Holds seat text h
InternedGives seat text _ = Unit {0}
