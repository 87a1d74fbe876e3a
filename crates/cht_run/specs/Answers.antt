-- What a look-up comes to, as its seat sees it: what it did, and why it answers so.
use Rattle.std.specs.Prelude.{◌≡◌, ℕ, ◌≤◌, false, List, [], ◌∷◌, Some, None}
use Rattle.std.specs.List.{filter}
use Rattle.intern_log.specs.declared.event.Event.{Event}
use Rattle.intern_log.specs.declared.event.What.{What}
use Rattle.intern_log.specs.declared.event.What.TheVariants as what
use Rattle.intern_log.specs.Own.{is_visible}
use Rattle.atomic_step.specs.Monitor.{after_all, section, slot}
use Rattle.call_machine.specs.CallClaims.{claims_in}
use Rattle.cht_core.specs.Begins.{IsHeld, IsCreated}
use Rattle.cht_core.specs.CauseCalls.{IsAbsent, CountLost, AreOfCall}
use Rattle.cht_core.specs.Windows.{Somewhere}
use Rattle.cht_run.specs.declared.lookup.TryFind.{TryFind}
use Rattle.cht_run.specs.declared.lookup.TryFind.TheVariants as try_find
use Rattle.cht_run.specs.declared.lookup.TryLookup.{TryLookup}
use Rattle.cht_run.specs.declared.lookup.TryLookup.TheVariants as try_lookup
use Rattle.cht_run.specs.declared.seat.Seat.{Seat}
use Rattle.cht_run.specs.Seats.{seen, numbers}

-- the events of a look-up or an intern: callers see these of them; its Opens and Closes come in pairs; a slot that it claims it uses for an entry or
-- frees, and it claims one at most; and it does nothing that only works do
pub record AreOfWalk (visible events : List What) : Type 0 where
  pub shown : filter is_visible events ≡ visible
  pub sections : after_all section (Some false) events ≡ Some false
  pub slots : after_all slot (Some None) events ≡ Some None
  pub claims : claims_in events ≤ 1
  pub calls : AreOfCall events

-- a look-up in a counted table takes a hold on the live entry of its text; or the text was absent at a place of the window; or another seat changed
-- the count
abbrev pub LooksUp : List ℕ → TryLookup → List What → Type 0
LooksUp text (try_lookup.Hit h) events = AreOfWalk (what.Take text h ∷ []) events
LooksUp text try_lookup.Miss events = AreOfWalk [] events
LooksUp text try_lookup.Again events = AreOfWalk [] events

abbrev pub WhyLooksUp : ℕ → List ℕ → TryLookup → List Event → List Event → Type 0
WhyLooksUp i text (try_lookup.Hit h) seen window = Unit {0}
WhyLooksUp i text try_lookup.Miss seen window = Somewhere (IsAbsent text) seen window
WhyLooksUp i text try_lookup.Again seen window = CountLost i text seen window

-- a seat that has hit an entry holds it then
abbrev pub LookupHolds : Seat → TryLookup → Type 0
LookupHolds seat (try_lookup.Hit h) = IsHeld (seen seat) (numbers seat) h
LookupHolds seat _ = Unit {0}

-- and one in a weak table
abbrev pub Finds : List ℕ → TryFind → List What → Type 0
Finds text (try_find.Hit h) events = AreOfWalk (what.Found text h ∷ []) events
Finds text try_find.Miss events = AreOfWalk [] events

abbrev pub WhyFinds : List ℕ → TryFind → List Event → List Event → Type 0
WhyFinds text (try_find.Hit h) seen window = Unit {0}
WhyFinds text try_find.Miss seen window = Somewhere (IsAbsent text) seen window

-- a handle that it hits was created
abbrev pub FindHolds : Seat → TryFind → Type 0
FindHolds seat (try_find.Hit h) = IsCreated (seen seat) h
FindHolds seat try_find.Miss = Unit {0}
