-- What the calls come to that try until no other seat is faster.
use Rattle.std.specs.Prelude.{◌≡◌, ℕ, ◌+◌, ◌<◌, List, [], ◌∷◌, ◌++◌}
use Rattle.std.specs.List.{filter}
use Rattle.intern_log.specs.declared.event.Event.{Event}
use Rattle.intern_log.specs.declared.event.Handle.{Handle}
use Rattle.intern_log.specs.declared.event.What.{What}
use Rattle.intern_log.specs.declared.event.What.TheVariants as what
use Rattle.intern_log.specs.Own.{is_visible}
use Rattle.cht_core.specs.Begins.{IsHeld}
use Rattle.cht_core.specs.CauseCalls.{IsAbsent, AreOfCall}
use Rattle.cht_core.specs.Windows.{Somewhere}
use Rattle.cht_run.specs.declared.retry.Lookup.{Lookup}
use Rattle.cht_run.specs.declared.retry.Lookup.TheVariants as lookup
use Rattle.cht_run.specs.declared.retry.Released.{Released}
use Rattle.cht_run.specs.declared.retry.Released.TheVariants as released
use Rattle.cht_run.specs.declared.seat.Seat.{Seat}
use Rattle.cht_run.specs.Changes.{EndsWith}
use Rattle.cht_run.specs.Seats.{seen, numbers}

-- A LOOK-UP

-- callers see these of the events of all its tries, and they do nothing that only works do
pub record AreOfTries (visible events : List What) : Type 0 where
  pub shown : filter is_visible events ≡ visible
  pub calls : AreOfCall events

-- it takes a hold on the live entry of its text, or the text was absent at a place of the window
abbrev pub LooksUpWaiting : List ℕ → Lookup → List What → Type 0
LooksUpWaiting text (lookup.Hit h) events = AreOfTries (what.Take text h ∷ []) events
LooksUpWaiting text lookup.Miss events = AreOfTries [] events

abbrev pub WhyLooksUpWaiting : List ℕ → Lookup → List Event → List Event → Type 0
WhyLooksUpWaiting text (lookup.Hit h) seen window = Unit {0}
WhyLooksUpWaiting text lookup.Miss seen window = Somewhere (IsAbsent text) seen window

-- a seat that has hit an entry holds it then
abbrev pub LookupWaitingHolds : Seat → Lookup → Type 0
LookupWaitingHolds seat (lookup.Hit h) = IsHeld (seen seat) (numbers seat) h
LookupWaitingHolds seat lookup.Miss = Unit {0}

-- CALLS BY HANDLE

-- a drop tells the count after it: of a count of 65,535 nothing is taken away
abbrev pub WhyReleases : ℕ → Handle → Released → List Event → List Event → Type 0
WhyReleases i h (released.Dropped left) seen window = EndsWith i (what.Drop h) h (left + 1) seen (seen ++ window) × (left + 1 < 65535)
WhyReleases i h released.Permanent seen window = EndsWith i (what.Drop h) h 65535 seen (seen ++ window)

-- a hold that is made permanent was one on the entry of the handle
abbrev pub WhyStays : ℕ → Handle → List Event → List Event → Type 0
WhyStays i h seen window = (count : ℕ) × EndsWith i (what.Perm h) h count seen (seen ++ window)
