-- What an intern that tries once comes to, as its seat sees it: what it did, and why it answers so.
use Rattle.std.specs.Prelude.{◌≡◌, ◌⊎◌, ℕ, ◌<◌, List, [], ◌∷◌}
use Rattle.intern_log.specs.declared.event.Event.{Event}
use Rattle.intern_log.specs.declared.event.What.{What}
use Rattle.intern_log.specs.declared.event.What.TheVariants as what
use Rattle.call_machine.specs.CallClaims.{claims_in}
use Rattle.cht_core.specs.Begins.{IsHeld, IsCreated}
use Rattle.cht_core.specs.CauseCalls.{IsAbsent, IsTaken, IsTextLocked, CountLost, HeadLost}
use Rattle.cht_core.specs.declared.table.Table.{Table}
use Rattle.cht_core.specs.Windows.{Somewhere}
use Rattle.cht_run.specs.declared.intern.TryIntern.{TryIntern}
use Rattle.cht_run.specs.declared.intern.TryIntern.TheVariants as try_intern
use Rattle.cht_run.specs.declared.intern.TryInternWeak.{TryInternWeak}
use Rattle.cht_run.specs.declared.intern.TryInternWeak.TheVariants as weak
use Rattle.cht_run.specs.declared.seat.Seat.{Seat}
use Rattle.cht_run.specs.Answers.{AreOfWalk}
use Rattle.cht_run.specs.Seats.{seen, numbers}

-- WHAT IT DID

-- one that has found no slot has claimed none
pub record ClaimsNone (events : List What) : Type 0 where
  pub walk : AreOfWalk [] events
  pub none : claims_in events ≡ 0

-- it takes a hold on the live entry of its text, or makes one; or it has done nothing that callers see
abbrev pub Interns : List ℕ → TryIntern → List What → Type 0
Interns text try_intern.TooLong events = events ≡ []
Interns text (try_intern.Taken h) events = AreOfWalk (what.Take text h ∷ []) events
Interns text (try_intern.Created h) events = AreOfWalk (what.Create text h ∷ []) events
Interns text try_intern.Again events = AreOfWalk [] events
Interns text try_intern.Locked events = AreOfWalk [] events
Interns text try_intern.NoSlot events = ClaimsNone events

-- and in a weak table
abbrev pub InternsWeak : List ℕ → TryInternWeak → List What → Type 0
InternsWeak text weak.TooLong events = events ≡ []
InternsWeak text (weak.Found h) events = AreOfWalk (what.Found text h ∷ []) events
InternsWeak text (weak.Created h) events = AreOfWalk (what.Create text h ∷ []) events
InternsWeak text weak.Again events = AreOfWalk [] events
InternsWeak text weak.Locked events = AreOfWalk [] events
InternsWeak text weak.NoSlot events = ClaimsNone events

-- WHY IT ANSWERS SO

-- another seat changed the count of the text's entry, or the head of its bucket
abbrev pub IsLost : Table → ℕ → List ℕ → List Event → List Event → Type 0
IsLost t i text seen window = CountLost i text seen window ⊎ HeadLost t i text seen window

-- a bucket of the text was locked at a place of the window
abbrev pub WasLocked : Table → List ℕ → List Event → List Event → Type 0
WasLocked t text seen window = Somewhere (IsTextLocked t text) seen window

-- the text was absent at a place of the window, and each slot was taken at one
abbrev pub FoundNoSlot : Table → List ℕ → List Event → List Event → Type 0
FoundNoSlot t text seen window = Somewhere (IsAbsent text) seen window × ((slot : ℕ) → slot < t.shape.slots → Somewhere (IsTaken t slot) seen window)

abbrev pub WhyInterns : Table → ℕ → List ℕ → TryIntern → List Event → List Event → Type 0
WhyInterns t i text try_intern.TooLong seen window = window ≡ []
WhyInterns t i text (try_intern.Taken h) seen window = Unit {0}
WhyInterns t i text (try_intern.Created h) seen window = Unit {0}
WhyInterns t i text try_intern.Again seen window = IsLost t i text seen window
WhyInterns t i text try_intern.Locked seen window = WasLocked t text seen window
WhyInterns t i text try_intern.NoSlot seen window = FoundNoSlot t text seen window

-- in a weak table no count is ever exchanged for an intern: a head was lost
abbrev pub WhyInternsWeak : Table → ℕ → List ℕ → TryInternWeak → List Event → List Event → Type 0
WhyInternsWeak t i text weak.TooLong seen window = window ≡ []
WhyInternsWeak t i text (weak.Found h) seen window = Unit {0}
WhyInternsWeak t i text (weak.Created h) seen window = Unit {0}
WhyInternsWeak t i text weak.Again seen window = HeadLost t i text seen window
WhyInternsWeak t i text weak.Locked seen window = WasLocked t text seen window
WhyInternsWeak t i text weak.NoSlot seen window = FoundNoSlot t text seen window

-- WHAT ITS SEAT HAS THEN

-- a seat that has an answer with a handle holds it then; in a weak table the handle was created
abbrev pub InternHolds : Seat → TryIntern → Type 0
InternHolds seat (try_intern.Taken h) = IsHeld (seen seat) (numbers seat) h
InternHolds seat (try_intern.Created h) = IsHeld (seen seat) (numbers seat) h
InternHolds seat _ = Unit {0}

abbrev pub InternWeakHolds : Seat → TryInternWeak → Type 0
InternWeakHolds seat (weak.Found h) = IsCreated (seen seat) h
InternWeakHolds seat (weak.Created h) = IsCreated (seen seat) h
InternWeakHolds seat _ = Unit {0}
