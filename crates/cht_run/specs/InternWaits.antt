-- What an intern that waits comes to, as its seat sees it, and where its tries lead.
use Rattle.std.specs.Prelude.{◌≡◌, ℕ, List, [], ◌∷◌, Option, Some, None}
use Rattle.intern_log.specs.declared.event.Event.{Event}
use Rattle.intern_log.specs.declared.event.Handle.{Handle}
use Rattle.intern_log.specs.declared.event.Kind.{Kind}
use Rattle.intern_log.specs.declared.event.Kind.TheVariants.{Counted, Weak}
use Rattle.intern_log.specs.declared.event.What.{What}
use Rattle.intern_log.specs.declared.event.What.TheVariants as what
use Rattle.atomic_step.specs.declared.answer.Answer.{Answer}
use Rattle.atomic_step.specs.declared.answer.Answer.TheVariants as answer
use Rattle.call_machine.specs.declared.enter.EnterStage.TheVariants as enter
use Rattle.call_machine.specs.declared.find.FindStage.TheVariants as find
use Rattle.call_machine.specs.declared.insert.InsertStage.TheVariants as insert
use Rattle.call_machine.specs.declared.stage.Along.{Along}
use Rattle.call_machine.specs.declared.stage.CallStage.{CallStage}
use Rattle.call_machine.specs.declared.stage.CallStage.TheVariants as stage
use Rattle.call_machine.specs.Leave.{tries_again, leaves_with}
use Rattle.cht_core.specs.declared.table.Table.{Table}
use Rattle.cht_core.specs.Begins.{IsHeld, IsCreated}
use Rattle.cht_run.specs.declared.intern_wait.Interned.{Interned}
use Rattle.cht_run.specs.declared.intern_wait.Interned.TheVariants as interned
use Rattle.cht_run.specs.declared.intern_wait.InternedWeak.{InternedWeak}
use Rattle.cht_run.specs.declared.intern_wait.InternedWeak.TheVariants as weak
use Rattle.cht_run.specs.declared.seat.Seat.{Seat}
use Rattle.cht_run.specs.Answers.{AreOfWalk}
use Rattle.cht_run.specs.Interns.{ClaimsNone, FoundNoSlot}
use Rattle.cht_run.specs.Seats.{seen, numbers}

-- FROM TRY TO TRY

-- a slot is filled and linked, or each was taken
abbrev pub filled : Along → Option Handle → CallStage
filled w None = leaves_with w.kept answer.NoSlot
filled w (Some h) = stage.Insert (insert.Create h)

-- a try has decided on an answer, or the call is to try again
abbrev pub decided : Along → Option Answer → CallStage
decided w None = tries_again
decided w (Some a) = leaves_with w.kept a

-- and once it has closed its section
abbrev pub tried : Option Answer → CallStage
tried None = stage.Find (find.Enter enter.LoadCounter)
tried (Some a) = stage.Answered a

-- the answers of an intern that waits
abbrev pub IsWaitAnswer : Kind → Answer → Type 0
IsWaitAnswer kind (answer.Taken h) = kind ≡ Counted
IsWaitAnswer kind (answer.Found h) = kind ≡ Weak
IsWaitAnswer kind (answer.Created h) = Unit {0}
IsWaitAnswer kind answer.NoSlot = Unit {0}
IsWaitAnswer kind _ = ⊥

-- WHAT IT DID, AND WHY IT ANSWERS SO

-- it takes a hold on the live entry of its text, or makes one; or each slot was taken, and it has claimed none. Over all its tries it claims one slot
-- at most
abbrev pub InternsWaiting : List ℕ → Interned → List What → Type 0
InternsWaiting text interned.TooLong events = events ≡ []
InternsWaiting text (interned.Taken h) events = AreOfWalk (what.Take text h ∷ []) events
InternsWaiting text (interned.Created h) events = AreOfWalk (what.Create text h ∷ []) events
InternsWaiting text interned.NoSlot events = ClaimsNone events

abbrev pub WhyInternsWaiting : Table → List ℕ → Interned → List Event → List Event → Type 0
WhyInternsWaiting t text interned.TooLong seen window = window ≡ []
WhyInternsWaiting t text interned.NoSlot seen window = FoundNoSlot t text seen window
WhyInternsWaiting t text _ seen window = Unit {0}

-- and in a weak table
abbrev pub InternsWeakWaiting : List ℕ → InternedWeak → List What → Type 0
InternsWeakWaiting text weak.TooLong events = events ≡ []
InternsWeakWaiting text (weak.Found h) events = AreOfWalk (what.Found text h ∷ []) events
InternsWeakWaiting text (weak.Created h) events = AreOfWalk (what.Create text h ∷ []) events
InternsWeakWaiting text weak.NoSlot events = ClaimsNone events

abbrev pub WhyInternsWeakWaiting : Table → List ℕ → InternedWeak → List Event → List Event → Type 0
WhyInternsWeakWaiting t text weak.TooLong seen window = window ≡ []
WhyInternsWeakWaiting t text weak.NoSlot seen window = FoundNoSlot t text seen window
WhyInternsWeakWaiting t text _ seen window = Unit {0}

-- a seat that has an answer with a handle holds it then; in a weak table the handle was created
abbrev pub InternedHolds : Seat → Interned → Type 0
InternedHolds seat (interned.Taken h) = IsHeld (seen seat) (numbers seat) h
InternedHolds seat (interned.Created h) = IsHeld (seen seat) (numbers seat) h
InternedHolds seat _ = Unit {0}

abbrev pub InternedWeakHolds : Seat → InternedWeak → Type 0
InternedWeakHolds seat (weak.Found h) = IsCreated (seen seat) h
InternedWeakHolds seat (weak.Created h) = IsCreated (seen seat) h
InternedWeakHolds seat _ = Unit {0}
