-- Runs: what happens to a table move by move, whoever makes the moves, and a call in the middle of one.
use Rattle.std.specs.Prelude.{◌≡◌, ◌≢◌, ◌==◌, ℕ, ◌+◌, ◌<◌, if◌then◌else◌, List, [], ◌∷◌, ◌++◌, Some, None}
use Rattle.std.specs.List.{All}
use Rattle.intern_log.specs.declared.event.Event.{Event}
use Rattle.atomic_step.specs.declared.answer.Answer.{Answer}
use Rattle.atomic_step.specs.declared.answer.Answer.TheVariants as answer
use Rattle.atomic_step.specs.declared.step.Step.{Step as AtomicStep}
use Rattle.atomic_step.specs.declared.step.Step.TheVariants as step
use Rattle.atomic_step.specs.Step.{access_of}
use Rattle.atomic_step.specs.Table.{word_at}
use Rattle.call_machine.specs.declared.call.Call.{Call}
use Rattle.call_machine.specs.declared.call.Call.TheVariants as call
use Rattle.call_machine.specs.declared.machine.Machine.{Machine}
use Rattle.call_machine.specs.declared.machine.Own.{Own}
use Rattle.call_machine.specs.Machine.{started, got_of, event_of}
use Rattle.cht_core.specs.declared.rehash.Rehashing.{Rehashing}
use Rattle.cht_core.specs.declared.seat.Seat.TheVariants as doing
use Rattle.cht_core.specs.declared.state.Started.{Started}
use Rattle.cht_core.specs.declared.state.Stepped.{Stepped}
use Rattle.cht_core.specs.declared.table.Table.{Table}
use Rattle.cht_core.specs.Begins.{HasBytes, first_own}
use Rattle.cht_core.specs.CauseCalls.{IsAbsent}
use Rattle.cht_core.specs.Caused.{way_of, Cause}
use Rattle.cht_core.specs.Invariant.{events_of}
use Rattle.cht_core.specs.State.{Core, seat_in, seat_after, with_seat, after_step, CanStart, StartsAs, StepsAs, RehashesAs}

-- a call of a seat is started, a seat makes a step, or the table is made anew
pub data Move : Type 0 where
  Start : ℕ → Call → Move
  Step : ℕ → Move
  Rehash : Move

-- whatever it comes to, a call that is refused and a step of an idle seat among them; the text of a call is one of bytes
abbrev pub Makes : Core → Move → Core → Type 0
Makes c (Start k asked) d = HasBytes asked × ((said : Started) × StartsAs c k asked (seat_in c.seats k) said d)
Makes c (Step k) d = (said : Stepped) × StepsAs c k (seat_in c.seats k) said d
Makes c Rehash d = (said : Rehashing) × RehashesAs c said d

-- a list of moves leads from a state to a state
abbrev pub LeadsTo : Core → List Move → Core → Type 0
LeadsTo c [] d = c ≡ d
LeadsTo c (move ∷ moves) d = (next : Core) × Makes c move next × LeadsTo next moves d

-- the move starts no call of the seat
abbrev pub IsNoStart : ℕ → Move → Type 0
IsNoStart k (Start j asked) = j ≢ k
IsNoStart k _ = Unit {0}

-- how many of the moves are steps of the seat
abbrev pub steps_of : ℕ → List Move → ℕ
steps_of k [] = 0
steps_of k (Step j ∷ moves) = if j == k then steps_of k moves + 1 else steps_of k moves
steps_of k (move ∷ moves) = steps_of k moves

-- a seat began a call in a state, then came these moves, and in the state to which they lead its call is still running
pub record IsUnderWay (c : Core) (k : ℕ) (own : Own) (asked : Call) (moves : List Move) (d : Core) (m : Machine) : Type 0 where
  pub idle : seat_in c.seats k ≡ Some (doing.Idle own)
  pub bytes : HasBytes asked
  pub can : CanStart c own asked
  pub leads : LeadsTo (with_seat c k (seat_after (started c.table.kind c.table.shape c.seed own asked))) moves d
  pub alone : All (IsNoStart k) moves
  pub running : seat_in d.seats k ≡ Some (doing.Running m)

-- the word that a step finds in a state
abbrev pub word_in : Core → AtomicStep → ℕ
word_in d s = word_at d.table.shape (access_of s).place d.words

-- why a call answers so whose step finds the word that its next step finds in a state: its window goes from the state in which it began
-- to the event of that step
abbrev pub HasCause : Core → ℕ → Call → Core → Machine → ℕ → Answer → Type 0
HasCause c k asked d m word a =
    (window : List Event) × (d.log ++ events_of k (event_of m word) ≡ c.log ++ window) × Cause c.table k (way_of asked) c.log window (got_of m word) a

-- why a call answers so that answers as it begins: a text that is looked up is too long to be there, and is absent; any other call has had
-- an empty window
abbrev pub CauseAtOnce : Table → ℕ → List Event → Machine → Call → Answer → Type 0
CauseAtOnce t k seen m (call.Lookup text) a = (a ≡ answer.Miss) × IsAbsent text.now seen
CauseAtOnce t k seen m asked a = Cause t k (way_of asked) seen [] m a

-- a call that does not wait for others: all but the intern that waits, the beginnings and the polls of works, and the sweep
abbrev pub IsTryCall : Call → Type 0
IsTryCall call.Split = Unit {0}
IsTryCall (call.Intern text) = Unit {0}
IsTryCall (call.Lookup text) = Unit {0}
IsTryCall (call.TextOf h) = Unit {0}
IsTryCall (call.Drop h) = Unit {0}
IsTryCall (call.Permanent h) = Unit {0}
IsTryCall (call.Kill h) = Unit {0}
IsTryCall _ = ⊥

-- a step has brought a seat of a new number: it has drawn the number, which is one of the table, and which nobody had; and now a seat has it
-- that is between its calls and has nothing unfinished
pub record BringsSeat (d : Core) (k : ℕ) (m : Machine) (s : AtomicStep) (number : ℕ) : Type 0 where
  pub draws : s ≡ step.Draw
  pub word : word_in d s ≡ number
  pub inside : number < d.table.shape.seats
  pub nobody : seat_in d.seats number ≡ None
  pub new : seat_in (after_step d k m s (word_in d s)).seats number ≡ Some (doing.Idle (first_own d.table.shape number))
