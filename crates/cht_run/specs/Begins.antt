-- A seat between its calls, and the call that it begins.
use Rattle.std.specs.Prelude.{◌≡◌, ◌≤◌, ℕ, Bool, true, false, List, [], ◌++◌, is_some, IfSome, Option, Some, None}
use Rattle.atomic_step.specs.declared.plan.Plan.{Plan}
use Rattle.atomic_step.specs.declared.plan.Plan.TheVariants as plan
use Rattle.atomic_step.specs.declared.step.Step.{Step}
use Rattle.call_machine.specs.declared.call.Call.{Call}
use Rattle.call_machine.specs.declared.machine.Machine.{Machine}
use Rattle.call_machine.specs.declared.machine.Own.{Own}
use Rattle.call_machine.specs.declared.caller.Caller.{Caller}
use Rattle.call_machine.specs.Machine.{caller_of, started, plan_of, own_of, shape_of, number_of}
use Rattle.call_machine.specs.SoundMachine.{HasHandle, IsAllowed, IsSoundMachine, IsSoundOwn, FitsMachine}
use Rattle.call_machine.specs.declared.work.Work.{Work}
use Rattle.intern_log.specs.Now.{owner_of}
use Rattle.cht_core.specs.Causes.{now_in, IsResting}
use Rattle.cht_core.specs.declared.seat.Seat.{Seat}
use Rattle.cht_core.specs.declared.seat.Seat.TheVariants as doing
use Rattle.cht_core.specs.Begins.{HasBytes, MeetsLog}
use Rattle.cht_run.specs.declared.sight.Origin.{Origin}
use Rattle.cht_run.specs.declared.sight.Sight.{Sight}
use Rattle.intern_log.specs.declared.event.Handle.{Handle}
use Rattle.intern_log.specs.Own.{mine, gains, losses}
use Rattle.cht_run.specs.declared.sight.Entry.{Entry}
use Rattle.cht_run.specs.History.{log_of, NoneBy}
use Rattle.cht_run.specs.Rule.{is_seat}
use Rattle.cht_run.specs.Told.{Told, IsAbout}

-- what a seat has of its own, in a call or between two
abbrev pub own_at : Seat → Own
own_at (doing.Idle own) = own
own_at (doing.Running m) = own_of m

-- whether a call has answered, and whether a seat is between its calls
abbrev pub is_over : Plan → Bool
is_over (plan.Step s) = false
is_over (plan.Answered a) = true

abbrev pub is_resting : Seat → Bool
is_resting (doing.Idle own) = true
is_resting (doing.Running m) = is_over (plan_of m)

-- the machine of a call of a seat as it begins
abbrev pub first_of : Sight → Call → Machine
first_of v c = started v.origin.table.kind v.origin.table.shape v.origin.seed (own_at v.seat) c

-- who calls
abbrev pub caller_in : Sight → Caller
caller_in v = caller_of v.origin.table.kind v.origin.table.shape v.origin.seed (own_at v.seat)

-- the seat as the call begins
abbrev pub begun : Sight → Call → Sight
begun v c = record v { seat = doing.Running (first_of v c); passed = [] }

-- the seat is between its calls, and the condition of the call holds
pub record MayCall (v : Sight) (c : Call) : Type 0 where
  pub seat : is_seat v ≡ true
  pub rests : is_resting v.seat ≡ true
  pub handle : HasHandle v.origin.table.shape c
  pub allowed : IsAllowed v.origin.table.kind (is_some (own_at v.seat).work) (is_some (own_at v.seat).grace) c
  pub bytes : HasBytes c
  pub log : MeetsLog v.origin.table.kind (log_of v.history) v.numbers c

-- what the seat has let go of it has had
abbrev pub HasLedger : Sight → Type 0
HasLedger v = (h : Handle) → losses (mine (log_of v.history) v.numbers) h ≤ gains (mine (log_of v.history) v.numbers) h

-- what the first step tells beside: the seat's own is sound, and an unfinished work rests and has the resize lock
pub record ToldFirst (c : Call) (s : Step) (v : Sight) (word : ℕ) (w : Sight) : Type 0 where
  pub told : Told v.origin (first_of v c) s (begun v c) word w
  pub own : IsSoundOwn v.origin.table.shape (own_at v.seat)
  pub number_is : (own_at v.seat).number ≡ v.number
  pub rests : IfSome (own_at v.seat).work IsResting
  pub ledger : HasLedger v
  pub owner : (x : Work) → (own_at v.seat).work ≡ Some x → (later : List Entry) × NoneBy v.numbers later × (owner_of (now_in v.origin.table (log_of (v.history ++ later))).resizing ≡ Some v.number)

-- a further step of a call, and the first one
abbrev pub GoesOn : Sight → ℕ → Sight → Type 0
GoesOn v word w = (m : Machine) (s : Step) → IsAbout v m s → Told v.origin m s v word w

abbrev pub GoesFirst : Call → Sight → ℕ → Sight → Type 0
GoesFirst c v word w = (s : Step) → plan_of (first_of v c) ≡ plan.Step s → ToldFirst c s v word w

-- the next step of a seat, if its call is running
abbrev pub step_by : Plan → Option Step
step_by (plan.Step s) = Some s
step_by (plan.Answered a) = None

abbrev pub next_in : Seat → Option Step
next_in (doing.Idle own) = None
next_in (doing.Running m) = step_by (plan_of m)

-- the call of a seat is sound, and it is of the seat and its table
pub record IsSoundOf (o : Origin) (number : ℕ) (m : Machine) : Type 0 where
  pub sound : IsSoundMachine m
  pub shape : shape_of m ≡ o.table.shape
  pub number_is : number_of m ≡ number

abbrev pub SoundIn : Origin → ℕ → Seat → Type 0
SoundIn o number (doing.Idle own) = ⊥
SoundIn o number (doing.Running m) = IsSoundOf o number m

-- the next step of a seat's call may find the word
abbrev pub FitsIn : Seat → ℕ → Type 0
FitsIn (doing.Idle own) word = Unit {0}
FitsIn (doing.Running m) word = FitsMachine m word
