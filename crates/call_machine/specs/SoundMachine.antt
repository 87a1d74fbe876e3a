-- What a seat may have of its own, which calls it may make then, what a machine may be, and which words it may be told.
use Rattle.std.specs.Prelude.{◌≡◌, ℕ, ◌<◌, Bool, true, false, Option, IfSome, is_some}
use Rattle.table_shape.specs.declared.shape.Shape.{Shape}
use Rattle.intern_log.specs.declared.event.Kind.{Kind}
use Rattle.intern_log.specs.declared.event.Kind.TheVariants.{Counted, Weak}
use Rattle.atomic_step.specs.SoundStep.{CanFollow}
use Rattle.call_machine.specs.declared.call.Call.{Call}
use Rattle.call_machine.specs.declared.call.Call.TheVariants as call
use Rattle.call_machine.specs.declared.grace.Grace.{Grace}
use Rattle.call_machine.specs.declared.machine.Machine.{Machine}
use Rattle.call_machine.specs.declared.machine.Machine.TheVariants as machine
use Rattle.call_machine.specs.declared.machine.Own.{Own}
use Rattle.call_machine.specs.Machine.{shape_of, plan_of}
use Rattle.call_machine.specs.SoundBegin.{IsSoundBegin}
use Rattle.call_machine.specs.SoundCall.{IsHandle, IsSoundCall}
use Rattle.call_machine.specs.SoundPoll.{IsSoundPoll}
use Rattle.call_machine.specs.SoundSweep.{IsSoundSweep}
use Rattle.call_machine.specs.Work.{IsSoundWork}

-- the seat's number, slot and grace are of the table
abbrev pub IsGraceOf : Shape → Option Grace → Type 0
IsGraceOf shape grace = IfSome grace (λ g. g.next < shape.seats)

abbrev pub IsInsideOwn : Shape → Own → Type 0
IsInsideOwn shape own = (own.number < shape.seats) × (own.cursor < shape.slots) × IsGraceOf shape own.grace

-- and its unfinished work names only slots, rows and buckets of the table
abbrev pub IsSoundOwn : Shape → Own → Type 0
IsSoundOwn shape own = IsInsideOwn shape own × IfSome own.work (IsSoundWork shape)

-- the handle of a call, if it has one, is of a slot of the table
abbrev pub HasHandle : Shape → Call → Type 0
HasHandle shape (call.TextOf h) = IsHandle shape h
HasHandle shape (call.Drop h) = IsHandle shape h
HasHandle shape (call.Permanent h) = IsHandle shape h
HasHandle shape (call.Kill h) = IsHandle shape h
HasHandle shape _ = Unit {0}

-- which calls are made in a table of a kind, by whether the seat has a work or a grace unfinished
abbrev pub IsIdle : Bool → Bool → Type 0
IsIdle work grace = (work ≡ false) × (grace ≡ false)

abbrev pub IsAllowed : Kind → Bool → Bool → Call → Type 0
IsAllowed kind work grace (call.Intern text) = Unit {0}
IsAllowed kind work grace (call.Lookup text) = Unit {0}
IsAllowed kind work grace (call.TextOf h) = Unit {0}
IsAllowed kind work grace (call.Drop h) = kind ≡ Counted
IsAllowed kind work grace (call.Permanent h) = kind ≡ Counted
IsAllowed kind work grace (call.Kill h) = kind ≡ Weak
IsAllowed kind work grace call.PollWork = work ≡ true
IsAllowed kind work grace call.PollGrace = grace ≡ true
IsAllowed kind work grace _ = IsIdle work grace

-- the call may start, as far as it can be tested
abbrev pub MayStart : Kind → Shape → Own → Call → Type 0
MayStart kind shape own c = IsInsideOwn shape own × HasHandle shape c × IsAllowed kind (is_some own.work) (is_some own.grace) c

-- a machine on its way; beside a try call stands what its seat has unfinished
abbrev pub IsSoundMachine : Machine → Type 0
IsSoundMachine (machine.Call c work grace) = IsSoundCall c × IfSome work (IsSoundWork c.asked.shape) × IsGraceOf c.asked.shape grace
IsSoundMachine (machine.Begin b) = IsSoundBegin b
IsSoundMachine (machine.Poll p) = IsSoundPoll p
IsSoundMachine (machine.Sweep s) = IsSoundSweep s

-- the next step may find the word
abbrev pub FitsMachine : Machine → ℕ → Type 0
FitsMachine m word = CanFollow (shape_of m) (plan_of m) word
