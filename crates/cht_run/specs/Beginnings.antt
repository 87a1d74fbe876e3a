-- A call that begins a work or a grace, or polls a grace, that is under way.
use Rattle.std.specs.Prelude.{◌≡◌, ℕ, Bool, if◌then◌else◌, Some}
use Rattle.atomic_step.specs.declared.answer.Answer.{Answer}
use Rattle.atomic_step.specs.declared.answer.Answer.TheVariants as answer
use Rattle.call_machine.specs.declared.begin.BeginStage.{BeginStage}
use Rattle.call_machine.specs.declared.begin.Left.TheVariants as left
use Rattle.call_machine.specs.declared.begin.Task.{Task}
use Rattle.call_machine.specs.declared.begin.Task.TheVariants as task
use Rattle.call_machine.specs.declared.call.Call.{Call}
use Rattle.call_machine.specs.declared.call.Call.TheVariants as call
use Rattle.call_machine.specs.declared.grace.Grace.{Grace}
use Rattle.call_machine.specs.declared.machine.Machine.{Machine}
use Rattle.call_machine.specs.declared.machine.Machine.TheVariants as machine
use Rattle.call_machine.specs.declared.resize.Direction.{Direction}
use Rattle.call_machine.specs.declared.resize.Direction.TheVariants.{Grow, Shrink}
use Rattle.call_machine.specs.Begin.{answers, begun, taken}
use Rattle.cht_core.specs.declared.table.Table.{Table}
use Rattle.cht_run.specs.declared.graces.BeganGrace.{BeganGrace}
use Rattle.cht_run.specs.declared.graces.BeganGrace.TheVariants as began
use Rattle.cht_run.specs.declared.sight.Sight.{Sight}
use Rattle.cht_run.specs.declared.table.Cht.{Cht}
use Rattle.cht_run.specs.declared.works.BeginEnd.{BeginEnd}
use Rattle.cht_run.specs.declared.works.BeginEnd.TheVariants as end
use Rattle.cht_run.specs.Begins.{own_at, caller_in, MayCall}
use Rattle.cht_run.specs.Runs.{IsBeginCall}
use Rattle.cht_run.specs.Seats.{Raw, Sits}

-- its machine
abbrev pub begins_at : Sight → BeginStage → Machine
begins_at b s = machine.Begin (record { caller = caller_in b; stage = s })

-- the seat may begin this call, which loads the counter first
pub record MayBegin (cht : Cht) (b : Sight) (c : Call) (raw : Raw) : Type 0 where
  pub sits : Sits cht raw
  pub same : b ≡ raw.me.0
  pub may : MayCall raw.me.0 c
  pub begins : IsBeginCall c

-- the seat may poll this grace, which it has unfinished
pub record MayPollGrace (cht : Cht) (b : Sight) (c : Call) (raw : Raw) (state : Grace) : Type 0 where
  pub sits : Sits cht raw
  pub same : b ≡ raw.me.0
  pub asks : c ≡ call.PollGrace
  pub may : MayCall raw.me.0 call.PollGrace
  pub unfinished : (own_at raw.me.0.seat).grace ≡ Some state

-- the resize lock was taken for a task, or another seat has it
abbrev pub tried_lock : Task → Bool → BeginStage
tried_lock t is_taken = if is_taken then taken t else answers answer.Busy

-- the work that is begun in a direction, the level from which on it leads no further, and what the call answers there
abbrev pub task_of : Direction → Task
task_of Grow = task.Grow
task_of Shrink = task.Shrink

abbrev pub bound_of : Table → Direction → ℕ
bound_of t Grow = t.shape.max_level
bound_of t Shrink = t.shape.min_level

abbrev pub at_bound : Direction → ℕ → Answer
at_bound Grow level = answer.AtMaximum level
at_bound Shrink level = answer.AtMinimum level

-- how a call has ended that was to begin a work
abbrev pub ended : BeginEnd → BeginStage
ended (end.Spent counter) = answers (answer.Spent counter)
ended end.Busy = answers answer.Busy
ended (end.AtBound d level) = answers (at_bound d level)
ended end.Clean = begun left.Clean
ended (end.Resize d level) = begun (left.Resize d level)

-- the same of a grace
abbrev pub grace_ended : BeganGrace → BeginStage
grace_ended (began.Begun grace) = begun (left.Grace grace.state)
grace_ended (began.Spent counter) = answers (answer.Spent counter)
