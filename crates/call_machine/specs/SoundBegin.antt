-- What a call that begins a work or a grace may be.
use Rattle.std.specs.Prelude.{ℕ, ◌<◌}
use Rattle.table_shape.specs.declared.shape.Shape.{Shape}
use Rattle.atomic_step.specs.SoundStep.{IsSoundPlan, CanFollow}
use Rattle.call_machine.specs.declared.begin.Beginning.{Beginning}
use Rattle.call_machine.specs.declared.begin.Left.{Left}
use Rattle.call_machine.specs.declared.begin.Left.TheVariants as left
use Rattle.call_machine.specs.Begin.{begin_plan, left_of}
use Rattle.call_machine.specs.Caller.{IsSoundCaller}
use Rattle.call_machine.specs.SoundResize.{LeadsToLevel}

-- a resize begins at a level that can rise or fall, and a grace waits for a number of the table
abbrev pub IsSoundLeft : Shape → Left → Type 0
IsSoundLeft shape (left.Resize d level) = LeadsToLevel shape d level
IsSoundLeft shape (left.Grace g) = g.next < shape.seats
IsSoundLeft shape _ = Unit {0}

pub record IsSoundBegin (b : Beginning) : Type 0 where
  pub caller : IsSoundCaller b.caller
  pub plan : IsSoundPlan b.caller.shape b.caller.number (begin_plan b)
  pub left : IsSoundLeft b.caller.shape (left_of b.stage)

-- the next step may find the word
abbrev pub FitsBegin : Beginning → ℕ → Type 0
FitsBegin b word = CanFollow b.caller.shape (begin_plan b) word
