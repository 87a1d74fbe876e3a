-- How many steps a poll of a grow or a shrink has left at most, where the chains of a pair have at most as many nodes as the table has slots.
use Rattle.std.specs.Prelude.{ℕ, ◌+◌, ◌-◌, ◌*◌, ◌≤◌, Some, None}
use Rattle.table_shape.specs.declared.shape.Shape.{Shape}
use Rattle.atomic_step.specs.Run.{Machine}
use Rattle.atomic_step.specs.SoundStep.{CanFollow}
use Rattle.atomic_step.specs.Turn.{plan_in, next_in}
use Rattle.call_machine.specs.declared.grace.Grace.{Grace}
use Rattle.call_machine.specs.declared.grace.GraceStage.{GraceStage}
use Rattle.call_machine.specs.declared.grace.GraceStage.TheVariants.{RaiseCounter, LoadSection}
use Rattle.call_machine.specs.declared.lock.LockStage.{LockStage}
use Rattle.call_machine.specs.declared.lock.LockStage.TheVariants.{LoadHead, LockHead}
use Rattle.call_machine.specs.declared.resize.AfterGrace.{AfterGrace}
use Rattle.call_machine.specs.declared.resize.AfterGrace.TheVariants as after
use Rattle.call_machine.specs.declared.resize.Direction.{Direction}
use Rattle.call_machine.specs.declared.resize.JoinStage.{JoinStage}
use Rattle.call_machine.specs.declared.resize.JoinStage.TheVariants as join
use Rattle.call_machine.specs.declared.resize.ResizeAlong.{ResizeAlong}
use Rattle.call_machine.specs.declared.resize.ResizeStage.{ResizeStage}
use Rattle.call_machine.specs.declared.resize.ResizeStage.TheVariants as stage
use Rattle.call_machine.specs.declared.resize.Side.{Side}
use Rattle.call_machine.specs.declared.resize.Side.TheVariants.{Even, Odd}
use Rattle.call_machine.specs.declared.resize.UnzipStage.{UnzipStage}
use Rattle.call_machine.specs.declared.resize.UnzipStage.TheVariants as unzip
use Rattle.call_machine.specs.Polls.{turn_by}
use Rattle.call_machine.specs.Resize.{half}
use Rattle.call_machine.specs.ResizeRuns.{Being, resizes, rows}

-- the steps for a node and for a pair
abbrev pub node_steps : Shape → ℕ
node_steps shape = shape.seats + 5

abbrev pub pair_steps : Shape → ℕ
pair_steps shape = shape.slots * node_steps shape + shape.seats + 30

-- those for the nodes of the pair that were not looked at, and for the pairs to come and the end
abbrev pub steps_ahead : Shape → Direction → ResizeAlong → ℕ
steps_ahead shape d w = (shape.slots - w.passed) * node_steps shape + (half d w.level - (w.bucket + 1)) * pair_steps shape + shape.seats + 5

-- those of a grace
abbrev pub grace_steps : ℕ → Grace → GraceStage → ℕ
grace_steps seats g RaiseCounter = seats + 1
grace_steps seats g LoadSection = seats - g.next

-- those of a stage
abbrev pub lock_steps : Side → LockStage → ℕ
lock_steps Even LoadHead = 21
lock_steps Even (LockHead head) = 20
lock_steps Odd LoadHead = 19
lock_steps Odd (LockHead head) = 18

abbrev pub unzip_steps : Shape → UnzipStage → ℕ
unzip_steps shape (unzip.LoadMeta x) = 3
unzip_steps shape (unzip.LoadLink x side) = shape.seats + 7
unzip_steps shape (unzip.MoveEdge x side next) = shape.seats + 6

abbrev pub join_steps : JoinStage → ℕ
join_steps (join.LoadLink x) = 15
join_steps (join.JoinChains x) = 14

abbrev pub side_steps : Side → ℕ
side_steps Even = 1
side_steps Odd = 0

abbrev pub after_steps : ℕ → AfterGrace → ℕ
after_steps ahead after.ClearNewLevel = 2
after_steps ahead _ = 3 + ahead

abbrev pub left : Shape → Direction → ResizeAlong → ResizeStage → ℕ
left shape d w stage.PutNewLevel = shape.seats + 22 + steps_ahead shape d w
left shape d w (stage.Lock side s) = shape.seats + lock_steps side s + steps_ahead shape d w
left shape d w (stage.PutHead side) = shape.seats + 16 + side_steps side + steps_ahead shape d w
left shape d w (stage.Join s) = shape.seats + join_steps s + steps_ahead shape d w
left shape d w (stage.RedirectHead side) = shape.seats + 12 + side_steps side + steps_ahead shape d w
left shape d w (stage.Unzip s) = unzip_steps shape s + steps_ahead shape d w
left shape d w (stage.UnlockHead side) = 1 + side_steps side + steps_ahead shape d w
left shape d w (stage.Grace then_do s) = grace_steps shape.seats w.grace s + after_steps (steps_ahead shape d w) then_do
left shape d w stage.StoreLevel = shape.seats + 4
left shape d w stage.ClearNewLevel = 2
left shape d w stage.GiveResizeLock = 1

-- none is left once the poll has answered
abbrev pub left_at : Shape → Direction → Being → ℕ
left_at shape d (at, None) = left shape d at.0 at.1 + 1
left_at shape d (at, Some a) = 0

-- one poll, which looks at no more nodes of a pair than the table has slots
abbrev pub one_poll : Shape → Direction → Machine Being
one_poll shape d = record {
  got = λ at word. next_in at (turn_by (rows shape d) at) word;
  event = (resizes shape d).event;
  Fits = λ at word. CanFollow shape (plan_in (turn_by (rows shape d) at)) word × ((next_in at (turn_by (rows shape d) at) word).0.0.passed ≤ shape.slots);
}

-- the most that a poll has: the steps of each pair, and of the end
abbrev pub most_left : Shape → Direction → ℕ → ℕ
most_left shape d level = half d level * pair_steps shape + shape.seats + 6
