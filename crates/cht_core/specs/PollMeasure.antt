-- How many steps a poll of a work has left at most until it answers, and at how many nodes it has looked.
use Rattle.std.specs.Prelude.{ℕ, ◌+◌, ◌*◌, ◌^◌, ◌≤◌, Option, Some, None}
use Rattle.table_shape.specs.declared.shape.Shape.{Shape}
use Rattle.atomic_step.specs.declared.answer.Answer.{Answer}
use Rattle.call_machine.specs.declared.clean.CleanAlong.{CleanAlong}
use Rattle.call_machine.specs.declared.clean.CleanStage.{CleanStage}
use Rattle.call_machine.specs.declared.clean.CleanStage.TheVariants.{LoadLevel}
use Rattle.call_machine.specs.declared.machine.Machine.{Machine}
use Rattle.call_machine.specs.declared.machine.Machine.TheVariants as machine
use Rattle.call_machine.specs.declared.work.Work.{Work}
use Rattle.call_machine.specs.declared.work.Work.TheVariants as work
use Rattle.call_machine.specs.CleanMeasure as cleans
use Rattle.call_machine.specs.Poll.{work_left}
use Rattle.call_machine.specs.ResizeMeasure as resizes

-- THE STEPS

-- those of a clean: before it has loaded the level as many as the highest level would leave
abbrev pub clean_left : Shape → CleanAlong → CleanStage → ℕ
clean_left shape w LoadLevel = 2 ^ shape.max_level * (cleans.passes shape + 1) * cleans.round shape
clean_left shape w s = cleans.left shape w s

-- those of a work that goes on, of which the last one answers
abbrev pub steps_of : Shape → Work → ℕ
steps_of shape (work.Clean c) = clean_left shape c.along c.stage + 1
steps_of shape (work.Resize r) = resizes.left shape r.direction r.along r.stage + 1

-- none is left once the poll has answered
abbrev pub left_until : Shape → Work → Option Answer → ℕ
left_until shape w None = steps_of shape w
left_until shape w (Some a) = 0

abbrev pub poll_left : Shape → Machine → ℕ
poll_left shape (machine.Poll q) = left_until shape q.work q.answer
poll_left shape _ = 0

-- THE NODES

-- those at which a work has looked in the pass or in the pair that is under way; a work that is done is no more
abbrev pub looked_by : Option Work → ℕ
looked_by None = 0
looked_by (Some (work.Clean c)) = c.along.cleaning.passed
looked_by (Some (work.Resize r)) = r.along.passed

abbrev pub looked_in : Machine → ℕ
looked_in (machine.Poll q) = looked_by (work_left q.work q.answer)
looked_in _ = 0

-- THE FULL PASSES

-- those of a clean over its bucket since its poll began are few
abbrev pub HasFewPasses : Shape → Work → Type 0
HasFewPasses shape (work.Clean c) = c.along.full_passes ≤ cleans.most_full shape c.stage
HasFewPasses shape (work.Resize r) = Unit {0}

abbrev pub IsOnWork : Shape → Work → Option Answer → Type 0
IsOnWork shape w None = HasFewPasses shape w
IsOnWork shape w (Some a) = Unit {0}

-- it is so as a poll begins, and stays so until it answers
abbrev pub IsOnPollOf : Shape → Machine → Type 0
IsOnPollOf shape (machine.Poll q) = IsOnWork shape q.work q.answer
IsOnPollOf shape _ = Unit {0}
