-- How many steps a clean makes at most until its poll answers, once it has loaded the level.
use Rattle.std.specs.Prelude.{◌≡◌, ℕ, ◌+◌, ◌-◌, ◌*◌, ◌/◌, ◌^◌, ◌<◌, ◌≤◌, min, length, None}
use Rattle.table_shape.specs.declared.shape.Shape.{Shape}
use Rattle.call_machine.specs.declared.clean.CleanAlong.{CleanAlong}
use Rattle.call_machine.specs.declared.clean.CleanStage.{CleanStage}
use Rattle.call_machine.specs.declared.clean.CleanStage.TheVariants.{LoadLevel, Lock, Pass, UnlockHead, Grace, Free, GiveResizeLock}
use Rattle.call_machine.specs.declared.clean.Freeing.TheVariants.{Again, Last}
use Rattle.call_machine.specs.declared.lock.LockStage.TheVariants.{LoadHead, LockHead}
use Rattle.atomic_step.specs.Run.{Machine}
use Rattle.atomic_step.specs.SoundStep.{CanBeFound}
use Rattle.call_machine.specs.Clean.{clean_row}
use Rattle.call_machine.specs.SoundClean.{IsSoundClean}
use Rattle.call_machine.specs.SweepMeasure.{pass_left, grace_left, free_left}

-- a bucket has `slots / 256 + 1` full passes, and one more where slots of former buckets wait
abbrev pub passes : Shape → ℕ
passes shape = shape.slots / 256 + 1

-- how many of them a poll has made at most: one more once the bucket is to be cleaned again
abbrev pub most_full : Shape → CleanStage → ℕ
most_full shape (Grace Again s) = passes shape
most_full shape (Free Again s) = passes shape
most_full shape _ = shape.slots / 256

-- what is left of the buckets behind, and of the full passes over the present one
abbrev pub buckets_left : Shape → CleanAlong → ℕ
buckets_left shape w = (2 ^ w.cleaning.row - (w.cleaning.bucket + 1)) * (passes shape + 1) + (passes shape - w.full_passes)

abbrev pub rounds_left : Shape → CleanAlong → CleanStage → ℕ
rounds_left shape w LoadLevel = 0
rounds_left shape w (Lock s) = buckets_left shape w + min (length w.cleaning.waiting.items) 1
rounds_left shape w (Pass s) = buckets_left shape w + min (length w.cleaning.waiting.items - w.cleaning.pass_waiting) 1
rounds_left shape w UnlockHead = buckets_left shape w + min (length w.cleaning.waiting.items - w.cleaning.pass_waiting) 1
rounds_left shape w (Grace Again s) = buckets_left shape w + 1
rounds_left shape w (Free Again s) = buckets_left shape w + 1
rounds_left shape w (Grace Last s) = 0
rounds_left shape w (Free Last s) = 0
rounds_left shape w GiveResizeLock = 0

-- what is left of a round: the lock, the pass, the grace and the freeing
abbrev pub steps_left : Shape → CleanAlong → CleanStage → ℕ
steps_left shape w LoadLevel = 0
steps_left shape w (Lock LoadHead) = 517 + shape.seats + 3 * shape.slots
steps_left shape w (Lock (LockHead head)) = 516 + shape.seats + 3 * shape.slots
steps_left shape w (Pass s) = 515 + shape.seats + pass_left shape w.cleaning s
steps_left shape w UnlockHead = 514 + shape.seats
steps_left shape w (Grace freeing s) = 512 + grace_left shape w.grace s
steps_left shape w (Free freeing s) = free_left s
steps_left shape w GiveResizeLock = 0

abbrev pub round : Shape → ℕ
round shape = 518 + shape.seats + 3 * shape.slots

abbrev pub left : Shape → CleanAlong → CleanStage → ℕ
left shape w s = rounds_left shape w s * round shape + steps_left shape w s

-- a sound clean within a poll
abbrev pub IsOnPoll : Shape → CleanAlong × CleanStage → Type 0
IsOnPoll shape c = IsSoundClean shape c.0 c.1 × (c.0.full_passes ≤ most_full shape c.1)

-- the level is loaded
abbrev pub IsLoaded : CleanStage → Type 0
IsLoaded LoadLevel = ⊥
IsLoaded _ = Unit {0}

-- the steps of one poll until it answers, where a chain has at most as many nodes as the table has slots
abbrev pub one_poll : Shape → Machine (CleanAlong × CleanStage)
one_poll shape = record {
  got = λ c word. let next = (clean_row shape c.0 c.1).next word in (next.0, next.1);
  event = λ c word. None;
  Fits = λ c word. (word < 2 ^ 64) × CanBeFound shape (clean_row shape c.0 c.1).step word × IsLoaded c.1 × (((clean_row shape c.0 c.1).next word).0.cleaning.passed ≤ shape.slots) × (((clean_row shape c.0 c.1).next word).2 ≡ None);
}
