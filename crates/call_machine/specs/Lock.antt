-- Locking a bucket.
use Rattle.std.specs.Prelude.{ℕ, ◌==◌, if◌then◌else◌}
use Rattle.marked_word.specs.Head.{is_locked, first_of}
use Rattle.atomic_step.specs.declared.step.Step.TheVariants as step
use Rattle.atomic_step.specs.Turn.{Row, row}
use Rattle.call_machine.specs.declared.lock.LockStage.{LockStage}
use Rattle.call_machine.specs.declared.lock.LockStage.TheVariants.{LoadHead, LockHead}
use Rattle.call_machine.specs.declared.lock.Locking.{Locking}
use Rattle.call_machine.specs.declared.lock.Locking.TheVariants.{Goes, Waits, Locked}

-- a head that is locked is waited for, and so is one that another exchanged first
abbrev pub lock_row : ℕ → ℕ → LockStage → Row Locking
lock_row row_of bucket LoadHead = row (step.LoadHead row_of bucket) (λ word. if is_locked word then Waits else Goes (LockHead word))
lock_row row_of bucket (LockHead head) = row (step.LockHead row_of bucket head) (λ word. if word == head then Locked (first_of word) else Waits)
