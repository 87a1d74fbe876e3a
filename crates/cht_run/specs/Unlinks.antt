-- Which slots a sweep unlinks, and that a seat has freed all that it has unlinked.
use Rattle.std.specs.Prelude.{◌≡◌, ◌≢◌, ℕ, List, ◌∷◌, ◌++◌, Option, None, Some}
use Rattle.intern_log.specs.declared.event.Event.{Event}
use Rattle.intern_log.specs.declared.event.What.{What}
use Rattle.intern_log.specs.declared.event.What.TheVariants as what
use Rattle.intern_log.specs.Now.{Now, Unlinked}
use Rattle.intern_log.specs.Short.{IsShort}
use Rattle.intern_log.specs.SlotBuckets.{slot_bucket}
use Rattle.call_machine.specs.declared.machine.Machine.{Machine}
use Rattle.call_machine.specs.declared.machine.Machine.TheVariants as machine
use Rattle.call_machine.specs.declared.pass.Cleaning.{Cleaning}
use Rattle.call_machine.specs.declared.pass.PassStage.TheVariants as pass
use Rattle.call_machine.specs.declared.sweep.SweepStage.{SweepStage}
use Rattle.call_machine.specs.declared.sweep.SweepStage.TheVariants as sweep
use Rattle.cht_core.specs.declared.table.Table.{Table}
use Rattle.cht_core.specs.Causes.{now_in}
use Rattle.cht_core.specs.Past.{by}

-- each slot that the seat has unlinked was freed since, in a log of fewer than 2^47 Creates
abbrev pub HasFreed : Table → List Event → ℕ → Type 0
HasFreed t log i = IsShort log → (s at : ℕ) → (now_in t log).slot s ≢ Unlinked i at

-- no bucket is locked by the seat
abbrev pub HasNoLock : Table → List Event → ℕ → Type 0
HasNoLock t log i = (row bucket : ℕ) → (now_in t log).lock row bucket ≢ Some i

-- each slot that the seat unlinks in the window has a text of this bucket in the row
abbrev pub UnlinksOn : Table → ℕ → ℕ → ℕ → List Event → List Event → Type 0
UnlinksOn t i row bucket seen window = (front back : List Event) (s : ℕ) → window ≡ front ++ by i (what.Unlink s) ∷ back → slot_bucket (now_in t (seen ++ front)) row s ≡ Some bucket

-- a sweep that is about to unlink a slot has it from its bucket
abbrev pub SweepUnlinks : Now → Cleaning → SweepStage → Type 0
SweepUnlinks n c (sweep.Pass (pass.Unlink s g next)) = slot_bucket n c.row s ≡ Some c.bucket
SweepUnlinks n c _ = Unit {0}

abbrev pub MachineUnlinks : Now → Machine → Type 0
MachineUnlinks n (machine.Sweep x) = SweepUnlinks n x.along.cleaning x.stage
MachineUnlinks n _ = Unit {0}

-- one bucket is locked, once
abbrev pub locks_one : Option (ℕ × ℕ) → What → Option (Option (ℕ × ℕ))
locks_one None (what.Lock row bucket) = Some (Some (row, bucket))
locks_one (Some lock) (what.Lock row bucket) = None
locks_one lock _ = Some lock
