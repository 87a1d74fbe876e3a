-- How many steps a sweep makes at most between two waits.
use Rattle.std.specs.Prelude.{◌≡◌, ℕ, ◌+◌, ◌-◌, ◌*◌, ◌^◌, ◌<◌, ◌≤◌, Bool, true, false}
use Rattle.table_shape.specs.declared.shape.Shape.{Shape}
use Rattle.section_core.specs.Words.{waits_for}
use Rattle.atomic_step.specs.Run.{Machine}
use Rattle.call_machine.specs.declared.enter.EnterStage.TheVariants.{LoadCounter, OpenSection}
use Rattle.call_machine.specs.declared.find.FindStage.{FindStage}
use Rattle.call_machine.specs.declared.find.FindStage.TheVariants.{Enter, LoadLevel, LoadHead, LoadNewLevel, LoadNewHead}
use Rattle.call_machine.specs.declared.grace.Grace.{Grace}
use Rattle.call_machine.specs.declared.grace.GraceStage.{GraceStage}
use Rattle.call_machine.specs.declared.grace.GraceStage.TheVariants.{RaiseCounter, LoadSection}
use Rattle.call_machine.specs.declared.pass.Cleaning.{Cleaning}
use Rattle.call_machine.specs.declared.pass.FreeStage.{FreeStage}
use Rattle.call_machine.specs.declared.pass.FreeStage.TheVariants.{PutNextGeneration, FreeSlot}
use Rattle.call_machine.specs.declared.pass.PassStage.{PassStage}
use Rattle.call_machine.specs.declared.pass.PassStage.TheVariants.{LoadCount, LoadLink, Unlink}
use Rattle.call_machine.specs.declared.sweep.Closing.TheVariants as closing
use Rattle.call_machine.specs.declared.sweep.SweepAlong.{SweepAlong}
use Rattle.call_machine.specs.declared.sweep.Sweeping.{Sweeping}
use Rattle.call_machine.specs.declared.sweep.SweepStage.{SweepStage}
use Rattle.call_machine.specs.declared.sweep.SweepStage.TheVariants as stage
use Rattle.call_machine.specs.SoundSweep.{FitsSweep}
use Rattle.call_machine.specs.Sweep.{sweep_got, sweep_event}

-- until the head is found
abbrev pub find_left : FindStage → ℕ
find_left (Enter LoadCounter) = 6
find_left (Enter (OpenSection counter)) = 5
find_left LoadLevel = 4
find_left LoadHead = 3
find_left LoadNewLevel = 2
find_left LoadNewHead = 1

-- three steps a node, of which the chain has at most as many as the table has slots
abbrev pub pass_left : Shape → Cleaning → PassStage → ℕ
pass_left shape c (LoadCount slot) = 3 * (shape.slots - c.passed)
pass_left shape c (LoadLink slot dead) = 3 * (shape.slots - c.passed) + 2
pass_left shape c (Unlink slot g next) = 3 * (shape.slots - c.passed) + 1

-- one for each number of a seat, and two for each of 256 slots
abbrev pub grace_left : Shape → Grace → GraceStage → ℕ
grace_left shape g RaiseCounter = shape.seats + 1
grace_left shape g LoadSection = shape.seats - g.next

abbrev pub free_left : FreeStage → ℕ
free_left (PutNextGeneration at) = 2 * (256 - at)
free_left (FreeSlot at) = 2 * (256 - at) - 1

-- how many steps are left until the next wait or the answer
abbrev pub left_at : Shape → SweepAlong → SweepStage → ℕ
left_at shape w stage.Check = 524 + shape.seats + 3 * shape.slots
left_at shape w (stage.Find s) = 517 + shape.seats + 3 * shape.slots + find_left s
left_at shape w stage.Lock = 517 + shape.seats + 3 * shape.slots
left_at shape w (stage.Close closing.Again) = 0
left_at shape w (stage.Close closing.Clean) = 516 + shape.seats + 3 * shape.slots
left_at shape w (stage.Pass s) = 515 + shape.seats + pass_left shape w.cleaning s
left_at shape w stage.UnlockHead = 514 + shape.seats
left_at shape w (stage.Grace s) = 512 + grace_left shape w.grace s
left_at shape w (stage.Free s) = free_left s
left_at shape w (stage.Answered a) = 0

abbrev pub left : Sweeping → ℕ
left s = left_at s.asked.caller.shape s.along s.stage

-- the step waits: the head is to be found anew, or a section that is looked at is waited for
abbrev pub waits_at : SweepAlong → SweepStage → ℕ → Bool
waits_at w (stage.Close closing.Again) word = true
waits_at w (stage.Grace LoadSection) word = waits_for w.grace.raised word
waits_at w _ word = false

abbrev pub waits : Sweeping → ℕ → Bool
waits s word = waits_at s.along s.stage word

-- the step does not wait, and no more nodes are passed than the table has slots
abbrev pub GoesOn : Sweeping → ℕ → Type 0
GoesOn s word = (word < 2 ^ 64) × FitsSweep s word × (waits s word ≡ false) × ((sweep_got s word).along.cleaning.passed ≤ s.asked.caller.shape.slots)

-- sweeps by such steps alone
abbrev pub between_waits : Machine Sweeping
between_waits = record { got = sweep_got; event = sweep_event; Fits = GoesOn }
