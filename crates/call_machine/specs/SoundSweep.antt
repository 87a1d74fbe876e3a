-- What a sweep on its way may be, and which words it may be told.
use Rattle.std.specs.Prelude.{◌≡◌, ℕ, ◌<◌, [], length}
use Rattle.atomic_step.specs.SoundStep.{IsSoundPlan, CanFollow}
use Rattle.call_machine.specs.declared.pass.Cleaning.{Cleaning}
use Rattle.call_machine.specs.declared.sweep.SweepAlong.{SweepAlong}
use Rattle.call_machine.specs.declared.sweep.SweepAsked.{SweepAsked}
use Rattle.call_machine.specs.declared.sweep.SweepStage.{SweepStage}
use Rattle.call_machine.specs.declared.sweep.SweepStage.TheVariants.{Pass, UnlockHead, Grace, Free}
use Rattle.call_machine.specs.declared.sweep.Sweeping.{Sweeping}
use Rattle.call_machine.specs.Caller.{IsSoundCaller}
use Rattle.call_machine.specs.SoundPass.{IsSoundCleaning, IsSoundPass, IsSoundFree}
use Rattle.call_machine.specs.Sweep.{plan_at, sweep_plan}

-- what a stage has beside its step: room for one more slot where the bucket is cleaned, slots that wait where the grace is for
-- them, and none before and after
abbrev pub IsSoundAt : Cleaning → SweepStage → Type 0
IsSoundAt c (Pass s) = IsSoundPass c s
IsSoundAt c UnlockHead = Unit {0}
IsSoundAt c (Grace s) = 0 < length c.waiting.items
IsSoundAt c (Free s) = IsSoundFree c s
IsSoundAt c _ = c.waiting.items ≡ []

-- a sweep at a stage
pub record IsSoundSweepAt (q : SweepAsked) (w : SweepAlong) (s : SweepStage) : Type 0 where
  pub caller : IsSoundCaller q.caller
  pub cleaning : IsSoundCleaning q.caller.shape w.cleaning
  pub at : IsSoundAt w.cleaning s
  pub plan : IsSoundPlan q.caller.shape q.caller.number (plan_at q w s)

abbrev pub IsSoundSweep : Sweeping → Type 0
IsSoundSweep s = IsSoundSweepAt s.asked s.along s.stage

-- the next step may find the word
abbrev pub FitsSweep : Sweeping → ℕ → Type 0
FitsSweep s word = CanFollow s.asked.caller.shape (sweep_plan s) word
