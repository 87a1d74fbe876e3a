use Rattle.std.proofs.Common.{sym, subst}
use Rattle.call_machine.specs.declared.sweep.SweepAlong.{SweepAlong}
use Rattle.call_machine.specs.declared.sweep.SweepStage.{SweepStage}
use Rattle.call_machine.specs.SoundSweep.{IsSoundSweepAt, FitsSweep}
use Rattle.call_machine.proofs.SoundSweep.{sweep_soundly}
use Rattle.call_machine.proofs.sweep.SweepMachine.got.Goals as goal

-- src/sweep.rt
pub invariant_of-self : goal.invariant_of-self
invariant_of-self c =
    subst (λ (went : SweepAlong × SweepStage). IsSoundSweepAt c.self.inside.asked went.0 went.1) (sym c.next-self-inside.ensures.value)
    (sweep_soundly c.self.inside.asked c.self.inside.along c.self.inside.stage c.args.word c.ranges.word.fits c.self.invariant (subst (λ s. FitsSweep s c.args.word) (sym c.self.view_is) c.requires.fits))
