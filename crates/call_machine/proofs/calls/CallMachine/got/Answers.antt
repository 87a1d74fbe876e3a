use Rattle.std.proofs.Common.{sym, subst}
use Rattle.call_machine.specs.declared.stage.Calling.{Calling}
use Rattle.call_machine.specs.SoundCall.{FitsCall}
use Rattle.call_machine.proofs.SoundCall.{sound_law}
use Rattle.call_machine.proofs.calls.CallMachine.got.Goals as goal

pub invariant_of-self : goal.invariant_of-self
invariant_of-self c =
    let fits = subst (λ (d : Calling). FitsCall d c.args.word) (sym c.self.view_is) c.requires.fits in
    (c.self.invariant.0, rw (c.next-stage.ensures.value, ← c.self.view_is) (sound_law _ c.args.word c.ranges.word.fits c.self.invariant.1 fits))
