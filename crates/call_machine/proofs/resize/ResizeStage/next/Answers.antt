use Rattle.std.proofs.Common.{subst, refl}
use Rattle.atomic_step.specs.SoundStep.{CanBeFound, IsSoundStep}
use Rattle.call_machine.specs.Resize.{resize_row}
use Rattle.call_machine.proofs.resize.ResizeStage.next.Goals as goal

pub next-came-requires : goal.next-came-requires
next-came-requires c =
    let sound = subst (λ s. IsSoundStep c.args.shape.now 0 (resize_row c.args.shape.now c.args.direction c.args.along s).step) c.in-Grace.is (c.requires.sound.step 0) in
    let fits = subst (λ s. CanBeFound c.args.shape.now (resize_row c.args.shape.now c.args.direction c.args.along s).step c.args.word) c.in-Grace.is c.requires.fits in
    record { fits = (c.args.shape.now, refl, sound.0, fits) }
