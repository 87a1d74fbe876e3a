use Rattle.std.proofs.Common.{ℕ, refl, subst}
use Rattle.atomic_step.specs.SoundStep.{CanBeFound, IsSoundStep}
use Rattle.call_machine.specs.Clean.{clean_row}
use Rattle.call_machine.proofs.clean.CleanAlong.next.Goals as goal

-- src/clean.rt
pub grace-requires : goal.grace-requires
grace-requires c =
    let step = subst (λ s. (seat : ℕ) → IsSoundStep c.args.shape.now seat (clean_row c.args.shape.now c.args.self.now s).step) c.in-Grace.is c.requires.sound.step in
    let found = subst (λ s. CanBeFound c.args.shape.now (clean_row c.args.shape.now c.args.self.now s).step c.args.word) c.in-Grace.is c.requires.fits in
    record { fits = (c.args.shape.now, refl, (step 0).0, found) }
