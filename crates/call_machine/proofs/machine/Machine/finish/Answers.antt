use Rattle.std.proofs.Common.{sym, subst}
use Rattle.call_machine.specs.Machine.{shape_of}
use Rattle.call_machine.specs.SoundMachine.{IsSoundOwn}
use Rattle.call_machine.proofs.Machines.{left_law}
use Rattle.call_machine.proofs.machine.Machine.finish.Goals as goal

pub returns-clause-sound : goal.returns-clause-sound
returns-clause-sound c = λ sound. subst (IsSoundOwn (shape_of c.args.self)) (sym c.into_own.ensures.own) (left_law c.args.self sound)
