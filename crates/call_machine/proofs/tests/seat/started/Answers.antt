use Rattle.std.proofs.Common.{rules}
use native.Mathlib.Omega.{arith}
use Rattle.call_machine.proofs.Machines.{start_law}
use Rattle.call_machine.proofs.tests.seat.started.Goals as goal

pub returns-clause-sound : goal.returns-clause-sound
returns-clause-sound g c = rw c.start.ensures.value (start_law c.args.kind c.args.shape.now 0 c.args.own c.args.call c.requires.shape (omega arith) c.requires.own (c.may_start.ensures.exact.0 (search rules)))
