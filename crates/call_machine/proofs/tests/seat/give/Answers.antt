use Rattle.std.proofs.Common.{rules}
use Rattle.call_machine.proofs.Machines.{got_law, shape_law}
use Rattle.call_machine.proofs.tests.seat.give.Goals as goal

pub returns-then-fits-clause-sound : goal.returns-then-fits-clause-sound
returns-then-fits-clause-sound c = λ sound. rw c.got.ensures.value (got_law c.args.call.now c.args.word c.ranges.word.fits sound (search rules))

pub returns-then-fits-clause-shape : goal.returns-then-fits-clause-shape
returns-then-fits-clause-shape c = rw c.got.ensures.value (shape_law c.args.call.now c.args.word)
