use Rattle.std.proofs.Common.{sym}
use Rattle.resize_core.specs.declared.moves.Place.TheVariants.{EvenHead}
use Rattle.resize_core.proofs.Joins.{end_of-some}
use Rattle.resize_core.proofs.shrink.end_of.Goals as goal

pub returns-in-Some : goal.returns-in-Some
returns-in-Some c = record { value = sym (end_of-some EvenHead c.args.nodes.now c.in-Some.last.now (sym c.in-Some.ensures.value)) }
