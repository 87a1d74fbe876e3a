use Rattle.cht_core.proofs.PassBounds.{few_unfinished, few_polled, few_swept}
use Rattle.cht_core.proofs.pass_laws.passes_look_at_few_nodes.Goals as goal

pub returns-clause-unfinished : goal.returns-clause-unfinished
returns-clause-unfinished c = few_unfinished

pub returns-clause-polled : goal.returns-clause-polled
returns-clause-polled c = few_polled

pub returns-clause-swept : goal.returns-clause-swept
returns-clause-swept c = few_swept
