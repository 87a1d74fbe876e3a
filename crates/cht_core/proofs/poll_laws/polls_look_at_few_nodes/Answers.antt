use Rattle.cht_core.proofs.LooksBounds.{few_looked, few_polled, few_after}
use Rattle.cht_core.proofs.poll_laws.polls_look_at_few_nodes.Goals as goal

pub returns-clause-works : goal.returns-clause-works
returns-clause-works c = few_looked

pub returns-clause-polls : goal.returns-clause-polls
returns-clause-polls c = few_polled

pub returns-clause-steps : goal.returns-clause-steps
returns-clause-steps c = few_after
