use Rattle.cht_core.proofs.PollLeft.{each_less, none_left}
use Rattle.cht_core.proofs.poll_laws.each_step_of_a_poll_leaves_less.Goals as goal

pub returns-clause-less : goal.returns-clause-less
returns-clause-less c = each_less

pub returns-clause-answered : goal.returns-clause-answered
returns-clause-answered c = none_left
