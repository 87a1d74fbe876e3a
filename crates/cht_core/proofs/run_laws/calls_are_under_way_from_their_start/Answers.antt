use Rattle.cht_core.proofs.RunCarries.{others_leave}
use Rattle.cht_core.proofs.RunGoesOn.{under_way_goes_on}
use Rattle.cht_core.proofs.run_laws.calls_are_under_way_from_their_start.Goals as goal

pub returns-clause-goes_on : goal.returns-clause-goes_on
returns-clause-goes_on c = under_way_goes_on

pub returns-clause-others : goal.returns-clause-others
returns-clause-others c = others_leave
