use Rattle.cht_core.proofs.RunSplits.{split_brings, others_never}
use Rattle.cht_core.proofs.run_laws.splits_bring_a_new_seat.Goals as goal

pub returns-clause-brings : goal.returns-clause-brings
returns-clause-brings c = split_brings

pub returns-clause-others : goal.returns-clause-others
returns-clause-others c = others_never
