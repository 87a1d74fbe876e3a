use Rattle.cht_core.proofs.PartsResizeWalks.{stand_on_paths}
use Rattle.cht_core.proofs.resize_laws.walkers_stand_where_callers_come.Goals as goal

pub returns : goal.returns
returns c = record { law = stand_on_paths }
