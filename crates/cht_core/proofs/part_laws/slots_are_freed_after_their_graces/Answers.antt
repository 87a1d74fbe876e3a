use Rattle.cht_core.proofs.Consequences.{frees_are_safe, short_logs_are_graced}
use Rattle.cht_core.proofs.part_laws.slots_are_freed_after_their_graces.Goals as goal

pub returns-clause-step : goal.returns-clause-step
returns-clause-step c = frees_are_safe

pub returns-clause-log : goal.returns-clause-log
returns-clause-log c = short_logs_are_graced
