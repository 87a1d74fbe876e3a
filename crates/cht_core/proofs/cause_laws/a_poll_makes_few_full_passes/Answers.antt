use Rattle.cht_core.proofs.CauseFew.{passes_unlinked, passes_few}
use Rattle.cht_core.proofs.cause_laws.a_poll_makes_few_full_passes.Goals as goal

pub returns : goal.returns
returns c = record { passes = passes_unlinked; few = passes_few }
