use Rattle.cht_core.proofs.CauseFew.{work_has_lock}
use Rattle.cht_core.proofs.cause_laws.an_unfinished_work_has_the_resize_lock.Goals as goal

pub returns : goal.returns
returns c = record { law = work_has_lock }
