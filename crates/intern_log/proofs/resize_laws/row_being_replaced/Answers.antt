use Rattle.intern_log.proofs.Replacing.{replaced_is}
use Rattle.intern_log.proofs.resize_laws.row_being_replaced.Goals as goal

pub returns : goal.returns
returns c = record { law = replaced_is }
