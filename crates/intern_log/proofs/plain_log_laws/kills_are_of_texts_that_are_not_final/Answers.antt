use Rattle.intern_log.proofs.Membership.{killed}
use Rattle.intern_log.proofs.plain_log_laws.kills_are_of_texts_that_are_not_final.Goals as goal

pub returns : goal.returns
returns c = record { law = killed }
