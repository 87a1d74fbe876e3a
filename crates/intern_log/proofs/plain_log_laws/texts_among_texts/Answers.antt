use Rattle.intern_log.proofs.Membership.{among_texts}
use Rattle.intern_log.proofs.plain_log_laws.texts_among_texts.Goals as goal

pub returns : goal.returns
returns c = record { law = among_texts }
