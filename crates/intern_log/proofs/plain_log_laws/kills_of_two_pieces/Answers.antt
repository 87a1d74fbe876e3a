use Rattle.intern_log.proofs.Membership.{kills_of-append}
use Rattle.intern_log.proofs.plain_log_laws.kills_of_two_pieces.Goals as goal

pub returns : goal.returns
returns c = record { law = kills_of-append }
