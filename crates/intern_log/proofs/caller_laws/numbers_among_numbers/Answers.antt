use Rattle.intern_log.proofs.Membership.{among_numbers}
use Rattle.intern_log.proofs.caller_laws.numbers_among_numbers.Goals as goal

pub returns : goal.returns
returns c = record { law = among_numbers }
