use Rattle.intern_log.proofs.LawfulLaws.{IsLawful-prefix}
use Rattle.intern_log.proofs.lawful_logs.prefix_of_a_lawful_log.Goals as goal

pub returns : goal.returns
returns c = record { law = IsLawful-prefix }
