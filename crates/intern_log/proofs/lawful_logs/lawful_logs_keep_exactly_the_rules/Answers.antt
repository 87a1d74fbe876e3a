use Rattle.intern_log.proofs.RuleLaws.{lawful_is_by_the_rules}
use Rattle.intern_log.proofs.lawful_logs.lawful_logs_keep_exactly_the_rules.Goals as goal

pub returns : goal.returns
returns c = record { law = lawful_is_by_the_rules }
