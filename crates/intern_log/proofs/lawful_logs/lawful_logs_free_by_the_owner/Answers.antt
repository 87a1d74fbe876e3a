use Rattle.intern_log.proofs.RuleLaws.{lawful_frees_by_owners}
use Rattle.intern_log.proofs.lawful_logs.lawful_logs_free_by_the_owner.Goals as goal

pub returns : goal.returns
returns c = record { law = lawful_frees_by_owners }
