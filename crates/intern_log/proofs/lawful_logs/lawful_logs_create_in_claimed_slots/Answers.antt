use Rattle.intern_log.proofs.RuleLaws.{lawful_creates_by_claimers}
use Rattle.intern_log.proofs.lawful_logs.lawful_logs_create_in_claimed_slots.Goals as goal

pub returns : goal.returns
returns c = record { law = lawful_creates_by_claimers }
