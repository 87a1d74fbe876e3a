use Rattle.intern_log.proofs.Ledger.{lawful_meets_ledger}
use Rattle.intern_log.proofs.lawful_logs.lawful_logs_meet_the_ledger.Goals as goal

pub returns : goal.returns
returns c = record { law = lawful_meets_ledger }
