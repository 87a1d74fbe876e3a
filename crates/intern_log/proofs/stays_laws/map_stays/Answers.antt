use Rattle.intern_log.proofs.Stays.{map_unchanged}
use Rattle.intern_log.proofs.stays_laws.map_stays.Goals as goal

pub returns : goal.returns
returns c = record { law = map_unchanged }
