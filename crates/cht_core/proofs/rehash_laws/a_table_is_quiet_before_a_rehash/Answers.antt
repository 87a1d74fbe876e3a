use Rattle.cht_core.proofs.RehashStays.{is_quiet_before}
use Rattle.cht_core.proofs.rehash_laws.a_table_is_quiet_before_a_rehash.Goals as goal

pub returns : goal.returns
returns c = record { quiet = is_quiet_before }
