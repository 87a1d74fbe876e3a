use Rattle.std.specs.Prelude.{refl}
use Rattle.cht_core.proofs.CausePasses.{unlink_counts, nothing_counts}
use Rattle.cht_core.proofs.cause_laws.own_unlinks_are_counted.Goals as goal

pub returns : goal.returns
returns c = record { none = λ t i row bucket seen. refl; one = unlink_counts; other = nothing_counts }
