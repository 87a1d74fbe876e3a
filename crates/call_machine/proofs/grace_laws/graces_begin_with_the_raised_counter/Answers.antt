use Rattle.std.proofs.Common.{refl}
use Rattle.call_machine.proofs.grace_laws.graces_begin_with_the_raised_counter.Goals as goal

pub returns : goal.returns
returns c = record { law = λ seats word g. refl }
