use Rattle.std.proofs.Common.{ap, subst, ◌∙◌}
use Rattle.cht_run.specs.declared.graces.BeganGrace.{BeganGrace}
use Rattle.cht_run.specs.Graces.{BeginsGrace}
use Rattle.cht_run.specs.History.{log_of}
use Rattle.cht_run.proofs.SeenAfter.{nothing_added}
use Rattle.cht_run.proofs.tests.graces.begin_and_close.Goals as goal

pub returns-in-Spent : goal.returns-in-Spent
returns-in-Spent g c =
    let began = subst (λ (r : BeganGrace). BeginsGrace c.args.cht.origin.table c.args.seat c.begin_grace.new.seat r) c.in-Spent.is c.begin_grace.ensures.began in
    record { empty = λ _. c.close.ensures.log ∙ ap log_of (nothing_added c.args.cht.origin.table c.args.seat c.begin_grace.new.seat _ began.1 c.requires.alone ∙ c.requires.new) }
