use Rattle.std.proofs.Common.{sym, ◌∙◌}
use Rattle.schedule_sim.proofs.Forms.{differ}
use Rattle.schedule_sim.proofs.Numbers.{no_utf8, no_parse, no_print}
use Rattle.schedule_sim.proofs.number.number_of.Goals as goal

pub returns-in_default-clause-none : goal.returns-in_default-clause-none
returns-in_default-clause-none c = λ _. no_utf8 c.args.bytes.now c.in_default.ensures.cases.0

pub returns-in_default-parse-clause-none : goal.returns-in_default-parse-clause-none
returns-in_default-parse-clause-none c = λ _ n small is. no_parse c.in-Ok.text.now c.parse.result _ c.in_default-parse.is c.parse.ensures.value.0 n small (c.in-Ok.ensures.cases.0 ∙ is)

pub returns-else-eq-clause-none : goal.returns-else-eq-clause-none
returns-else-eq-clause-none c = λ _ n small is.
    no_print c.in-Ok.text.now c.parse.result c.in-Ok-parse.number c.in-Ok-parse.is c.parse.ensures.value.0
    (λ same. differ c.as_bytes.result.now c.args.bytes.now (sym c.if-eq.ensures) (c.as_bytes.ensures.value ∙ c.format.ensures.text ∙ same ∙ c.in-Ok.ensures.cases.0))
    n small (c.in-Ok.ensures.cases.0 ∙ is)
