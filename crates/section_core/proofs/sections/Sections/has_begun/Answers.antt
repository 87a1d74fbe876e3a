use Rattle.std.proofs.Common.{arith}
use Rattle.std.proofs.lemmas.Bool.{ltb-true, lt-ltb}
use Rattle.section_core.proofs.States.{graces-number}
use Rattle.section_core.proofs.sections.Sections.has_begun.Goals as goal

pub returns : goal.returns
returns c =
    let fields = c.self.inside in
    let count = graces-number fields.first fields.begun fields.entered.items c.args.self.now c.self.view_is in
    let named = c.grace.view_is in
    record {
      value = (
        (λ is. let less = ltb-true c.grace.inside.number fields.begun is in omega (arith, less, count, named)),
        (λ less. lt-ltb c.grace.inside.number fields.begun (omega (arith, less, count, named))),
      );
    }
