use Rattle.std.proofs.Common.{drop, ◌≡◌}
use Rattle.std.proofs.lemmas.List.{take_rest}
use Rattle.std.specs.Prelude.{decimal}
use Rattle.schedule_sim.proofs.StepKinds.{kind_is}
use Rattle.schedule_sim.proofs.line.kind_named.Goals as goal

pub returns-in_ok-number_of-in-75-clause-none : goal.returns-in_ok-number_of-in-75-clause-none
returns-in_ok-number_of-in-75-clause-none c = λ none kind is.
    let digits : drop 1 c.args.name.now ≡ decimal c.in_ok-number_of-in-75.field-0 = rw take_rest at c.in_ok-number_of-in-75.ensures.number in
    c.kind_numbered.ensures.none none kind (kind_is c.args.name.now _ kind c.in_ok-number_of-in-75.ensures.small digits is)
