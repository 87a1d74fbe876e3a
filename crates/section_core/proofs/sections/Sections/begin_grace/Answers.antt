use Rattle.std.proofs.Common.{refl, sym, arith, ◌≡◌, false, true}
use Rattle.section_core.proofs.States.{state-begun, graces-number, counter-is}
use Rattle.section_core.proofs.sections.Sections.begin_grace.Goals as goal

pub returns-then-counter-ge-SPENT-clause-spent : goal.returns-then-counter-ge-SPENT-clause-spent
returns-then-counter-ge-SPENT-clause-spent c =
    let fields = c.self.inside in
    let counter = counter-is fields.first fields.begun fields.entered.items c.args.self.now c.self.view_is in
    ((λ _. omega (arith, counter, c.if-counter-ge-SPENT.true)), (λ _. refl))

pub returns-then-counter-ge-SPENT-clause-counter : goal.returns-then-counter-ge-SPENT-clause-counter
returns-then-counter-ge-SPENT-clause-counter c = let fields = c.self.inside in sym (counter-is fields.first fields.begun fields.entered.items c.args.self.now c.self.view_is)

pub returns-clause-number : goal.returns-clause-number
returns-clause-number c = let fields = c.self.inside in sym (graces-number fields.first fields.begun fields.entered.items c.args.self.now c.self.view_is)

pub returns-clause-value : goal.returns-clause-value
returns-clause-value c = let fields = c.self.inside in state-begun fields.first fields.begun fields.entered.items c.args.self.now c.self.view_is c.self.invariant.remembered

pub returns-clause-spent : goal.returns-clause-spent
returns-clause-spent c =
    let fields = c.self.inside in
    let counter = counter-is fields.first fields.begun fields.entered.items c.args.self.now c.self.view_is in
    ((λ (is : false ≡ true). absurd (cc)), (λ spent. absurd (omega (arith, counter, spent, c.if-counter-ge-SPENT.false))))
