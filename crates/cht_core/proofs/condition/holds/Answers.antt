use Rattle.std.proofs.Common.{◌≡◌, ◌<◌, ◌&&◌, nat_eq, [], ◌∷◌, rules, tests, ◌∙◌, arith}
use Rattle.std.proofs.lemmas.Bool.{lt-ltb, ltb-true}
use Rattle.std.proofs.lemmas.Iterator.{YieldsList-from_slice}
use Rattle.std.proofs.lemmas.Iterator.Consumers.{YieldsList-from_filter, count_from_yields_List}
use Rattle.intern_log.specs.declared.event.Event.{Event}
use Rattle.intern_log.specs.Own.{mine, gains, losses, is_gain, is_loss}
use Rattle.cht_core.proofs.StateWords.{gains_of_one, losses_of_one}
use Rattle.cht_core.proofs.condition.holds.Goals as goal

pub returns : goal.returns
returns c =
    let log = c.args.log.now in
    let number = c.args.number in
    let h = c.args.handle in
    let gained : c.count-gained.result ≡ gains (mine log (number ∷ [])) h =
    count_from_yields_List c.filter.result c.count-gained.result c.count-gained.ensures.ran
    (YieldsList-from_filter _ (λ (e : Event). nat_eq e.seat number && is_gain e.what h) (YieldsList-from_slice log cc) c.filter.ensures.closure (λ x r q k. search (rules, tests)))
    ∙ gains_of_one number h log in
    let lost : c.count-lost.result ≡ losses (mine log (number ∷ [])) h =
    count_from_yields_List c.filter-2.result c.count-lost.result c.count-lost.ensures.ran
    (YieldsList-from_filter _ (λ (e : Event). nat_eq e.seat number && is_loss e.what h) (YieldsList-from_slice log cc) c.filter-2.ensures.closure (λ x r q k. search (rules, tests)))
    ∙ losses_of_one number h log in
    record {
      exact = (
        λ is. let less : c.count-lost.result < c.count-gained.result = ltb-true _ _ is in omega (arith, less, gained, lost),
        λ is. lt-ltb c.count-lost.result c.count-gained.result (omega (arith, is, gained, lost)),
      );
    }
