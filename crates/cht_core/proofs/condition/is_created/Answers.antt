use Rattle.std.proofs.Common.{◌≡◌, rules, tests, sym, ◌∙◌}
use Rattle.std.proofs.lemmas.Iterator.{YieldsList-from_slice}
use Rattle.std.proofs.lemmas.Iterator.Search.{any_from_yields_List}
use Rattle.std.specs.List.{list_any}
use Rattle.intern_log.specs.declared.event.Event.{Event}
use Rattle.intern_log.specs.Log.{creates}
use Rattle.cht_core.proofs.condition.is_created.Goals as goal

pub returns : goal.returns
returns c =
    let same : c.any.result ≡ list_any (λ (e : Event). creates e.what c.args.handle) c.args.log.now =
    any_from_yields_List (λ (e : Event). creates e.what c.args.handle) _ _ c.any.result c.any.ensures.ran (YieldsList-from_slice c.args.log.now cc) (λ x b q k. search (rules, tests)) in
    record { exact = (λ is. sym same ∙ is, λ is. same ∙ is) }
