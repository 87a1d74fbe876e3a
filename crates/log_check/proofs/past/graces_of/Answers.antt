use Rattle.std.proofs.Common.{◌≡◌, ℕ, ◌+◌, rules, tests, sym, ◌∙◌}
use native.Mathlib.Omega.{arith}
use Rattle.std.proofs.lemmas.Iterator.{YieldsList-from_slice}
use Rattle.std.proofs.lemmas.Iterator.Consumers.{YieldsList-from_filter, count_from_yields_List}
use Rattle.std.proofs.lemmas.List.Sums.{length-filter}
use Rattle.intern_log.specs.Now.{opening}
use Rattle.intern_log.specs.declared.event.Event.{Event}
use Rattle.intern_log.specs.Orderly.{is_grace}
use Rattle.log_check.proofs.PartLaws.{graces_counted}
use Rattle.log_check.proofs.past.graces_of.Goals as goal

no_more : (n : ℕ) → 0 + n ≡ n
no_more n = omega arith

pub returns : goal.returns
returns c = λ min_level.
    count_from_yields_List c.filter.result c.count.result c.count.ensures.ran (YieldsList-from_filter _ (λ (e : Event). is_grace e.what) (YieldsList-from_slice c.args.events.now cc) c.filter.ensures.closure (λ x r q k. search (rules, tests)))
    ∙ length-filter (λ (e : Event). is_grace e.what) c.args.events.now
    ∙ sym (no_more _)
    ∙ graces_counted (opening min_level) c.args.events.now
