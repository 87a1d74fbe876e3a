use Rattle.std.proofs.Common.{rules, tests}
use Rattle.std.specs.Prelude.{is_none}
use Rattle.std.proofs.lemmas.Iterator.{YieldsList-from_slice}
use Rattle.std.proofs.lemmas.Iterator.Search.{all_from_yields_List}
use Rattle.intern_log.specs.declared.event.Event.{Event}
use Rattle.intern_log.specs.Now.{now_of}
use Rattle.log_check.proofs.PartLaws.{opened_in}
use Rattle.log_check.proofs.Quiet.{closed_by_events}
use Rattle.log_check.proofs.past.are_closed.Goals as goal

pub returns : goal.returns
returns c = λ min_level.
    closed_by_events min_level c.args.events.now c.all.result
    (all_from_yields_List (λ (e : Event). is_none (opened_in (now_of min_level c.args.events.now) e.seat)) _ _ _ c.all.ensures.ran (YieldsList-from_slice c.args.events.now cc) (λ x b q k. search (rules, tests)))
