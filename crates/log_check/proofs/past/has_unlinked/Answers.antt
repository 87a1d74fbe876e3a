use Rattle.std.proofs.Common.{rules, tests}
use Rattle.std.proofs.lemmas.Iterator.{YieldsList-from_slice}
use Rattle.std.proofs.lemmas.Iterator.Search.{any_from_yields_List}
use Rattle.intern_log.specs.declared.event.Event.{Event}
use Rattle.intern_log.specs.Now.{now_of}
use Rattle.log_check.specs.Parts.{is_left_by, slot_unlinked}
use Rattle.log_check.proofs.Left.{left_by_events}
use Rattle.log_check.proofs.past.has_unlinked.Goals as goal

pub returns : goal.returns
returns c = λ min_level.
    left_by_events min_level c.args.events.now c.args.seat c.any.result
    (any_from_yields_List (λ (e : Event). is_left_by c.args.seat (now_of min_level c.args.events.now).slot (slot_unlinked e.what)) _ _ _ c.any.ensures.ran (YieldsList-from_slice c.args.events.now cc) (λ x b q k. search (rules, tests)))
