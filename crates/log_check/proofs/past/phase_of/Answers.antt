use Rattle.std.proofs.Common.{rules, tests, ◌∙◌}
use Rattle.std.proofs.lemmas.Iterator.{YieldsList-from_slice}
use Rattle.std.proofs.lemmas.Iterator.Consumers.{YieldsList-from_enumerate, fold_from_yields_List}
use Rattle.intern_log.specs.Now.{opening}
use Rattle.log_check.specs.Parts.{phase_seen, phase_step}
use Rattle.log_check.specs.declared.past.SlotPhase.TheVariants.{Vacant}
use Rattle.log_check.proofs.PartLaws.{follows_by_part, part_by_place}
use Rattle.log_check.proofs.past.phase_of.Goals as goal

pub returns : goal.returns
returns c = λ min_level.
    fold_from_yields_List _ (phase_step c.args.slot) Vacant c.fold.result c.fold.ensures.ran (YieldsList-from_enumerate (YieldsList-from_slice c.args.events.now cc) cc) (λ a x b q k. search (rules, tests))
    ∙ part_by_place (λ now. phase_seen (now.slot c.args.slot)) (phase_step c.args.slot) (λ now e. (follows_by_part now e.seat e.what).phase c.args.slot) (opening min_level) c.args.events.now
