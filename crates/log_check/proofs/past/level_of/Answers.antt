use Rattle.std.proofs.Common.{rules, tests, ◌∙◌}
use Rattle.std.proofs.lemmas.Iterator.{YieldsList-from_slice}
use Rattle.std.proofs.lemmas.Iterator.Consumers.{fold_from_yields_List}
use Rattle.intern_log.specs.Now.{opening}
use Rattle.intern_log.specs.Orderly.{level_after_event}
use Rattle.log_check.proofs.PartLaws.{follows_by_part, part_by_event}
use Rattle.log_check.proofs.past.level_of.Goals as goal

pub returns : goal.returns
returns c =
    fold_from_yields_List _ (λ level e. level_after_event level e.what) c.args.min_level c.fold.result c.fold.ensures.ran (YieldsList-from_slice c.args.events.now cc) (λ a x b q k. search (rules, tests))
    ∙ part_by_event (λ now. now.level) (λ level e. level_after_event level e.what) (λ now e. (follows_by_part now e.seat e.what).level) (opening c.args.min_level) c.args.events.now
