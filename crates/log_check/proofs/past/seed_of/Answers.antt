use Rattle.std.proofs.Common.{rules, tests, ◌∙◌}
use Rattle.std.proofs.lemmas.Iterator.{YieldsList-from_slice}
use Rattle.std.proofs.lemmas.Iterator.Consumers.{fold_from_yields_List}
use Rattle.intern_log.specs.Now.{opening}
use Rattle.intern_log.specs.Seeded.{seed_after_event}
use Rattle.log_check.proofs.PartLaws.{follows_by_part, part_by_event}
use Rattle.log_check.proofs.past.seed_of.Goals as goal

pub returns : goal.returns
returns c = λ min_level.
    fold_from_yields_List _ (λ seed e. seed_after_event seed e.what) 0 c.fold.result c.fold.ensures.ran (YieldsList-from_slice c.args.events.now cc) (λ a x b q k. search (rules, tests))
    ∙ part_by_event (λ now. now.seed) (λ seed e. seed_after_event seed e.what) (λ now e. (follows_by_part now e.seat e.what).seed) (opening min_level) c.args.events.now
