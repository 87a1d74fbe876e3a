use Rattle.std.proofs.Common.{rules, tests, None, ◌∙◌}
use Rattle.std.proofs.lemmas.Iterator.{YieldsList-from_slice}
use Rattle.std.proofs.lemmas.Iterator.Consumers.{fold_from_yields_List}
use Rattle.intern_log.specs.Now.{opening}
use Rattle.log_check.specs.Parts.{lock_step}
use Rattle.log_check.proofs.PartLaws.{follows_by_part, part_by_event}
use Rattle.log_check.proofs.past.lock_of.Goals as goal

pub returns : goal.returns
returns c = λ min_level.
    fold_from_yields_List _ (lock_step c.args.row c.args.bucket) None c.fold.result c.fold.ensures.ran (YieldsList-from_slice c.args.events.now cc) (λ a x b q k. search (rules, tests))
    ∙ part_by_event (λ now. now.lock c.args.row c.args.bucket) (lock_step c.args.row c.args.bucket) (λ now e. (follows_by_part now e.seat e.what).lock c.args.row c.args.bucket) (opening min_level) c.args.events.now
