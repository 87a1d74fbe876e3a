use Rattle.std.proofs.Common.{rules, tests, None, ◌∙◌}
use Rattle.std.proofs.lemmas.Iterator.{YieldsList-from_slice}
use Rattle.std.proofs.lemmas.Iterator.Consumers.{YieldsList-from_enumerate, fold_from_yields_List}
use Rattle.intern_log.specs.Now.{opening}
use Rattle.log_check.specs.Parts.{section_step}
use Rattle.log_check.proofs.PartLaws.{opened_in, follows_by_part, part_by_place}
use Rattle.log_check.proofs.past.section_of.Goals as goal

pub returns : goal.returns
returns c = λ min_level.
    fold_from_yields_List _ (section_step c.args.seat) None c.fold.result c.fold.ensures.ran (YieldsList-from_enumerate (YieldsList-from_slice c.args.events.now cc) cc) (λ a x b q k. search (rules, tests))
    ∙ part_by_place (λ now. opened_in now c.args.seat) (section_step c.args.seat) (λ now e. (follows_by_part now e.seat e.what).section c.args.seat) (opening min_level) c.args.events.now
