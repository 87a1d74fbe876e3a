use Rattle.std.proofs.Common.{ap, ◌∙◌}
use Rattle.std.specs.Option.{is_some}
use Rattle.intern_log.specs.Now.{now_of}
use Rattle.log_check.proofs.Answered.{along, is_opened}
use Rattle.log_check.proofs.follow.may_close.Goals as goal

pub returns : goal.returns
returns c = λ table.
    along c.is_some.result _ (c.is_some.ensures ∙ ap is_some (c.section_of.ensures table.min_level)) (is_opened ((now_of table.min_level c.args.before.now).section c.args.seat))
