use Rattle.std.proofs.Common.{Some, ap, ◌∙◌}
use Rattle.std.specs.Prelude.{nat_eq}
use Rattle.std.specs.Option.{option_eq}
use Rattle.intern_log.specs.Now.{now_of}
use Rattle.log_check.proofs.Answered.{along, owner_is_seat}
use Rattle.log_check.proofs.follow.is_resizing.Goals as goal

pub returns : goal.returns
returns c = λ min_level.
    along c.eq.result _ (c.eq.ensures ∙ ap (λ owner. option_eq nat_eq owner (Some c.args.seat)) (c.resizer.ensures min_level))
    (owner_is_seat (now_of min_level c.args.before.now).resizing c.args.seat)
