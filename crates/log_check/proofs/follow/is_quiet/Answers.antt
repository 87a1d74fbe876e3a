use Rattle.std.proofs.Common.{sym, ap, ◌∙◌}
use Rattle.std.specs.Option.{is_some}
use Rattle.log_check.proofs.Answered.{not_taken}
use Rattle.log_check.proofs.follow.is_quiet.Goals as goal

pub returns-then-not-are_closed : goal.returns-then-not-are_closed
returns-then-not-are_closed c = (
  (λ yes. absurd (cc)),
  (λ quiet. let yes = (c.are_closed.ensures c.args.table.now.min_level).1 quiet.sections in let no_ = c.if-not-are_closed.true in absurd (cc (yes, no_))),
)

pub returns-then-not-are_unlocked : goal.returns-then-not-are_unlocked
returns-then-not-are_unlocked c = (
  (λ yes. absurd (cc)),
  (λ quiet. let yes = (c.are_unlocked.ensures c.args.table.now.min_level).1 quiet.locks in let no_ = c.if-not-are_unlocked.true in absurd (cc (yes, no_))),
)

pub returns : goal.returns
returns c = (
  (λ yes. record {
    sections = (c.are_closed.ensures c.args.table.now.min_level).0 c.if-not-are_closed.false;
    locks = (c.are_unlocked.ensures c.args.table.now.min_level).0 c.if-not-are_unlocked.false;
    resizing = not_taken _ (ap is_some (sym (c.resizer.ensures c.args.table.now.min_level)) ∙ sym c.is_some.ensures ∙ c.if-is_some.false);
    dead = c.are_live.ensures.0 yes;
  }),
  (λ quiet. c.are_live.ensures.1 quiet.dead),
)
