use Rattle.std.proofs.Common.{refl, ap}
use Rattle.atomic_step.specs.declared.answer.Answer.TheVariants as answer
use Rattle.cht_run.specs.Underway.{answer_at}
use Rattle.cht_run.proofs.PollCalls.{poll_done, waits_so_far, waits_for_good, polled_unheld}
use Rattle.cht_run.proofs.table.Cht.poll_work.Goals as goal

pub returns-then-is_held-clause-polled : goal.returns-then-is_held-clause-polled
returns-then-is_held-clause-polled c = λ state is.
    waits_for_good c.args.self.now.origin.table c.args.seat.now c.args.work c.requires.work.0 state c.requires.work.1 is (c.is_held.ensures.exact.0 c.if-is_held.true)

pub returns-in-Done-clause-polled : goal.returns-in-Done-clause-polled
returns-in-Done-clause-polled c = λ state is.
    poll_done c.args.self.now c.args.seat.now c.run_poll.new.seat c.requires.of state c.run_poll.new.state c.run_poll.result is
    (polled_unheld c.args.seat.now c.args.work c.requires.work.0 state c.requires.work.1 is (λ held. let yes = c.is_held.ensures.exact.1 held in let no = c.if-is_held.false in absurd (cc))) c.run_poll.ensures.ran c.in-Done.worked c.in-Done.is

pub returns-in-PendingSeat-clause-polled : goal.returns-in-PendingSeat-clause-polled
returns-in-PendingSeat-clause-polled c = λ state is.
    waits_so_far c.args.self.now c.args.seat.now c.run_poll.new.seat c.requires.of state c.run_poll.new.state c.run_poll.result is
    (polled_unheld c.args.seat.now c.args.work c.requires.work.0 state c.requires.work.1 is (λ held. let yes = c.is_held.ensures.exact.1 held in let no = c.if-is_held.false in absurd (cc))) c.run_poll.ensures.ran
    _ (answer.PendingSeat c.in-PendingSeat.number) (ap answer_at c.in-PendingSeat.is) refl refl refl

pub returns-in-PendingBucket-clause-polled : goal.returns-in-PendingBucket-clause-polled
returns-in-PendingBucket-clause-polled c = λ state is.
    waits_so_far c.args.self.now c.args.seat.now c.run_poll.new.seat c.requires.of state c.run_poll.new.state c.run_poll.result is
    (polled_unheld c.args.seat.now c.args.work c.requires.work.0 state c.requires.work.1 is (λ held. let yes = c.is_held.ensures.exact.1 held in let no = c.if-is_held.false in absurd (cc))) c.run_poll.ensures.ran
    _ (answer.PendingBucket c.in-PendingBucket.row c.in-PendingBucket.bucket) (ap answer_at c.in-PendingBucket.is) refl refl refl
