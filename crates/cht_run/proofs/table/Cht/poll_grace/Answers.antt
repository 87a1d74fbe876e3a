use Rattle.std.proofs.Common.{refl, subst}
use Rattle.atomic_step.specs.declared.answer.Answer.TheVariants as answer
use Rattle.call_machine.specs.declared.begin.Left.TheVariants as left
use Rattle.call_machine.specs.declared.call.Call.TheVariants as call
use Rattle.call_machine.specs.declared.grace.GraceStage.TheVariants.{LoadSection}
use Rattle.call_machine.specs.Begin.{graced}
use Rattle.cht_run.specs.Beginnings.{begins_at}
use Rattle.cht_run.specs.Runs.{Ran}
use Rattle.cht_run.specs.Seats.{sight}
use Rattle.cht_run.specs.Underway.{scanned_to}
use Rattle.cht_run.proofs.GraceCalls.{grace_over, grace_pending}
use Rattle.cht_run.proofs.table.Cht.poll_grace.Goals as goal

pub returns-then-run_grace_poll-clause-polled : goal.returns-then-run_grace_poll-clause-polled
returns-then-run_grace_poll-clause-polled c = λ state is.
    grace_over c.args.self.now c.args.seat.now c.run_grace_poll.new.seat c.requires.of c.args.grace c.requires.grace answer.Ready left.Nothing
    (subst (λ v. Ran (sight c.args.seat.now) call.PollGrace (sight c.run_grace_poll.new.seat) (begins_at (sight c.args.seat.now) (graced LoadSection c.run_grace_poll.new.state (scanned_to v)))) c.if-run_grace_poll.true
    c.run_grace_poll.ensures.ran)
    state refl is

pub returns-clause-polled : goal.returns-clause-polled
returns-clause-polled c = λ state is.
    grace_pending c.args.self.now c.args.seat.now c.run_grace_poll.new.seat c.requires.of c.args.grace c.requires.grace (answer.PendingSeat c.run_grace_poll.new.state.next) (left.Grace c.run_grace_poll.new.state)
    (subst (λ v. Ran (sight c.args.seat.now) call.PollGrace (sight c.run_grace_poll.new.seat) (begins_at (sight c.args.seat.now) (graced LoadSection c.run_grace_poll.new.state (scanned_to v)))) c.if-run_grace_poll.false
    c.run_grace_poll.ensures.ran)
    c.run_grace_poll.new.state.next _ state refl refl is
