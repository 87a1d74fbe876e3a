use Rattle.std.proofs.Common.{subst, ◌∙◌}
use Rattle.cht_run.specs.declared.graces.PolledGrace.{PolledGrace}
use Rattle.cht_run.specs.Graces.{PollsGrace}
use Rattle.cht_run.proofs.tests.graces.end_grace.Goals as goal

pub loop-preserved : goal.loop-preserved
loop-preserved g c =
    let before = c.loop.invariant in
    let polled = subst (λ (r : PolledGrace). PollsGrace c.args.cht.now.origin.table before.grace.state c.loop.seat c.poll_grace.new.seat r) c.in-Pending.is (c.poll_grace.ensures.polled before.grace.state before.grace.unfinished) in
    let same = polled.2.keeps in
    record {
      of = c.poll_grace.ensures.of;
      keeps = record { number = same.number ∙ before.keeps.number; numbers = same.numbers ∙ before.keeps.numbers; kids = same.kids ∙ before.keeps.kids };
      grace = polled.0;
    }
