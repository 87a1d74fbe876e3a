use Rattle.std.proofs.Common.{sym, subst}
use Rattle.call_machine.specs.declared.grace.GraceStage.TheVariants.{LoadSection}
use Rattle.call_machine.specs.Begin.{graced}
use Rattle.cht_run.specs.Beginnings.{begins_at}
use Rattle.cht_run.specs.Underway.{IsAt}
use Rattle.cht_run.proofs.Beginnings.{polled_at}
use Rattle.cht_run.proofs.table.Cht.poll_grace_of.Goals as goal

pub scan-requires-clause-at : goal.scan-requires-clause-at
scan-requires-clause-at g c =
    let b = g.M.Began.sight in
    subst (λ x. IsAt c.args.self.now b g.M.Began.call c.begin_load-word.new.seat (begins_at b (graced LoadSection c.scanned-came.result.0 x))) c.in-Goes.is
    (polled_at c.args.self.now b g.M.Began.call c.args.seat.now c.begin_load-word.new.seat c.args.state.now c.begin_load-word.result c.scanned-came.result c.args.self.now.sound c.args.self.now.seeded c.requires.polls
    c.begin_load-word.ensures.sits c.begin_load-word.ensures.told (sym c.scanned-came.ensures.value))

pub returns-in-Waits : goal.returns-in-Waits
returns-in-Waits g c =
    let b = g.M.Began.sight in
    record {
      at = subst (λ x. IsAt c.args.self.now b g.M.Began.call c.begin_load-word.new.seat (begins_at b (graced LoadSection c.scanned-came.result.0 x))) c.in-Waits.is
          (polled_at c.args.self.now b g.M.Began.call c.args.seat.now c.begin_load-word.new.seat c.args.state.now c.begin_load-word.result c.scanned-came.result c.args.self.now.sound c.args.self.now.seeded c.requires.polls
          c.begin_load-word.ensures.sits c.begin_load-word.ensures.told (sym c.scanned-came.ensures.value));
    }

pub returns-in-Over : goal.returns-in-Over
returns-in-Over g c =
    let b = g.M.Began.sight in
    record {
      at = subst (λ x. IsAt c.args.self.now b g.M.Began.call c.begin_load-word.new.seat (begins_at b (graced LoadSection c.scanned-came.result.0 x))) c.in-Over.is
          (polled_at c.args.self.now b g.M.Began.call c.args.seat.now c.begin_load-word.new.seat c.args.state.now c.begin_load-word.result c.scanned-came.result c.args.self.now.sound c.args.self.now.seeded c.requires.polls
          c.begin_load-word.ensures.sits c.begin_load-word.ensures.told (sym c.scanned-came.ensures.value));
    }
