use Rattle.std.proofs.Common.{true, false, refl, ap, ◌∙◌}
use Rattle.call_machine.specs.declared.sweep.SweepStage.TheVariants as stage
use Rattle.call_machine.specs.Pass.{no_cleaning, begins_pass}
use Rattle.cht_run.specs.SweepSteps.{closing_of}
use Rattle.cht_run.proofs.SweepSteps.{sweeps_on, locked_so, lost_so}
use Rattle.cht_run.proofs.table.Cht.lock_swept.Goals as goal

pub returns-then-compare_exchange-head : goal.returns-then-compare_exchange-head
returns-then-compare_exchange-head g c = record {
  at = sweeps_on c.args.self.now g.M.Began.sight g.M.Began.call c.args.seat.now c.compare_exchange.new.seat c.compare_exchange.result _ c.compare_exchange.ensures.sits c.compare_exchange.ensures.told c.args.asked.now
      c.args.along.now _ stage.Lock (stage.Close (closing_of false)) c.requires.at refl
      (lost_so c.args.asked.now c.args.along.now c.compare_exchange.result c.if-compare_exchange-head.true);
}

pub returns : goal.returns
returns g c = record {
  at = sweeps_on c.args.self.now g.M.Began.sight g.M.Began.call c.args.seat.now c.compare_exchange.new.seat c.compare_exchange.result _ c.compare_exchange.ensures.sits c.compare_exchange.ensures.told c.args.asked.now
      c.args.along.now _ stage.Lock (stage.Close (closing_of true)) c.requires.at refl
      (locked_so c.args.asked.now c.args.along.now c.compare_exchange.result c.begin_pass.new.self c.if-compare_exchange-head.false
      (c.begin_pass.ensures.value ∙ ap (λ x. begins_pass x c.first_of.result) c.none-along.ensures.value ∙ ap (begins_pass (no_cleaning c.args.along.now.walk.row c.args.along.now.walk.bucket)) c.first_of.ensures.value));
}
