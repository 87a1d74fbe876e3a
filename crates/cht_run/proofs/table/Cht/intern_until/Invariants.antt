use Rattle.call_machine.specs.declared.enter.EnterStage.TheVariants as enter
use Rattle.call_machine.specs.declared.find.FindStage.TheVariants as find
use Rattle.call_machine.specs.declared.stage.CallStage.TheVariants as stage
use Rattle.cht_run.specs.Calls.{At}
use Rattle.cht_run.proofs.table.Cht.intern_until.Given as goal

abbrev pub invariant-loop : goal.invariant-loop
invariant-loop g l = record {
  at : At l.self g.M.Began.sight g.M.Began.call l.request l.seat l.along (stage.Find (find.Enter (enter.OpenSection l.counter)));
}
