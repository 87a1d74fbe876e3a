use Rattle.call_machine.specs.declared.stage.CallStage.TheVariants as stage
use Rattle.call_machine.specs.Insert.{puts_from}
use Rattle.cht_run.specs.Calls.{At}
use Rattle.cht_run.proofs.table.Cht.fill.Given as goal

abbrev pub invariant-loop-at : goal.invariant-loop-at
invariant-loop-at g l = record {
  at : At l.fn.self g.M.Began.sight g.M.Began.call l.request l.seat l.along (stage.Insert (puts_from l.request.sought.text.now l.handle l.at));
}
