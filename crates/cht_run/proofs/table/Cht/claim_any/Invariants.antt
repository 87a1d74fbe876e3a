use Rattle.std.proofs.Common.{◌≡◌, ◌<◌, ◌-◌}
use Rattle.call_machine.specs.declared.insert.InsertStage.TheVariants as insert
use Rattle.call_machine.specs.declared.stage.CallStage.TheVariants as stage
use Rattle.cht_run.specs.Calls.{At}
use Rattle.cht_run.proofs.table.Cht.claim_any.Given as goal

abbrev pub invariant-loop-along : goal.invariant-loop-along
invariant-loop-along g l = record {
  of_table : l.slots ≡ l.request.shape.slots;
  slot : l.slot < l.slots;
  tried : l.tried < l.slots;
  at : At l.fn.self g.M.Began.sight g.M.Began.call l.request l.seat l.along (stage.Insert (insert.Claim l.slot l.tried));
  kept : l.along.kept ≡ l.fn.along.kept;
}

abbrev pub decreases-loop-along : goal.decreases-loop-along
decreases-loop-along g l = l.slots - l.tried
