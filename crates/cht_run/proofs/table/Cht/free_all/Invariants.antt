use Rattle.std.proofs.Common.{◌-◌, length, Some}
use Rattle.call_machine.specs.declared.pass.FreeStage.TheVariants as free
use Rattle.cht_run.specs.Underway.{IsAt, HasNoMore}
use Rattle.cht_run.proofs.table.Cht.free_all.Given as goal

abbrev pub invariant-loop-next : goal.invariant-loop-next
invariant-loop-next g l = record {
  at : IsAt l.fn.self g.M.Began.sight g.M.Began.call l.seat (g.W.Freeing.frees l.cleaning (Some (free.PutNextGeneration l.at)));
  no_more : HasNoMore l.fn.self.origin.table.shape (g.W.Freeing.frees l.fn.cleaning (Some (free.PutNextGeneration 0))) (g.W.Freeing.frees l.cleaning (Some (free.PutNextGeneration l.at)));
}

abbrev pub decreases-loop-next : goal.decreases-loop-next
decreases-loop-next g l = length l.cleaning.waiting.items - l.at
