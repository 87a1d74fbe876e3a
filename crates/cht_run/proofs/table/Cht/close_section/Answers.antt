use Rattle.std.proofs.Common.{refl}
use Rattle.call_machine.specs.declared.leave.LeaveStage.TheVariants as leave
use Rattle.call_machine.specs.declared.leave.Then.TheVariants as next
use Rattle.call_machine.specs.declared.stage.CallStage.TheVariants as stage
use Rattle.cht_run.proofs.Goes.{goes}
use Rattle.cht_run.proofs.table.Cht.close_section.Goals as goal

pub returns : goal.returns
returns g c = record {
  at = goes c.args.self.now g.M.Began.sight g.M.Began.call c.args.request.now _ _ _ _ (stage.Leave (leave.Close (next.Answer c.args.answer))) (stage.Answered c.args.answer) _ c.store.result c.requires.at refl refl
      c.store.ensures.sits c.store.ensures.told refl;
}
