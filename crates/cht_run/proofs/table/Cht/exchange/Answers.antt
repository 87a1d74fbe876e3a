use Rattle.std.proofs.Common.{refl}
use Rattle.call_machine.specs.declared.handle.HandleStage.TheVariants as handle
use Rattle.call_machine.specs.declared.stage.CallStage.TheVariants as stage
use Rattle.cht_run.proofs.Changes.{has_exchanged}
use Rattle.cht_run.proofs.Goes.{goes}
use Rattle.cht_run.proofs.table.Cht.exchange.Goals as goal

pub returns : goal.returns
returns g c = record {
  at = goes c.args.self.now g.M.Began.sight g.M.Began.call c.args.request.now _ _ _ _ (stage.Handle (handle.Exchange c.args.change c.args.count)) _ _ c.compare_exchange-found.result c.requires.at refl refl c.compare_exchange-found.ensures.sits c.compare_exchange-found.ensures.told refl;
  did = has_exchanged c.args.self.now g.M.Began.sight g.M.Began.call c.args.request.now c.args.seat.now c.compare_exchange-found.new.seat c.args.along.now c.args.change c.args.count c.compare_exchange-found.result c.requires.at c.compare_exchange-found.ensures.told c.requires.did;
}
