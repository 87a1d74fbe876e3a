use Rattle.std.proofs.Common.{sym, ap}
use Rattle.call_machine.specs.declared.resize.ResizeStage.TheVariants as stage
use Rattle.call_machine.specs.declared.resize.UnzipStage.TheVariants as unzip
use Rattle.call_machine.specs.Resize.{goes}
use Rattle.cht_run.proofs.Resizes.{small_link, resize_fits, resize_further}
use Rattle.cht_run.proofs.table.Cht.load_behind.Goals as goal

pub node_of-requires : goal.node_of-requires
node_of-requires g c = record { link = small_link c.args.self.now _ (resize_fits c.load.result c.requires.at c.load.ensures.sits c.load.ensures.told).0 }

pub returns : goal.returns
returns g c = record {
  on = resize_further c.load.result _ c.requires.at c.load.ensures.sits c.load.ensures.told
      (ap (λ next. goes c.args.along.now (stage.Unzip (unzip.MoveEdge c.args.slot c.args.side next))) (sym c.node_of.ensures.value));
}
