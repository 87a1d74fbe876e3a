use Rattle.std.proofs.Common.{sym, ap}
use Rattle.call_machine.specs.declared.resize.AfterGrace.TheVariants as after
use Rattle.call_machine.specs.Resize.{raises}
use Rattle.cht_run.proofs.Resizes.{resizing_at, resize_next, resize_further}
use Rattle.cht_run.proofs.table.Cht.move_edge.Goals as goal

pub end_of-edge-requires : goal.end_of-edge-requires
end_of-edge-requires g c = record { sound = resizing_at c.requires.at }

pub store-requires-clause-next : goal.store-requires-clause-next
store-requires-clause-next g c = resize_next c.requires.at (cc (c.end_of-edge.ensures.value, c.other.ensures.value))

pub returns : goal.returns
returns g c = record {
  on = resize_further c.store.result _ c.requires.at c.store.ensures.sits c.store.ensures.told
      (ap (λ chains. raises (record c.args.along.now { chains = chains; rest = c.args.next }) after.Unzip) (sym c.moved-along.ensures.value));
}
