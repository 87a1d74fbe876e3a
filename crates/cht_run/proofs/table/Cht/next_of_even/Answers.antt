use Rattle.std.proofs.Common.{sym, ap, ◌∙◌}
use Rattle.call_machine.specs.Resize.{goes, looks_at, joins_at}
use Rattle.cht_run.proofs.Resizes.{small_link, resize_fits, resize_further, looked_leads}
use Rattle.cht_run.proofs.table.Cht.next_of_even.Goals as goal

pub node_of-requires : goal.node_of-requires
node_of-requires g c = record { link = small_link c.args.self.now _ (resize_fits c.load-word.result c.requires.at c.load-word.ensures.sits c.load-word.ensures.told).0 }

pub returns : goal.returns
returns g c = record {
  on = resize_further c.load-word.result _ c.requires.at c.load-word.ensures.sits c.load-word.ensures.told
      (ap (λ next. goes (looks_at c.args.along.now) (joins_at c.args.slot next)) (sym c.node_of.ensures.value) ∙ looked_leads c.args.along.now (joins_at c.args.slot c.node_of.result) _ c.saturating_add-along.ensures);
}
