use Rattle.std.proofs.Common.{◌+◌}
use Rattle.call_machine.specs.declared.grace.GraceStage.TheVariants.{LoadSection}
use Rattle.call_machine.specs.declared.resize.ResizeStage.TheVariants as stage
use Rattle.cht_run.proofs.Resizes.{resize_further, raised_leads}
use Rattle.cht_run.proofs.table.Cht.raise_in_resize.Goals as goal

pub returns : goal.returns
returns g c = record {
  on = resize_further c.fetch_add-counter.result _ c.requires.at c.fetch_add-counter.ensures.sits c.fetch_add-counter.ensures.told
      (raised_leads c.args.along.now (stage.Grace c.args.after LoadSection) (record { raised = c.fetch_add-counter.result + 2; next = 0 }) _ c.saturating_add-along.ensures);
}
