use Rattle.std.proofs.Common.{ℕ, ◌+◌, ap, sym, refl}
use Rattle.call_machine.specs.declared.clean.CleanStage.TheVariants as stage
use Rattle.call_machine.specs.declared.grace.GraceStage.TheVariants.{RaiseCounter, LoadSection}
use Rattle.call_machine.specs.Clean.{goes}
use Rattle.cht_run.proofs.Cleans.{clean_further}
use Rattle.cht_run.proofs.table.Cht.raise.Goals as goal

pub returns : goal.returns
returns g c = record {
  on = clean_further c.args.self.now g.M.Began.sight g.M.Began.call c.args.seat.now c.fetch_add-counter.new.seat c.fetch_add-counter.result _ c.fetch_add-counter.ensures.sits c.fetch_add-counter.ensures.told c.args.along.now (stage.Grace c.args.freeing RaiseCounter) _ c.requires.at refl
      (ap (λ (n : ℕ). goes (record c.args.along.now { grace = record { raised = c.fetch_add-counter.result + 2; next = 0 }; graces = n }) (stage.Grace c.args.freeing LoadSection)) (sym c.saturating_add-along.ensures));
}
