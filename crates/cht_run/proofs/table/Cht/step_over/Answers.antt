use Rattle.std.proofs.Common.{ap, sym, refl, Some, None, Option, ℕ}
use Rattle.call_machine.specs.declared.pass.PassStage.TheVariants as pass
use Rattle.call_machine.specs.Pass.{passes_on}
use Rattle.cht_run.proofs.Underway.{passes_further}
use Rattle.cht_run.proofs.table.Cht.step_over.Goals as goal

pub returns : goal.returns
returns g c = record {
  on = passes_further c.args.self.now g.M.Began.sight g.M.Began.call c.args.seat.now c.load-word.new.seat c.load-word.result _ c.load-word.ensures.sits c.load-word.ensures.told g.W.Passing.passes c.args.cleaning.now (pass.LoadLink c.args.slot None) _ c.requires.passing c.requires.at refl
      (ap (λ (n : Option ℕ). (record c.args.cleaning.now { last = Some c.args.slot }, passes_on n)) (sym c.node_of.ensures.value));
}
