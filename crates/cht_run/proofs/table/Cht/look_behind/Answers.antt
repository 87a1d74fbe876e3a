use Rattle.std.proofs.Common.{ap, sym, refl, Some, Option, ℕ}
use Rattle.call_machine.specs.declared.pass.PassStage.TheVariants as pass
use Rattle.cht_run.proofs.Underway.{passes_further}
use Rattle.cht_run.proofs.table.Cht.look_behind.Goals as goal

pub returns : goal.returns
returns g c = record {
  on = passes_further c.args.self.now g.M.Began.sight g.M.Began.call c.args.seat.now c.load.new.seat c.load.result _ c.load.ensures.sits c.load.ensures.told g.W.Passing.passes c.args.cleaning.now (pass.LoadLink c.args.slot (Some c.args.generation)) _ c.requires.passing c.requires.at refl
      (ap (λ (n : Option ℕ). (c.args.cleaning.now, Some (pass.Unlink c.args.slot c.args.generation n))) (sym c.node_of.ensures.value));
}
