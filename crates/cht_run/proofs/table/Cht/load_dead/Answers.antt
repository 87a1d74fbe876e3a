use Rattle.std.proofs.Common.{refl}
use Rattle.call_machine.specs.declared.pass.PassStage.TheVariants as pass
use Rattle.cht_run.proofs.Underway.{passes_further, dead_leads}
use Rattle.cht_run.proofs.table.Cht.load_dead.Goals as goal

pub returns : goal.returns
returns g c = record {
  on = passes_further c.args.self.now g.M.Began.sight g.M.Began.call c.args.seat.now c.load-word.new.seat c.load-word.result _ c.load-word.ensures.sits c.load-word.ensures.told g.W.Passing.passes c.args.cleaning.now (pass.LoadCount c.args.slot) _ c.requires.passing c.requires.at refl
      (dead_leads c.args.cleaning.now c.args.slot c.load-word.result c.saturating_add-cleaning.result c.dead_of.result c.saturating_add-cleaning.ensures c.dead_of.ensures.value);
}
