use Rattle.std.proofs.Common.{ap, sym, ◌∙◌}
use Rattle.atomic_step.specs.declared.step.Edge.{Edge}
use Rattle.atomic_step.specs.declared.step.Step.TheVariants as step
use Rattle.call_machine.specs.declared.pass.PassStage.TheVariants as pass
use Rattle.cht_run.proofs.Underway.{passes_further, unlink_full, unlink_more}
use Rattle.cht_run.proofs.table.Cht.unlink.Goals as goal

pub returns-then-len-eq-BATCH : goal.returns-then-len-eq-BATCH
returns-then-len-eq-BATCH g c = record {
  on = passes_further c.args.self.now g.M.Began.sight g.M.Began.call c.args.seat.now c.store.new.seat c.store.result _ c.store.ensures.sits c.store.ensures.told g.W.Passing.passes c.args.cleaning.now (pass.Unlink c.args.slot c.args.generation c.args.next) _ c.requires.passing c.requires.at
      (ap (λ (e : Edge). step.Unlink c.args.slot e c.args.next) (sym c.edge-edge.ensures.value))
      (unlink_full c.args.cleaning.now c.unlink.new.self c.args.slot c.args.generation c.args.next c.unlink.ensures.value (sym c.len.ensures.value ∙ c.if-len-eq-BATCH.true));
}

pub returns-else-len-eq-BATCH : goal.returns-else-len-eq-BATCH
returns-else-len-eq-BATCH g c = record {
  on = passes_further c.args.self.now g.M.Began.sight g.M.Began.call c.args.seat.now c.store.new.seat c.store.result _ c.store.ensures.sits c.store.ensures.told g.W.Passing.passes c.args.cleaning.now (pass.Unlink c.args.slot c.args.generation c.args.next) _ c.requires.passing c.requires.at
      (ap (λ (e : Edge). step.Unlink c.args.slot e c.args.next) (sym c.edge-edge.ensures.value))
      (unlink_more c.args.cleaning.now c.unlink.new.self c.args.slot c.args.generation c.args.next c.unlink.ensures.value (λ full. c.if-len-eq-BATCH.false (c.len.ensures.value ∙ full)));
}
