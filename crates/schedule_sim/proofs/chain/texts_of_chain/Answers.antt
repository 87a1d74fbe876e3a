use Rattle.std.proofs.Common.{ap, ◌∙◌}
use Rattle.std.proofs.lemmas.List.{map-append}
use Rattle.schedule_sim.specs.PrintedLines.{texts_in}
use Rattle.schedule_sim.proofs.Walks.{met_next}
use Rattle.schedule_sim.proofs.chain.texts_of_chain.Goals as goal

pub loop-preserved : goal.loop-preserved
loop-preserved c = record {
  met = met_next c.args.shape.now c.args.words.now c.args.row c.args.bucket (texts_in c.loop.texts.items) _ c.in-Some-2.text.items c.in-Some-next.slot c.loop.next c.in-Some-link_of.after c.load-in-loop.result
      c.loop.invariant.met c.in-Some-next.is (rw c.in-Some-2.is at c.in_ok-text.ensures.text) (ap texts_in c.in_ok-push.ensures.items ∙ map-append _ c.loop.texts.items _)
      c.load-in-loop.ensures.value c.in-Some-link_of.ensures.link;
}
