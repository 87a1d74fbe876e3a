use Rattle.cht_run.proofs.SweepSteps.{passes_at, passed_at}
use Rattle.cht_run.proofs.table.Cht.sweep_chain.Goals as goal

pub pass_node-next-requires-clause-at : goal.pass_node-next-requires-clause-at
pass_node-next-requires-clause-at g c =
    passes_at c.args.self.now g.M.Began.sight g.M.Began.call c.loop.seat c.args.asked.now c.loop.along c.args.along.now g.W.Passing.passes c.requires.within c.loop.invariant.within c.loop.next c.in-Some-next.slot
    c.in-Some-next.is c.loop.invariant.at

pub loop-preserved : goal.loop-preserved
loop-preserved g c = record {
  within = c.loop.invariant.within;
  at = passed_at c.args.self.now g.M.Began.sight g.M.Began.call c.pass_node-next.new.seat c.args.asked.now c.loop.along c.args.along.now g.W.Passing.passes c.requires.within c.loop.invariant.within
      c.pass_node-next.new.cleaning c.pass_node-next.result
      c.pass_node-next.ensures.on.at;
}
