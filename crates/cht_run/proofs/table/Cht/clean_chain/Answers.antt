use Rattle.std.proofs.Common.{ℕ, Some, Option, sym, subst, ◌∙◌}
use Rattle.call_machine.specs.declared.pass.Cleaning.{Cleaning}
use Rattle.call_machine.specs.declared.pass.PassStage.{PassStage}
use Rattle.call_machine.specs.declared.pass.PassStage.TheVariants as pass
use Rattle.call_machine.specs.declared.machine.Machine.{Machine}
use Rattle.call_machine.specs.Clean.{goes, cleans_on}
use Rattle.call_machine.specs.Pass.{passes_on}
use Rattle.cht_run.specs.Cleans.{cleaned}
use Rattle.cht_run.specs.Underway.{IsAt, IsPassing}
use Rattle.cht_run.proofs.Cleans.{clean_passes, chain_further}
use Rattle.cht_run.proofs.table.Cht.clean_chain.Goals as goal

pub pass_node-next-requires-clause-passing : goal.pass_node-next-requires-clause-passing
pass_node-next-requires-clause-passing g c = subst IsPassing (sym c.requires.within) (clean_passes g.M.Began.sight c.args.along.now)

pub pass_node-next-requires-clause-at : goal.pass_node-next-requires-clause-at
pass_node-next-requires-clause-at g c =
    let b = g.M.Began.sight in
    let at = subst (λ (n : Option ℕ). IsAt c.args.self.now b g.M.Began.call c.loop-next.seat (cleaned b (goes c.loop-next.along (cleans_on (passes_on n))))) c.in-Some.is c.loop-next.invariant.at in
    subst (λ (p : Cleaning → Option PassStage → Machine). IsAt c.args.self.now b g.M.Began.call c.loop-next.seat (p c.loop-next.along.cleaning (Some (pass.LoadCount c.in-Some.slot)))) (c.loop-next.invariant.within ∙ sym c.requires.within) at

pub loop-next-smaller : goal.loop-next-smaller
loop-next-smaller g c =
    (chain_further c.args.self.now g.M.Began.sight g.M.Began.call c.pass_node-next.new.seat g.W.Passing.passes c.args.along.now c.loop-next.along c.args.first c.loop-next.next c.in-Some.slot c.pass_node-next.new.cleaning c.pass_node-next.result
    c.requires.within c.loop-next.invariant.within c.in-Some.is c.loop-next.invariant.no_more c.loop-next.invariant.polls c.pass_node-next.ensures.on).falls

pub loop-next-preserved : goal.loop-next-preserved
loop-next-preserved g c =
    let came = chain_further c.args.self.now g.M.Began.sight g.M.Began.call c.pass_node-next.new.seat g.W.Passing.passes c.args.along.now c.loop-next.along c.args.first c.loop-next.next c.in-Some.slot c.pass_node-next.new.cleaning c.pass_node-next.result
    c.requires.within c.loop-next.invariant.within c.in-Some.is c.loop-next.invariant.no_more c.loop-next.invariant.polls c.pass_node-next.ensures.on in
    record { within = c.loop-next.invariant.within; at = came.at; no_more = came.no_more; polls = came.polls }
