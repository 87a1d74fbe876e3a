use Rattle.std.proofs.Common.{◌≡◌, ◌-◌, ◌+◌, suc, arith}
use Rattle.schedule_sim.proofs.Opened.{draws_on, opens_after, opens_stands}
use Rattle.schedule_sim.proofs.run.opened.Goals as goal

pub loop-preserved : goal.loop-preserved
loop-preserved c =
    let from = c.loop.auto.counter in
    let next : c.loop.counter + 1 - 1 ≡ suc (c.loop.counter - 1) = omega (arith, from) in
    record { leads = draws_on _ c.loop.state c.draw_number.new.state (c.loop.counter - 1) (c.loop.counter + 1 - 1) next c.loop.invariant.leads c.in_ok-draw_number.ensures.leads }

pub returns-clause-stands : goal.returns-clause-stands
returns-clause-stands c = opens_stands c.args.script.now c.loop.state (opens_after c.args.script.now c.loop.state c.loop.counter c.loop-test.false c.loop.auto.counter-end c.loop.invariant.leads)
