use Rattle.std.proofs.Common.{◌≤◌, length, arith}
use Rattle.schedule_sim.proofs.Openings.{few_slots}
use Rattle.schedule_sim.proofs.Wide.{no_seat, wide_not_met}
use Rattle.schedule_sim.proofs.run.begin_asked.Goals as goal

pub returns-in_default-call_of-clause-fault : goal.returns-in_default-call_of-clause-fault
returns-in_default-call_of-clause-fault c = λ is. wide_not_met c.args.state.now c.args.asked.now _ (rw c.requires.of (few_slots c.args.shape.now c.requires.shape)) c.in_default-call_of.ensures.fault

pub returns-in_default-clause-fault : goal.returns-in_default-clause-fault
returns-in_default-clause-fault c =
    let seats = c.requires.seats in
    let most = c.requires.shape.seats.1 in
    let few : length c.args.state.now.seats ≤ 256 = omega (arith, seats, most) in
    λ is. no_seat c.args.state.now c.args.asked.now c.args.seat few c.in_default.ensures.fault
