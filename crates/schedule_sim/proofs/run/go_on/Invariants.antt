use Rattle.schedule_sim.specs.Turns.{Keeps}
use Rattle.schedule_sim.proofs.Goes.{WentOn}
use Rattle.schedule_sim.proofs.run.go_on.Given as goal

abbrev pub invariant-loop : goal.invariant-loop
invariant-loop l = record {
  went : WentOn l.until l.number l.counter l.fn.state l.state l.fn.out.items l.out.items;
  kept : Keeps l.fn.state l.state;
}
