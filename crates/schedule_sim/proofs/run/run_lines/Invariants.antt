use Rattle.std.proofs.Common.{take}
use Rattle.schedule_sim.specs.Turns.{AllTurn, Prints, Keeps}
use Rattle.schedule_sim.proofs.run.run_lines.Given as goal

abbrev pub invariant-loop-numbered : goal.invariant-loop-numbered
invariant-loop-numbered l = record {
  turned : Prints (λ items. AllTurn (take l.numbered-index l.lines) l.fn.state items l.state) l.fn.out.items l.out.items;
  kept : Keeps l.fn.state l.state;
}
