use Rattle.std.proofs.Common.{◌≡◌, ◌++◌, map, take}
use Rattle.schedule_sim.specs.PrintedLines.{lines_of, Tells}
use Rattle.schedule_sim.proofs.print.push_events.Given as goal

abbrev pub invariant-loop-event : goal.invariant-loop-event
invariant-loop-event l = record { printed : l.out.items ≡ l.fn.out.items ++ lines_of (map Tells (take l.event-index l.events)) }
