use Rattle.std.proofs.Common.{◌-◌}
use Rattle.cht_core.specs.Runs.{LeadsTo}
use Rattle.cht_core.specs.State.{opening_of}
use Rattle.schedule_sim.specs.Turns.{draws, table_of}
use Rattle.schedule_sim.proofs.run.opened.Given as goal

abbrev pub invariant-loop : goal.invariant-loop
invariant-loop l = record { leads : LeadsTo (opening_of (table_of l.script)) (draws (l.counter - 1)) l.state }
