use Rattle.schedule_sim.proofs.All.{whole_run}
use Rattle.schedule_sim.proofs.run.run_script.Goals as goal

pub returns-in-Ok-clause-value : goal.returns-in-Ok-clause-value
returns-in-Ok-clause-value c = whole_run c.args.script.now c.in_ok-state.state c.run_lines.new.state c.run_lines.new.out.items c.in_ok-state.ensures.opens c.in_ok-state.ensures.stands c.in-Ok.ensures.kept
    (rw c.new-out.ensures.items at (rw c.as_slice-lines.ensures.value at c.in-Ok.ensures.made))
