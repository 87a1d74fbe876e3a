use Rattle.call_machine.specs.declared.call.Call.TheVariants as call
use Rattle.cht_run.proofs.table.Cht.run_poll.Given as goal

abbrev pub ghosts-poll_on : goal.ghosts-poll_on
ghosts-poll_on a = record { sight = a.seat.now.me.0; call = call.PollWork }
