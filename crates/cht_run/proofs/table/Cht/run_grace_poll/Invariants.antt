use Rattle.call_machine.specs.declared.call.Call.TheVariants as call
use Rattle.cht_run.proofs.table.Cht.run_grace_poll.Given as goal

abbrev pub ghosts-poll_grace_of : goal.ghosts-poll_grace_of
ghosts-poll_grace_of a = record { sight = a.seat.now.me.0; call = call.PollGrace }
