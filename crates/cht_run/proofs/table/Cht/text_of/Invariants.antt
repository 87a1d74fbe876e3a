use Rattle.call_machine.specs.declared.call.Call.TheVariants as call
use Rattle.cht_run.proofs.table.Cht.text_of.Given as goal

abbrev pub ghosts-read_held : goal.ghosts-read_held
ghosts-read_held a = record { sight = a.seat.now.me.0; call = call.TextOf a.request.now.handle }

abbrev pub ghosts-read_inside : goal.ghosts-read_inside
ghosts-read_inside a = record { sight = a.seat.now.me.0; call = call.TextOf a.request.now.handle }
