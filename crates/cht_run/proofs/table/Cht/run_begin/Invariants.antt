use Rattle.cht_run.specs.Works.{begin_call}
use Rattle.cht_run.proofs.table.Cht.run_begin.Given as goal

abbrev pub ghosts-begin_work : goal.ghosts-begin_work
ghosts-begin_work a = record { sight = a.seat.now.me.0; call = begin_call a.task }
