use Rattle.std.proofs.Common.{◌≡◌}
use Rattle.call_machine.specs.Read.{reads_from}
use Rattle.cht_run.specs.Calls.{At}
use Rattle.cht_run.specs.History.{log_of}
use Rattle.cht_run.specs.Reads.{HasRead, done_by}
use Rattle.cht_run.proofs.table.Cht.read_words.Given as goal

abbrev pub invariant-loop-at : goal.invariant-loop-at
invariant-loop-at g l = record {
  at : At l.fn.self g.M.Began.sight g.M.Began.call l.request l.seat l.along (reads_from l.request.kind l.at l.long);
  own : done_by g.M.Began.sight.number l.seat.me.0 ≡ done_by g.M.Began.sight.number l.fn.seat.me.0;
  read : HasRead (log_of l.seat.me.0.history) l.request.handle l.long l.at l.fn.out l.out;
}
