use Rattle.cht_run.specs.Tallies.{memory_in, ReadsOn}
use Rattle.cht_run.proofs.Counting.{CountsOn}
use Rattle.cht_run.proofs.table.Cht.tally_chain.Given as goal

abbrev pub invariant-loop : goal.invariant-loop
invariant-loop l = record {
  on : ReadsOn l.fn.self l.fn.seat l.seat;
  counts : CountsOn (memory_in l.fn.self l.fn.seat) l.fn.self.origin.table.shape.slots l.fn.first l.next l.counter l.tally;
}
