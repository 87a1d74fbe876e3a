use Rattle.cht_run.specs.Tallies.{now_for, ReadsOn, sum_below, IsTally, IsLongestBelow}
use Rattle.cht_run.proofs.table.Cht.tally_row.Given as goal

abbrev pub invariant-loop-bucket : goal.invariant-loop-bucket
invariant-loop-bucket l = record {
  on : ReadsOn l.fn.self l.fn.seat l.seat;
  tally : IsTally (sum_below (now_for l.fn.self l.fn.seat) l.bucket) l.tally;
  longest : IsLongestBelow (now_for l.fn.self l.fn.seat) l.bucket l.longest;
}
