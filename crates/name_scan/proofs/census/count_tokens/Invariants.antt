use Rattle.std.proofs.Common.{◌-◌, length}
use Rattle.name_scan.proofs.Counts.{CountsUpTo}
use Rattle.name_scan.proofs.census.count_tokens.Given as goal

abbrev pub invariant-loop-found : goal.invariant-loop-found
invariant-loop-found l = CountsUpTo l.most l.bytes l.at l.census

abbrev pub decreases-loop-found : goal.decreases-loop-found
decreases-loop-found l = length l.bytes - l.at
