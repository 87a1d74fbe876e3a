use Rattle.std.proofs.Common.{◌-◌, length}
use Rattle.name_scan.proofs.TokensFrom.{Completes}
use Rattle.name_scan.proofs.scan.Given as goal

abbrev pub invariant-loop-found : goal.invariant-loop-found
invariant-loop-found l = Completes l.bytes l.at l.tokens.items

abbrev pub decreases-loop-found : goal.decreases-loop-found
decreases-loop-found l = length l.bytes - l.at
