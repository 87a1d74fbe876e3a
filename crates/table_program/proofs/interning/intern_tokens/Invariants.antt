use Rattle.std.proofs.Common.{◌-◌, length}
use Rattle.table_program.proofs.Passes.{PassSoFar}
use Rattle.table_program.proofs.interning.intern_tokens.Given as goal

abbrev pub invariant-loop-found : goal.invariant-loop-found
invariant-loop-found l = PassSoFar l.hold l.bytes l.at l.names l.literals

abbrev pub decreases-loop-found : goal.decreases-loop-found
decreases-loop-found l = length l.bytes - l.at
