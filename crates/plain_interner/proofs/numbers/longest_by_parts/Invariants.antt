use Rattle.std.proofs.Common.{◌*◌}
use Rattle.plain_interner.specs.Longest.{IsLongestOf}
use Rattle.plain_interner.proofs.numbers.longest_by_parts.Given as goal

abbrev pub invariant-loop-part : goal.invariant-loop-part
invariant-loop-part l = record { known : IsLongestOf l.level l.names 0 (l.part * 4096) l.most }
