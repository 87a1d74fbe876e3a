use Rattle.std.proofs.Common.{◌-◌, length}
use Rattle.name_scan.proofs.Texts.{ReadsTo}
use Rattle.name_scan.proofs.literal_text_len.Given as goal

abbrev pub invariant-loop-len : goal.invariant-loop-len
invariant-loop-len l = ReadsTo l.len l.behind

abbrev pub decreases-loop-len : goal.decreases-loop-len
decreases-loop-len l = length l.behind - l.len
