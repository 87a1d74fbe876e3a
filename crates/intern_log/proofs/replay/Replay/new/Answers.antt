use Rattle.std.proofs.Common.{Global, refl}
use Rattle.intern_log.proofs.Maps.{text_map-nil}
use Rattle.intern_log.proofs.Kept.{IsKept-empty}
use Rattle.intern_log.proofs.replay.Replay.new.Goals as goal

pub invariant_of-result : goal.invariant_of-result
invariant_of-result c = rw (c.new.ensures.empty, c.new-2.ensures.empty) (IsKept-empty Global)

pub returns : goal.returns
returns c = rw c.new.ensures.empty (rw (text_map-nil Global) (record { empty = refl }))
