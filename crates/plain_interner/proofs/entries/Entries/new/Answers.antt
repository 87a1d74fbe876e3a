use Rattle.std.proofs.Common.{refl}
use Rattle.plain_interner.proofs.TextMaps.{text_map-nil}
use Rattle.plain_interner.proofs.entries.Entries.new.Goals as goal

pub returns : goal.returns
returns c = rw (c.new.ensures.empty, c.new-2.ensures.items, text_map-nil) refl
