use Rattle.std.proofs.Common.{sym}
use Rattle.plain_interner.proofs.TextMaps.{entry_of-place}
use Rattle.plain_interner.proofs.entries.Entries.handle_of.Goals as goal

pub returns-clause-found : goal.returns-clause-found
returns-clause-found c =
    rw (← c.self.view_is) (_, entry_of-place c.self.inside.texts.entries _ _ _ c.self.invariant.distinct c.in-Some.ensures.found, sym c.handle.ensures)
