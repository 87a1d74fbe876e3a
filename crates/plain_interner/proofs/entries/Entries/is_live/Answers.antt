use Rattle.plain_interner.proofs.Places.{found_is_live}
use Rattle.plain_interner.proofs.entries.Entries.is_live.Goals as goal

pub returns : goal.returns
returns c =
    let inside = c.self.inside in
    rw (← c.self.view_is, c.is_some.ensures)
    (found_is_live inside.texts.entries inside.places.items c.self.invariant c.entry_of_handle.result c.args.handle c.entry_of_handle.ensures.found c.entry_of_handle.ensures.none)
