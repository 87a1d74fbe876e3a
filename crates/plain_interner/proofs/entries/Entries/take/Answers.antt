use Rattle.std.proofs.Common.{Some, sym, ap, ◌∙◌}
use Rattle.std.specs.Option.{option_map}
use Rattle.intern_log.specs.TextMap.{put_at}
use Rattle.intern_log.specs.Log.{raised}
use Rattle.plain_interner.specs.Entries.{text_map}
use Rattle.plain_interner.proofs.TextMaps.{entry_of-place}
use Rattle.plain_interner.proofs.Places.{IsPlaced-raised}
use Rattle.plain_interner.proofs.entries.Entries.take.Goals as goal

pub invariant_of-self : goal.invariant_of-self
invariant_of-self c =
    let inside = c.self.inside in
    IsPlaced-raised inside.texts.entries inside.places.items c.self.invariant _ _ _ _ _ c.in-Some.ensures.found c.raised-raised.ensures c.write_at.ensures.entries

pub returns-clause-found : goal.returns-clause-found
returns-clause-found c =
    rw (← c.self.view_is) (_, entry_of-place c.self.inside.texts.entries _ _ _ c.self.invariant.distinct c.in-Some.ensures.found, sym c.handle-handle.ensures)

pub returns-clause-taken : goal.returns-clause-taken
returns-clause-taken c =
    let es = c.self.inside.texts.entries in
    let there = entry_of-place es _ _ _ c.self.invariant.distinct c.in-Some.ensures.found in
    rw (← c.self.view_is) (c.write_at.ensures.written _ _ c.in-Some.ensures.found ∙ ap (put_at (text_map es) c.args.text.now) (ap Some c.raised-raised.ensures ∙ ap (option_map raised) (sym there)))
