use Rattle.std.proofs.Common.{sym, ap, ◌∙◌}
use Rattle.std.proofs.lemmas.Option.{slice_get_within}
use Rattle.intern_log.specs.TextMap.{put_at}
use Rattle.intern_log.specs.Log.{lowered}
use Rattle.plain_interner.specs.Entries.{text_map}
use Rattle.plain_interner.proofs.Places.{IsPlaced-lowered, count_of-handle, changed_at}
use Rattle.plain_interner.proofs.entries.Entries.lower.Goals as goal

-- the last hold is gone
pub returns-in_default-lowered-clause-lowered : goal.returns-in_default-lowered-clause-lowered
returns-in_default-lowered-clause-lowered c =
    let inside = c.self.inside in
    let es = inside.texts.entries in
    let found = c.in-Some.ensures.found in
    rw (← c.self.view_is) (c.take_out.ensures.gone _ _ found.0.1 ∙ ap (put_at (text_map es) found.0.0) (sym c.in_default-lowered.is ∙ c.lowered.ensures)
    ∙ changed_at es inside.places.items c.self.invariant lowered _ _ _ c.args.handle found.0.1 found.1)

pub returns-in_default-lowered-clause-count : goal.returns-in_default-lowered-clause-count
returns-in_default-lowered-clause-count c =
    let inside = c.self.inside in
    let found = c.in-Some.ensures.found in
    rw (← c.self.view_is) (λ u f there has. c.count-count.ensures ∙ count_of-handle inside.texts.entries inside.places.items c.self.invariant _ _ _ c.args.handle found.0.1 found.1 u f there has)

-- the entry stays, with what is left
pub write_at-requires : goal.write_at-requires
write_at-requires c = record { within = slice_get_within c.self.inside.texts.entries c.in-Some.index _ c.in-Some.ensures.found.0.1 }

pub invariant_of-self-2 : goal.invariant_of-self-2
invariant_of-self-2 c =
    let inside = c.self.inside in
    IsPlaced-lowered inside.texts.entries inside.places.items c.self.invariant _ _ _ _ _ c.in-Some.ensures.found.0.1 (sym c.lowered.ensures ∙ c.in-Some-lowered.is) c.write_at.ensures.entries

pub returns-clause-lowered : goal.returns-clause-lowered
returns-clause-lowered c =
    let inside = c.self.inside in
    let es = inside.texts.entries in
    let found = c.in-Some.ensures.found in
    rw (← c.self.view_is) (c.write_at.ensures.written _ _ found.0.1 ∙ ap (put_at (text_map es) found.0.0) (sym c.in-Some-lowered.is ∙ c.lowered.ensures)
    ∙ changed_at es inside.places.items c.self.invariant lowered _ _ _ c.args.handle found.0.1 found.1)

pub returns-clause-count : goal.returns-clause-count
returns-clause-count c =
    let inside = c.self.inside in
    let found = c.in-Some.ensures.found in
    rw (← c.self.view_is) (λ u f there has. c.count-count.ensures ∙ count_of-handle inside.texts.entries inside.places.items c.self.invariant _ _ _ c.args.handle found.0.1 found.1 u f there has)
