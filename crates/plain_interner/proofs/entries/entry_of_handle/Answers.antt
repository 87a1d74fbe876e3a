use Rattle.std.proofs.Common.{◌≡◌, ◌≢◌, Bool, true, false, not, refl, true≢false, sym, ap, ◌∙◌}
use Rattle.intern_log.specs.declared.event.Handle.{Handle}
use Rattle.intern_log.specs.declared.event.Entry.{Entry}
use Rattle.intern_log.specs.TextMap.{handle_eq}
use Rattle.intern_log.proofs.Handles.{handle_eq-Decides}
use Rattle.plain_interner.proofs.Places.{no_place, other_place}
use Rattle.plain_interner.proofs.TextMaps.{same_pair}
use Rattle.plain_interner.proofs.entries.entry_of_handle.Goals as goal

passed : (b : Bool) → false ≡ not b → b ≡ true
passed true is = refl
passed false is = absurd (true≢false (sym is))

same_handle : (h k : Handle) → false ≡ not (handle_eq h k) → h ≡ k
same_handle h k is = (handle_eq-Decides h k).0 (passed (handle_eq h k) is)

other_handle : (h k : Handle) → true ≡ not (handle_eq h k) → h ≢ k
other_handle h k is same = true≢false (is ∙ ap not ((handle_eq-Decides h k).1 same))

pub returns-in_default-clause-none : goal.returns-in_default-clause-none
returns-in_default-clause-none c = no_place c.args.texts.now.entries c.args.places.now c.requires.placed c.args.handle c.in_default.ensures.lookup.3

pub returns-in_default-get_index-clause-none : goal.returns-in_default-get_index-clause-none
returns-in_default-get_index-clause-none c =
    let place = c.in-Some.ensures.lookup in
    other_place c.args.texts.now.entries c.args.places.now c.requires.placed c.args.handle c.in-Some.place.now place.3.0 place.1
    (λ t e at. absurd (cc (c.in_default-get_index.ensures.entry, at)))

pub returns-then-ne-clause-none : goal.returns-then-ne-clause-none
returns-then-ne-clause-none c =
    let place = c.in-Some.ensures.lookup in
    other_place c.args.texts.now.entries c.args.places.now c.requires.placed c.args.handle c.in-Some.place.now place.3.0 place.1
    (λ t e at same.
    let here = ap (λ p. p.1) (same_pair _ _ (c.in-Some-get_index.ensures.entry ∙ at)) in
    other_handle c.handle.result c.args.handle c.if-ne.ensures (c.handle.ensures ∙ ap (λ (x : Entry). x.handle) here ∙ same))

pub returns-clause-found : goal.returns-clause-found
returns-clause-found c =
    ((c.in-Some-get_index.field-0-0.now, sym c.in-Some-get_index.ensures.entry), sym c.handle.ensures ∙ same_handle c.handle.result c.args.handle c.if-ne.ensures)
