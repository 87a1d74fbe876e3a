use Rattle.std.proofs.Common.{◌≡◌, None, set, sym, ap, ◌∙◌, arith}
use Rattle.std.specs.Str.{bytes_eq}
use Rattle.std.specs.List.{swap_remove}
use Rattle.intern_log.specs.declared.event.Handle.{Handle}
use Rattle.indexmap.specs.IndexMap.{Updates}
use Rattle.plain_interner.proofs.Places.{of_some, present, IsPlaced-cut, IsPlaced-moved, moved_slot}
use Rattle.plain_interner.proofs.TextMaps.{text_map-updated}
use Rattle.plain_interner.proofs.entries.take_out.Goals as goal

pub bounds-places-handle : goal.bounds-places-handle
bounds-places-handle c =
    let old = c.args.texts.now.entries in
    let gone = c.swap_remove_index-gone.ensures in
    let new = c.swap_remove_index-gone.new.self.entries in
    let here = present old c.args.index c.requires.within in
    let removed = of_some (λ p. new ≡ swap_remove old c.args.index p) _ here.0 (gone.entry ∙ here.1) gone.entries in
    omega (
      arith,
      ap (λ (h : Handle). h.slot) c.handle.ensures,
      moved_slot old c.args.places.now c.requires.placed new c.args.index here.0 c.requires.within removed gone.unique
          c.in-Some.field-0-0.now c.in-Some.moved.now (sym c.in-Some.ensures.entry),
    )

pub returns-in-Some-clause-placed : goal.returns-in-Some-clause-placed
returns-in-Some-clause-placed c =
    let old = c.args.texts.now.entries in
    let gone = c.swap_remove_index-gone.ensures in
    let new = c.swap_remove_index-gone.new.self.entries in
    let here = present old c.args.index c.requires.within in
    let removed = of_some (λ p. new ≡ swap_remove old c.args.index p) _ here.0 (gone.entry ∙ here.1) gone.entries in
    IsPlaced-moved old c.args.places.now c.requires.placed new c.args.index here.0 c.requires.within removed gone.unique _
    c.in-Some.field-0-0.now c.in-Some.moved.now (sym c.in-Some.ensures.entry) (ap (λ (h : Handle). set c.args.places.now h.slot c.args.index) c.handle.ensures)

pub returns-in-Some-clause-gone : goal.returns-in-Some-clause-gone
returns-in-Some-clause-gone c =
    let m = c.args.texts.now in
    let n = c.swap_remove_index-gone.new.self in
    let gone = c.swap_remove_index-gone.ensures in
    λ t e at. text_map-updated m.entries n.entries t None (of_some (λ p. Updates bytes_eq m n p.0 None) _ (t, e) (gone.entry ∙ at) gone.updates).0

pub returns-clause-placed : goal.returns-clause-placed
returns-clause-placed c =
    let old = c.args.texts.now.entries in
    let gone = c.swap_remove_index-gone.ensures in
    let new = c.swap_remove_index-gone.new.self.entries in
    let here = present old c.args.index c.requires.within in
    let removed = of_some (λ p. new ≡ swap_remove old c.args.index p) _ here.0 (gone.entry ∙ here.1) gone.entries in
    IsPlaced-cut old c.args.places.now c.requires.placed new c.args.index here.0 c.requires.within removed gone.unique (sym c.in_default.ensures.entry)

pub returns-clause-gone : goal.returns-clause-gone
returns-clause-gone c =
    let m = c.args.texts.now in
    let n = c.swap_remove_index-gone.new.self in
    let gone = c.swap_remove_index-gone.ensures in
    λ t e at. text_map-updated m.entries n.entries t None (of_some (λ p. Updates bytes_eq m n p.0 None) _ (t, e) (gone.entry ∙ at) gone.updates).0
