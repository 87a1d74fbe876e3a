use Rattle.std.proofs.Common.{◌≡◌, ◌<◌, ◌^◌, ◌-◌, ◌++◌, ◌∷◌, [], None, Some, length, rules, sym, ap, subst, ◌∙◌}
use Rattle.std.specs.Str.{bytes_eq}
use Rattle.indexmap.specs.IndexMap.{insert_entry}
use Rattle.intern_log.specs.TextMap.{entry_of}
use Rattle.intern_log.specs.Log.{new_entry}
use Rattle.plain_interner.specs.Entries.{text_map}
use Rattle.plain_interner.proofs.TextMaps.{text_map-updated}
use Rattle.plain_interner.proofs.Places.{IsPlaced-created, create-Allows}
use Rattle.plain_interner.proofs.entries.Entries.create.Goals as goal

pub invariant_of-self-2 : goal.invariant_of-self-2
invariant_of-self-2 c =
    let inside = c.self.inside in
    let places = inside.places.items in
    let slot : c.len-slot.result ≡ length places = search rules in
    let absent : entry_of (text_map inside.texts.entries) c.args.text.now ≡ None = subst (λ g. entry_of g.texts c.args.text.now ≡ None) (sym c.self.view_is) c.requires.absent in
    let room : length places < 2 ^ 32 - 1 = subst (λ g. g.created < 2 ^ 32 - 1) (sym c.self.view_is) c.requires.room in
    let added = c.in_ok-add_entry.ensures in
    IsPlaced-created inside.texts c.add_entry.new.texts places c.args.text.now c.self.invariant absent c.push_reserved.new.self.items room
    (added.entries ∙ ap (λ s. insert_entry bytes_eq inside.texts.entries c.args.text.now (new_entry (record { slot = s; generation = 0 }))) slot) added.unique
    (c.push_reserved.ensures.items ∙ ap (λ ps. ps ++ c.len-index.result ∷ []) c.in_ok-reserve.ensures.items ∙ ap (λ i. places ++ i ∷ []) c.len-index.ensures.len)

pub returns-clause-allowed : goal.returns-clause-allowed
returns-clause-allowed c =
    let inside = c.self.inside in
    let slot : c.len-slot.result ≡ length inside.places.items = search rules in
    let absent : entry_of (text_map inside.texts.entries) c.args.text.now ≡ None = subst (λ g. entry_of g.texts c.args.text.now ≡ None) (sym c.self.view_is) c.requires.absent in
    rw (← c.self.view_is) (create-Allows inside.texts c.add_entry.new.texts inside.places.items c.args.text.now c.self.invariant absent (record { slot = c.len-slot.result; generation = 0 }) slot)

pub returns-clause-texts : goal.returns-clause-texts
returns-clause-texts c =
    let m = c.self.inside.texts in
    rw (← c.self.view_is) (text_map-updated m.entries c.add_entry.new.texts.entries c.args.text.now (Some (new_entry (record { slot = c.len-slot.result; generation = 0 }))) c.in_ok-add_entry.ensures.updates.0)
