use Rattle.std.proofs.Common.{◌≡◌, subst, sym, ap, ◌∙◌, Option, None}
use Rattle.std.specs.Option.{IsSome, option_copied_mut}
use Rattle.intern_log.proofs.Maps.{text_map-updated, entry_of-text_map}
use Rattle.intern_log.proofs.fields.set_entry.Goals as goal

not_both : {X : Type 0} (o : Option X) → IsSome o → o ≡ None → ⊥
not_both o some none = cc

pub returns-in-Some : goal.returns-in-Some
returns-in-Some c =
    let there = subst IsSome (entry_of-text_map c.args.entries.now.entries c.args.text.now) c.requires in
    text_map-updated c.args.entries.now (c.get_mut.follows.lender c.args.entry) c.args.text.now _ ((c.get_mut.follows.holds c.args.entry).3 there)

-- the text has an entry, so this is not reached
pub returns-in_default : goal.returns-in_default
returns-in_default c =
    let there = subst IsSome (entry_of-text_map c.args.entries.now.entries c.args.text.now) c.requires in
    let missing = sym c.get_mut.ensures.value ∙ ap option_copied_mut c.in_default.is in
    absurd (not_both _ there missing)
