use Rattle.std.proofs.Common.{Some, sym, ap, ◌∙◌}
use Rattle.std.specs.Str.{bytes_eq}
use Rattle.std.proofs.lemmas.Slice.Eq.{bytes_eq-Decides}
use Rattle.plain_interner.proofs.TextMaps.{key_passes, entry_of-text_map}
use Rattle.plain_interner.proofs.entries.entry_of_text.Goals as goal

pub returns-clause-found : goal.returns-clause-found
returns-clause-found c =
    let found = c.in-Some.ensures in
    let text = c.args.text.now in
    let key = c.in-Some.field-0-1.now in
    found.entry ∙ ap (λ k. Some (k, c.in-Some.entry.now)) (sym ((bytes_eq-Decides text key).0 (key_passes (bytes_eq text) c.args.texts.now.entries key (sym found.key))))

pub returns-in_default-clause-none : goal.returns-in_default-clause-none
returns-in_default-clause-none c = entry_of-text_map c.args.texts.now.entries c.args.text.now ∙ sym c.in_default.ensures.value
