use Rattle.std.proofs.Common.{Some, sym, ap, ◌∙◌}
use Rattle.std.specs.Option.{option_map, option_copied}
use Rattle.intern_log.proofs.Maps.{text_at-lookup}
use Rattle.intern_log.proofs.fields.text_of.Goals as goal

pub returns-in-Some : goal.returns-in-Some
returns-in-Some c =
    ap Some c.as_slice.ensures.value
    ∙ ap (option_map (λ text. text.items)) (sym (ap option_copied c.in-Some.is) ∙ c.get.ensures.value)
    ∙ sym (text_at-lookup c.args.texts.now.entries c.args.handle)

pub returns-in-None : goal.returns-in-None
returns-in-None c =
    ap (option_map (λ text. text.items)) (sym (ap option_copied c.in-None.is) ∙ c.get.ensures.value)
    ∙ sym (text_at-lookup c.args.texts.now.entries c.args.handle)
