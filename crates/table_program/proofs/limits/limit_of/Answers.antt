use Rattle.std.proofs.Common.{ap, ◌∙◌}
use Rattle.std.specs.Option.{option_map}
use Rattle.table_program.specs.declared.outcome.Limit.TheVariants.{Text, Names, Literals}
use Rattle.table_program.specs.declared.outcome.Note.TheVariants as note
use Rattle.table_program.specs.Limits.{above, most_names, most_literals}
use Rattle.table_program.proofs.LongTexts.{first_of_three}
use Rattle.table_program.proofs.limits.limit_of.Goals as goal

pub returns : goal.returns
returns c =
    let text = c.long_text_note-text.ensures ∙ ap (option_map (λ n. note.Limit Text n)) c.count_tokens-census.ensures.first_longer in
    let names = c.above-names.ensures ∙ ap (above Names most_names) c.count_tokens-census.ensures.names in
    let literals = c.above-literals.ensures ∙ ap (above Literals most_literals) c.count_tokens-census.ensures.literals in
    record {
      note = first_of_three c.or.result c.or-2.result c.long_text_note-text.result c.above-names.result c.above-literals.result _ _ _
          c.or-2.ensures c.or.ensures text names literals;
    }
