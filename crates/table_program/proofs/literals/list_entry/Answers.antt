use Rattle.std.proofs.Common.{ℕ, List, map, sym, ap, ◌∙◌}
use Rattle.intern_log.specs.Finals.{is_among_texts}
use Rattle.table_program.specs.declared.literals.MadeEntry.{MadeEntry}
use Rattle.name_scan.specs.FileTexts.{text_of}
use Rattle.table_program.proofs.StringCode.{listing_kept, listing_killed}
use Rattle.table_program.proofs.literals.list_entry.Goals as goal

pub returns-then-is_among-clause-listing : goal.returns-then-is_among-clause-listing
returns-then-is_among-clause-listing c =
    let final = map (text_of c.args.bytes.now) c.args.final_literals.now in
    λ (literals : List (List ℕ)) (listed : List MadeEntry) (left : List MadeEntry) (killed : ℕ) listing.
    listing_kept c.args.bytes.now final literals listed left c.args.entry c.args.plain.now.texts c.args.plain.now.created killed
    (ap (is_among_texts final) (sym c.text.ensures.text) ∙ sym c.if-is_among.ensures) listing

pub returns-clause-listing : goal.returns-clause-listing
returns-clause-listing c =
    let final = map (text_of c.args.bytes.now) c.args.final_literals.now in
    λ (literals : List (List ℕ)) (listed : List MadeEntry) (left : List MadeEntry) (killed : ℕ) listing.
    listing_killed c.args.bytes.now final literals listed left c.args.entry c.args.plain.now c.kill.new.self killed c.kill.result
    (ap (is_among_texts final) (sym c.text.ensures.text) ∙ sym c.if-is_among.ensures) c.kill.ensures.answer.1 c.kill.ensures.killed listing
