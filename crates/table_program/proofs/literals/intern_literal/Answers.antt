use Rattle.std.proofs.Common.{List, ◌++◌, sym, ap, ◌∙◌, append-nil}
use Rattle.std.proofs.lemmas.List.{map-append}
use Rattle.name_scan.specs.FileTexts.{text_of}
use Rattle.table_program.specs.MadeEntries.{pair_of, pairs_of}
use Rattle.table_program.proofs.StringCode.{made_from, literal_interned, none_made}
use Rattle.table_program.proofs.literals.intern_literal.Goals as goal

pub returns-in_ok-push-in-Created-clause-run : goal.returns-in_ok-push-in-Created-clause-run
returns-in_ok-push-in-Created-clause-run c =
    let answer = c.in_ok-handle.ensures in
    let pushed = c.in_ok-push-in-Created.ensures.items in
    let made : List _ = c.args.made.now.items in
    literal_interned c.args.bytes.now c.args.literal c.text.result.now c.text.ensures.text c.args.plain.now c.intern.new.self c.in_ok-handle.field-0 answer.follows answer.new_slot answer.kinds c.requires.weak
    c.args.made.now.items c.push.new.self.items
    (ap (pairs_of c.args.bytes.now) pushed ∙ map-append (pair_of c.args.bytes.now) c.args.made.now.items _
    ∙ ap (λ x. pairs_of c.args.bytes.now c.args.made.now.items ++ made_from (text_of c.args.bytes.now c.args.literal) x) (sym c.in-Created.is))

pub returns-in_default-clause-run : goal.returns-in_default-clause-run
returns-in_default-clause-run c =
    let answer = c.in_ok-handle.ensures in
    literal_interned c.args.bytes.now c.args.literal c.text.result.now c.text.ensures.text c.args.plain.now c.intern.new.self c.in_ok-handle.field-0 answer.follows answer.new_slot answer.kinds c.requires.weak
    c.args.made.now.items c.args.made.now.items
    (sym (append-nil (pairs_of c.args.bytes.now c.args.made.now.items))
    ∙ ap (λ x. pairs_of c.args.bytes.now c.args.made.now.items ++ x) (sym (none_made (text_of c.args.bytes.now c.args.literal) c.in_ok-handle.field-0 c.in_default.not-Created)))
