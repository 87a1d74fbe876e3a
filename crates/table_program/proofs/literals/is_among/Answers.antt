use Rattle.std.proofs.Common.{sym, ◌∙◌, ap}
use Rattle.std.specs.Str.{bytes_eq}
use Rattle.table_program.proofs.StringCode.{among_at}
use Rattle.table_program.proofs.literals.is_among.Goals as goal

pub returns-then-eq : goal.returns-then-eq
returns-then-eq c = sym (among_at c.args.bytes.now c.args.literals.now c.loop-literal.literal-index _ c.args.text.now c.loop-literal-test.true
    (ap (bytes_eq c.args.text.now) (sym c.text.ensures.text) ∙ sym c.if-eq.ensures))
