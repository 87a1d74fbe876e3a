use Rattle.std.proofs.Common.{◌≡◌, false, take}
use Rattle.intern_log.specs.Finals.{is_among_texts}
use Rattle.table_program.specs.MadeEntries.{texts_of}
use Rattle.table_program.proofs.literals.is_among.Given as goal

abbrev pub invariant-loop-literal : goal.invariant-loop-literal
invariant-loop-literal l = is_among_texts (texts_of l.bytes (take l.literal-index l.literals)) l.text ≡ false
