use Rattle.table_program.proofs.LiteralRuns.{literals_begin}
use Rattle.table_program.proofs.literals.Literals.new.Goals as goal

pub returns : goal.returns
returns c = record { none = λ bytes. literals_begin c.args.hold bytes _ _ _ c.new.ensures.empty c.new-2.ensures.items c.in_ok-with_capacity.ensures }
