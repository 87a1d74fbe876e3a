use Rattle.table_program.proofs.SymbolNames.{names_begin}
use Rattle.table_program.proofs.names.Names.new.Goals as goal

pub returns : goal.returns
returns c = record { none = λ bytes. names_begin c.args.hold bytes _ _ c.new.ensures.empty c.in_ok-with_capacity.ensures }
