use Rattle.table_program.proofs.SymbolNames.{name_interned}
use Rattle.table_program.proofs.names.hold_name.Goals as goal

pub hold_handle-requires-clause-interned : goal.hold_handle-requires-clause-interned
hold_handle-requires-clause-interned c =
    (c.requires.run.0, c.args.name.now, name_interned _ _ c.args.plain.now c.intern_name.new.plain _ c.args.counts.now _ _ _ c.requires.run.1 c.in_ok-handle.ensures.interned)

pub returns-clause-held : goal.returns-clause-held
returns-clause-held c = λ names run.
    c.hold_handle.ensures.held names c.args.name.now (name_interned _ _ c.args.plain.now c.intern_name.new.plain _ c.args.counts.now _ _ _ run c.in_ok-handle.ensures.interned)
