use Rattle.std.proofs.Common.{arith}
use Rattle.table_program.proofs.SymbolNames.{created_few}
use Rattle.table_program.proofs.names.Names.add.Goals as goal

pub hold_token-requires-clause-room : goal.hold_token-requires-clause-room
hold_token-requires-clause-room c =
    let so_far = c.requires.so_far in
    let few = created_few _ c.args.bytes.now so_far.0 _ _ _ _ so_far.2.run in
    omega (arith, few.0, so_far.1)

pub hold_token-requires-clause-fits : goal.hold_token-requires-clause-fits
hold_token-requires-clause-fits c =
    let so_far = c.requires.so_far in
    let few = created_few _ c.args.bytes.now so_far.0 _ _ _ _ so_far.2.run in
    omega (arith, few.1, so_far.1)
