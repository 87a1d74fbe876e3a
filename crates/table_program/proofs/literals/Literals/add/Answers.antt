use Rattle.std.proofs.Common.{◌≤◌, length, arith}
use Rattle.table_program.proofs.LiteralRuns.{created_few, literals_more}
use Rattle.table_program.proofs.literals.Literals.add.Goals as goal

pub intern_literal-requires-clause-room : goal.intern_literal-requires-clause-room
intern_literal-requires-clause-room c =
    let so_far = c.requires.so_far in
    let few = created_few _ _ so_far.0 _ _ _ _ so_far.2 in
    omega (arith, few.0, so_far.1)

pub overflow_add-self : goal.overflow_add-self
overflow_add-self c =
    let so_far = c.requires.so_far in
    let few = created_few _ _ so_far.0 _ _ _ _ so_far.2 in
    let small : c.args.self.now.count ≤ length so_far.0 = few.1 in
    omega (arith, small, so_far.1)

pub returns-in_ok-intern_literal-in-Literal : goal.returns-in_ok-intern_literal-in-Literal
returns-in_ok-intern_literal-in-Literal c =
    let after = c.in_ok-intern_literal-in-Literal.ensures in
    record {
      added = λ found so_far.
          literals_more _ c.args.bytes.now found c.args.token _ _ _ _ _ _ _ so_far c.requires.window c.in-Literal.is c.requires.within
          after.weak (after.within so_far.made_within) (after.run _ so_far.run) c.push_back.ensures.items;
    }
