use native.Mathlib.Omega.{arith}
use Rattle.table_shape.proofs.Rows.{row_grows, heads_between}
use Rattle.table_shape.proofs.shape.heads.Goals as goal

pub overflow_sub-result : goal.overflow_sub-result
overflow_sub-result c =
    let grows = row_grows c.args.from c.args.to c.requires.levels.0 in
    omega (arith, grows, c.row_len.ensures.value, c.row_len-2.ensures.value)

pub returns-clause-value : goal.returns-clause-value
returns-clause-value c =
    let between = heads_between c.args.from c.args.to c.requires.levels.0 in
    omega (arith, between, c.row_len.ensures.value, c.row_len-2.ensures.value)
