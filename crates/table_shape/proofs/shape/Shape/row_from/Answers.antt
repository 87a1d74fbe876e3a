use Rattle.std.proofs.Common.{◌+◌}
use native.Mathlib.Omega.{arith}
use Rattle.table_shape.proofs.Rows.{row_within}
use Rattle.table_shape.proofs.shape.Shape.row_from.Goals as goal

pub returns-clause-inside : goal.returns-clause-inside
returns-clause-inside c =
    let shape = c.args.self.now in
    let within = row_within shape.min_level c.args.row (shape.max_level + 1) c.requires.row.0 (omega (arith, c.requires.row.1)) in
    omega (arith, within, c.heads.ensures.value)
