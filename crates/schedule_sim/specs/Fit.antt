-- Which tables a script may be of.
use Rattle.std.specs.Prelude.{◌≤◌}
use Rattle.table_shape.specs.declared.shape.Shape.{Shape}
use Rattle.table_shape.specs.Shape.{IsSound, words_of}

-- a script may be of a table of the shape
pub record IsFit (shape : Shape) : Type 0 where
  pub sound : IsSound shape
  pub words : words_of shape ≤ 1048576
  pub seats : shape.seats ≤ 16
