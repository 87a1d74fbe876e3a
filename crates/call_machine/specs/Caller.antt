-- Who calls.
use Rattle.std.specs.Prelude.{◌^◌, ◌<◌}
use Rattle.table_shape.specs.Shape.{IsSound}
use Rattle.call_machine.specs.declared.caller.Caller.{Caller}

-- a seat of a table
pub record IsSoundCaller (caller : Caller) : Type 0 where
  pub shape : IsSound caller.shape
  pub seed : caller.seed < 2 ^ 32
  pub number : caller.number < caller.shape.seats
  pub cursor : caller.cursor < caller.shape.slots
