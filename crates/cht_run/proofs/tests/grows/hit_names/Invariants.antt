use Rattle.cht_run.specs.Seats.{IsOf}
use Rattle.cht_run.proofs.tests.grows.hit_names.Given as goal

abbrev pub invariant-loop-number : goal.invariant-loop-number
invariant-loop-number g l = record { of : IsOf l.cht l.seat }
