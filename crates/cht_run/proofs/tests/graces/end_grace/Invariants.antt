use Rattle.cht_run.specs.Ended.{Keeps}
use Rattle.cht_run.specs.Graces.{IsGraceOf}
use Rattle.cht_run.specs.Seats.{IsOf}
use Rattle.cht_run.proofs.tests.graces.end_grace.Given as goal

abbrev pub invariant-loop : goal.invariant-loop
invariant-loop g l = record {
  of : IsOf l.cht l.seat;
  keeps : Keeps l.fn.seat l.seat;
  grace : IsGraceOf l.cht.origin.table l.grace l.seat;
}
