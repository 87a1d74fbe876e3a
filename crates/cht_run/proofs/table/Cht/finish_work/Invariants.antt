use Rattle.std.proofs.Common.{◌≡◌, Some}
use Rattle.call_machine.specs.declared.work.Work.{Work as Working}
use Rattle.cht_run.specs.Ended.{KeepsFields}
use Rattle.cht_run.specs.Seats.{work_of, IsOf}
use Rattle.cht_run.specs.Works.{IsWorkOf}
use Rattle.cht_run.proofs.Waited.{IsSoFar}
use Rattle.cht_run.proofs.table.Cht.finish_work.Given as goal

abbrev pub invariant-loop : goal.invariant-loop
invariant-loop g l = record {
  of : IsOf l.self l.seat;
  fields : KeepsFields l.fn.seat l.seat;
  work : (state : Working) × IsWorkOf l.work state l.seat;
  far : (state : Working) → work_of l.fn.seat ≡ Some state → IsSoFar l.self.origin.table state l.fn.seat l.seat l.work;
}
