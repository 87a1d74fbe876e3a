use Rattle.std.proofs.Common.{subst}
use Rattle.cht_run.specs.declared.works.Tried.{Tried}
use Rattle.cht_run.specs.Works.{BeginsWork}
use Rattle.cht_run.proofs.Waited.{work_done}
use Rattle.cht_run.proofs.table.Cht.wait_for_work.Goals as goal

pub returns-in-Begun-clause-finished : goal.returns-in-Begun-clause-finished
returns-in-Begun-clause-finished g c =
    work_done c.args.self.now c.args.task c.args.seat.now c.begin_wait.new.seat c.finish_work.new.seat c.in-Begun.work c.finish_work.result c.begin_wait.ensures.of
    (subst (λ (r : Tried). BeginsWork c.args.self.now.origin.table c.args.task c.args.seat.now c.begin_wait.new.seat r) c.in-Begun.is c.begin_wait.ensures.began) c.finish_work.ensures.finished
