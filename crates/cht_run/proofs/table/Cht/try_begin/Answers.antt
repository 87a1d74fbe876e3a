use Rattle.std.proofs.Common.{Some, sym, ap, subst}
use Rattle.call_machine.specs.declared.begin.Left.TheVariants as left
use Rattle.call_machine.specs.declared.work.Work.TheVariants as work
use Rattle.cht_run.specs.declared.works.BeginEnd.{BeginEnd}
use Rattle.cht_run.specs.Beginnings.{begins_at, ended}
use Rattle.cht_run.specs.Runs.{Ran}
use Rattle.cht_run.specs.Seats.{sight}
use Rattle.cht_run.specs.Works.{begin_call}
use Rattle.cht_run.proofs.WorkCalls.{work_spent, work_busy, work_at_bound, work_begun}
use Rattle.cht_run.proofs.table.Cht.try_begin.Goals as goal

pub returns-in-Spent-clause-began : goal.returns-in-Spent-clause-began
returns-in-Spent-clause-began c =
    work_spent c.args.self.now c.args.seat.now c.run_begin.new.seat c.args.task c.requires.of c.in-Spent.counter
    (subst (λ (e : BeginEnd). Ran (sight c.args.seat.now) (begin_call c.args.task) (sight c.run_begin.new.seat) (begins_at (sight c.args.seat.now) (ended e))) c.in-Spent.is c.run_begin.ensures.ran)

pub returns-in-Busy-clause-began : goal.returns-in-Busy-clause-began
returns-in-Busy-clause-began c =
    work_busy c.args.self.now c.args.seat.now c.run_begin.new.seat c.args.task c.requires.of
    (subst (λ (e : BeginEnd). Ran (sight c.args.seat.now) (begin_call c.args.task) (sight c.run_begin.new.seat) (begins_at (sight c.args.seat.now) (ended e))) c.in-Busy.is c.run_begin.ensures.ran)

pub returns-in-AtBound-clause-began : goal.returns-in-AtBound-clause-began
returns-in-AtBound-clause-began c =
    work_at_bound c.args.self.now c.args.seat.now c.run_begin.new.seat c.args.task c.requires.of c.in-AtBound.direction c.in-AtBound.level
    (subst (λ (e : BeginEnd). Ran (sight c.args.seat.now) (begin_call c.args.task) (sight c.run_begin.new.seat) (begins_at (sight c.args.seat.now) (ended e))) c.in-AtBound.is c.run_begin.ensures.ran)

pub returns-in-Clean-clause-began : goal.returns-in-Clean-clause-began
returns-in-Clean-clause-began c =
    work_begun c.args.self.now c.args.seat.now c.run_begin.new.seat c.args.task c.requires.of left.Clean _
    (λ i. Some (work.Clean (record { along = sym c.begun-clean.ensures.along i; stage = sym c.begun-clean.ensures.stage i })))
    (subst (λ (e : BeginEnd). Ran (sight c.args.seat.now) (begin_call c.args.task) (sight c.run_begin.new.seat) (begins_at (sight c.args.seat.now) (ended e))) c.in-Clean.is c.run_begin.ensures.ran)

pub returns-in-Resize-clause-began : goal.returns-in-Resize-clause-began
returns-in-Resize-clause-began c =
    work_begun c.args.self.now c.args.seat.now c.run_begin.new.seat c.args.task c.requires.of (left.Resize c.in-Resize.direction c.in-Resize.level) _
    (ap (λ r. Some (work.Resize r)) (sym c.begun.ensures.value))
    (subst (λ (e : BeginEnd). Ran (sight c.args.seat.now) (begin_call c.args.task) (sight c.run_begin.new.seat) (begins_at (sight c.args.seat.now) (ended e))) c.in-Resize.is c.run_begin.ensures.ran)
