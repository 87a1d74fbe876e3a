-- The passes of cleans and sweeps look at no more nodes than there are slots.
use Rattle.std.proofs.Common.{◌≡◌, ℕ, ◌≤◌, List, Option, Some, None, subst}
use Rattle.intern_log.specs.declared.event.Event.{Event}
use Rattle.atomic_step.specs.declared.answer.Answer.{Answer}
use Rattle.atomic_step.specs.declared.answer.Answer.TheVariants as answer
use Rattle.call_machine.specs.declared.clean.Clean.{Clean}
use Rattle.call_machine.specs.declared.machine.Machine.TheVariants as machine
use Rattle.call_machine.specs.declared.poll.Polling.{Polling}
use Rattle.call_machine.specs.declared.sweep.Sweeping.{Sweeping}
use Rattle.call_machine.specs.declared.work.Work.{Work}
use Rattle.call_machine.specs.declared.work.Work.TheVariants as work
use Rattle.call_machine.specs.Poll.{work_left}
use Rattle.cht_core.specs.declared.seat.Seat.TheVariants as doing
use Rattle.cht_core.specs.declared.table.Table.{Table}
use Rattle.cht_core.specs.Bounds.{work_of}
use Rattle.cht_core.specs.Flow.{Flow}
use Rattle.cht_core.specs.Invariant.{Inv}
use Rattle.cht_core.specs.Memory.{Memory}
use Rattle.cht_core.specs.Passes.{WorkFinds, PollFinds, PassesFind}
use Rattle.cht_core.specs.Past.{past_of}
use Rattle.cht_core.specs.View.{View}
use Rattle.cht_core.proofs.FewSeats.{of_some}
use Rattle.intern_log.specs.Now.{Now}
use Rattle.std.specs.Prelude.{IfSome}

-- a clean that is polled is left, or done
polled : (t : Table) (n : Now) (log : List Event) (f : Flow) (k : ℕ) (c : Clean) (o : Option Answer) → IfSome (work_left (work.Clean c) o) (WorkFinds t n log f k) → PollFinds t n log k (work.Clean c) o
    → c.along.cleaning.passed ≤ t.shape.slots
polled t n log f k c None finds told = finds.0
polled t n log f k c (Some (answer.Done did)) finds told = told.0
polled t n log f k c (Some _) finds told = finds.0

module _ (t : Table) (m : Memory) (seat : ℕ → Option View) (log : List Event) (inv : Inv t m seat log) (k : ℕ) (v : View) (is : seat k ≡ Some v) where
  abbrev n : Now
  n = (past_of t.shape.min_level log).now

  pub few_unfinished : (c : Clean) → work_of v.seat ≡ Some (work.Clean c) → c.along.cleaning.passed ≤ t.shape.slots
  few_unfinished c has = (of_some (WorkFinds t n log inv.flow k) (work_of v.seat) (work.Clean c) has (inv.passes k v is).0).0

  pub few_polled : (q : Polling) (c : Clean) → v.seat ≡ doing.Running (machine.Poll q) → q.work ≡ work.Clean c → c.along.cleaning.passed ≤ t.shape.slots
  few_polled q c running clean =
      let finds : PassesFind t n log inv.flow k (doing.Running (machine.Poll q)) = subst (PassesFind t n log inv.flow k) running (inv.passes k v is) in
      polled t n log inv.flow k c q.answer (subst (λ (w : Work). IfSome (work_left w q.answer) (WorkFinds t n log inv.flow k)) clean finds.0) (subst (λ (w : Work). PollFinds t n log k w q.answer) clean finds.1)

  pub few_swept : (s : Sweeping) → v.seat ≡ doing.Running (machine.Sweep s) → s.along.cleaning.passed ≤ t.shape.slots
  few_swept s running =
      let finds : PassesFind t n log inv.flow k (doing.Running (machine.Sweep s)) = subst (PassesFind t n log inv.flow k) running (inv.passes k v is) in
      finds.1.0
