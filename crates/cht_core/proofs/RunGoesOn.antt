-- A call is under way from its start on, and stays so by each move after which it still runs.
use Rattle.std.proofs.Common.{◌≡◌, List, [], ◌∷◌, ◌++◌, ℕ, Some, refl, sym, ap, subst, ◌∙◌}
use Rattle.std.proofs.lemmas.List.Elements.{All-nil, All-cons, All-append}
use Rattle.atomic_step.specs.declared.plan.Plan.{Plan}
use Rattle.atomic_step.specs.declared.plan.Plan.TheVariants as plan
use Rattle.atomic_step.specs.declared.step.Step.{Step as AtomicStep}
use Rattle.call_machine.specs.declared.call.Call.{Call}
use Rattle.call_machine.specs.declared.machine.Machine.{Machine}
use Rattle.call_machine.specs.declared.machine.Own.{Own}
use Rattle.call_machine.specs.Machine.{started, plan_of}
use Rattle.cht_core.specs.declared.seat.Seat.TheVariants as doing
use Rattle.cht_core.specs.Begins.{HasBytes}
use Rattle.cht_core.specs.Runs.{Move, Makes, LeadsTo, IsNoStart, IsUnderWay}
use Rattle.cht_core.specs.State.{Core, IsCore, CanStart, seat_in, at_rest, seat_after, with_seat}
use Rattle.cht_core.proofs.StateStarts.{seat_same, idle_below}

-- one more move
leads_on : (c d new : Core) (moves : List Move) (move : Move) → LeadsTo c moves d → Makes d move new → LeadsTo c (moves ++ move ∷ []) new
leads_on c d new [] move same makes = (new, subst (λ (x : Core). Makes x move new) (sym same) makes, refl)
leads_on c d new (first ∷ moves) move leads makes = (leads.0, leads.1, leads_on leads.0 d new moves move leads.2 makes)

pub under_way_begins : (c : Core) → IsCore c → (k : ℕ) (own : Own) (asked : Call) (s : AtomicStep) → seat_in c.seats k ≡ Some (doing.Idle own) → HasBytes asked → CanStart c own asked →
    plan_of (started c.table.kind c.table.shape c.seed own asked) ≡ plan.Step s →
    IsUnderWay c k own asked [] (with_seat c k (seat_after (started c.table.kind c.table.shape c.seed own asked))) (started c.table.kind c.table.shape c.seed own asked)
under_way_begins c core k own asked s at bytes can goes = record {
  idle = at;
  bytes = bytes;
  can = can;
  leads = refl;
  alone = All-nil (IsNoStart k);
  running =
      let first : Machine = started c.table.kind c.table.shape c.seed own asked in
      seat_same c.seats k (Some (seat_after first)) (idle_below c core k own at) ∙ ap (λ (p : Plan). Some (at_rest first p)) goes;
}

pub under_way_goes_on : (c d new : Core) (k : ℕ) (own : Own) (asked : Call) (moves : List Move) (move : Move) (m n : Machine) → IsUnderWay c k own asked moves d m → Makes d move new →
    IsNoStart k move → seat_in new.seats k ≡ Some (doing.Running n) → IsUnderWay c k own asked (moves ++ move ∷ []) new n
under_way_goes_on c d new k own asked moves move m n is makes none running = record {
  idle = is.idle;
  bytes = is.bytes;
  can = is.can;
  leads = leads_on _ d new moves move is.leads makes;
  alone = All-append (IsNoStart k) moves (move ∷ []) is.alone (All-cons (IsNoStart k) move [] none (All-nil (IsNoStart k)));
  running = running;
}
