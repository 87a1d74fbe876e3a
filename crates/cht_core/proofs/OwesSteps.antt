-- What the log says that a seat has, it is at: so it is after each step of its machine.
use Rattle.std.proofs.Common.{◌≡◌, ℕ, ◌^◌, ◌<◌, List, Option, sym, ap, subst, ◌∙◌}
use Rattle.table_shape.specs.declared.shape.Shape.{Shape}
use Rattle.intern_log.specs.declared.event.What.{What}
use Rattle.atomic_step.specs.declared.plan.Plan.{Plan}
use Rattle.atomic_step.specs.declared.plan.Plan.TheVariants as plan
use Rattle.atomic_step.specs.declared.step.Step.{Step}
use Rattle.atomic_step.specs.Event.{event_of}
use Rattle.atomic_step.specs.SoundStep.{CanBeFound, CanFollow}
use Rattle.atomic_step.specs.Turn.{event_by}
use Rattle.call_machine.specs.declared.machine.Machine.{Machine}
use Rattle.call_machine.specs.declared.machine.Machine.TheVariants as machine
use Rattle.call_machine.specs.Machine.{shape_of, text_of, plan_of, got_of}
use Rattle.call_machine.specs.Machine as machines
use Rattle.call_machine.specs.SoundMachine.{IsSoundMachine, FitsMachine}
use Rattle.call_machine.specs.WholeMachine.{has_lock}
use Rattle.call_machine.proofs.Machines.{plan_part, got_part, plan_is, got_is, fits_part}
use Rattle.call_machine.proofs.WorkLock.{lock_law}
use Rattle.cht_core.specs.declared.seat.Seat.TheVariants as doing
use Rattle.cht_core.specs.declared.table.Table.{Table}
use Rattle.cht_core.specs.Flow.{Flow}
use Rattle.cht_core.specs.Memory.{Memory, found}
use Rattle.cht_core.specs.Owes.{Owes}
use Rattle.cht_core.specs.Past.{Past, told, MayTell, kind_of}
use Rattle.cht_core.specs.Slots.{Slots}
use Rattle.cht_core.specs.TableState.{IsTable}
use Rattle.cht_core.specs.View.{IsOfSeat, KnowsMachine}
use Rattle.cht_core.proofs.OwesCalls.{HasAtMost, call_has, begin_has}
use Rattle.cht_core.proofs.OwesKept.{OwnsAtMost, owns_after}
use Rattle.cht_core.proofs.OwesWorks.{poll_has, sweep_has}

-- after a step of any machine, but for the resize lock
part_has : (t : Table) (m : Memory) (p : Past) (f : Flow) (i load : ℕ) (passed : List ℕ) (k : Machine) (word : ℕ) → Slots t m p → IsSoundMachine k → KnowsMachine m p f i load passed k
    → CanFollow (shape_of k) (plan_part k) word → Owes p i (doing.Running k) → HasAtMost (told p i (event_by (text_of k) (plan_part k) word)) i (doing.Running (got_part k word))
part_has t m p f i load passed (machine.Call c w g) word slots sound known fits owes = call_has p i c w g word sound.0 fits owes
part_has t m p f i load passed (machine.Begin b) word slots sound known fits owes = begin_has p i b word owes
part_has t m p f i load passed (machine.Poll q) word slots sound known fits owes = poll_has t m p f i q.caller q.work q.answer word slots sound.work known.1 fits owes
part_has t m p f i load passed (machine.Sweep s) word slots sound known fits owes = sweep_has t m p f i s word slots sound known fits owes

-- a seat has no more than what it is at after each step of its machine
pub owes_step : (t : Table) (m : Memory) (p : Past) (f : Flow) (i load : ℕ) (passed : List ℕ) (k : Machine) (s : Step) → IsTable t m p f → IsOfSeat t p.now i k
    → KnowsMachine m p f i load passed k → Owes p i (doing.Running k) → plan_of k ≡ plan.Step s → CanBeFound t.shape s (found s m) → found s m < 2 ^ 64
    → MayTell (kind_of t) p i (event_of (text_of k) s (found s m)) → Owes (told p i (event_of (text_of k) s (found s m))) i (doing.Running (got_of k (found s m)))
owes_step t m p f i load passed k s table of known owes planned can small may =
    let word : ℕ = found s m in
    let fits : FitsMachine k word = subst (λ (next : Plan). CanFollow (shape_of k) next word) (sym planned) (subst (λ (shape : Shape). CanBeFound shape s word) (sym of.shape) can) in
    let part : plan_part k ≡ plan.Step s = sym (plan_is k) ∙ planned in
    let before = part_has t m p f i load passed k word table.slots of.sound known (fits_part k word fits) owes in
    let of_step = subst (λ (next : Plan). HasAtMost (told p i (event_by (text_of k) next word)) i (doing.Running (got_part k word))) part before in
    let has = subst (λ (next : Machine). HasAtMost (told p i (event_of (text_of k) s word)) i (doing.Running next)) (sym (got_is k word)) of_step in
    let same : machines.event_of k word ≡ event_of (text_of k) s word = ap (λ (next : Plan). event_by (text_of k) next word) planned in
    record {
      claimed = has.claimed;
      unlinked = has.unlinked;
      locked = has.locked;
      owner = subst (λ (e : Option What). OwnsAtMost (told p i e) i (has_lock (got_of k word))) same
          (owns_after p i (machines.event_of k word) (has_lock k) (has_lock (got_of k word)) owes.owner (lock_law k word fits));
    }
