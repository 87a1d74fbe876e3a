-- Each step of any kind keeps the invariant.
use Rattle.std.proofs.Common.{◌≡◌, ◌==◌, Bool, true, false, cond, ℕ, ◌+◌, ◌<◌, ◌≤◌, ◌^◌, List, ◌++◌, Option, Some, None, sym, ap, subst}
use Rattle.table_shape.specs.declared.shape.Shape.{Shape}
use Rattle.table_shape.specs.declared.place.Place.TheVariants as place
use Rattle.intern_log.specs.declared.event.Event.{Event}
use Rattle.intern_log.specs.declared.event.Handle.{Handle}
use Rattle.intern_log.specs.declared.event.Kind.TheVariants.{Counted, Weak}
use Rattle.intern_log.specs.declared.event.What.{What}
use Rattle.intern_log.specs.declared.event.What.TheVariants as what
use Rattle.atomic_step.specs.declared.access.StepKind.{StepKind}
use Rattle.atomic_step.specs.declared.plan.Plan.{Plan}
use Rattle.atomic_step.specs.declared.plan.Plan.TheVariants as plan
use Rattle.atomic_step.specs.declared.count.Change.TheVariants.{Drop, Permanent, Kill}
use Rattle.atomic_step.specs.declared.step.Step.{Step}
use Rattle.atomic_step.specs.declared.step.Step.TheVariants as step
use Rattle.atomic_step.specs.Count.{holds_of, handle_at}
use Rattle.atomic_step.specs.Step.{access_of}
use Rattle.atomic_step.specs.Event.{event_of}
use Rattle.atomic_step.specs.SoundStep.{IsSoundStep, CanFollow, CanBeFound}
use Rattle.atomic_step.specs.Turn.{event_by}
use Rattle.call_machine.specs.declared.machine.Machine.{Machine}
use Rattle.call_machine.specs.Machine as machines
use Rattle.call_machine.specs.Machine.{plan_of, got_of, text_of, shape_of, number_of}
use Rattle.call_machine.specs.SoundMachine.{FitsMachine}
use Rattle.call_machine.proofs.Machines.{step_law, got_law, same_law}
use Rattle.cht_core.specs.declared.seat.Seat.{Seat}
use Rattle.cht_core.specs.declared.seat.Seat.TheVariants as doing
use Rattle.cht_core.specs.declared.table.Table.{Table}
use Rattle.std.specs.Option.{option_map}
use Rattle.cht_core.specs.Backs.{Backs, Goes, KeepsTable}
use Rattle.cht_core.specs.Bounds.{Bounds}
use Rattle.cht_core.specs.Flow.{Flow}
use Rattle.cht_core.specs.Graces.{GrowsWithFew}
use Rattle.cht_core.specs.Invariant.{Inv, Moves, Keeps, events_of}
use Rattle.cht_core.specs.Looks.{LooksAtFew}
use Rattle.cht_core.specs.Memory.{Memory, IsMade, found}
use Rattle.cht_core.specs.Owes.{Owes, IsAllOf}
use Rattle.cht_core.specs.Passes.{PassesFind}
use Rattle.cht_core.specs.Past.{Past, past_of, told, MayTell, kind_of}
use Rattle.cht_core.specs.View.{View, IsOfSeat, KnowsMachine, Knows, view_after}
use Rattle.cht_core.proofs.BoundsKept.{draws_fit, raise_fits, bounds_kept_by_step}
use Rattle.cht_core.proofs.EdgesKept.{unlinked_lead_after}
use Rattle.cht_core.proofs.FewSteps.{machine_few}
use Rattle.cht_core.proofs.Finds.{finds}
use Rattle.cht_core.proofs.FoundSteps.{machine_finds}
use Rattle.cht_core.proofs.GraceStages.{CanRaise}
use Rattle.cht_core.proofs.Keeps.{step_keeps}
use Rattle.cht_core.proofs.KindSteps.{StepsKeep}
use Rattle.cht_core.proofs.LooksSteps.{machine_looks}
use Rattle.cht_core.proofs.MachineSteps.{Does, machine_does}
use Rattle.cht_core.proofs.OfSeats.{of_seat_after}
use Rattle.cht_core.proofs.OwesSteps.{owes_step}

-- what is known of a seat whose call is running
running_knows : (t : Table) (m : Memory) (p : Past) (f : Flow) (i : ℕ) (v : View) (k : Machine) → v.seat ≡ doing.Running k → Knows t m p f i v
    → IsOfSeat t p.now i k × KnowsMachine m p f i v.load v.passed k
running_knows t m p f i v k is knows = go v.seat is knows
  where
    go : (s : Seat) → s ≡ doing.Running k → Knows t m p f i (record v { seat = s }) → IsOfSeat t p.now i k × KnowsMachine m p f i v.load v.passed k
    go s same h = subst (λ (a : Seat). Knows t m p f i (record v { seat = a })) same h

-- the event of a machine's step is that of the step
pub event_is : (k : Machine) (s : Step) (word : ℕ) → plan_of k ≡ plan.Step s → machines.event_of k word ≡ event_of (text_of k) s word
event_is k s word is = ap (λ (next : Plan). event_by (text_of k) next word) is

-- an event that comes by a test is the one that it comes with
same_drop : (b : Bool) (k h : Handle) → cond b (Some (what.Drop k)) None ≡ Some (what.Drop h) → k ≡ h
same_drop true k h is = cc
same_drop false k h is = absurd (cc)

another : (b : Bool) (w : What) (h : Handle) → (w ≡ what.Drop h → ⊥) → cond b (Some w) None ≡ Some (what.Drop h) → ⊥
another true w h differ is = differ cc
another false w h differ is = absurd (cc)

-- a drop is of a handle that the seat holds
drops_held : (t : Table) (m : Memory) (p : Past) (f : Flow) (i : ℕ) (text : List ℕ) (s : Step) → Backs t m p f i text s → (h : Handle) → event_of text s (found s m) ≡ Some (what.Drop h) → 1 ≤ f.holds i h
drops_held t m p f i text (step.SeeHandle Drop k) backs h is = subst (λ j. 1 ≤ f.holds i j) (same_drop (holds_of (m (place.Count k.slot)) == 65535) k h is) backs.1
drops_held t m p f i text (step.SeeHandle Permanent k) backs h is = absurd (cc)
drops_held t m p f i text (step.SeeHandle Kill k) backs h is = absurd (cc)
drops_held t m p f i text (step.ChangeEntry Drop k count) backs h is = subst (λ j. 1 ≤ f.holds i j) (same_drop (m (place.Count k.slot) == count) k h is) backs.0.1
drops_held t m p f i text (step.ChangeEntry Permanent k count) backs h is = absurd (another (m (place.Count k.slot) == count) (what.Perm k) h (λ e. cc) is)
drops_held t m p f i text (step.ChangeEntry Kill k count) backs h is = absurd (another (m (place.Count k.slot) == count) (what.Kill k) h (λ e. cc) is)
drops_held t m p f i text (step.SeeEntry Counted slot) backs h is = absurd (cc)
drops_held t m p f i text (step.SeeEntry Weak slot) backs h is = absurd (found_none (holds_of (m (place.Count slot)) == 0) is)
  where
    found_none : (b : Bool) → cond b None (Some (what.Found text (handle_at slot (m (place.Count slot))))) ≡ Some (what.Drop h) → ⊥
    found_none true e = absurd (cc)
    found_none false e = absurd (cc)
drops_held t m p f i text (step.TakeEntry slot count) backs h is = absurd (another (m (place.Count slot) == count) (what.Take text (handle_at slot count)) h (λ e. cc) is)
drops_held t m p f i text (step.ClaimSlot slot) backs h is = absurd (another (m (place.Claim slot) == 0) (what.Claim slot) h (λ e. cc) is)
drops_held t m p f i text (step.CreateEntry k row bucket head) backs h is = absurd (another (m (place.Head row bucket) == head) (what.Create text k) h (λ e. cc) is)
drops_held t m p f i text (step.LockHead row bucket head) backs h is = absurd (another (m (place.Head row bucket) == head) (what.Lock row bucket) h (λ e. cc) is)
drops_held t m p f i text (step.TakeResizeLock number) backs h is = absurd (another (m place.ResizeLock == 0) what.ResizeTaken h (λ e. cc) is)
drops_held t m p f i text _ backs h is = absurd (cc)

module _ (t : Table) (m m' : Memory) (seat seat' : ℕ → Option View) (log : List Event) (i : ℕ) (v : View) (k : Machine) (s : Step) (inv : Inv t m seat log) (is : seat i ≡ Some v)
    (running : v.seat ≡ doing.Running k) (planned : plan_of k ≡ plan.Step s) (made : IsMade s m m') (keeps_table : KeepsTable s) where
  abbrev p : Past
  p = past_of t.shape.min_level log

  known : IsOfSeat t p.now i k × KnowsMachine m p inv.flow i v.load v.passed k
  known = running_knows t m p inv.flow i v k running (inv.knows i v is)

  inside : i < t.shape.seats
  inside = (inv.numbers.seats i v is).0

  sound : IsSoundStep t.shape i s
  sound = subst (λ (shape : Shape). IsSoundStep shape i s) known.0.shape (subst (λ n. IsSoundStep (shape_of k) n s) known.0.number (step_law k s known.0.sound planned))

  owes : Owes p i (doing.Running k)
  owes = subst (Owes p i) running (subst (λ (o : Option View). IsAllOf p i (option_map (λ (u : View). u.seat) o)) is (inv.owes i))

  few : GrowsWithFew p.now log inv.flow (doing.Running k)
  few = subst (GrowsWithFew p.now log inv.flow) running (inv.graces i v is)

  looks : LooksAtFew t.shape.slots inv.flow (doing.Running k)
  looks = subst (LooksAtFew t.shape.slots inv.flow) running (inv.looks i v is)

  passes_find : PassesFind t p.now log inv.flow i (doing.Running k)
  passes_find = subst (PassesFind t p.now log inv.flow i) running (inv.passes i v is)

  module _ (small : m place.Draws + 1 < 2 ^ 64) (may : CanRaise m s) where
    does : Does t m p inv.flow i v.load v.passed (text_of k) s (λ w. got_of k w)
    does = machine_does t m p inv.flow inv.table i inside v.load v.passed k s known.0 known.1 owes small may planned

    pub backs : Backs t m p inv.flow i (text_of k) s
    backs = does.backs

    goes : Goes t m p inv.flow i (text_of k) s m'
    goes = keeps_table t m m' p inv.flow i (text_of k) inv.table inside sound does.backs made

    -- the word that the step finds is one that its machine can be told
    can : CanBeFound t.shape s (found s m)
    can = finds t m p inv.flow i (text_of k) s inv.table inside does.backs

    pub fits : FitsMachine k (found s m)
    fits = subst (λ (next : Plan). CanFollow (shape_of k) next (found s m)) (sym planned) (subst (λ (shape : Shape). CanBeFound shape s (found s m)) (sym known.0.shape) can)

    still_of : IsOfSeat t (told p i (event_of (text_of k) s (found s m))).now i (got_of k (found s m))
    still_of = of_seat_after t p.now (told p i (event_of (text_of k) s (found s m))).now i k (got_of k (found s m)) (same_law k (found s m))
        (got_law k (found s m) (inv.table.words.small (access_of s).place) known.0.sound fits) goes.grows.seed known.0

    -- the invariant after the step of a running machine, as long as the bounds are kept
    pub running_keeps : Moves seat seat' i (view_after p.now v k s (found s m)) → Bounds t m' seat' → MayTell (kind_of t) p i (machines.event_of k (found s m)) × Inv t m' seat' (log ++ events_of i (machines.event_of k (found s m)))
    running_keeps moves bounds =
        let own : Owes (told p i (event_of (text_of k) s (found s m))) i (doing.Running (got_of k (found s m))) =
        owes_step t m p inv.flow i v.load v.passed k s inv.table known.0 known.1 owes planned can (inv.table.words.small (access_of s).place) goes.told in
        let keeps : Inv t m' seat' (log ++ events_of i (event_of (text_of k) s (found s m))) =
        step_keeps t m m' seat seat' log i v k s inv is moves goes (drops_held t m p inv.flow i (text_of k) s does.backs) (still_of, does.leads m' made goes) own bounds
        (unlinked_lead_after t m m' log inv.flow i (text_of k) s inv.table does.backs made inv.edges)
        (machine_few t m m' log inv.flow i inv.table v.load v.passed k s known.0 known.1 few planned made goes)
        (machine_looks t m m' p inv.flow i inv.table v.load v.passed k s known.0 known.1 looks planned made goes)
        (machine_finds t m m' log inv.flow i inv.table v.load v.passed k s known.0 known.1 passes_find planned made goes) in
        subst (λ (e : Option What). MayTell (kind_of t) p i e × Inv t m' seat' (log ++ events_of i e)) (sym (event_is k s (found s m) planned)) (goes.told, keeps)

-- the law of a kind, by what its own steps keep
pub kind_keeps : (kind : StepKind) → StepsKeep kind → Keeps kind
kind_keeps kind keep t m m' seat seat' log i v k s inv is running planned of_kind made moves =
    running_keeps t m m' seat seat' log i v k s inv is running planned made (keep s of_kind) (draws_fit t m seat inv.table.shape inv.bounds)
    (raise_fits t m seat log i v k s inv is running planned) moves
    (bounds_kept_by_step t m seat log i v k s inv is running planned m' seat' made moves)
