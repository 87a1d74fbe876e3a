-- A step of any seat keeps the bounds on drawn numbers and on the counter.
use Rattle.std.proofs.Common.{◌≡◌, ℕ, ◌+◌, ◌*◌, ◌^◌, ◌<◌, ◌≤◌, max, List, Option, Some, IfSome, inl, inr, sym, ap, subst, ◌∙◌, arith}
use Rattle.table_shape.specs.declared.place.Place.TheVariants as place
use Rattle.table_shape.specs.declared.shape.Shape.{Shape}
use Rattle.table_shape.specs.Shape.{IsSound}
use Rattle.intern_log.specs.declared.event.Event.{Event}
use Rattle.atomic_step.specs.declared.plan.Plan.TheVariants as plan
use Rattle.atomic_step.specs.declared.step.Step.{Step}
use Rattle.call_machine.specs.declared.machine.Machine.{Machine}
use Rattle.call_machine.specs.declared.machine.Machine.TheVariants as machine
use Rattle.call_machine.specs.declared.work.Work.{Work}
use Rattle.call_machine.specs.declared.work.Work.TheVariants as work
use Rattle.call_machine.specs.Machine.{plan_of, got_of}
use Rattle.cht_core.specs.declared.seat.Seat.{Seat}
use Rattle.cht_core.specs.declared.seat.Seat.TheVariants as doing
use Rattle.cht_core.specs.declared.table.Table.{Table}
use Rattle.cht_core.specs.Bounds.{Bounds, raised_by, raises_in, work_of, of_seat, over_seats}
use Rattle.cht_core.specs.Flow.{Flow}
use Rattle.cht_core.specs.Invariant.{Inv, Moves}
use Rattle.cht_core.specs.KnowsWork.{IsOwner, KnowsWork}
use Rattle.cht_core.specs.Memory.{Memory, IsMade, found}
use Rattle.cht_core.specs.Past.{Past, past_of}
use Rattle.cht_core.specs.View.{View, view_after, IsOfSeat, KnowsMachine, Knows}
use Rattle.cht_core.proofs.GraceStages.{CanRaise}
use Rattle.cht_core.proofs.Ledgers.{part_of_sum}
use Rattle.cht_core.proofs.MachineBounds.{IsUnheld, machine_weight, machine_raises, machine_draws, machine_unheld}
use Rattle.cht_core.proofs.ResizeOwner.{resize_owner}
use Rattle.cht_core.proofs.WorkBounds.{below_high, DrawsBy, RaisesBy, bounds_after}

-- who has a work has the resize lock
work_owns : (m : Memory) (p : Past) (f : Flow) (i : ℕ) (w : Work) → KnowsWork m p f i w → IsOwner p.now i
work_owns m p f i (work.Clean c) known = known.0.owner
work_owns m p f i (work.Resize r) known = resize_owner m p.now f i r.direction r.along r.stage known

some_work : (m : Memory) (p : Past) (f : Flow) (i : ℕ) (o : Option Work) (w : Work) → IfSome o (KnowsWork m p f i) → o ≡ Some w → IsOwner p.now i
some_work m p f i o w known is = work_owns m p f i w (subst (λ (x : Option Work). IfSome x (KnowsWork m p f i)) is known)

seat_owns : (t : Table) (m : Memory) (p : Past) (f : Flow) (i : ℕ) (v : View) (s : Seat) (w : Work) → Knows t m p f i (record v { seat = s }) → work_of s ≡ Some w → IsOwner p.now i
seat_owns t m p f i v (doing.Idle own) w known is = some_work m p f i own.work w known.1.1 is
seat_owns t m p f i v (doing.Running (machine.Call c o g)) w known is = some_work m p f i o w known.1.1 is
seat_owns t m p f i v (doing.Running (machine.Begin b)) w known is = absurd (cc)
seat_owns t m p f i v (doing.Running (machine.Poll q)) w known is = some_work m p f i _ w known.1.1 is
seat_owns t m p f i v (doing.Running (machine.Sweep s)) w known is = absurd (cc)

-- no two seats have a work
pub works_apart : (t : Table) (m : Memory) (p : Past) (f : Flow) (k i : ℕ) (u v : View) (w x : Work) → Knows t m p f k u → Knows t m p f i v → work_of u.seat ≡ Some w → work_of v.seat ≡ Some x → k ≡ i
works_apart t m p f k i u v w x first second at there =
    let one : IsOwner p.now k = seat_owns t m p f k u u.seat w first at in
    let other : IsOwner p.now i = seat_owns t m p f i v v.seat x second there in
    let same : Some k ≡ Some i = sym one ∙ other in
    cc

-- the bounds leave room to draw a number
pub draws_fit : (t : Table) (m : Memory) (seat : ℕ → Option View) → IsSound t.shape → Bounds t m seat → m place.Draws + 1 < 2 ^ 64
draws_fit t m seat shape bounds = let most = bounds.draws in let seats : t.shape.seats ≤ 256 = shape.seats.1 in omega (arith, most, seats)

-- and to raise the counter, where a machine does
raise_fits_by : (t : Table) (m : Memory) (p : Past) (f : Flow) (seat : ℕ → Option View) (i load : ℕ) (passed : List ℕ) (v : View) (k : Machine) (s : Step) → i < t.shape.seats → Bounds t m seat
    → seat i ≡ Some v → v.seat ≡ doing.Running k → KnowsMachine m p f i load passed k → plan_of k ≡ plan.Step s → CanRaise m s
raise_fits_by t m p f seat i load passed v k s inside bounds is at known planned raises =
    elim (machine_weight m p f i load passed k s known (λ q running. bounds.polls i v q is (at ∙ running)) planned raises) [
      | inl one ↦ (
          let part : of_seat raises_in (seat i) ≤ over_seats t.shape.seats raises_in seat = part_of_sum t.shape.seats (λ j. of_seat raises_in (seat j)) i inside in
          let here : of_seat raises_in (seat i) ≡ 1 = ap (of_seat raises_in) is ∙ ap raises_in at ∙ one in
          let most = bounds.counter in
          omega (arith, part, here, most))
      | inr had ↦ (
          let most : m place.Counter + 2 * over_seats t.shape.seats raises_in seat ≤ max (raised_by had.0) (2 ^ 48) + 512 = bounds.works i v had.0 is (ap work_of at ∙ had.1) had.2 in
          let high : max (raised_by had.0) (2 ^ 48) < 2 ^ 63 = below_high (raised_by had.0) had.3 in
          omega (arith, most, high))
    ]

module _ (t : Table) (m : Memory) (seat : ℕ → Option View) (log : List Event) (i : ℕ) (v : View) (k : Machine) (s : Step) (inv : Inv t m seat log) (is : seat i ≡ Some v)
    (at : v.seat ≡ doing.Running k) (planned : plan_of k ≡ plan.Step s) where
  abbrev past : Past
  past = past_of t.shape.min_level log

  inside : i < t.shape.seats
  inside = (inv.numbers.seats i v is).0

  knows : IsOfSeat t past.now i k × KnowsMachine m past inv.flow i v.load v.passed k
  knows = subst (λ (x : Seat). Knows t m past inv.flow i (record v { seat = x })) at (inv.knows i v is)

  unheld : IsUnheld (doing.Running k)
  unheld q running = inv.bounds.polls i v q is (at ∙ running)

  -- where a running machine raises the counter there is room for it
  pub raise_fits : CanRaise m s
  raise_fits = raise_fits_by t m past inv.flow seat i v.load v.passed v k s inside inv.bounds is at knows.1 planned

  -- a step of any seat keeps the bounds
  pub bounds_kept_by_step : (m' : Memory) (seat' : ℕ → Option View) → IsMade s m m' → Moves seat seat' i (view_after past.now v k s (found s m)) → Bounds t m' seat'
  bounds_kept_by_step m' seat' made moves =
      bounds_after t m m' seat seat' i v (view_after past.now v k s (found s m)) inv.table.shape inside is moves inv.bounds
      (λ j u w x differ was first second. differ (works_apart t m past inv.flow j i u v w x (inv.knows j u was) (inv.knows i v is) first second))
      (subst (λ (x : Seat). DrawsBy t.shape.seats (m place.Draws) (m' place.Draws) x (doing.Running (got_of k (found s m)))) (sym at)
      (subst (λ (x : Shape). DrawsBy x.seats (m place.Draws) (m' place.Draws) (doing.Running k) (doing.Running (got_of k (found s m)))) knows.0.shape
      (machine_draws m m' past inv.flow i v.load v.passed k s knows.1 planned made)))
      (subst (λ (x : Seat). RaisesBy (m place.Counter) (m' place.Counter) x (doing.Running (got_of k (found s m)))) (sym at)
      (machine_raises m m' past inv.flow i v.load v.passed k s knows.1 unheld planned made raise_fits))
      (machine_unheld m m' past inv.flow i v.load v.passed k s knows.1 unheld planned made raise_fits)
