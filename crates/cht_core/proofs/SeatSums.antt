-- The sum over the seats of a table of what each may draw or raise.
use Rattle.std.proofs.Common.{◌≡◌, ℕ, zero, suc, ◌+◌, ◌<◌, ◌≤◌, Bool, true, false, Option, Some, None, ap, subst, arith}
use Rattle.std.specs.Prelude.{◌==◌, if◌then◌else◌}
use Rattle.call_machine.specs.declared.begin.BeginStage.{BeginStage}
use Rattle.call_machine.specs.declared.begin.BeginStage.TheVariants as begin
use Rattle.call_machine.specs.declared.begin.Left.{Left}
use Rattle.call_machine.specs.declared.begin.Left.TheVariants as left
use Rattle.call_machine.specs.declared.draw.DrawStage.TheVariants as draw
use Rattle.call_machine.specs.declared.grace.GraceStage.TheVariants as grace
use Rattle.call_machine.specs.declared.machine.Machine.TheVariants as machine
use Rattle.call_machine.specs.declared.stage.CallStage.{CallStage}
use Rattle.call_machine.specs.declared.stage.CallStage.TheVariants as stage
use Rattle.call_machine.specs.declared.sweep.SweepStage.{SweepStage}
use Rattle.call_machine.specs.declared.sweep.SweepStage.TheVariants as sweep
use Rattle.call_machine.specs.declared.work.Work.{Work}
use Rattle.call_machine.specs.Poll.{work_left}
use Rattle.cht_core.specs.declared.seat.Seat.{Seat}
use Rattle.cht_core.specs.declared.seat.Seat.TheVariants as doing
use Rattle.cht_core.specs.Bounds.{draws_at, raised_by, raises_work, raises_left, raises_begin, raises_sweep, draws_in, raises_in, of_seat, over_seats}
use Rattle.cht_core.specs.Invariant.{Moves}
use Rattle.cht_core.specs.View.{View}
use Rattle.cht_core.proofs.Ledgers.{sum_changed}

-- one seat moves: the sum changes by the difference of its value
pub over_seats_moves : (seats : ℕ) (value : Seat → ℕ) (seat seat' : ℕ → Option View) (i : ℕ) (v v' : View) → i < seats → seat i ≡ Some v → Moves seat seat' i v'
    → over_seats seats value seat' + value v.seat ≡ over_seats seats value seat + value v'.seat
over_seats_moves seats value seat seat' i v v' inside is moves =
    subst (λ (o : Option View). over_seats seats value seat' + value v.seat ≡ over_seats seats value seat + of_seat value o) moves.own
    (subst (λ (o : Option View). over_seats seats value seat' + of_seat value o ≡ over_seats seats value seat + of_seat value (seat' i)) is
    (sum_changed seats (λ k. of_seat value (seat k)) (λ k. of_seat value (seat' k)) i inside (λ k differ. ap (of_seat value) (moves.other k differ))))

-- where no seat has more than 1, the sum is at most the number of seats
pub over_seats_few : (seats : ℕ) (value : Seat → ℕ) (seat : ℕ → Option View) → ((s : Seat) → value s ≤ 1) → over_seats seats value seat ≤ seats
over_seats_few zero value seat few = omega arith
over_seats_few (suc k) value seat few =
    let rest : over_seats k value seat ≤ k = over_seats_few k value seat few in
    let last : of_seat value (seat k) ≤ 1 = by_view (seat k) in
    omega (arith, rest, last)
  where
    by_view : (o : Option View) → of_seat value o ≤ 1
    by_view None = omega arith
    by_view (Some v) = few v.seat

-- a seat draws at most one number that it saw left
drawn_once : (s : CallStage) → draws_at s ≤ 1
drawn_once (stage.Draw draw.Add) = omega arith
drawn_once (stage.Draw draw.Load) = omega arith
drawn_once s = omega arith

-- each seat draws at most one
pub draws_once : (s : Seat) → draws_in s ≤ 1
draws_once (doing.Running (machine.Call c w g)) = drawn_once c.stage
draws_once (doing.Running m) = omega arith
draws_once (doing.Idle own) = omega arith

-- and raises the counter at most once without looking at it again
raised_once : (w : Option Work) → raises_work w ≤ 1
raised_once None = omega arith
raised_once (Some w) = by_test (raised_by w == 0)
  where
    by_test : (none : Bool) → (if none then 1 else 0) ≤ 1
    by_test true = omega arith
    by_test false = omega arith

left_once : (l : Left) → raises_left l ≤ 1
left_once left.Clean = omega arith
left_once l = omega arith

begun_once : (s : BeginStage) → raises_begin s ≤ 1
begun_once (begin.TakeResizeLock t) = omega arith
begun_once (begin.LoadLevel d) = omega arith
begun_once (begin.Grace g grace.RaiseCounter) = omega arith
begun_once (begin.Grace g grace.LoadSection) = omega arith
begun_once (begin.Answered a l) = left_once l
begun_once s = omega arith

swept_once : (s : SweepStage) → raises_sweep s ≤ 1
swept_once sweep.Check = omega arith
swept_once (sweep.Grace grace.LoadSection) = omega arith
swept_once (sweep.Grace grace.RaiseCounter) = omega arith
swept_once (sweep.Free s) = omega arith
swept_once (sweep.Answered a) = omega arith
swept_once s = omega arith

-- each seat raises it at most once
pub raises_once : (s : Seat) → raises_in s ≤ 1
raises_once (doing.Idle own) = raised_once own.work
raises_once (doing.Running (machine.Call c w g)) = raised_once w
raises_once (doing.Running (machine.Begin b)) = begun_once b.stage
raises_once (doing.Running (machine.Poll p)) = raised_once (work_left p.work p.answer)
raises_once (doing.Running (machine.Sweep s)) = swept_once s.stage
