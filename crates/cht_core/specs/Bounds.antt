-- How far the number of drawn seats and the grace counter can rise.
use Rattle.std.specs.Prelude.{◌≡◌, ℕ, ◌+◌, ◌*◌, ◌^◌, ◌==◌, ◌<◌, ◌≤◌, max, if◌then◌else◌, Option, Some, None}
use Rattle.table_shape.specs.declared.place.Place.TheVariants as place
use Rattle.call_machine.specs.declared.begin.BeginStage.{BeginStage}
use Rattle.call_machine.specs.declared.begin.BeginStage.TheVariants as begin
use Rattle.call_machine.specs.declared.begin.Left.{Left}
use Rattle.call_machine.specs.declared.begin.Left.TheVariants as left
use Rattle.call_machine.specs.declared.draw.DrawStage.TheVariants as draw
use Rattle.call_machine.specs.declared.grace.GraceStage.TheVariants as grace
use Rattle.call_machine.specs.declared.machine.Machine.TheVariants as machine
use Rattle.call_machine.specs.declared.poll.Polling.{Polling}
use Rattle.call_machine.specs.declared.stage.CallStage.{CallStage}
use Rattle.call_machine.specs.declared.stage.CallStage.TheVariants as stage
use Rattle.call_machine.specs.declared.sweep.SweepStage.{SweepStage}
use Rattle.call_machine.specs.declared.sweep.SweepStage.TheVariants as sweep
use Rattle.call_machine.specs.declared.work.Work.{Work}
use Rattle.call_machine.specs.declared.work.Work.TheVariants as work
use Rattle.call_machine.specs.Poll.{work_left}
use Rattle.call_machine.specs.Work.{resumes}
use Rattle.cht_core.specs.declared.seat.Seat.{Seat}
use Rattle.cht_core.specs.declared.seat.Seat.TheVariants as doing
use Rattle.cht_core.specs.declared.table.Table.{Table}
use Rattle.cht_core.specs.Ledger.{sum_below}
use Rattle.cht_core.specs.Memory.{Memory}
use Rattle.cht_core.specs.View.{View}

-- 1 where a call has seen that a number is left and will draw one
abbrev pub draws_at : CallStage → ℕ
draws_at (stage.Draw draw.Add) = 1
draws_at _ = 0

-- the value to which the last grace of a work raised the counter, or 0
abbrev pub raised_by : Work → ℕ
raised_by (work.Clean c) = c.along.grace.raised
raised_by (work.Resize r) = r.along.grace.raised

-- 1 where a call has seen the counter below 2^48 and may raise it once without looking again
abbrev pub raises_work : Option Work → ℕ
raises_work (Some w) = if raised_by w == 0 then 1 else 0
raises_work None = 0

abbrev pub raises_left : Left → ℕ
raises_left left.Clean = 1
raises_left (left.Resize d level) = 1
raises_left _ = 0

abbrev pub raises_begin : BeginStage → ℕ
raises_begin (begin.TakeResizeLock t) = 1
raises_begin (begin.LoadLevel d) = 1
raises_begin (begin.Grace g grace.RaiseCounter) = 1
raises_begin (begin.Answered a l) = raises_left l
raises_begin _ = 0

abbrev pub raises_sweep : SweepStage → ℕ
raises_sweep sweep.Check = 0
raises_sweep (sweep.Grace grace.LoadSection) = 0
raises_sweep (sweep.Free s) = 0
raises_sweep (sweep.Answered a) = 0
raises_sweep _ = 1

abbrev pub draws_in : Seat → ℕ
draws_in (doing.Running (machine.Call c w g)) = draws_at c.stage
draws_in _ = 0

abbrev pub work_of : Seat → Option Work
work_of (doing.Idle own) = own.work
work_of (doing.Running (machine.Call c w g)) = w
work_of (doing.Running (machine.Begin b)) = None
work_of (doing.Running (machine.Poll p)) = work_left p.work p.answer
work_of (doing.Running (machine.Sweep s)) = None

abbrev pub raises_in : Seat → ℕ
raises_in (doing.Idle own) = raises_work own.work
raises_in (doing.Running (machine.Call c w g)) = raises_work w
raises_in (doing.Running (machine.Begin b)) = raises_begin b.stage
raises_in (doing.Running (machine.Poll p)) = raises_work (work_left p.work p.answer)
raises_in (doing.Running (machine.Sweep s)) = raises_sweep s.stage

-- the sum over the seats below a number
abbrev pub of_seat : (Seat → ℕ) → Option View → ℕ
of_seat value None = 0
of_seat value (Some v) = value v.seat

abbrev pub over_seats : ℕ → (Seat → ℕ) → (ℕ → Option View) → ℕ
over_seats seats value seat = sum_below seats (λ k. of_seat value (seat k))

pub record Bounds (t : Table) (m : Memory) (seat : ℕ → Option View) : Type 0 where
  -- seats that will draw saw a number left, so that at most twice the seats are drawn
  pub draws : m place.Draws + over_seats t.shape.seats draws_in seat ≤ 2 * t.shape.seats
  -- a call that begins a grace or a work saw the counter below 2^48, and a work whose last grace raised it to 2^63 begins no further one
  pub counter : m place.Counter + 2 * over_seats t.shape.seats raises_in seat ≤ 2 ^ 63 + 1024
  pub works : (k : ℕ) (v : View) (w : Work) → seat k ≡ Some v → work_of v.seat ≡ Some w → 0 < raised_by w →
      m place.Counter + 2 * over_seats t.shape.seats raises_in seat ≤ max (raised_by w) (2 ^ 48) + 512
  -- a poll that has not answered is not before a grace that is held back
  pub polls : (k : ℕ) (v : View) (q : Polling) → seat k ≡ Some v → v.seat ≡ doing.Running (machine.Poll q) → q.answer ≡ None → (resumes q.work).1 ≡ None
