-- The bounds on drawn numbers and on the counter are kept by a step of one seat.
use Rattle.std.proofs.Common.{◌≡◌, ◌≢◌, ℕ, ◌+◌, ◌*◌, ◌^◌, ◌<◌, ◌≤◌, ◌⊎◌, inl, inr, max, Option, Some, None, sym, ap, subst, ◌∙◌, arith}
use Rattle.std.proofs.lemmas.Bool.{cases_eq}
use Rattle.table_shape.specs.declared.place.Place.TheVariants as place
use Rattle.table_shape.specs.Shape.{IsSound}
use Rattle.call_machine.specs.declared.machine.Machine.TheVariants as machine
use Rattle.call_machine.specs.declared.poll.Polling.{Polling}
use Rattle.call_machine.specs.declared.work.Work.{Work}
use Rattle.call_machine.specs.Work.{resumes}
use Rattle.cht_core.specs.declared.seat.Seat.{Seat}
use Rattle.cht_core.specs.declared.seat.Seat.TheVariants as doing
use Rattle.cht_core.specs.declared.table.Table.{Table}
use Rattle.cht_core.specs.Bounds.{Bounds, raised_by, draws_in, raises_in, work_of, over_seats}
use Rattle.cht_core.specs.Invariant.{Moves}
use Rattle.cht_core.specs.Memory.{Memory}
use Rattle.cht_core.specs.View.{View}
use Rattle.cht_core.proofs.SeatSums.{over_seats_moves, over_seats_few, draws_once, raises_once}

-- a step draws no more than its seat might, or its seat saw a number left
abbrev pub DrawsBy : ℕ → ℕ → ℕ → Seat → Seat → Type 0
DrawsBy seats before after s s' = (after + draws_in s' ≤ before + draws_in s) ⊎ ((after ≡ before) × (before < seats))

-- a step raises the counter by no more than its seat might; and the work that is left has raised it as far as the one before, or to where it is
pub record RaisesNoMore (before after : ℕ) (s s' : Seat) : Type 0 where
  pub counter : after + 2 * raises_in s' ≤ before + 2 * raises_in s
  pub works : (w : Work) → work_of s' ≡ Some w → ((was : Work) × (work_of s ≡ Some was) × (raised_by was ≡ raised_by w)) ⊎ (raised_by w ≡ after)

-- a seat saw the counter below 2^48, and may raise it once
pub record SawItLow (before after : ℕ) (s' : Seat) : Type 0 where
  pub same : after ≡ before
  pub low : before < 2 ^ 48
  pub none : work_of s' ≡ None

-- a work raises the counter whose last grace raised it to less than 2^63
pub record RaisesAgain (before after : ℕ) (s s' : Seat) : Type 0 where
  pub counter : after ≡ before + 2
  pub last : raises_in s' ≡ 0
  pub was : Work
  pub at_work : work_of s ≡ Some was
  pub raised : 0 < raised_by was
  pub low : raised_by was < 2 ^ 63
  pub works : (w : Work) → work_of s' ≡ Some w → raised_by w ≡ after

-- one of the three
abbrev pub RaisesBy : ℕ → ℕ → Seat → Seat → Type 0
RaisesBy before after s s' = RaisesNoMore before after s s' ⊎ SawItLow before after s' ⊎ RaisesAgain before after s s'

-- a seat without a work raises no more than it might
pub raises_no_more : (before after : ℕ) (s s' : Seat) → work_of s' ≡ None → after + 2 * raises_in s' ≤ before + 2 * raises_in s → RaisesBy before after s s'
raises_no_more before after s s' none less = inl (record { counter = less; works = λ w is. let clash : None ≡ Some w = sym none ∙ is in absurd (cc) })

-- who might raise the counter once may do so still, where it is the same
pub from_one : (before after : ℕ) (s s' : Seat) → after ≡ before → 1 ≤ raises_in s → after + 2 * raises_in s' ≤ before + 2 * raises_in s
from_one before after s s' same one =
    let few : raises_in s' ≤ 1 = raises_once s' in
    omega (arith, same, one, few)

-- Sums after one seat moved, as numbers.
no_more : (before after sum sum' r r' bound : ℕ) → sum' + r ≡ sum + r' → after + 2 * r' ≤ before + 2 * r → before + 2 * sum ≤ bound → after + 2 * sum' ≤ bound
no_more before after sum sum' r r' bound sums less at = omega (arith, sums, less, at)

drawn_no_more : (before after sum sum' r r' bound : ℕ) → sum' + r ≡ sum + r' → after + r' ≤ before + r → before + sum ≤ bound → after + sum' ≤ bound
drawn_no_more before after sum sum' r r' bound sums less at = omega (arith, sums, less, at)

-- a raise to less than 2^63 bounds what a work may raise
pub below_high : (a : ℕ) → a < 2 ^ 63 → max a (2 ^ 48) < 2 ^ 63
below_high a less = omega (arith, less)

raised_few : (counter sum bound : ℕ) → bound ≡ counter → sum ≤ 256 → counter + 2 * sum ≤ max bound (2 ^ 48) + 512
raised_few counter sum bound same few = omega (arith, same, few)

low_few : (before counter sum bound : ℕ) → counter ≡ before → before < 2 ^ 48 → sum ≤ 256 → counter + 2 * sum ≤ max bound (2 ^ 48) + 512
low_few before counter sum bound same low few = omega (arith, same, low, few)

module _ (t : Table) (m m' : Memory) (seat seat' : ℕ → Option View) (i : ℕ) (v v' : View) (shape : IsSound t.shape) (inside : i < t.shape.seats) (is : seat i ≡ Some v)
    (moves : Moves seat seat' i v') (bounds : Bounds t m seat) where
  abbrev sum : ℕ
  sum = over_seats t.shape.seats raises_in seat

  abbrev sum' : ℕ
  sum' = over_seats t.shape.seats raises_in seat'

  sums : sum' + raises_in v.seat ≡ sum + raises_in v'.seat
  sums = over_seats_moves t.shape.seats raises_in seat seat' i v v' inside is moves

  few : sum' ≤ 256
  few =
      let each : sum' ≤ t.shape.seats = over_seats_few t.shape.seats raises_in seat' raises_once in
      let seats : t.shape.seats ≤ 256 = shape.seats.1 in
      omega (arith, each, seats)

  -- what the seat is at now
  own_seat : (k : ℕ) (u : View) → k ≡ i → seat' k ≡ Some u → v'.seat ≡ u.seat
  own_seat k u same at =
      let now : Some v' ≡ Some u = sym moves.own ∙ ap seat' (sym same) ∙ at in
      let views : v' ≡ u = cc in
      ap (λ (x : View). x.seat) views

  -- the numbers that are drawn and that may be
  draws_after : DrawsBy t.shape.seats (m place.Draws) (m' place.Draws) v.seat v'.seat → m' place.Draws + over_seats t.shape.seats draws_in seat' ≤ 2 * t.shape.seats
  draws_after (inl less) =
      drawn_no_more (m place.Draws) (m' place.Draws) (over_seats t.shape.seats draws_in seat) (over_seats t.shape.seats draws_in seat') (draws_in v.seat) (draws_in v'.seat) (2 * t.shape.seats)
      (over_seats_moves t.shape.seats draws_in seat seat' i v v' inside is moves) less bounds.draws
  draws_after (inr left) =
      let same : m' place.Draws ≡ m place.Draws = left.0 in
      let some : m place.Draws < t.shape.seats = left.1 in
      let each : over_seats t.shape.seats draws_in seat' ≤ t.shape.seats = over_seats_few t.shape.seats draws_in seat' draws_once in
      omega (arith, same, some, each)

  -- the counter and how often it may be raised
  counter_after : RaisesBy (m place.Counter) (m' place.Counter) v.seat v'.seat → m' place.Counter + 2 * sum' ≤ 2 ^ 63 + 1024
  counter_after (inl quiet) = no_more (m place.Counter) (m' place.Counter) sum sum' (raises_in v.seat) (raises_in v'.seat) (2 ^ 63 + 1024) sums quiet.counter bounds.counter
  counter_after (inr (inl saw)) = let same = saw.same in let low = saw.low in let each = few in omega (arith, same, low, each)
  counter_after (inr (inr again)) =
      let most : m place.Counter + 2 * sum ≤ max (raised_by again.was) (2 ^ 48) + 512 = bounds.works i v again.was is again.at_work again.raised in
      let high : max (raised_by again.was) (2 ^ 48) < 2 ^ 63 = below_high (raised_by again.was) again.low in
      let all : sum' + raises_in v.seat ≡ sum + raises_in v'.seat = sums in
      let none : raises_in v'.seat ≡ 0 = again.last in
      let more : m' place.Counter ≡ m place.Counter + 2 = again.counter in
      omega (arith, most, high, all, none, more)

  -- the works of the others stay as they were, and none has one where this seat has
  module _ (alone : (k : ℕ) (u : View) (w w' : Work) → k ≢ i → seat k ≡ Some u → work_of u.seat ≡ Some w → work_of v.seat ≡ Some w' → ⊥) where
    own_work_after : RaisesBy (m place.Counter) (m' place.Counter) v.seat v'.seat → (w : Work) → work_of v'.seat ≡ Some w → 0 < raised_by w
        → m' place.Counter + 2 * sum' ≤ max (raised_by w) (2 ^ 48) + 512
    own_work_after (inl quiet) w at raised = elim (quiet.works w at) [
      | inl had ↦ no_more (m place.Counter) (m' place.Counter) sum sum' (raises_in v.seat) (raises_in v'.seat) (max (raised_by w) (2 ^ 48) + 512) sums quiet.counter
          (subst (λ n. m place.Counter + 2 * sum ≤ max n (2 ^ 48) + 512) had.2 (bounds.works i v had.0 is had.1 (subst (λ n. 0 < n) (sym had.2) raised)))
      | inr now ↦ raised_few (m' place.Counter) sum' (raised_by w) now few
    ]
    own_work_after (inr (inl saw)) w at raised = low_few (m place.Counter) (m' place.Counter) sum' (raised_by w) saw.same saw.low few
    own_work_after (inr (inr again)) w at raised = raised_few (m' place.Counter) sum' (raised_by w) (again.works w at) few

    other_work_after : RaisesBy (m place.Counter) (m' place.Counter) v.seat v'.seat → (k : ℕ) (u : View) (w : Work) → k ≢ i → seat k ≡ Some u → work_of u.seat ≡ Some w → 0 < raised_by w
        → m' place.Counter + 2 * sum' ≤ max (raised_by w) (2 ^ 48) + 512
    other_work_after (inl quiet) k u w differ was at raised =
        no_more (m place.Counter) (m' place.Counter) sum sum' (raises_in v.seat) (raises_in v'.seat) (max (raised_by w) (2 ^ 48) + 512) sums quiet.counter (bounds.works k u w was at raised)
    other_work_after (inr (inl saw)) k u w differ was at raised = low_few (m place.Counter) (m' place.Counter) sum' (raised_by w) saw.same saw.low few
    other_work_after (inr (inr again)) k u w differ was at raised = absurd (alone k u w again.was differ was at again.at_work)

    -- all of the bounds
    pub bounds_after : DrawsBy t.shape.seats (m place.Draws) (m' place.Draws) v.seat v'.seat → RaisesBy (m place.Counter) (m' place.Counter) v.seat v'.seat
        → ((q : Polling) → v'.seat ≡ doing.Running (machine.Poll q) → q.answer ≡ None → (resumes q.work).1 ≡ None) → Bounds t m' seat'
    bounds_after draws raises polls = record {
      draws = draws_after draws;
      counter = counter_after raises;
      works = λ k u w at work raised. elim (cases_eq k i) [
        | inl same ↦ own_work_after raises w (ap work_of (own_seat k u same at) ∙ work) raised
        | inr differ ↦ other_work_after raises k u w differ (sym (moves.other k differ) ∙ at) work raised
      ];
      polls = λ k u q at running unanswered. elim (cases_eq k i) [
        | inl same ↦ polls q (own_seat k u same at ∙ running) unanswered
        | inr differ ↦ bounds.polls k u q (sym (moves.other k differ) ∙ at) running unanswered
      ];
    }
