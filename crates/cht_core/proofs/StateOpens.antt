-- A table that has just been made meets the invariant.
use Rattle.std.proofs.Common.{◌≡◌, ◌≢◌, ℕ, zero, suc, ◌-◌, ◌*◌, ◌/◌, List, [], ◌∷◌, set, replicate, Option, Some, None, inl, inr, refl, sym, ap, subst, ◌∙◌, arith}
use Rattle.std.proofs.lemmas.Bool.{cases_eq}
use Rattle.table_shape.specs.declared.place.Place.TheVariants as place
use Rattle.table_shape.specs.Place.{index_of}
use Rattle.table_shape.specs.Shape.{IsSound, words_of}
use Rattle.intern_log.specs.declared.event.Event.{Event}
use Rattle.atomic_step.specs.Table.{word_at}
use Rattle.cht_core.specs.declared.seat.Seat.{Seat}
use Rattle.cht_core.specs.declared.seat.Seat.TheVariants as doing
use Rattle.cht_core.specs.declared.table.Table.{Table}
use Rattle.cht_core.specs.Begins.{first_own}
use Rattle.cht_core.specs.Memory.{memory_of}
use Rattle.cht_core.specs.State.{IsCore, IsGoing, HasResting, IsFirstCounter, seat_in, view_of, views_of, opening_words, first_seats_of, opening_of}
use Rattle.cht_core.proofs.OpeningState.{opening_inv, opening_view}
use Rattle.cht_core.proofs.StateStarts.{AreDrawn}
use Rattle.cht_core.proofs.StateWords.{get_or-replicate, length-same, opening_sized, opening_draws, opening_is}

-- no seat but the first one
no_more : (seat : Option Seat) (n k : ℕ) → k ≢ 0 → seat_in (seat ∷ replicate n None) k ≡ None
no_more seat n zero differ = absurd (differ refl)
no_more seat n (suc k) differ = get_or-replicate n k None

module _ (t : Table) (shape : IsSound t.shape) (counter : IsFirstCounter t.first_counter) where
  abbrev first : Option Seat
  first = Some (doing.Idle (first_own t.shape 0))

  no_other : (k : ℕ) → k ≢ 0 → seat_in (first_seats_of t.shape) k ≡ None
  no_other k differ = no_more first (t.shape.seats - 1) k differ

  opening_goes : (k : ℕ) (s : Seat) → seat_in (first_seats_of t.shape) k ≡ Some s → IsGoing s
  opening_goes k s is = elim (cases_eq k 0) [
    | inl here ↦
        let at : seat_in (first_seats_of t.shape) k ≡ first = ap (seat_in (first_seats_of t.shape)) here in
        let same : doing.Idle (first_own t.shape 0) ≡ s = cc in
        subst IsGoing same tt
    | inr differ ↦ let none = no_other k differ in absurd (cc)
  ]

  opening_rests : (k : ℕ) (s : Seat) → seat_in (first_seats_of t.shape) k ≡ Some s → HasResting s
  opening_rests k s is = elim (cases_eq k 0) [
    | inl here ↦
        let at : seat_in (first_seats_of t.shape) k ≡ first = ap (seat_in (first_seats_of t.shape)) here in
        let same : doing.Idle (first_own t.shape 0) ≡ s = cc in
        subst HasResting same tt
    | inr differ ↦ let none = no_other k differ in absurd (cc)
  ]

  opening_drawn : AreDrawn t.shape.seats (first_seats_of t.shape) (word_at t.shape place.Draws (opening_words t))
  opening_drawn k inside = elim (cases_eq k 0) [
    | inl here ↦
        let at : seat_in (first_seats_of t.shape) k ≡ first = ap (seat_in (first_seats_of t.shape)) here in
        let one = opening_draws t in
        (λ some. omega (arith, one, here), λ less none. absurd (cc))
    | inr differ ↦
        let none = no_other k differ in
        let one = opening_draws t in
        (λ some. absurd (some none), λ less. absurd (differ (omega (arith, one, less))))
  ]

  -- the first seat looks for free slots from the first one on
  from_none : 0 * (t.shape.slots / t.shape.seats) ≡ 0
  from_none = omega arith

  first_view : views_of (λ k. (0, [])) (first_seats_of t.shape) 0 ≡ Some opening_view
  first_view = ap (λ (cursor : ℕ). Some (record opening_view { seat = doing.Idle (record { number = 0; cursor = cursor; work = None; grace = None }) })) from_none

  pub opening_core : IsCore (opening_of t)
  opening_core = record {
    sights = λ k. (0, []);
    sized = opening_sized t;
    seats = let rest = length-same {A = Option Seat} (t.shape.seats - 1) None in let some = shape.seats.0 in omega (arith, rest, some);
    seed = refl;
    inv = opening_inv t (memory_of t.shape (opening_words t)) shape counter.0 counter.1 (opening_is t) (views_of (λ k. (0, [])) (first_seats_of t.shape)) first_view
        (λ k differ. ap (view_of (0, []) k) (no_other k differ));
    going = opening_goes;
    drawn = opening_drawn;
    told = tt;
    rests = opening_rests;
  }

  -- the same over what was made on the way
  module _ (size draws count level least : ℕ) (words : List ℕ) (seats : List (Option Seat)) (log : List Event) (is_size : size ≡ words_of t.shape) (is_words : words ≡ replicate size 0)
      (is_draws : draws ≡ index_of t.shape place.Draws) (is_count : count ≡ index_of t.shape place.Counter) (is_level : level ≡ index_of t.shape place.Level) (is_least : least ≡ t.shape.min_level)
      (is_seats : seats ≡ first_seats_of t.shape) (is_log : log ≡ []) where
    words_are : set (set (set words draws 1) count t.first_counter) level least ≡ opening_words t
    words_are = λ i. set (set (set ((is_words ∙ ap (λ n. replicate n 0) is_size) i) (is_draws i) 1) (is_count i) t.first_counter) (is_level i) (is_least i)

    pub opened_is : record { table = t; seed = 0; words = set (set (set words draws 1) count t.first_counter) level least; seats = seats; log = log } ≡ opening_of t
    opened_is = λ i. record { table = t; seed = 0; words = words_are i; seats = is_seats i; log = is_log i }

    pub opened_core : IsCore (record { table = t; seed = 0; words = set (set (set words draws 1) count t.first_counter) level least; seats = seats; log = log })
    opened_core = subst IsCore (sym opened_is) opening_core
