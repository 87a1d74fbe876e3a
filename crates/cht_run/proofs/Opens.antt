-- A table that has just been made meets the rule.
use Rattle.std.proofs.Common.{◌≡◌, ◌≢◌, ℕ, zero, suc, ◌*◌, ◌/◌, true, false, nat_eq, [], ◌∷◌, Option, Some, None, inl, inr, refl, sym, ap, subst, ◌∙◌, arith}
use Rattle.std.proofs.lemmas.Bool.{cases_eq, eqb-true}
use Rattle.std.proofs.lemmas.List.Elements.{All-nil}
use mathlib.Core.Option.{some, some-injective, some-ne-none}
use lib.ListN.{get_elem?}
use Rattle.atomic_table.specs.Table.{opening}
use Rattle.table_shape.specs.Shape.{IsSound}
use Rattle.intern_log.specs.Now.{with_at}
use Rattle.intern_log.specs.Own.{is_among}
use Rattle.cht_core.specs.declared.seat.Seat.TheVariants as doing
use Rattle.cht_core.specs.Begins.{new_view}
use Rattle.cht_core.specs.Invariant.{Inv}
use Rattle.cht_core.specs.Memory.{Memory, memory_of}
use Rattle.cht_core.specs.State.{IsFirstCounter, opening_words}
use Rattle.cht_core.specs.View.{View}
use Rattle.cht_core.proofs.Basics.{with_here, with_other}
use Rattle.cht_core.proofs.OpeningState.{opening_inv, opening_view}
use Rattle.cht_core.proofs.StateWords.{opening_sized, opening_is}
use Rattle.cht_run.specs.declared.sight.Origin.{Origin}
use Rattle.cht_run.specs.declared.sight.Earlier.{Earlier}
use Rattle.cht_run.specs.declared.sight.Entry.{Entry}
use Rattle.cht_run.specs.declared.sight.Sight.{Sight}
use Rattle.cht_run.specs.History.{is_drawn, IsOut, Follows}
use Rattle.cht_run.specs.Rule.{Fits, Kept, root_of}
use Rattle.cht_run.proofs.Histories.{among_either}

-- no seat at all
abbrev nobody : ℕ → Option View
nobody k = None

module _ (o : Origin) (shape : IsSound o.table.shape) (counter : IsFirstCounter o.table.first_counter) (unseeded : o.seed ≡ 0) where
  abbrev m : Memory
  m = memory_of o.table.shape (opening_words o.table)

  abbrev seat : ℕ → Option View
  seat = with_at nobody 0 (Some (new_view o.table.shape 0))

  first : seat 0 ≡ Some (new_view o.table.shape 0)
  first = with_here nobody 0 (Some (new_view o.table.shape 0)) 0 refl

  none : (k : ℕ) → k ≢ 0 → seat k ≡ None
  none k differ = with_other nobody 0 (Some (new_view o.table.shape 0)) k differ

  -- the first seat looks for free slots from the first one on
  from_none : 0 * (o.table.shape.slots / o.table.shape.seats) ≡ 0
  from_none = omega arith

  new_is : new_view o.table.shape 0 ≡ opening_view
  new_is = ap (λ (cursor : ℕ). record opening_view { seat = doing.Idle (record { number = 0; cursor = cursor; work = None; grace = None }) }) from_none

  inv : Inv o.table m seat []
  inv = opening_inv o.table m shape counter.0 counter.1 (opening_is o.table) seat (first ∙ ap (λ (v : View). Some v) new_is) none

  only : (id : ℕ) (v : Sight) → get_elem? (root_of o ∷ []) id ≡ some v → (id ≡ 0) × (root_of o ≡ v)
  only zero v at = (refl, some-injective (root_of o) v at)
  only (suc id) v at = absurd (some-ne-none v (sym at))

  root_fits : Fits o m seat [] (root_of o)
  root_fits = record {
    of = λ is. refl;
    seen = record { later = []; whole = refl; none = All-nil (λ (e : Entry). is_among (0 ∷ []) (Rattle.cht_run.specs.History.by_of e) ≡ false) };
    part = inl (refl, record { at = first; rests = tt; headed = tt; reads = tt; covers = λ none_out root. tt });
    given = λ own gave. absurd (cc);
    out = All-nil (IsOut (0 ∷ []) []);
    earlier = record { seen = All-nil (λ (e : Earlier). Follows e.numbers e.history []); apart = tt };
  }

  drawn_first : (number : ℕ) → is_drawn [] number ≡ true → number ≡ 0
  drawn_first number is = elim (among_either (nat_eq number 0) false is) [ inl same ↦ eqb-true number 0 same | inr never ↦ absurd (cc) ]

  seats_first : (k : ℕ) (v : View) → seat k ≡ Some v → v ≡ new_view o.table.shape 0
  seats_first k v at = elim (cases_eq k 0) [
    | inl here ↦ let now : seat 0 ≡ Some v = ap seat (sym here) ∙ at in let also = first in cc
    | inr differ ↦ let never = none k differ in absurd (cc)
  ]

  -- a table that has just been made
  pub opens : Kept o (opening (opening_words o.table) [] (root_of o))
  opens = record {
    seat = seat;
    history = [];
    sized = opening_sized o.table;
    inv = inv;
    seed = sym unseeded;
    told = tt;
    orderly = tt;
    numbered = tt;
    counted =
        let one = (opening_is o.table).draws in
        let some = shape.seats.0 in
        record { some_left = λ left. one; none_left = λ past. omega (arith, one, some, past) };
    below = λ number is. let one = (opening_is o.table).draws in let zero = drawn_first number is in omega (arith, one, zero);
    drawn = λ k number v at has. ap (λ (u : View). is_among u.numbers number) (sym (seats_first k v at)) ∙ has;
    apart = λ i j k v u at_i at_j own_v own_u. (only i v at_i).0 ∙ sym (only j u at_j).0;
    fits = λ id v at. subst (Fits o m seat []) (only id v at).1 root_fits;
    shown = λ id v at snapshot has. let never : None ≡ Some snapshot = ap (λ (u : Sight). u.words) (only id v at).1 ∙ has in absurd (cc);
  }
