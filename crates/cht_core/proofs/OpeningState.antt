-- A new table with its first seat meets the invariant.
use Rattle.std.proofs.Common.{◌≡◌, ◌≢◌, ℕ, zero, suc, ◌<◌, ◌≤◌, ◌%◌, ◌^◌}
use Rattle.std.proofs.Common.{Bool, true, false, [], ◌∷◌, Option, Some, None, inl, inr, refl, sym, ap, subst, ◌∙◌, arith}
use Rattle.std.specs.Option.{option_map}
use Rattle.std.proofs.lemmas.Bool.{cases_eq}
use Rattle.table_shape.specs.declared.place.Place.{Place}
use Rattle.table_shape.specs.declared.place.Place.TheVariants as place
use Rattle.table_shape.specs.Shape.{IsSound}
use Rattle.intern_log.specs.Now.{opening}
use Rattle.intern_log.specs.Own.{is_among}
use Rattle.intern_log.proofs.Handles.{HandlesDiffer-none, no_text_has}
use Rattle.atomic_step.specs.Count.{generation_of}
use Rattle.atomic_step.specs.Table.{IsWordAt}
use Rattle.call_machine.specs.declared.machine.Own.{Own}
use Rattle.cht_core.specs.declared.seat.Seat.{Seat}
use Rattle.cht_core.specs.declared.seat.Seat.TheVariants as doing
use Rattle.cht_core.specs.declared.table.Table.{Table}
use Rattle.cht_core.specs.Bounds.{Bounds, of_seat, over_seats, draws_in, raises_in, work_of}
use Rattle.cht_core.specs.Flow.{Flow}
use Rattle.cht_core.specs.Graces.{GrowsWithFew}
use Rattle.cht_core.specs.Passes.{PassesFind}
use Rattle.cht_core.specs.Heads.{Heads}
use Rattle.cht_core.specs.Invariant.{Inv, Numbers, Holds}
use Rattle.cht_core.specs.Chains.{Chains}
use Rattle.cht_core.specs.Ledger.{sum_below}
use Rattle.cht_core.specs.Looks.{LooksAtFew}
use Rattle.cht_core.specs.Memory.{Memory, is_inside}
use Rattle.cht_core.specs.Owes.{IsAllOf}
use Rattle.cht_core.specs.Past.{Past, past_of}
use Rattle.cht_core.specs.Slots.{Slots}
use Rattle.cht_core.specs.Stage.{Quiet, Whole}
use Rattle.cht_core.specs.TableState.{IsTable, Words}
use Rattle.cht_core.specs.Tidy.{IsTidy}
use Rattle.cht_core.specs.View.{View, Knows}

-- the words of a new table: one number is drawn, the counter and the level are the first ones, and all else is 0
pub record IsOpening (t : Table) (m : Memory) : Type 0 where
  pub draws : m place.Draws ≡ 1
  pub counter : m place.Counter ≡ t.first_counter
  pub level : m place.Level ≡ t.shape.min_level
  pub other : (p : Place) → p ≢ place.Draws → p ≢ place.Counter → p ≢ place.Level → m p ≡ 0

-- nothing is on a chain, nobody holds anything, and there is no resize
abbrev pub opening_flow : Flow
opening_flow = record { chain = λ row bucket. []; base = λ row bucket. 0; holds = λ k h. 0; stage = Quiet; parted = λ s. Whole; before = 0 }

-- what a new table has told, and its first seat
abbrev pub opening_past : Table → Past
opening_past t = past_of t.shape.min_level []

abbrev pub opening_own : Own
opening_own = record { number = 0; cursor = 0; work = None; grace = None }

abbrev pub opening_view : View
opening_view = record { seat = doing.Idle opening_own; load = 0; passed = []; numbers = 0 ∷ [] }

-- whether a new table has another word than 0 there
abbrev is_set : Place → Bool
is_set place.Draws = true
is_set place.Counter = true
is_set place.Level = true
is_set _ = false

-- a sum of nothing
pub sum_of_nothing : (bound : ℕ) (value : ℕ → ℕ) → ((k : ℕ) → value k ≡ 0) → sum_below bound value ≡ 0
sum_of_nothing zero value none = refl
sum_of_nothing (suc k) value none = let rest = sum_of_nothing k value none in let here = none k in omega (arith, rest, here)

module _ (t : Table) (m : Memory) (shape : IsSound t.shape) (even : t.first_counter % 2 ≡ 0) (low : t.first_counter ≤ 2 ^ 48) (opens : IsOpening t m) where
  unset : (p : Place) → is_set p ≡ false → m p ≡ 0
  unset p is = opens.other p (λ same. let set : is_set p ≡ true = ap is_set same in absurd (cc))
      (λ same. let set : is_set p ≡ true = ap is_set same in absurd (cc))
      (λ same. let set : is_set p ≡ true = ap is_set same in absurd (cc))

  at_zero : (p : Place) → is_set p ≡ false → IsWordAt t.shape p 0 → IsWordAt t.shape p (m p)
  at_zero p is word = subst (IsWordAt t.shape p) (sym (unset p is)) word

  sound_at : (p : Place) → IsWordAt t.shape p (m p)
  sound_at place.Draws = tt
  sound_at place.Counter = subst (IsWordAt t.shape place.Counter) (sym opens.counter) (even, omega (arith, low))
  sound_at place.ResizeLock = at_zero place.ResizeLock refl (omega arith)
  sound_at place.Level = let levels = shape.levels.0 in subst (IsWordAt t.shape place.Level) (sym opens.level) (omega arith, levels)
  sound_at place.NewLevel = at_zero place.NewLevel refl (inl refl)
  sound_at (place.Section k) = at_zero (place.Section k) refl (inl refl)
  sound_at (place.Head row bucket) = at_zero (place.Head row bucket) refl (omega arith, (λ is. absurd (omega (arith, is))))
  sound_at (place.Claim s) = at_zero (place.Claim s) refl (omega arith)
  sound_at (place.Link s) = at_zero (place.Link s) refl (omega arith)
  sound_at (place.Count s) = tt
  sound_at (place.Meta s) = at_zero (place.Meta s) refl (omega arith, omega arith)
  sound_at (place.Text s at) = tt

  small_at : (p : Place) → m p < 2 ^ 64
  small_at place.Draws = let one = opens.draws in omega (arith, one)
  small_at place.Counter = let first = opens.counter in omega (arith, first, low)
  small_at place.Level =
      let least = opens.level in
      let levels = shape.levels.0 in
      let most = shape.levels.1 in
      omega (arith, least, levels, most)
  small_at place.ResizeLock = let none = unset place.ResizeLock refl in omega (arith, none)
  small_at place.NewLevel = let none = unset place.NewLevel refl in omega (arith, none)
  small_at (place.Section k) = let none = unset (place.Section k) refl in omega (arith, none)
  small_at (place.Head row bucket) = let none = unset (place.Head row bucket) refl in omega (arith, none)
  small_at (place.Claim s) = let none = unset (place.Claim s) refl in omega (arith, none)
  small_at (place.Link s) = let none = unset (place.Link s) refl in omega (arith, none)
  small_at (place.Count s) = let none = unset (place.Count s) refl in omega (arith, none)
  small_at (place.Meta s) = let none = unset (place.Meta s) refl in omega (arith, none)
  small_at (place.Text s at) = let none = unset (place.Text s at) refl in omega (arith, none)

  outside_at : (p : Place) → is_inside t.shape p ≡ false → m p ≡ 0
  outside_at place.Draws outside = absurd (cc)
  outside_at place.Counter outside = absurd (cc)
  outside_at place.Level outside = absurd (cc)
  outside_at place.ResizeLock outside = absurd (cc)
  outside_at place.NewLevel outside = absurd (cc)
  outside_at (place.Section k) outside = unset (place.Section k) refl
  outside_at (place.Head row bucket) outside = unset (place.Head row bucket) refl
  outside_at (place.Claim s) outside = unset (place.Claim s) refl
  outside_at (place.Link s) outside = unset (place.Link s) refl
  outside_at (place.Count s) outside = unset (place.Count s) refl
  outside_at (place.Meta s) outside = unset (place.Meta s) refl
  outside_at (place.Text s at) outside = unset (place.Text s at) refl

  opening_words : Words t m
  opening_words = record {
    sound = sound_at;
    small = small_at;
    counter = let first = opens.counter in omega (arith, first, low);
    outside = outside_at;
  }

  opening_tidy : IsTidy t (opening t.shape.min_level)
  opening_tidy = record {
    entries = λ text e is. absurd (no_text_has text e.handle (e, is, refl));
    differ = HandlesDiffer-none;
    linked = λ s text h born is. absurd (cc);
    unlinked = λ s seat at is. absurd (cc);
    sections = λ k o is. absurd (cc);
    since = omega arith;
    level = let levels = shape.levels.0 in (omega arith, levels);
    seed = omega arith;
  }

  opening_slots : Slots t m (opening_past t)
  opening_slots = record {
    claims = λ s. unset (place.Claim s) refl;
    counts = λ s text h born is. absurd (cc);
    gone = λ s seat at is. absurd (cc);
    metas = λ s text h born is. absurd (cc);
    texts = λ s text h born is. absurd (cc);
    rooms = λ s text h born is. absurd (cc);
    made = λ h is. absurd (cc);
    uses = λ s. let none : generation_of (m (place.Count s)) ≡ 0 = ap generation_of (unset (place.Count s) refl) in omega (arith, none);
    used = λ s text h born is. absurd (cc);
  }

  opening_heads : Heads m (opening t.shape.min_level) opening_flow
  opening_heads = record {
    level = opens.level;
    new_level = unset place.NewLevel refl;
    owner = unset place.ResizeLock refl;
    paths = λ row bucket used. (None, unset (place.Head row bucket) refl, refl);
    behind = λ row bucket left. absurd left.1;
    held = λ row bucket k is. absurd (cc);
    gone = λ bucket gone. absurd gone;
    pinned = λ row bucket pinned. absurd pinned;
  }

  opening_chains : Chains (opening t.shape.min_level) opening_flow
  opening_chains = record {
    on_linked = λ row bucket s used on. absurd on;
    linked_on = λ s text h at row is comes. absurd (cc);
    once = λ row bucket used. tt;
    ranked = λ row bucket used. inr tt;
    bases = λ row bucket. omega arith;
    sides = λ row bucket s text h at used on is. absurd on;
    loose = λ s. inl refl;
    within = tt;
  }

  -- a new table is as it should be
  pub opening_table : IsTable t m (opening_past t) opening_flow
  opening_table = record {
    shape = shape;
    tidy = opening_tidy;
    words = opening_words;
    slots = opening_slots;
    sections = record {
      counter = let first = opens.counter in omega (arith, first);
      words = λ k. unset (place.Section k) refl;
      seats = λ k o is. absurd (cc);
    };
    heads = opening_heads;
    chains = opening_chains;
    clear = λ k o is. absurd (cc);
    idle = λ none. refl;
    whole = λ settled. tt;
    row = λ r is. absurd (cc);
    named = λ level is. absurd (cc);
    ledger = λ counted. record {
      live = λ text e is below. absurd (no_text_has text e.handle (e, is, refl));
      gone = λ h dead. sum_of_nothing t.shape.seats (λ k. 0) (λ k. refl);
    };
  }

  -- with one seat, which is between its calls
  module _ (seat : ℕ → Option View) (first : seat 0 ≡ Some opening_view) (rest : (k : ℕ) → k ≢ 0 → seat k ≡ None) where
    only_first : (k : ℕ) (v : View) → seat k ≡ Some v → (k ≡ 0) × (v ≡ opening_view)
    only_first k v is = elim (cases_eq k 0) [
      | inl here ↦
          let now : seat 0 ≡ Some v = ap seat (sym here) ∙ is in
          let views : v ≡ opening_view = cc in
          (here, views)
      | inr differ ↦ let none : seat k ≡ None = rest k differ in absurd (cc)
    ]

    nothing_of : (value : Seat → ℕ) → value (doing.Idle opening_own) ≡ 0 → over_seats t.shape.seats value seat ≡ 0
    nothing_of value none = sum_of_nothing t.shape.seats (λ k. of_seat value (seat k)) (λ k. elim (cases_eq k 0) [
      | inl here ↦ ap (λ j. of_seat value (seat j)) here ∙ ap (of_seat value) first ∙ none
      | inr differ ↦ ap (of_seat value) (rest k differ)
    ])

    opening_knows : Knows t m (opening_past t) opening_flow 0 opening_view
    opening_knows =
        let slots = shape.slots in
        let seats = shape.seats.0 in
        (record { number = refl; sound = ((omega (arith, seats), omega (arith, slots), tt), tt); single = inl refl }, (refl, tt, tt))

    opening_owes : (k : ℕ) (at : Option Seat) → IsAllOf (opening_past t) k at
    opening_owes k None = record {
      section = refl;
      claimed = λ slot is. absurd (cc);
      unlinked = λ slot at is. absurd (cc);
      locked = λ row bucket is. absurd (cc);
      owner = λ is. absurd (cc);
    }
    opening_owes k (Some s) = record {
      claimed = λ slot is. absurd (cc);
      unlinked = λ slot at is. absurd (cc);
      locked = λ row bucket is. absurd (cc);
      owner = λ is. absurd (cc);
    }

    opening_bounds : Bounds t m seat
    opening_bounds =
        let draws = nothing_of draws_in refl in
        let raises = nothing_of raises_in refl in
        let one = opens.draws in
        let counter = opens.counter in
        let seats = shape.seats.0 in
        record {
          draws = omega (arith, draws, one, seats);
          counter = omega (arith, raises, counter, low);
          works = λ k v w is works raised.
              let none : work_of v.seat ≡ None = ap (λ (x : View). work_of x.seat) (only_first k v is).1 in
              absurd (cc);
          polls = λ k v q is running. let idle : v.seat ≡ doing.Idle opening_own = ap (λ (x : View). x.seat) (only_first k v is).1 in absurd (cc);
        }

    opening_numbers : Numbers t seat []
    opening_numbers = record {
      seats = λ k v is.
          let only = only_first k v is in
          let seats = shape.seats.0 in
          let inside : 0 < t.shape.seats = omega (arith, seats) in
          (subst (λ j. j < t.shape.seats) (sym only.0) inside, subst (λ j. is_among v.numbers j ≡ true) (sym only.0) (ap (λ (x : View). is_among x.numbers 0) only.1));
      apart = λ k j number v u at_k at_j among also. (only_first k v at_k).0 ∙ sym (only_first j u at_j).0;
      heard = λ at d inside. absurd (omega (arith, inside));
    }

    opening_holds : Holds seat [] opening_flow.holds
    opening_holds = record {
      own = λ k v h is. refl;
      none = λ k h is. refl;
    }

    -- the invariant of a new table
    pub opening_inv : Inv t m seat []
    opening_inv = record {
      flow = opening_flow;
      table = opening_table;
      knows = λ k v is.
          let only = only_first k v is in
          subst (λ j. Knows t m (opening_past t) opening_flow j v) (sym only.0) (subst (Knows t m (opening_past t) opening_flow 0) (sym only.1) opening_knows);
      owes = λ k. opening_owes k (option_map (λ (v : View). v.seat) (seat k));
      bounds = opening_bounds;
      numbers = opening_numbers;
      holds = opening_holds;
      told = tt;
      lawful = λ short. record { allowed = tt; fresh = tt };
      edges = λ s next k at is. absurd (cc);
      graces = λ k v is. subst (λ (x : View). GrowsWithFew (opening_past t).now [] opening_flow x.seat) (sym (only_first k v is).1) (tt, tt);
      looks = λ k v is. subst (λ (x : View). LooksAtFew t.shape.slots opening_flow x.seat) (sym (only_first k v is).1) tt;
      passes = λ k v is. subst (λ (x : View). PassesFind t (opening_past t).now [] opening_flow k x.seat) (sym (only_first k v is).1) (tt, tt);
    }
