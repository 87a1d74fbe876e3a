-- What a seat holds, by the events of its number alone; and the words of a table as a memory.
use Rattle.std.proofs.Common.{◌≡◌, ◌≢◌, ℕ, zero, suc, ◌≤◌, ◌^◌, Bool, true, false, cond, ◌&&◌, ◌||◌, nat_eq, nat_lt, nat_le, List, [], ◌∷◌, length, get_or, set, replicate, refl, sym, ap, ◌∙◌, arith}
use Rattle.std.specs.Prelude.{filter, count_by}
use Rattle.std.proofs.lemmas.List.{get_or-set_same, get_or-set_other, length-set}
use Rattle.std.proofs.lemmas.List.Sums.{sum_by-cons}
use Rattle.std.proofs.lemmas.Bool.{lt-ltb, ltb-true, le-leb, leb-true}
use Rattle.intern_log.specs.declared.event.Event.{Event}
use Rattle.intern_log.specs.declared.event.Handle.{Handle}
use Rattle.intern_log.specs.declared.event.What.{What}
use Rattle.intern_log.specs.declared.event.What.TheVariants as what
use Rattle.table_shape.specs.declared.shape.Shape.{Shape}
use Rattle.table_shape.specs.declared.place.Place.{Place}
use Rattle.table_shape.specs.declared.place.Place.TheVariants as place
use Rattle.table_shape.specs.Place.{IsInside, index_of}
use Rattle.table_shape.specs.Shape.{words_of}
use Rattle.table_shape.proofs.Places.{same_place}
use Rattle.atomic_step.specs.declared.access.Deed.{Deed}
use Rattle.atomic_step.specs.declared.access.Deed.TheVariants as deed
use Rattle.atomic_step.specs.declared.step.Step.{Step}
use Rattle.atomic_step.specs.Access.{word_after, op_of, index_in, deed_in}
use Rattle.atomic_step.specs.Step.{access_of}
use Rattle.atomic_step.specs.Table.{word_at, words_after}
use Rattle.atomic_step.proofs.Words.{own, others}
use Rattle.cht_core.specs.declared.table.Table.{Table}
use Rattle.cht_core.specs.Memory.{IsMade, is_inside, memory_of}
use Rattle.cht_core.specs.State.{opening_words}
use Rattle.cht_core.proofs.OpeningState.{IsOpening}
use Rattle.intern_log.specs.Own.{is_visible, mine, gains, losses, is_gain, is_loss}

-- an event that gives or takes a hold is one that callers see
gain_visible : (w : What) (h : Handle) → is_gain w h ≡ true → is_visible w ≡ true
gain_visible (what.Create text k) h is = refl
gain_visible (what.Take text k) h is = refl
gain_visible _ h is = absurd (cc)

loss_visible : (w : What) (h : Handle) → is_loss w h ≡ true → is_visible w ≡ true
loss_visible (what.Drop k) h is = refl
loss_visible _ h is = absurd (cc)

abbrev one_if : Bool → ℕ
one_if b = cond b 1 0

-- the events that count, among those of one number
counted_of_one : (counts : What → Bool) → ((w : What) → counts w ≡ true → is_visible w ≡ true) → (number : ℕ) (log : List Event)
    → length (filter (λ (e : Event). nat_eq e.seat number && counts e.what) log) ≡ count_by (λ (e : Event). counts e.what) (mine log (number ∷ []))
counted_of_one counts seen number [] = refl
counted_of_one counts seen number (e ∷ log) = go (nat_eq e.seat number) (is_visible e.what) (counts e.what) (seen e.what) (counted_of_one counts seen number log) refl
  where
    go : (mine_too visible counted : Bool) → (counted ≡ true → visible ≡ true)
        → length (filter (λ (e : Event). nat_eq e.seat number && counts e.what) log) ≡ count_by (λ (e : Event). counts e.what) (mine log (number ∷ []))
        → counts e.what ≡ counted
        → length (cond (mine_too && counted) (e ∷ filter (λ (e : Event). nat_eq e.seat number && counts e.what) log) (filter (λ (e : Event). nat_eq e.seat number && counts e.what) log))
        ≡ count_by (λ (e : Event). counts e.what) (cond (visible && (mine_too || false)) (e ∷ mine log (number ∷ [])) (mine log (number ∷ [])))
    go true true true seen rest is =
        let next = sum_by-cons (λ (x : Event). one_if (counts x.what)) e (mine log (number ∷ [])) in
        let one : one_if (counts e.what) ≡ 1 = ap one_if is in
        omega (arith, rest, next, one)
    go true true false seen rest is =
        let next = sum_by-cons (λ (x : Event). one_if (counts x.what)) e (mine log (number ∷ [])) in
        let none : one_if (counts e.what) ≡ 0 = ap one_if is in
        omega (arith, rest, next, none)
    go true false true seen rest is = absurd (let clash = seen refl in cc)
    go true false false seen rest is = rest
    go false true counted seen rest is = rest
    go false false counted seen rest is = rest

-- what a number has gained and lost
pub gains_of_one : (number : ℕ) (h : Handle) (log : List Event) → length (filter (λ (e : Event). nat_eq e.seat number && is_gain e.what h) log) ≡ gains (mine log (number ∷ [])) h
gains_of_one number h log = counted_of_one (λ w. is_gain w h) (λ w. gain_visible w h) number log

pub losses_of_one : (number : ℕ) (h : Handle) (log : List Event) → length (filter (λ (e : Event). nat_eq e.seat number && is_loss e.what h) log) ≡ losses (mine log (number ∷ [])) h
losses_of_one number h log = counted_of_one (λ w. is_loss w h) (λ w. loss_visible w h) number log

-- WORDS BY THEIR PLACES

both : (a b : Bool) → a ≡ true → b ≡ true → (a && b) ≡ true
both a b is also = ap (λ x. x && b) is ∙ also

first_true : (a b : Bool) → (a && b) ≡ true → a ≡ true
first_true true b is = refl
first_true false b is = absurd (cc)

second_true : (a b : Bool) → (a && b) ≡ true → b ≡ true
second_true true b is = is
second_true false b is = absurd (cc)

pub inside_tested : (shape : Shape) (p : Place) → IsInside shape p → is_inside shape p ≡ true
inside_tested shape (place.Section number) within = lt-ltb number shape.seats within
inside_tested shape (place.Head row bucket) within =
    both (nat_le shape.min_level row && nat_le row shape.max_level) (nat_lt bucket (2 ^ row))
    (both (nat_le shape.min_level row) (nat_le row shape.max_level) (le-leb shape.min_level row within.0) (le-leb row shape.max_level within.1)) (lt-ltb bucket (2 ^ row) within.2)
inside_tested shape (place.Claim slot) within = lt-ltb slot shape.slots within
inside_tested shape (place.Link slot) within = lt-ltb slot shape.slots within
inside_tested shape (place.Count slot) within = lt-ltb slot shape.slots within
inside_tested shape (place.Meta slot) within = lt-ltb slot shape.slots within
inside_tested shape (place.Text slot at) within = both (nat_lt slot shape.slots) (nat_lt at shape.text_words) (lt-ltb slot shape.slots within.0) (lt-ltb at shape.text_words within.1)
inside_tested shape _ within = refl

pub tested_inside : (shape : Shape) (p : Place) → is_inside shape p ≡ true → IsInside shape p
tested_inside shape (place.Section number) is = ltb-true number shape.seats is
tested_inside shape (place.Head row bucket) is =
    let row_is = first_true (nat_le shape.min_level row && nat_le row shape.max_level) (nat_lt bucket (2 ^ row)) is in (
      leb-true shape.min_level row (first_true (nat_le shape.min_level row) (nat_le row shape.max_level) row_is),
      leb-true row shape.max_level (second_true (nat_le shape.min_level row) (nat_le row shape.max_level) row_is),
      ltb-true bucket (2 ^ row) (second_true (nat_le shape.min_level row && nat_le row shape.max_level) (nat_lt bucket (2 ^ row)) is),
    )
tested_inside shape (place.Claim slot) is = ltb-true slot shape.slots is
tested_inside shape (place.Link slot) is = ltb-true slot shape.slots is
tested_inside shape (place.Count slot) is = ltb-true slot shape.slots is
tested_inside shape (place.Meta slot) is = ltb-true slot shape.slots is
tested_inside shape (place.Text slot at) is = (
  ltb-true slot shape.slots (first_true (nat_lt slot shape.slots) (nat_lt at shape.text_words) is),
  ltb-true at shape.text_words
      (second_true (nat_lt slot shape.slots) (nat_lt at shape.text_words) is),
)
tested_inside shape _ is = tt

-- the word of a place that the table has
pub memory_at : (shape : Shape) (words : List ℕ) (p : Place) → IsInside shape p → memory_of shape words p ≡ word_at shape p words
memory_at shape words p within = ap (λ b. cond b (word_at shape p words) 0) (inside_tested shape p within)

pub memory_out : (shape : Shape) (words : List ℕ) (p : Place) → is_inside shape p ≡ false → memory_of shape words p ≡ 0
memory_out shape words p out = ap (λ b. cond b (word_at shape p words) 0) out

-- a step on the words is one on the memory
pub words_made : (shape : Shape) (s : Step) (words : List ℕ) → length words ≡ words_of shape → IsInside shape (access_of s).place
    → IsMade s (memory_of shape words) (memory_of shape (words_after shape s words))
words_made shape s words whole inside = record {
  here = memory_at shape (words_after shape s words) (access_of s).place inside ∙ own shape s words whole inside
      ∙ ap (word_after (access_of s).deed) (sym (memory_at shape words (access_of s).place inside));
  there = λ p differ. go p differ (is_inside shape p) refl;
}
  where
    go : (p : Place) → p ≢ (access_of s).place → (b : Bool) → is_inside shape p ≡ b → memory_of shape (words_after shape s words) p ≡ memory_of shape words p
    go p differ true is =
        let within = tested_inside shape p is in
        memory_at shape (words_after shape s words) p within ∙ others shape s words p inside within differ ∙ sym (memory_at shape words p within)
    go p differ false is = memory_out shape (words_after shape s words) p is ∙ sym (memory_out shape words p is)

-- an operation on the word of an index
pub index_in_op : (at : ℕ) (d : Deed) → index_in (op_of at d) ≡ at
index_in_op at deed.Load = refl
index_in_op at (deed.Store value) = refl
index_in_op at (deed.Swap value) = refl
index_in_op at (deed.Add value) = refl
index_in_op at (deed.Exchange old new) = refl

pub deed_in_op : (at : ℕ) (d : Deed) → deed_in (op_of at d) ≡ d
deed_in_op at deed.Load = refl
deed_in_op at (deed.Store value) = refl
deed_in_op at (deed.Swap value) = refl
deed_in_op at (deed.Add value) = refl
deed_in_op at (deed.Exchange old new) = refl

-- A NEW TABLE

pub get_or-replicate : {A : Type 0} (n k : ℕ) (d : A) → get_or (replicate n d) k d ≡ d
get_or-replicate zero k d = refl
get_or-replicate (suc n) zero d = refl
get_or-replicate (suc n) (suc k) d = get_or-replicate n k d

pub length-same : {A : Type 0} (n : ℕ) (d : A) → length (replicate n d) ≡ n
length-same zero d = refl
length-same (suc n) d = ap suc (length-same n d)

pub opening_sized : (t : Table) → length (opening_words t) ≡ words_of t.shape
opening_sized t = simp length-set (length-same {A = ℕ} (words_of t.shape) 0)

module _ (t : Table) where
  abbrev blank : List ℕ
  blank = replicate (words_of t.shape) 0

  enough : 5 ≤ words_of t.shape
  enough = omega arith

  pub opening_draws : word_at t.shape place.Draws (opening_words t) ≡ 1
  opening_draws =
      get_or-set_other (set (set blank 0 1) 1 t.first_counter) 3 0 t.shape.min_level 0 (omega arith)
      ∙ get_or-set_other (set blank 0 1) 1 0 t.first_counter 0 (omega arith)
      ∙ get_or-set_same blank 0 1 0 (let whole = length-same {A = ℕ} (words_of t.shape) 0 in omega (arith, whole, enough))

  opening_counter : word_at t.shape place.Counter (opening_words t) ≡ t.first_counter
  opening_counter =
      get_or-set_other (set (set blank 0 1) 1 t.first_counter) 3 1 t.shape.min_level 0 (omega arith)
      ∙ get_or-set_same (set blank 0 1) 1 t.first_counter 0 (let whole = length-same {A = ℕ} (words_of t.shape) 0 in let same = length-set blank 0 1 in omega (arith, whole, same, enough))

  opening_level : word_at t.shape place.Level (opening_words t) ≡ t.shape.min_level
  opening_level =
      let whole = length-same {A = ℕ} (words_of t.shape) 0 in
      let same = length-set blank 0 1 in
      let also = length-set (set blank 0 1) 1 t.first_counter in
      get_or-set_same (set (set blank 0 1) 1 t.first_counter) 3 t.shape.min_level 0 (omega (arith, whole, same, also, enough))

  opening_other : (k : ℕ) → k ≢ 0 → k ≢ 1 → k ≢ 3 → get_or (opening_words t) k 0 ≡ 0
  opening_other k first second third =
      get_or-set_other (set (set blank 0 1) 1 t.first_counter) 3 k t.shape.min_level 0 third
      ∙ get_or-set_other (set blank 0 1) 1 k t.first_counter 0 second
      ∙ get_or-set_other blank 0 k 1 0 first
      ∙ get_or-replicate (words_of t.shape) k 0

  -- the words of a new table
  pub opening_is : IsOpening t (memory_of t.shape (opening_words t))
  opening_is = record {
    draws = opening_draws;
    counter = opening_counter;
    level = opening_level;
    other = λ p draws counter level. go p draws counter level (is_inside t.shape p) refl;
  }
    where
      go : (p : Place) → p ≢ place.Draws → p ≢ place.Counter → p ≢ place.Level → (b : Bool) → is_inside t.shape p ≡ b → memory_of t.shape (opening_words t) p ≡ 0
      go p draws counter level true is =
          let within = tested_inside t.shape p is in
          memory_at t.shape (opening_words t) p within
          ∙ opening_other (index_of t.shape p) (λ at. draws (same_place t.shape p place.Draws within tt at)) (λ at. counter (same_place t.shape p place.Counter within tt at))
          (λ at. level (same_place t.shape p place.Level within tt at))
      go p draws counter level false is = memory_out t.shape (opening_words t) p is
