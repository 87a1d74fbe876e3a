-- Tests of membership, the Kills of a plain log, and the last items of a list.
use Rattle.std.proofs.Common.{◌≡◌, ℕ, ◌-◌, ◌||◌, min, Bool, true, false, cond, List, [], ◌∷◌, ◌++◌, length, zero, suc, take, Option, Some, None, ◌⊎◌, ◌↔◌, inl, inr, refl, sym, ap, ◌∙◌, length-drop, arith}
use Rattle.std.specs.Prelude.{nat_eq}
use Rattle.std.specs.List.{list_any, Contains, cons_option}
use Rattle.std.specs.Str.{bytes_eq}
use Rattle.std.specs.Bool.{Decides}
use Rattle.std.proofs.lemmas.Bool.Decides.{Decides-eqb}
use Rattle.std.proofs.lemmas.Slice.Eq.{bytes_eq-Decides}
use Rattle.std.proofs.lemmas.List.{take-append-drop}
use Rattle.std.proofs.lemmas.List.Elements.{filter_map-append}
use Rattle.intern_log.specs.declared.event.Handle.{Handle}
use Rattle.intern_log.specs.declared.event.Event.{Event}
use Rattle.intern_log.specs.declared.event.What.{What}
use Rattle.intern_log.specs.declared.event.What.TheVariants.{Create, Kill}
use Rattle.intern_log.specs.Own.{is_among}
use Rattle.intern_log.specs.Finals.{finals, is_among_texts}
use Rattle.intern_log.specs.PlainLogs.{kill_of, kills_of}
use Rattle.intern_log.specs.CauseEvents.{IsByOther}

-- what a list with a first item contains
contains_first : {X : Type 0} (x : X) (xs : List X) (y : X) → x ≡ y → Contains (x ∷ xs) y
contains_first x xs y is = (0, omega arith, is)

contains_later : {X : Type 0} (x : X) (xs : List X) (y : X) → Contains xs y → Contains (x ∷ xs) y
contains_later x xs y (k, within, is) = (suc k, omega (arith, within), is)

first_or_later : {X : Type 0} (x : X) (xs : List X) (y : X) → Contains (x ∷ xs) y → (x ≡ y) ⊎ Contains xs y
first_or_later x xs y (zero, within, is) = inl is
first_or_later x xs y (suc k, within, is) = inr (k, omega (arith, within), is)

contains_nothing : {X : Type 0} (y : X) → Contains [] y → ⊥
contains_nothing y (k, within, is) = absurd (omega (arith, within))

-- a test of equality finds what a list contains, and nothing else
any_contains : {X : Type 0} (same : X → X → Bool) → ((x y : X) → Decides (same x y) (x ≡ y)) → (x : X) (xs : List X) → (list_any (same x) xs ≡ true) ↔ Contains xs x
any_contains same tells x [] = ((λ is. absurd (cc)), (λ there. absurd (contains_nothing x there)))
any_contains same tells x (y ∷ ys) = by (same x y) (tells x y) (any_contains same tells x ys)
  where
    by : (b : Bool) → Decides b (x ≡ y) → (list_any (same x) ys ≡ true) ↔ Contains ys x → (b || list_any (same x) ys ≡ true) ↔ Contains (y ∷ ys) x
    by true tell later = ((λ is. contains_first y ys x (sym (tell.0 refl))), (λ there. refl))
    by false tell later = (
      (λ is. contains_later y ys x (later.0 is)),
      (λ there. elim (first_or_later y ys x there) [
        | inl first ↦ let yes : false ≡ true = tell.1 (sym first) in absurd (cc)
        | inr after ↦ later.1 after
      ]),
    )

pub among_numbers : (numbers : List ℕ) (seat : ℕ) → (is_among numbers seat ≡ true) ↔ Contains numbers seat
among_numbers numbers seat = any_contains nat_eq Decides-eqb seat numbers

pub among_texts : (texts : List (List ℕ)) (text : List ℕ) → (is_among_texts texts text ≡ true) ↔ Contains texts text
among_texts texts text = any_contains bytes_eq bytes_eq-Decides text texts

unlike : (b : Bool) → ¬ (b ≡ true) → b ≡ false
unlike true never = absurd (never refl)
unlike false never = refl

not_both : (b : Bool) → b ≡ false → b ≡ true → ⊥
not_both b is_not is = absurd (cc)

pub by_other : (numbers : List ℕ) (e : Event) → IsByOther numbers e ↔ ¬ (Contains numbers e.seat)
by_other numbers e = (
  (λ other there. not_both (is_among numbers e.seat) other ((among_numbers numbers e.seat).1 there)),
  (λ never. unlike (is_among numbers e.seat) (λ is. never ((among_numbers numbers e.seat).0 is))),
)

-- the kill of one event
abbrev IsKilledFor : List (List ℕ) → What → What → Type 0
IsKilledFor final_texts what kill = (text : List ℕ) × (h : Handle) × (kill ≡ Kill h) × (what ≡ Create text h) × ¬ (Contains final_texts text)

killed_for : (final_texts : List (List ℕ)) (what kill : What) → kill_of final_texts what ≡ Some kill → IsKilledFor final_texts what kill
killed_for final_texts (Create text h) kill is = by (is_among_texts final_texts text) (among_texts final_texts text) is
  where
    by : (b : Bool) → (b ≡ true) ↔ Contains final_texts text → cond b None (Some (Kill h)) ≡ Some kill → IsKilledFor final_texts (Create text h) kill
    by true among made = absurd (cc)
    by false among made = let same : Kill h ≡ kill = cc in (text, h, sym same, refl, (λ there. not_both false refl (among.1 there)))
killed_for final_texts _ kill is = absurd (cc)

kill_made : (final_texts : List (List ℕ)) (what kill : What) → IsKilledFor final_texts what kill → kill_of final_texts what ≡ Some kill
kill_made final_texts what kill (text, h, is, made, none) =
    let never : is_among_texts final_texts text ≡ false = unlike (is_among_texts final_texts text) (λ there. none ((among_texts final_texts text).0 there)) in
    ap (kill_of final_texts) made ∙ ap (λ b. cond b None (Some (Kill h))) never ∙ ap Some (sym is)

option_contains : (o : Option What) (whats : List What) (what : What) → Contains (cons_option o whats) what → (o ≡ Some what) ⊎ Contains whats what
option_contains None whats what there = inr there
option_contains (Some x) whats what there = elim (first_or_later x whats what there) [
  | inl first ↦ inl (ap Some first)
  | inr later ↦ inr later
]

option_first : (o : Option What) (whats : List What) (what : What) → o ≡ Some what → Contains (cons_option o whats) what
option_first None whats what is = absurd (cc)
option_first (Some x) whats what is = let same : x ≡ what = cc in contains_first x whats what same

option_later : (o : Option What) (whats : List What) (what : What) → Contains whats what → Contains (cons_option o whats) what
option_later None whats what there = there
option_later (Some x) whats what there = contains_later x whats what there

abbrev IsKilled : List (List ℕ) → List What → What → Type 0
IsKilled final_texts whats kill = (text : List ℕ) × (h : Handle) × (kill ≡ Kill h) × Contains whats (Create text h) × ¬ (Contains final_texts text)

killed_by : (final_texts : List (List ℕ)) (whats : List What) (kill : What) → Contains (kills_of final_texts whats) kill → IsKilled final_texts whats kill
killed_by final_texts [] kill there = absurd (contains_nothing kill there)
killed_by final_texts (what ∷ whats) kill there = elim (option_contains (kill_of final_texts what) (kills_of final_texts whats) kill there) [
  | inl first ↦ let (text, h, is, made, none) = killed_for final_texts what kill first in (text, h, is, contains_first what whats (Create text h) made, none)
  | inr later ↦ let (text, h, is, made, none) = killed_by final_texts whats kill later in (text, h, is, contains_later what whats (Create text h) made, none)
]

killed_so : (final_texts : List (List ℕ)) (whats : List What) (kill : What) → IsKilled final_texts whats kill → Contains (kills_of final_texts whats) kill
killed_so final_texts [] kill (text, h, is, made, none) = absurd (contains_nothing (Create text h) made)
killed_so final_texts (what ∷ whats) kill (text, h, is, made, none) = elim (first_or_later what whats (Create text h) made) [
  | inl first ↦ option_first (kill_of final_texts what) (kills_of final_texts whats) kill (kill_made final_texts what kill (text, h, is, first, none))
  | inr later ↦ option_later (kill_of final_texts what) (kills_of final_texts whats) kill (killed_so final_texts whats kill (text, h, is, later, none))
]

pub killed : (final_texts : List (List ℕ)) (whats : List What) (kill : What) →
    Contains (kills_of final_texts whats) kill ↔ ((text : List ℕ) × (h : Handle) × (kill ≡ Kill h) × Contains whats (Create text h) × ¬ (Contains final_texts text))
killed final_texts whats kill = (killed_by final_texts whats kill, killed_so final_texts whats kill)

pub kills_of-append : (final_texts : List (List ℕ)) (front rest : List What) → kills_of final_texts (front ++ rest) ≡ kills_of final_texts front ++ kills_of final_texts rest
kills_of-append final_texts front rest = filter_map-append (kill_of final_texts) front rest

-- the last items of a list
pub last_items : (hold : ℕ) (items : List (List ℕ)) → ((front : List (List ℕ)) × (items ≡ front ++ finals hold items)) × (length (finals hold items) ≡ min hold (length items))
last_items hold items =
    let sum = length-drop (length items - hold) items in
    ((take (length items - hold) items, sym (take-append-drop (length items - hold) items)), omega (arith, sum))
