-- A seat may be added, and a seat may be given the numbers and the holds of another one.
use Rattle.std.proofs.Common.{◌≡◌, ◌≢◌, ℕ, ◌+◌, ◌<◌, Bool, true, false, ◌||◌, ◌⊎◌, List, [], ◌∷◌, ◌++◌, Option, Some, None, inl, inr}
use Rattle.std.proofs.Common.{refl, sym, ap, subst, ◌∙◌, slice_index_or, arith}
use Rattle.std.proofs.lemmas.Bool.{cases_eq, eq-eqb}
use Rattle.intern_log.specs.declared.event.Event.{Event}
use Rattle.intern_log.specs.declared.event.Handle.{Handle}
use Rattle.intern_log.specs.declared.event.What.{What}
use Rattle.intern_log.specs.Counts.{events_in}
use Rattle.intern_log.specs.Own.{is_visible, is_among, is_gain, is_loss, mine, gains, losses}
use Rattle.cht_core.specs.declared.table.Table.{Table}
use Rattle.cht_core.specs.Invariant.{Numbers, Holds, Moves}
use Rattle.cht_core.specs.View.{View}
use Rattle.cht_core.proofs.OwnEvents.{AreApart, among_both, among_one, own_of_both, own_of_nobody}

-- a test that answers false or true
answer : (b : Bool) → (b ≡ true → ⊥) → b ≡ false
answer false never = refl
answer true never = absurd (never refl)

module _ (t : Table) (seat seat' : ℕ → Option View) (log : List Event) (k : ℕ) (v : View) (numbers : Numbers t seat log) (free : seat k ≡ None)
    (unused : (j : ℕ) (u : View) → seat j ≡ Some u → is_among u.numbers k ≡ false) (moves : Moves seat seat' k v) (own : v.numbers ≡ k ∷ []) where
  added_or_old : (j : ℕ) (u : View) → seat' j ≡ Some u → ((j ≡ k) × (u ≡ v)) ⊎ ((j ≢ k) × (seat j ≡ Some u))
  added_or_old j u is = elim (cases_eq j k) [
    | inl here ↦
        let added : seat' k ≡ Some v = moves.own in
        let now : seat' k ≡ Some u = ap seat' (sym here) ∙ is in
        let views : u ≡ v = cc in
        inl (here, views)
    | inr differ ↦ inr (differ, sym (moves.other j differ) ∙ is)
  ]

  stays : (j : ℕ) (u : View) → seat j ≡ Some u → seat' j ≡ Some u
  stays j u is = elim (cases_eq j k) [
    | inl here ↦ let now : seat k ≡ Some u = ap seat (sym here) ∙ is in absurd (cc)
    | inr differ ↦ moves.other j differ ∙ is
  ]

  has_its_number : is_among v.numbers k ≡ true
  has_its_number = ap (λ ns. is_among ns k) own ∙ ap (λ b. b || false) (eq-eqb k k refl)

  has_no_other : (number : ℕ) → is_among v.numbers number ≡ true → number ≡ k
  has_no_other number among = among_one k number (ap (λ ns. is_among ns number) (sym own) ∙ among)

  -- another seat's number is not that of the added one
  not_shared : (j number : ℕ) (u : View) → seat j ≡ Some u → is_among v.numbers number ≡ true → is_among u.numbers number ≡ true → ⊥
  not_shared j number u is among also =
      let here : is_among u.numbers k ≡ true = ap (is_among u.numbers) (sym (has_no_other number among)) ∙ also in
      let not_here : is_among u.numbers k ≡ false = unused j u is in
      absurd (cc)

  apart_with : (j l number : ℕ) (u w : View) → seat' j ≡ Some u → seat' l ≡ Some w → is_among u.numbers number ≡ true → is_among w.numbers number ≡ true → j ≡ l
  apart_with j l number u w at_j at_l among also = elim (added_or_old j u at_j) [
    | inl first ↦ elim (added_or_old l w at_l) [
      | inl second ↦ first.0 ∙ sym second.0
      | inr second ↦ absurd (not_shared l number w second.1 (subst (λ (x : View). is_among x.numbers number ≡ true) first.1 among) also)
    ]
    | inr first ↦ elim (added_or_old l w at_l) [
      | inl second ↦ absurd (not_shared j number u first.1 (subst (λ (x : View). is_among x.numbers number ≡ true) second.1 also) among)
      | inr second ↦ numbers.apart j l number u w first.1 second.1 among also
    ]
  ]

  -- the numbers of the seats, with one more seat that has its own number
  pub numbers_with_seat : k < t.shape.seats → Numbers t seat' log
  numbers_with_seat inside = record {
    seats = λ j u is. elim (added_or_old j u is) [
      | inl added ↦ (
        subst (λ x. x < t.shape.seats) (sym added.0) inside,
        subst (λ x. is_among u.numbers x ≡ true) (sym added.0) (subst (λ (x : View). is_among x.numbers k ≡ true) (sym added.1) has_its_number),
      )
      | inr old ↦ numbers.seats j u old.1
    ];
    apart = apart_with;
    heard = λ at d inside visible. let was = numbers.heard at d inside visible in (was.0, was.1, stays was.0 was.1 was.2, was.3);
  }

  -- no event that callers see is by the number
  unheard : (e : Event) → (is_visible e.what ≡ true → (j : ℕ) × (u : View) × (seat j ≡ Some u) × (is_among u.numbers e.seat ≡ true)) →
      is_visible e.what ≡ true → is_among v.numbers e.seat ≡ false
  unheard e heard visible =
      let by_one = heard visible in
      answer (is_among v.numbers e.seat) (λ among. not_shared by_one.0 e.seat by_one.1 by_one.2 among by_one.3)

  nothing_own : (test : What → Bool) → events_in test (mine log v.numbers) ≡ 0
  nothing_own test = own_of_nobody test v.numbers log (λ at d inside. unheard (slice_index_or log at d) (numbers.heard at d inside))

  -- the holds of the seats, with one more seat that holds nothing yet
  pub holds_with_seat : (holds : ℕ → Handle → ℕ) → Holds seat log holds → Holds seat' log holds
  holds_with_seat holds held = record {
    own = λ j u h is. elim (added_or_old j u is) [
      | inl added ↦
          let none : holds j h ≡ 0 = ap (λ x. holds x h) added.0 ∙ held.none k h free in
          let lost : losses (mine log u.numbers) h ≡ 0 = ap (λ (x : View). losses (mine log x.numbers) h) added.1 ∙ nothing_own (λ w. is_loss w h) in
          let gained : gains (mine log u.numbers) h ≡ 0 = ap (λ (x : View). gains (mine log x.numbers) h) added.1 ∙ nothing_own (λ w. is_gain w h) in
          omega (arith, none, lost, gained)
      | inr old ↦ held.own j u h old.1
    ];
    none = λ j h is. elim (cases_eq j k) [
      | inl here ↦ ap (λ x. holds x h) here ∙ held.none k h free
      | inr differ ↦ held.none j h (sym (moves.other j differ) ∙ is)
    ];
  }

-- a seat may be added: the numbers and the holds of the seats stay as they should be
pub new_seat : (t : Table) (seat seat' : ℕ → Option View) (log : List Event) (holds : ℕ → Handle → ℕ) (k : ℕ) (v : View) → Numbers t seat log → Holds seat log holds →
    seat k ≡ None → k < t.shape.seats → ((j : ℕ) (u : View) → seat j ≡ Some u → is_among u.numbers k ≡ false) → Moves seat seat' k v → v.numbers ≡ k ∷ [] →
    Numbers t seat' log × Holds seat' log holds
new_seat t seat seat' log holds k v numbers held free inside unused moves own =
    (numbers_with_seat t seat seat' log k v numbers free unused moves own inside, holds_with_seat t seat seat' log k v numbers free unused moves own holds held)

-- one seat has the numbers and the holds of another one beside its own, that one is gone, and all others are as they were
pub record HandsOver (seat seat' : ℕ → Option View) (holds holds' : ℕ → Handle → ℕ) (i j : ℕ) (v u v' : View) : Type 0 where
  pub to : seat i ≡ Some v
  pub from : seat j ≡ Some u
  pub differ : i ≢ j
  pub own : seat' i ≡ Some v'
  pub numbers : v'.numbers ≡ u.numbers ++ v.numbers
  pub gone : seat' j ≡ None
  pub other : (k : ℕ) → k ≢ i → k ≢ j → seat' k ≡ seat k
  pub held : (h : Handle) → holds' i h ≡ holds i h + holds j h
  pub none : (h : Handle) → holds' j h ≡ 0
  pub stay : (k : ℕ) (h : Handle) → k ≢ i → k ≢ j → holds' k h ≡ holds k h

module _ (t : Table) (seat seat' : ℕ → Option View) (log : List Event) (holds holds' : ℕ → Handle → ℕ) (i j : ℕ) (v u v' : View)
    (given : HandsOver seat seat' holds holds' i j v u v') (numbers : Numbers t seat log) where
  -- a seat that is there now got the numbers, or was there
  joined_or_old : (k : ℕ) (w : View) → seat' k ≡ Some w → ((k ≡ i) × (w ≡ v')) ⊎ ((k ≢ i) × (k ≢ j) × (seat k ≡ Some w))
  joined_or_old k w is = elim (cases_eq k i) [
    | inl here ↦
        let own : seat' i ≡ Some v' = given.own in
        let now : seat' i ≡ Some w = ap seat' (sym here) ∙ is in
        let views : w ≡ v' = cc in
        inl (here, views)
    | inr differ ↦ elim (cases_eq k j) [
      | inl there ↦ let gone : seat' j ≡ None = given.gone in let now : seat' j ≡ Some w = ap seat' (sym there) ∙ is in absurd (cc)
      | inr also ↦ inr (differ, also, sym (given.other k differ also) ∙ is)
    ]
  ]

  was_to : (k : ℕ) (w : View) → k ≡ i → seat k ≡ Some w → w ≡ v
  was_to k w here is = let to : seat i ≡ Some v = given.to in let now : seat i ≡ Some w = ap seat (sym here) ∙ is in cc

  was_from : (k : ℕ) (w : View) → k ≡ j → seat k ≡ Some w → w ≡ u
  was_from k w there is = let from : seat j ≡ Some u = given.from in let now : seat j ≡ Some w = ap seat (sym there) ∙ is in cc

  among_joined : (number : ℕ) → is_among v'.numbers number ≡ (is_among u.numbers number || is_among v.numbers number)
  among_joined number = ap (λ ns. is_among ns number) given.numbers ∙ among_both u.numbers v.numbers number

  first_joined : (number : ℕ) → is_among u.numbers number ≡ true → is_among v'.numbers number ≡ true
  first_joined number among = among_joined number ∙ ap (λ b. b || is_among v.numbers number) among

  second_joined : (number : ℕ) → is_among v.numbers number ≡ true → is_among v'.numbers number ≡ true
  second_joined number among = among_joined number ∙ either (is_among u.numbers number) (is_among v.numbers number) among
    where
      either : (a b : Bool) → b ≡ true → (a || b) ≡ true
      either true b is = refl
      either false b is = is

  -- whose number it is after the seats were joined
  owner_after : (k number : ℕ) (w : View) → seat k ≡ Some w → is_among w.numbers number ≡ true → (l : ℕ) × (x : View) × (seat' l ≡ Some x) × (is_among x.numbers number ≡ true)
  owner_after k number w is among = elim (cases_eq k i) [
    | inl here ↦ (i, v', given.own, second_joined number (subst (λ (x : View). is_among x.numbers number ≡ true) (was_to k w here is) among))
    | inr differ ↦ elim (cases_eq k j) [
      | inl there ↦ (i, v', given.own, first_joined number (subst (λ (x : View). is_among x.numbers number ≡ true) (was_from k w there is) among))
      | inr also ↦ (k, w, given.other k differ also ∙ is, among)
    ]
  ]

  -- a third seat has none of the numbers that were joined
  not_third : (k number : ℕ) (w : View) → k ≢ i → k ≢ j → seat k ≡ Some w → is_among w.numbers number ≡ true → is_among v'.numbers number ≡ true → ⊥
  not_third k number w differ also is among joined = go (is_among u.numbers number) refl (sym (among_joined number) ∙ joined)
    where
      go : (a : Bool) → is_among u.numbers number ≡ a → (a || is_among v.numbers number) ≡ true → ⊥
      go true in_first one = also (numbers.apart k j number w u is given.from among in_first)
      go false in_second one = differ (numbers.apart k i number w v is given.to among one)

  apart_joined : (k l number : ℕ) (w x : View) → seat' k ≡ Some w → seat' l ≡ Some x → is_among w.numbers number ≡ true → is_among x.numbers number ≡ true → k ≡ l
  apart_joined k l number w x at_k at_l among also = elim (joined_or_old k w at_k) [
    | inl first ↦ elim (joined_or_old l x at_l) [
      | inl second ↦ first.0 ∙ sym second.0
      | inr second ↦ absurd (not_third l number x second.0 second.1 second.2 also (subst (λ (y : View). is_among y.numbers number ≡ true) first.1 among))
    ]
    | inr first ↦ elim (joined_or_old l x at_l) [
      | inl second ↦ absurd (not_third k number w first.0 first.1 first.2 among (subst (λ (y : View). is_among y.numbers number ≡ true) second.1 also))
      | inr second ↦ numbers.apart k l number w x first.2 second.2 among also
    ]
  ]

  -- the numbers of the seats after two were joined
  pub numbers_of_joined : Numbers t seat' log
  numbers_of_joined = record {
    seats = λ k w is. elim (joined_or_old k w is) [
      | inl got ↦
          let had = numbers.seats i v given.to in (
            subst (λ x. x < t.shape.seats) (sym got.0) had.0,
            subst (λ x. is_among w.numbers x ≡ true) (sym got.0) (subst (λ (y : View). is_among y.numbers i ≡ true) (sym got.1) (second_joined i had.1)),
          )
      | inr old ↦ numbers.seats k w old.2
    ];
    apart = apart_joined;
    heard = λ at d inside visible.
        let was = numbers.heard at d inside visible in
        owner_after was.0 (slice_index_or log at d).seat was.1 was.2 was.3;
  }

  both_apart : AreApart u.numbers v.numbers
  both_apart number in_first in_second = given.differ (sym (numbers.apart j i number u v given.from given.to in_first in_second))

  own_joined : (test : What → Bool) → events_in test (mine log v'.numbers) ≡ events_in test (mine log u.numbers) + events_in test (mine log v.numbers)
  own_joined test = ap (λ ns. events_in test (mine log ns)) given.numbers ∙ own_of_both test u.numbers v.numbers log both_apart

  held_joined : Holds seat log holds → (h : Handle) → holds' i h + losses (mine log v'.numbers) h ≡ gains (mine log v'.numbers) h
  held_joined held h =
      let to = held.own i v h given.to in
      let from = held.own j u h given.from in
      let lost = own_joined (λ w. is_loss w h) in
      let gained = own_joined (λ w. is_gain w h) in
      let sum = given.held h in
      omega (arith, to, from, lost, gained, sum)

  -- the holds of the seats after two were joined
  pub holds_of_joined : Holds seat log holds → Holds seat' log holds'
  holds_of_joined held = record {
    own = λ k w h is. elim (joined_or_old k w is) [
      | inl got ↦
          subst (λ (x : View). holds' k h + losses (mine log x.numbers) h ≡ gains (mine log x.numbers) h) (sym got.1)
          (subst (λ l. holds' l h + losses (mine log v'.numbers) h ≡ gains (mine log v'.numbers) h) (sym got.0) (held_joined held h))
      | inr old ↦
          let stays = given.stay k h old.0 old.1 in
          let was = held.own k w h old.2 in
          omega (arith, stays, was)
    ];
    none = λ k h is. elim (cases_eq k i) [
      | inl here ↦ let own : seat' i ≡ Some v' = given.own in let now : seat' i ≡ None = ap seat' (sym here) ∙ is in absurd (cc)
      | inr differ ↦ elim (cases_eq k j) [
        | inl there ↦ ap (λ l. holds' l h) there ∙ given.none h
        | inr also ↦ given.stay k h differ also ∙ held.none k h (sym (given.other k differ also) ∙ is)
      ]
    ];
  }

-- a seat may be given the numbers of another one: the numbers and the holds of the seats stay as they should be
pub joined : (t : Table) (seat seat' : ℕ → Option View) (log : List Event) (holds holds' : ℕ → Handle → ℕ) (i j : ℕ) (v u v' : View) →
    Numbers t seat log → Holds seat log holds → HandsOver seat seat' holds holds' i j v u v' → Numbers t seat' log × Holds seat' log holds'
joined t seat seat' log holds holds' i j v u v' numbers held given =
    (numbers_of_joined t seat seat' log holds holds' i j v u v' given numbers, holds_of_joined t seat seat' log holds holds' i j v u v' given numbers held)
