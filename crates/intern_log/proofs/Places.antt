-- Windows by pieces: their places and their events, and what holds at some place of them.
use Rattle.std.proofs.Common.{◌≡◌, ℕ, List, [], ◌∷◌, ◌++◌, length, ◌⊎◌, ◌↔◌, inl, inr, refl, sym, ap, subst, ◌∙◌, length-append}
use native.Mathlib.Omega.{arith}
use Rattle.std.proofs.lemmas.List.{append_assoc, append-nil, append_cancel_left}
use Rattle.intern_log.specs.declared.event.Event.{Event}
use Rattle.intern_log.specs.Place.{Begins, IsPlaceOf, StandsIn, IsAtSomePlace, HoldsEvent, IsMissing, IsLiveThroughout}

-- two cuts of one list: one of the fronts begins the other
abbrev Meets : {A : Type 0} → List A → List A → List A → List A → Type 0
Meets {A} s r p q = ((x : List A) × (p ≡ s ++ x) × (r ≡ x ++ q)) ⊎ ((x : List A) × (s ≡ p ++ x) × (q ≡ x ++ r))

meet : {A : Type 0} (s r p q : List A) → s ++ r ≡ p ++ q → Meets s r p q
meet [] r p q is = inl (p, refl, is)
meet (a ∷ s) r [] q is = inr (a ∷ s, refl, sym is)
meet {A} (a ∷ s) r (b ∷ p) q is =
    let heads : a ≡ b = cc in
    let tails : s ++ r ≡ p ++ q = cc in
    elim (meet s r p q tails) [
      | inl w ↦ inl (w.0, ap (λ l. b ∷ l) w.1 ∙ ap (λ c. c ∷ s ++ w.0) (sym heads), w.2)
      | inr w ↦ inr (w.0, ap (λ l. a ∷ l) w.1 ∙ ap (λ c. c ∷ p ++ w.0) heads, w.2)
    ]

pub begins_itself : (log : List Event) → Begins log log
begins_itself log = ([], sym (append-nil log))

pub begins_through : (first second third : List Event) → Begins first second → Begins second third → Begins first third
begins_through first second third front back = (front.0 ++ back.0, back.1 ∙ ap (λ l. l ++ back.0) front.1 ∙ append_assoc first front.0 back.0)

pub begins_one_more : (before after : List Event) (e : Event) → Begins before after → Begins before (after ++ e ∷ [])
begins_one_more before after e begins = begins_through before after (after ++ e ∷ []) begins (e ∷ [], refl)

-- of two beginnings of one log, one begins the other
pub either_begins : (a b log : List Event) → Begins a log → Begins b log → Begins a b ⊎ Begins b a
either_begins a b log of_a of_b = elim (meet a of_a.0 b of_b.0 (sym of_a.1 ∙ of_b.1)) [
  | inl w ↦ inl (w.0, w.1)
  | inr w ↦ inr (w.0, w.1)
]

-- what begins one more event, and that the end begins, is the end or the whole
nothing_left : (x rest : List Event) (e : Event) → e ∷ [] ≡ x ++ rest → (x ≡ []) ⊎ (x ≡ e ∷ [])
nothing_left [] rest e is = inl refl
nothing_left (y ∷ []) rest e is = let same : e ≡ y = cc in inr (ap (λ z. z ∷ []) (sym same))
nothing_left (y ∷ z ∷ x) rest e is = absurd (cc)

pub last_or_before : (a log : List Event) (e : Event) → Begins a (log ++ e ∷ []) → Begins a log ⊎ (a ≡ log ++ e ∷ [])
last_or_before a log e begins = elim (meet a begins.0 log (e ∷ []) (sym begins.1)) [
  | inl w ↦ inl (w.0, w.1)
  | inr w ↦ elim (nothing_left w.0 begins.0 e w.2) [
    | inl none ↦ inl ([], sym (append-nil a ∙ w.1 ∙ ap (λ x. log ++ x) none ∙ append-nil log))
    | inr one ↦ inr (w.1 ∙ ap (λ x. log ++ x) one)
  ]
]

pub equal_begins : (a b : List Event) → a ≡ b → Begins a b
equal_begins a b is = subst (Begins a) is (begins_itself a)

too_long : (log rest : List Event) (e : Event) → log ≡ log ++ e ∷ rest → ⊥
too_long log rest e is =
    let lengths : length log ≡ length (log ++ e ∷ rest) = ap length is in
    let sum = length-append log (e ∷ rest) in
    omega (arith, lengths, sum)

-- two logs that begin each other are one
pub begin_each_other : (a b : List Event) → Begins a b → Begins b a → a ≡ b
begin_each_other a b (r, is) (s, back) = none r (sym (back ∙ ap (λ l. l ++ s) is ∙ append_assoc a r s)) is
  where
    none : (x : List Event) → a ++ (x ++ s) ≡ a → b ≡ a ++ x → a ≡ b
    none [] whole same = sym (same ∙ append-nil a)
    none (e ∷ x) whole same = absurd (too_long a (x ++ s) e (sym whole))

pub IsPlaceOf-one_more : (before after : List Event) (e : Event) (done : List Event) → Begins before after →
    IsPlaceOf before (after ++ e ∷ []) done ↔ (IsPlaceOf before after done ⊎ (done ≡ after ++ e ∷ []))
IsPlaceOf-one_more before after e done begins = (
  (λ place. elim (last_or_before done after e place.1) [
    | inl earlier ↦ inl (place.0, earlier)
    | inr last ↦ inr last
  ]),
  (λ either. elim either [
    | inl place ↦ (place.0, begins_one_more done after e place.1)
    | inr last ↦ (subst (Begins before) (sym last) (begins_one_more before after e begins), equal_begins done _ last)
  ]),
)

pub IsPlaceOf-wider : (earlier before after later done : List Event) → Begins earlier before → Begins after later → IsPlaceOf before after done → IsPlaceOf earlier later done
IsPlaceOf-wider earlier before after later done front back place = (begins_through earlier before done front place.0, begins_through done after later place.1 back)

pub IsPlaceOf-pieces : (before middle after done : List Event) → Begins before middle → Begins middle after →
    IsPlaceOf before after done ↔ (IsPlaceOf before middle done ⊎ IsPlaceOf middle after done)
IsPlaceOf-pieces before middle after done front back = (
  (λ place. elim (either_begins done middle after place.1 back) [
    | inl first ↦ inl (place.0, first)
    | inr second ↦ inr (second, place.1)
  ]),
  (λ either. elim either [
    | inl first ↦ IsPlaceOf-wider before before middle after done (begins_itself before) back first
    | inr second ↦ IsPlaceOf-wider before middle after after done front (begins_itself after) second
  ]),
)

pub IsPlaceOf-one : (log done : List Event) → IsPlaceOf log log done ↔ (done ≡ log)
IsPlaceOf-one log done = (
  (λ place. begin_each_other done log place.1 place.0),
  (λ same. (equal_begins log done (sym same), equal_begins done log same)),
)

pub StandsIn-wider : (earlier before after later done : List Event) (e : Event) → Begins earlier before → Begins after later → StandsIn before after done e → StandsIn earlier later done e
StandsIn-wider earlier before after later done e front back stands = (begins_through earlier before done front stands.0, begins_through (done ++ e ∷ []) after later stands.1 back)

pub StandsIn-pieces : (before middle after done : List Event) (e : Event) → Begins before middle → Begins middle after →
    StandsIn before after done e ↔ (StandsIn before middle done e ⊎ StandsIn middle after done e)
StandsIn-pieces before middle after done e front back = (
  (λ stands. elim (either_begins (done ++ e ∷ []) middle after stands.1 back) [
    | inl first ↦ inl (stands.0, first)
    | inr second ↦ elim (last_or_before middle done e second) [
      | inl earlier ↦ inr (earlier, stands.1)
      | inr last ↦ inl (stands.0, equal_begins (done ++ e ∷ []) middle (sym last))
    ]
  ]),
  (λ either. elim either [
    | inl first ↦ StandsIn-wider before before middle after done e (begins_itself before) back first
    | inr second ↦ StandsIn-wider before middle after after done e front (begins_itself after) second
  ]),
)

pub StandsIn-none : (log done : List Event) (e : Event) → ¬ (StandsIn log log done e)
StandsIn-none log done e stands =
    let back = begins_through log done (done ++ e ∷ []) stands.0 (e ∷ [], refl) in
    let same : done ++ e ∷ [] ≡ log = begin_each_other (done ++ e ∷ []) log stands.1 back in
    let shorter = stands.0 in
    let lengths : length (done ++ e ∷ []) ≡ length log = ap length same in
    let longer : length done ≡ length (log ++ shorter.0) = ap length shorter.1 in
    omega (arith, lengths, longer, length-append done (e ∷ []), length-append log shorter.0)

-- an event that stands where one more event was logged is that event
only_one : (log done : List Event) (e x : Event) → StandsIn log (log ++ e ∷ []) done x → (done ≡ log) × (x ≡ e)
only_one log done e x stands = elim (last_or_before (done ++ x ∷ []) log e stands.1) [
  | inl earlier ↦ absurd (StandsIn-none log done x (stands.0, earlier))
  | inr last ↦
      let r = stands.0 in
      let whole : log ++ (r.0 ++ x ∷ []) ≡ log ++ e ∷ [] = sym (append_assoc log r.0 (x ∷ [])) ∙ ap (λ l. l ++ x ∷ []) (sym r.1) ∙ last in
      ends r.0 (append_cancel_left log (r.0 ++ x ∷ []) (e ∷ []) whole) r.1
]
  where
    ends : (r : List Event) → r ++ x ∷ [] ≡ e ∷ [] → done ≡ log ++ r → (done ≡ log) × (x ≡ e)
    ends [] is at = let same : x ≡ e = cc in (at ∙ append-nil log, same)
    ends (y ∷ []) is at = absurd (cc)
    ends (y ∷ z ∷ r) is at = absurd (cc)

pub StandsIn-one_more : (before after : List Event) (e : Event) (done : List Event) (x : Event) → Begins before after →
    StandsIn before (after ++ e ∷ []) done x ↔ (StandsIn before after done x ⊎ ((done ≡ after) × (x ≡ e)))
StandsIn-one_more before after e done x begins =
    let pieces = StandsIn-pieces before after (after ++ e ∷ []) done x begins (e ∷ [], refl) in (
      (λ stands. elim (pieces.0 stands) [
        | inl first ↦ inl first
        | inr second ↦ inr (only_one after done e x second)
      ]),
      (λ either. elim either [
        | inl first ↦ pieces.1 (inl first)
        | inr here ↦ (
          subst (Begins before) (sym here.0) begins,
          equal_begins (done ++ x ∷ []) (after ++ e ∷ []) (ap (λ l. l ++ x ∷ []) here.0 ∙ ap (λ y. after ++ y ∷ []) here.1),
        )
      ]),
    )

pub IsPlaceOf-cut : (before after done : List Event) → IsPlaceOf before after done ↔ ((seen rest : List Event) × (after ≡ before ++ seen ++ rest) × (done ≡ before ++ seen))
IsPlaceOf-cut before after done = (
  (λ place. (place.0.0, place.1.0, place.1.1 ∙ ap (λ l. l ++ place.1.0) place.0.1, place.0.1)),
  (λ cut. ((cut.0, cut.3), (cut.1, cut.2 ∙ ap (λ l. l ++ cut.1) (sym cut.3)))),
)

pub StandsIn-cut : (before after done : List Event) (e : Event) → StandsIn before after done e ↔ ((seen rest : List Event) × (after ≡ before ++ seen ++ e ∷ rest) × (done ≡ before ++ seen))
StandsIn-cut before after done e = (
  (λ stands. (
    stands.0.0,
    stands.1.0,
    stands.1.1 ∙ append_assoc done (e ∷ []) stands.1.0 ∙ ap (λ l. l ++ e ∷ stands.1.0) stands.0.1,
    stands.0.1,
  )),
  (λ cut. ((cut.0, cut.3), (cut.1, cut.2 ∙ ap (λ l. l ++ e ∷ cut.1) (sym cut.3) ∙ sym (append_assoc done (e ∷ []) cut.1)))),
)

-- what is so at some place of a window, by one more event, of a wider window, and of two pieces
pub IsAtSomePlace-one_more : (before after : List Event) (e : Event) (Holds : List Event → Type 0) → Begins before after →
    IsAtSomePlace before (after ++ e ∷ []) Holds ↔ (IsAtSomePlace before after Holds ⊎ Holds (after ++ e ∷ []))
IsAtSomePlace-one_more before after e Holds begins = (
  (λ some. elim ((IsPlaceOf-one_more before after e some.0 begins).0 some.1) [
    | inl place ↦ inl (some.0, place, some.2)
    | inr last ↦ inr (subst Holds last some.2)
  ]),
  (λ either. elim either [
    | inl some ↦ (some.0, (IsPlaceOf-one_more before after e some.0 begins).1 (inl some.1), some.2)
    | inr here ↦ (after ++ e ∷ [], (IsPlaceOf-one_more before after e (after ++ e ∷ []) begins).1 (inr refl), here)
  ]),
)

pub IsAtSomePlace-wider : (earlier before after later : List Event) (Holds : List Event → Type 0) → Begins earlier before → Begins after later →
    IsAtSomePlace before after Holds → IsAtSomePlace earlier later Holds
IsAtSomePlace-wider earlier before after later Holds front back some = (some.0, IsPlaceOf-wider earlier before after later some.0 front back some.1, some.2)

pub IsAtSomePlace-pieces : (before middle after : List Event) (Holds : List Event → Type 0) → Begins before middle → Begins middle after →
    IsAtSomePlace before after Holds ↔ (IsAtSomePlace before middle Holds ⊎ IsAtSomePlace middle after Holds)
IsAtSomePlace-pieces before middle after Holds front back = (
  (λ some. elim ((IsPlaceOf-pieces before middle after some.0 front back).0 some.1) [
    | inl first ↦ inl (some.0, first, some.2)
    | inr second ↦ inr (some.0, second, some.2)
  ]),
  (λ either. elim either [
    | inl first ↦ IsAtSomePlace-wider before before middle after Holds (begins_itself before) back first
    | inr second ↦ IsAtSomePlace-wider before middle after after Holds front (begins_itself after) second
  ]),
)

pub IsAtSomePlace-one : (log : List Event) (Holds : List Event → Type 0) → IsAtSomePlace log log Holds ↔ Holds log
IsAtSomePlace-one log Holds = (
  (λ some. subst Holds ((IsPlaceOf-one log some.0).0 some.1) some.2),
  (λ holds. (log, (begins_itself log, begins_itself log), holds)),
)

pub HoldsEvent-one_more : (before after : List Event) (e : Event) (Passes : List Event → Event → Type 0) → Begins before after →
    HoldsEvent before (after ++ e ∷ []) Passes ↔ (HoldsEvent before after Passes ⊎ Passes after e)
HoldsEvent-one_more before after e Passes begins = (
  (λ some. elim ((StandsIn-one_more before after e some.0 some.1 begins).0 some.2) [
    | inl stands ↦ inl (some.0, some.1, stands, some.3)
    | inr here ↦ inr (subst (λ x. Passes after x) here.1 (subst (λ l. Passes l some.1) here.0 some.3))
  ]),
  (λ either. elim either [
    | inl some ↦ (some.0, some.1, (StandsIn-one_more before after e some.0 some.1 begins).1 (inl some.2), some.3)
    | inr passes ↦ (after, e, (StandsIn-one_more before after e after e begins).1 (inr (refl, refl)), passes)
  ]),
)

pub HoldsEvent-wider : (earlier before after later : List Event) (Passes : List Event → Event → Type 0) → Begins earlier before → Begins after later →
    HoldsEvent before after Passes → HoldsEvent earlier later Passes
HoldsEvent-wider earlier before after later Passes front back some = (some.0, some.1, StandsIn-wider earlier before after later some.0 some.1 front back some.2, some.3)

pub HoldsEvent-pieces : (before middle after : List Event) (Passes : List Event → Event → Type 0) → Begins before middle → Begins middle after →
    HoldsEvent before after Passes ↔ (HoldsEvent before middle Passes ⊎ HoldsEvent middle after Passes)
HoldsEvent-pieces before middle after Passes front back = (
  (λ some. elim ((StandsIn-pieces before middle after some.0 some.1 front back).0 some.2) [
    | inl first ↦ inl (some.0, some.1, first, some.3)
    | inr second ↦ inr (some.0, some.1, second, some.3)
  ]),
  (λ either. elim either [
    | inl first ↦ HoldsEvent-wider before before middle after Passes (begins_itself before) back first
    | inr second ↦ HoldsEvent-wider before middle after after Passes front (begins_itself after) second
  ]),
)

pub live_is_not_missing : (before after : List Event) (text : List ℕ) → IsLiveThroughout before after text → ¬ (IsMissing before after text)
live_is_not_missing before after text live missing =
    let there = (live missing.0 missing.1).1 in
    let is = there.1 in
    let none = missing.2 in
    absurd (cc)
