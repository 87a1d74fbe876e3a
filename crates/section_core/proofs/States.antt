-- What each call makes of what there is to see.
use Rattle.std.proofs.Common.{◌≡◌, ◌<◌, ◌≤◌, ◌+◌, ◌*◌, ℕ, zero, suc, List, [], ◌∷◌, ◌++◌, ⊎_elim, length, get_or, map, replicate, Option, Some, None, IfSome, refl, sym, ap, subst, ◌∙◌, set, Bool, true, false}
use native.Mathlib.Omega.{arith}
use Rattle.std.specs.List.{All, slice_get}
use Rattle.std.specs.Option.{is_some}
use Rattle.std.proofs.lemmas.List.{map-set}
use Rattle.std.proofs.lemmas.Bool.{cases_lt}
use Rattle.std.proofs.lemmas.Option.{slice_get_read, get_or_from_slice_get}
use Rattle.section_core.specs.Sections.{SectionState, IsOver, IsLowest, counter_of, was_inside, state_of}
use Rattle.section_core.proofs.Graces.{length-graces_of, graces-entered, graces-left, graces-begun, closed_remembers, waits_is, no_wait}

-- two states of equal parts
same_state : (first : ℕ) (a b : List Bool) (c d : List (List Bool)) → a ≡ b → c ≡ d →
    ◌≡◌ {A = SectionState} (record { first = first; inside = a; graces = c }) (record { first = first; inside = b; graces = d })
same_state first a b c d one other = λ i. record { first = first; inside = one i; graces = other i }

pub state-new : (first seats : ℕ) (entered : List (Option ℕ)) → entered ≡ replicate seats None →
    ◌≡◌ {A = SectionState} (state_of first 0 entered) (record { first = first; inside = replicate seats false; graces = [] })
state-new first seats entered is = same_state first (map is_some entered) (replicate seats false) [] [] (ap (map is_some) is ∙ none_open seats) refl
  where
    none_open : (n : ℕ) → map is_some (replicate {A = Option ℕ} n None) ≡ replicate n false
    none_open zero = refl
    none_open (suc n) = ap (λ l. false ∷ l) (none_open n)

pub state-entered : (first begun seat : ℕ) (entered : List (Option ℕ)) (state : SectionState) → state_of first begun entered ≡ state → slice_get state.inside seat ≡ Some false →
    ◌≡◌ {A = SectionState} (state_of first begun (set entered seat (Some begun))) (record { first = state.first; inside = set state.inside seat true; graces = state.graces })
state-entered first begun seat entered state is closed = subst
    (λ (s : SectionState). slice_get s.inside seat ≡ Some false → ◌≡◌ {A = SectionState} (state_of first begun (set entered seat (Some begun))) (record { first = s.first; inside = set s.inside seat true; graces = s.graces }))
    is
    (λ at. same_state first _ _ _ _ (map-set is_some entered seat (Some begun)) (graces-entered begun begun seat entered (omega arith) (closed_remembers entered seat at)))
    closed

pub state-left : (first begun seat : ℕ) (entered : List (Option ℕ)) (state : SectionState) → state_of first begun entered ≡ state →
    ◌≡◌ {A = SectionState} (state_of first begun (set entered seat None)) (record { first = state.first; inside = set state.inside seat false; graces = map (λ grace. set grace seat false) state.graces })
state-left first begun seat entered state is = subst
    (λ (s : SectionState). ◌≡◌ {A = SectionState} (state_of first begun (set entered seat None)) (record { first = s.first; inside = set s.inside seat false; graces = map (λ grace. set grace seat false) s.graces }))
    is
    (same_state first _ _ _ _ (map-set is_some entered seat None) (graces-left begun seat entered))

pub state-begun : (first begun : ℕ) (entered : List (Option ℕ)) (state : SectionState) → state_of first begun entered ≡ state → All (λ section. IfSome section (λ before. before ≤ begun)) entered →
    ◌≡◌ {A = SectionState} (state_of first (begun + 1) entered) (record { first = state.first; inside = state.inside; graces = state.graces ++ state.inside ∷ [] })
state-begun first begun entered state is all = subst
    (λ (s : SectionState). ◌≡◌ {A = SectionState} (state_of first (begun + 1) entered) (record { first = s.first; inside = s.inside; graces = s.graces ++ s.inside ∷ [] }))
    is
    (same_state first _ _ _ _ refl (graces-begun begun entered all))

pub graces-number : (first begun : ℕ) (entered : List (Option ℕ)) (state : SectionState) → state_of first begun entered ≡ state → length state.graces ≡ begun
graces-number first begun entered state is = subst (λ (s : SectionState). length s.graces ≡ begun) is (length-graces_of begun entered)

pub counter-is : (first begun : ℕ) (entered : List (Option ℕ)) (state : SectionState) → state_of first begun entered ≡ state → counter_of state ≡ first + 2 * begun
counter-is first begun entered state is = subst (λ (s : SectionState). counter_of s ≡ first + 2 * begun) is (ap (λ n. first + 2 * n) (length-graces_of begun entered))

-- what was read of a section that was open when the grace began
read_inside : (number seat : ℕ) (entered : List (Option ℕ)) (read : Option ℕ) (inside value : Bool) → seat < length entered → read ≡ get_or entered seat read → inside ≡ was_inside number read → inside ≡ value →
    was_inside number (get_or entered seat None) ≡ value
read_inside number seat entered read inside value within is computed same =
    let at = get_or_from_slice_get entered seat read None (slice_get_read entered (length entered) seat read refl within is) in
    ap (was_inside number) at ∙ sym computed ∙ same

-- the seat at which a search of the seats stops
pub state-lowest : (first begun number grace seat : ℕ) (entered : List (Option ℕ)) (state : SectionState) (read : Option ℕ) (inside : Bool) → state_of first begun entered ≡ state → number ≡ grace →
    grace < length state.graces → seat < length entered → ((lower : ℕ) → lower < seat → was_inside number (get_or entered lower None) ≡ false) →
    read ≡ get_or entered seat read → inside ≡ was_inside number read → inside ≡ true → IsLowest state grace seat
state-lowest first begun number grace seat entered state read inside is named below within lower at computed open_ =
    let count = graces-number first begun entered state is in
    let found = read_inside number seat entered read inside true within at computed open_ in
    subst (λ n. IsLowest state n seat) named (subst (λ (s : SectionState). IsLowest s number seat) is
    (record {
      waits = waits_is begun number seat entered (omega (arith, below, count, named)) within ∙ ap Some found;
      lowest = (λ k less. no_wait begun number k entered (omega (arith, below, count, named)) (λ _. lower k less));
    }))

-- one more seat for which the grace does not wait
pub seats_on : (number seat : ℕ) (entered : List (Option ℕ)) (read : Option ℕ) (inside : Bool) → seat < length entered → ((lower : ℕ) → lower < seat → was_inside number (get_or entered lower None) ≡ false) →
    read ≡ get_or entered seat read → inside ≡ was_inside number read → inside ≡ false → (lower : ℕ) → lower < seat + 1 → was_inside number (get_or entered lower None) ≡ false
seats_on number seat entered read inside within lower at computed closed k less = ⊎_elim
    (λ before. lower k before)
    (λ not_before. let here : k ≡ seat = omega (arith, less, not_before) in ap (λ n. was_inside number (get_or entered n None)) here ∙ read_inside number seat entered read inside false within at computed closed)
    (cases_lt k seat)

-- a search that finds no seat
pub state-over : (first begun number grace : ℕ) (entered : List (Option ℕ)) (state : SectionState) → state_of first begun entered ≡ state → number ≡ grace → grace < length state.graces →
    ((lower : ℕ) → lower < length entered → was_inside number (get_or entered lower None) ≡ false) → IsOver state grace
state-over first begun number grace entered state is named below none =
    let count = graces-number first begun entered state is in
    subst (λ n. IsOver state n) named (subst (λ (s : SectionState). IsOver s number) is (λ k. no_wait begun number k entered (omega (arith, below, count, named)) (none k)))
