-- What a grace waits for after calls one after the other.
use Rattle.std.proofs.Common.{◌≡◌, ◌<◌, ℕ, zero, suc, List, [], ◌∷◌, ◌⊎◌, ⊎_elim, inl, inr, length, get_or, map, Some, refl, sym, ap, subst, ◌∙◌, set, Bool, true, false, ◌↔◌}
use native.Mathlib.Omega.{arith}
use Rattle.std.specs.List.{Contains, slice_get}
use Rattle.std.proofs.lemmas.List.{length-append, get_or-set_same, get_or-set_other, length-set, length-map}
use Rattle.std.proofs.lemmas.Bool.{cases_eq}
use Rattle.std.proofs.lemmas.Option.{slice_get_within, slice_get-get_or, get_or_from_slice_get}
use Rattle.std.proofs.Math.Seq.{get_or-append_seam}
use Rattle.std.proofs.Math.ListN.{get_or-append}
use Rattle.section_core.specs.Sections.{SectionState, Waits, IsOver}
use Rattle.section_core.specs.Steps.{Step, Enter, Leave, Begin, after_step, after_steps}

-- a call that stands in a list of one more
contains_first : (step : Step) (steps : List Step) → Contains (step ∷ steps) step
contains_first step steps = (zero, omega arith, refl)

contains_later : (first step : Step) (steps : List Step) → Contains steps step → Contains (first ∷ steps) step
contains_later first step steps has = (suc has.0, omega (arith, has.1), has.2)

contains_cases : (first step : Step) (steps : List Step) → Contains (first ∷ steps) step → (first ≡ step) ⊎ Contains steps step
contains_cases first step steps (zero, below, is) = inl is
contains_cases first step steps (suc k, below, is) = inr (k, omega (arith, below), is)

later_or_not : (first : Step) (steps : List Step) (seat : ℕ) → (first ≡ Leave seat → ⊥) → Contains steps (Leave seat) ⊎ (Contains steps (Leave seat) → ⊥) → Contains (first ∷ steps) (Leave seat) ⊎ (Contains (first ∷ steps) (Leave seat) → ⊥)
later_or_not first steps seat other rest = ⊎_elim
    (λ has. inl (contains_later first (Leave seat) steps has))
    (λ absent. inr (λ has. ⊎_elim other absent (contains_cases first (Leave seat) steps has)))
    rest

-- a mark that is taken away
mark_left : (marks : List Bool) (seat other : ℕ) → slice_get (set marks seat false) other ≡ Some true → (slice_get marks other ≡ Some true) × (other ≡ seat → ⊥)
mark_left marks seat other is =
    let within : other < length (set marks seat false) = slice_get_within (set marks seat false) other true is in
    let inside : other < length marks = omega (arith, within, length-set marks seat false) in
    let at = get_or_from_slice_get (set marks seat false) other true false is in
    let apart : other ≡ seat → ⊥ = (λ same.
    let none = ap (λ n. get_or (set marks seat false) n false) same ∙ get_or-set_same marks seat false false (omega (arith, same, inside)) in absurd (cc)) in
    (slice_get-get_or marks other false inside ∙ ap Some (sym (get_or-set_other marks seat other false false apart) ∙ at), apart)

mark_stays : (marks : List Bool) (seat other : ℕ) → slice_get marks other ≡ Some true → (other ≡ seat → ⊥) → slice_get (set marks seat false) other ≡ Some true
mark_stays marks seat other is apart =
    let inside = slice_get_within marks other true is in
    let within : other < length (set marks seat false) = omega (arith, inside, length-set marks seat false) in
    slice_get-get_or (set marks seat false) other false within ∙ ap Some (get_or-set_other marks seat other false false apart ∙ get_or_from_slice_get marks other true false is)

-- the marks of one grace after a leave
grace_left : (graces : List (List Bool)) (grace seat : ℕ) → grace < length graces → get_or (map (λ marks. set marks seat false) graces) grace [] ≡ set (get_or graces grace []) seat false
grace_left [] grace seat below = absurd (omega (arith, below))
grace_left (marks ∷ graces) zero seat below = refl
grace_left (marks ∷ graces) (suc grace) seat below = grace_left graces grace seat (omega (arith, below))

-- what a grace waits for after calls
waits_on : (steps : List Step) (state : SectionState) (grace seat : ℕ) → grace < length state.graces → Waits (after_steps state steps) grace seat → Waits state grace seat × (Contains steps (Leave seat) → ⊥)
waits_on [] state grace seat below waits = (waits, (λ has. omega (arith, has.1)))
waits_on (Enter k ∷ steps) state grace seat below waits =
    let rest = waits_on steps (after_step state (Enter k)) grace seat below waits in
    (rest.0, (λ has. ⊎_elim (λ same. absurd (cc)) rest.1 (contains_cases (Enter k) (Leave seat) steps has)))
waits_on (Leave k ∷ steps) state grace seat below waits =
    let kept : grace < length (after_step state (Leave k)).graces = omega (arith, below, length-map state.graces (λ (marks : List Bool). set marks k false)) in
    let rest = waits_on steps (after_step state (Leave k)) grace seat kept waits in
    let marks = mark_left (get_or state.graces grace []) k seat (ap (λ l. slice_get l seat) (sym (grace_left state.graces grace k below)) ∙ rest.0) in
    (marks.0, (λ has. ⊎_elim (λ same. let one : seat ≡ k = cc in marks.1 one) rest.1 (contains_cases (Leave k) (Leave seat) steps has)))
waits_on (Begin ∷ steps) state grace seat below waits =
    let kept : grace < length (after_step state Begin).graces = omega (arith, below, length-append state.graces (state.inside ∷ [])) in
    let rest = waits_on steps (after_step state Begin) grace seat kept waits in
    (ap (λ l. slice_get l seat) (sym (get_or-append state.graces (state.inside ∷ []) [] grace below)) ∙ rest.0, (λ has. ⊎_elim (λ same. absurd (cc)) rest.1 (contains_cases Begin (Leave seat) steps has)))

waits_back : (steps : List Step) (state : SectionState) (grace seat : ℕ) → grace < length state.graces → Waits state grace seat → (Contains steps (Leave seat) → ⊥) → Waits (after_steps state steps) grace seat
waits_back [] state grace seat below waits absent = waits
waits_back (Enter k ∷ steps) state grace seat below waits absent = waits_back steps (after_step state (Enter k)) grace seat below waits (λ has. absent (contains_later (Enter k) (Leave seat) steps has))
waits_back (Leave k ∷ steps) state grace seat below waits absent =
    let kept : grace < length (after_step state (Leave k)).graces = omega (arith, below, length-map state.graces (λ (marks : List Bool). set marks k false)) in
    let apart : seat ≡ k → ⊥ = (λ same. absent (subst (λ n. Contains (Leave n ∷ steps) (Leave seat)) same (contains_first (Leave seat) steps))) in
    waits_back steps (after_step state (Leave k)) grace seat kept
    (ap (λ l. slice_get l seat) (grace_left state.graces grace k below) ∙ mark_stays (get_or state.graces grace []) k seat waits apart)
    (λ has. absent (contains_later (Leave k) (Leave seat) steps has))
waits_back (Begin ∷ steps) state grace seat below waits absent =
    let kept : grace < length (after_step state Begin).graces = omega (arith, below, length-append state.graces (state.inside ∷ [])) in
    waits_back steps (after_step state Begin) grace seat kept
    (ap (λ l. slice_get l seat) (get_or-append state.graces (state.inside ∷ []) [] grace below) ∙ waits)
    (λ has. absent (contains_later Begin (Leave seat) steps has))

-- a grace as it begins
begun_below : (state : SectionState) → length state.graces < length (after_step state Begin).graces
begun_below state = omega (arith, length-append state.graces (state.inside ∷ []))

pub waits_since : (state : SectionState) (later : List Step) (seat : ℕ) →
    Waits (after_steps state (Begin ∷ later)) (length state.graces) seat ↔ ((slice_get state.inside seat ≡ Some true) × (Contains later (Leave seat) → ⊥))
waits_since state later seat =
    let seam = ap (λ l. slice_get l seat) (get_or-append_seam state.graces state.inside [] []) in (
      (λ waits. let rest = waits_on later (after_step state Begin) (length state.graces) seat (begun_below state) waits in (sym seam ∙ rest.0, rest.1)),
      (λ was. waits_back later (after_step state Begin) (length state.graces) seat (begun_below state) (seam ∙ was.0) was.1),
    )

-- whether a seat has left
left_or_not : (steps : List Step) (seat : ℕ) → Contains steps (Leave seat) ⊎ (Contains steps (Leave seat) → ⊥)
left_or_not [] seat = inr (λ has. omega (arith, has.1))
left_or_not (Enter k ∷ steps) seat = later_or_not (Enter k) steps seat (λ same. absurd (cc)) (left_or_not steps seat)
left_or_not (Begin ∷ steps) seat = later_or_not Begin steps seat (λ same. absurd (cc)) (left_or_not steps seat)
left_or_not (Leave k ∷ steps) seat = ⊎_elim
    (λ here. inl (subst (λ n. Contains (Leave k ∷ steps) (Leave n)) here (contains_first (Leave k) steps)))
    (λ other. later_or_not (Leave k) steps seat (λ same. let one : k ≡ seat = cc in other one) (left_or_not steps seat))
    (cases_eq k seat)

pub over_since : (state : SectionState) (later : List Step) →
    IsOver (after_steps state (Begin ∷ later)) (length state.graces) ↔ ((seat : ℕ) → slice_get state.inside seat ≡ Some true → Contains later (Leave seat))
over_since state later = (
  (λ over seat was. ⊎_elim (λ left. left) (λ absent. absurd (over seat ((waits_since state later seat).1 (was, absent)))) (left_or_not later seat)),
  (λ left seat waits. let was = (waits_since state later seat).0 waits in was.1 (left seat was.0)),
)
