-- A log has one last event of a kind.
use Rattle.std.proofs.Common.{◌≡◌, Bool, true, false, ℕ, ◌<◌, inl, inr, List, [], ◌∷◌, ◌++◌, All, length, refl, sym, ap, subst, ◌∙◌, append_assoc, arith}
use Rattle.std.proofs.lemmas.Bool.{cases_lt}
use Rattle.std.proofs.lemmas.List.{length-append}
use Rattle.std.proofs.lemmas.List.Elements.{All-head, All-tail}
use Rattle.intern_log.specs.declared.event.Event.{Event}
use Rattle.intern_log.specs.declared.event.What.{What}
use Rattle.cht_core.specs.Passes.{IsLast}
use Rattle.cht_core.specs.Past.{by}
use Rattle.cht_core.proofs.Windows.{cut_behind}

-- what is so of all events of a list is so of one that stands in it
one_of_all : (P : Event → Type 0) (front back : List Event) (e : Event) → All P (front ++ e ∷ back) → P e
one_of_all P [] back e all = All-head P e back all
one_of_all P (x ∷ front) back e all = one_of_all P front back e (All-tail P x (front ++ e ∷ back) all)

module _ (passes : What → Bool) (i : ℕ) (last other : What) (log : List Event) (at place : ℕ) (first : passes last ≡ true) (second : passes other ≡ true) (here : IsLast passes i last log at)
    (there : IsLast passes i other log place) where
  -- one of the two stands no later
  not_behind : place < at → ⊥
  not_behind less =
      let a = here.place in
      let b = there.place in
      let cut = cut_behind (there.front ++ by i other ∷ []) there.back here.front (by i last ∷ here.back) (append_assoc there.front (by i other ∷ []) there.back ∙ sym there.stands ∙ here.stands)
      (let whole = length-append there.front (by i other ∷ []) in omega (arith, whole, a, b, less)) in
      let not : passes last ≡ false = one_of_all (λ (e : Event). e.seat ≡ i → passes e.what ≡ false) cut.0 here.back (by i last) (subst (All (λ (e : Event). e.seat ≡ i → passes e.what ≡ false)) cut.2 there.none) refl in
      let clash : true ≡ false = sym first ∙ not in
      cc

-- events at one place are one
one_event : (front back back' : List Event) (w : List Event) (i : ℕ) (last other : What) → length (front ++ w) ≡ length front → by i last ∷ back ≡ w ++ by i other ∷ back' → last ≡ other
one_event front back back' [] i last other size same = let events : by i last ≡ by i other = cc in ap (λ (e : Event). e.what) events
one_event front back back' (x ∷ w) i last other size same = absurd (let whole = length-append front (x ∷ w) in omega (arith, whole, size))

-- the two are one
pub one_last : (passes : What → Bool) (i : ℕ) (last other : What) (log : List Event) (at place : ℕ) → passes last ≡ true → passes other ≡ true → IsLast passes i last log at → IsLast passes i other log place
    → (last ≡ other) × (at ≡ place)
one_last passes i last other log at place first second here there =
    let not_before : at < place → ⊥ = not_behind passes i other last log place at second first there here in
    let not_after : place < at → ⊥ = not_behind passes i last other log at place first second here there in
    let same : at ≡ place = elim (cases_lt at place) [
      | inl less ↦ absurd (not_before less)
      | inr more ↦ elim (cases_lt place at) [ inl less ↦ absurd (not_after less) | inr least ↦ omega (arith, more, least) ]
    ] in
    let a = here.place in
    let b = there.place in
    let cut = cut_behind here.front (by i last ∷ here.back) there.front (by i other ∷ there.back) (sym here.stands ∙ there.stands) (omega (arith, a, b, same)) in
    let size : length (here.front ++ cut.0) ≡ length here.front = let fronts : length there.front ≡ length (here.front ++ cut.0) = ap (λ (l : List Event). length l) cut.1 in omega (arith, fronts, a, b, same) in
    (one_event here.front here.back there.back cut.0 i last other size cut.2, same)
