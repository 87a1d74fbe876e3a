-- What callers hold, caller by caller, and texts that are held throughout a window.
use Rattle.std.proofs.Common.{◌≡◌, ℕ, ◌<◌, ◌≤◌, true, ◌⊎◌, inl, inr, List, [], ◌∷◌, ◌++◌, ◌↔◌, get_or, refl, sym, ap, subst, ◌∙◌}
use native.Mathlib.Omega.{arith}
use Rattle.std.specs.List.{Contains}
use Rattle.std.proofs.lemmas.List.Elements.{All-contains, All-contains_itself}
use Rattle.intern_log.specs.declared.event.Handle.{Handle}
use Rattle.intern_log.specs.declared.event.Event.{Event}
use Rattle.intern_log.specs.declared.event.What.{What}
use Rattle.intern_log.specs.declared.event.What.TheVariants.{Create, Take, Drop}
use Rattle.intern_log.specs.Own.{is_gain, is_loss, mine, gains, losses}
use Rattle.intern_log.specs.Callers.{DropTheirOwn, IsHeldBySome, IsHeldThroughout}
use Rattle.intern_log.specs.Place.{Begins}
use Rattle.intern_log.specs.Sections.{IsCreatedAs}
use Rattle.intern_log.proofs.Handles.{handle_eq-Decides}
use Rattle.intern_log.proofs.Places.{begins_itself, begins_one_more, IsPlaceOf-one, IsPlaceOf-one_more}

gain_so : (what : What) (h : Handle) → is_gain what h ≡ true → (text : List ℕ) × ((what ≡ Create text h) ⊎ (what ≡ Take text h))
gain_so (Create text k) h is = (text, inl (ap (Create text) ((handle_eq-Decides k h).0 is)))
gain_so (Take text k) h is = (text, inr (ap (Take text) ((handle_eq-Decides k h).0 is)))
gain_so _ h is = absurd (cc)

gains_so : (what : What) (h : Handle) → (text : List ℕ) × ((what ≡ Create text h) ⊎ (what ≡ Take text h)) → is_gain what h ≡ true
gains_so what h (text, inl is) = ap (λ w. is_gain w h) is ∙ (handle_eq-Decides h h).1 refl
gains_so what h (text, inr is) = ap (λ w. is_gain w h) is ∙ (handle_eq-Decides h h).1 refl

pub gain_is : (what : What) (h : Handle) → (is_gain what h ≡ true) ↔ ((text : List ℕ) × ((what ≡ Create text h) ⊎ (what ≡ Take text h)))
gain_is what h = (gain_so what h, gains_so what h)

loss_so : (what : What) (h : Handle) → is_loss what h ≡ true → what ≡ Drop h
loss_so (Drop k) h is = ap Drop ((handle_eq-Decides k h).0 is)
loss_so _ h is = absurd (cc)

pub loss_is : (what : What) (h : Handle) → (is_loss what h ≡ true) ↔ (what ≡ Drop h)
loss_is what h = (loss_so what h, (λ is. ap (λ w. is_loss w h) is ∙ (handle_eq-Decides h h).1 refl))

pub drop_their_own_is : (callers : List (List ℕ)) (log : List Event) (h : Handle) →
    DropTheirOwn callers log h ↔ ((numbers : List ℕ) → Contains callers numbers → losses (mine log numbers) h ≤ gains (mine log numbers) h)
drop_their_own_is callers log h = (
  (λ own numbers there. All-contains (λ ns. losses (mine log ns) h ≤ gains (mine log ns) h) callers numbers own there),
  (λ each k d within. each (get_or callers k d) (All-contains_itself callers k d within)),
)

pub held_by_some_is : (callers : List (List ℕ)) (log : List Event) (h : Handle) →
    IsHeldBySome callers log h ↔ ((numbers : List ℕ) × Contains callers numbers × (losses (mine log numbers) h < gains (mine log numbers) h))
held_by_some_is callers log h = (
  (λ (k, numbers, within, at, some). (numbers, (k, within, at), omega (arith, some))),
  (λ (numbers, (k, within, at), more). (k, numbers, within, at, omega (arith, more))),
)

-- some caller holds a handle of the text there
abbrev IsHeldAt : List (List ℕ) → List Event → List ℕ → Type 0
IsHeldAt callers done text = (h : Handle) × IsCreatedAs done text h × DropTheirOwn callers done h × IsHeldBySome callers done h

pub held_at_one_place : (callers : List (List ℕ)) (log : List Event) (text : List ℕ) → IsHeldThroughout callers log log text ↔ IsHeldAt callers log text
held_at_one_place callers log text = (
  (λ holds. holds log (begins_itself log, begins_itself log)),
  (λ here done at. subst (λ l. IsHeldAt callers l text) (sym ((IsPlaceOf-one log done).0 at)) here),
)

pub held_one_more : (callers : List (List ℕ)) (before after : List Event) (e : Event) (text : List ℕ) → Begins before after →
    IsHeldThroughout callers before (after ++ e ∷ []) text ↔ (IsHeldThroughout callers before after text × IsHeldThroughout callers (after ++ e ∷ []) (after ++ e ∷ []) text)
held_one_more callers before after e text begins = (
  (λ holds. (
    (λ done at. holds done ((IsPlaceOf-one_more before after e done begins).1 (inl at))),
    (held_at_one_place callers (after ++ e ∷ []) text).1 (holds (after ++ e ∷ []) (begins_one_more before after e begins, begins_itself (after ++ e ∷ []))),
  )),
  (λ (so_far, at_end) done at. elim ((IsPlaceOf-one_more before after e done begins).0 at) [
    | inl earlier ↦ so_far done earlier
    | inr last ↦ subst (λ l. IsHeldAt callers l text) (sym last) ((held_at_one_place callers (after ++ e ∷ []) text).0 at_end)
  ]),
)
