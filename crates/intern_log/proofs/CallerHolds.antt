-- A handle that a caller holds is live, and it is the one of its text.
use Rattle.std.proofs.Common.{◌≡◌, ℕ, ◌<◌, Bool, true, false, List, [], ◌∷◌, ◌++◌, ◌||◌, ◌⊎◌, ◌↔◌, inl, inr, refl, sym, ap, subst, ◌∙◌}
use native.Mathlib.Omega.{arith}
use Rattle.std.specs.Prelude.{count_by}
use Rattle.std.specs.List.{All, Any}
use Rattle.std.proofs.lemmas.List.Elements.{All-nil, All-cons, All-head, All-tail, All-push}
use Rattle.intern_log.specs.declared.event.Handle.{Handle}
use Rattle.intern_log.specs.declared.event.Event.{Event}
use Rattle.intern_log.specs.declared.event.Kind.TheVariants.{Counted}
use Rattle.intern_log.specs.declared.event.TableKind.{TableKind}
use Rattle.intern_log.specs.declared.event.What.TheVariants.{Create, Take}
use Rattle.intern_log.specs.TextMap.{TextMap, no_texts, HasHandle}
use Rattle.intern_log.specs.Log.{next, Allows, creates, map_after, map_of, IsFresh}
use Rattle.intern_log.specs.Own.{is_visible, is_among, mine, gains, losses}
use Rattle.intern_log.specs.Lawful.{IsLawful}
use Rattle.intern_log.specs.Place.{IsLiveThroughout}
use Rattle.intern_log.specs.Sections.{with_event, IsCreatedAs}
use Rattle.intern_log.specs.Callers.{AreCallers, DropTheirOwn, IsHeldBySome, IsHeldThroughout}
use Rattle.intern_log.proofs.Handles.{same_entry, origin_in_map, created_text, no_text_has}
use Rattle.intern_log.proofs.Ledger.{held_is_live}
use Rattle.intern_log.proofs.Gone.{is_created, created_by}
use Rattle.intern_log.proofs.LawfulLaws.{IsLawful-prefix}
use Rattle.intern_log.proofs.CallerSums.{sum_by-lt, shared_gains, shared_losses}

-- one text has one handle
pub one_handle : (m : TextMap) (text : List ℕ) (h k : Handle) → HasHandle m text h → HasHandle m text k → k ≡ h
one_handle m text h k has also = sym also.2 ∙ same_entry has.0 also.0 (sym has.1 ∙ also.1) ∙ has.2

more_gained : (callers : List (List ℕ)) (log : List Event) (h : Handle) → IsHeldBySome callers log h → Any (λ numbers. losses (mine log numbers) h < gains (mine log numbers) h) callers
more_gained callers log h (k, numbers, within, at, holds) = (k, numbers, within, at, omega (arith, holds))

pub held_by_caller : (table : TableKind) (callers : List (List ℕ)) (log : List Event) (h : Handle) →
    table.kind ≡ Counted → IsLawful table log → AreCallers callers log → DropTheirOwn callers log h → IsHeldBySome callers log h →
    (text : List ℕ) × HasHandle (map_of log) text h × ((k : Handle) → Allows (map_of log) (Take text k) → k ≡ h)
held_by_caller table callers log h counted lawful shared own holds =
    let gained = shared_gains callers log h shared in
    let lost = shared_losses callers log h shared in
    let less = sum_by-lt (λ numbers. losses (mine log numbers) h) (λ numbers. gains (mine log numbers) h) callers own (more_gained callers log h holds) in
    let live = held_is_live table log h counted lawful (omega (arith, gained, lost, less)) in
    (live.0, live.1, (λ k takes. one_handle (map_of log) live.0 h k live.1 takes))

abbrev IsShared : List (List ℕ) → Event → Type 0
IsShared callers e = is_visible e.what ≡ true → count_by (λ numbers. is_among numbers e.seat) callers ≡ 1

pub AreCallers-one_more : (callers : List (List ℕ)) (log : List Event) (e : Event) → AreCallers callers (log ++ e ∷ []) ↔ (AreCallers callers log × IsShared callers e)
AreCallers-one_more callers log e = (
  (λ shared. parts log shared),
  (λ both. All-push (IsShared callers) log e both.0 both.1),
)
  where
    parts : (xs : List Event) → All (IsShared callers) (xs ++ e ∷ []) → All (IsShared callers) xs × IsShared callers e
    parts [] shared = (All-nil (IsShared callers), All-head (IsShared callers) e [] shared)
    parts (x ∷ xs) shared =
        let rest = parts xs (All-tail (IsShared callers) x (xs ++ e ∷ []) shared) in
        (All-cons (IsShared callers) x xs (All-head (IsShared callers) x (xs ++ e ∷ []) shared) rest.0, rest.1)

-- a text that is live with a handle was, or one of the events created it so
live_was_created : (m : TextMap) (log : List Event) (t : List ℕ) (h : Handle) → HasHandle (map_after m log) t h → HasHandle m t h ⊎ IsCreatedAs log t h
live_was_created m [] t h has = inl has
live_was_created m (e ∷ log) t h has = elim (live_was_created (next m e.what) log t h has) [
  | inl now ↦ elim (origin_in_map m e.what t h now) [
    | inl was ↦ inl was
    | inr made ↦ inr ([], log, e.seat, ap (λ w. record { seat = e.seat; what = w } ∷ log) made)
  ]
  | inr later ↦ inr (e ∷ later.0, later.1, later.2, ap (λ l. e ∷ l) later.3)
]

or_second : (b c : Bool) → c ≡ true → (b || c) ≡ true
or_second true c is = refl
or_second false c is = is

-- a handle that an event of the log creates is created
created_at : (front back : List Event) (e : Event) (h : Handle) → creates e.what h ≡ true → is_created h (front ++ e ∷ back) ≡ true
created_at [] back e h here = ap (λ b. b || is_created h back) here
created_at (x ∷ front) back e h here = or_second (creates x.what h) (is_created h (front ++ e ∷ back)) (created_at front back e h here)

-- in a fresh log two Creates of one handle are of one text
one_create : (first behind front back : List Event) (e x : Event) (t u : List ℕ) (h : Handle) → e.what ≡ Create t h → x.what ≡ Create u h →
    IsFresh (first ++ e ∷ behind) → first ++ e ∷ behind ≡ front ++ x ∷ back → t ≡ u
one_create [] behind [] back e x t u h made also fresh is =
    let same : e ≡ x = cc in
    created_text t u h h (sym made ∙ ap (λ (y : Event). y.what) same ∙ also)
one_create [] behind (y ∷ front) back e x t u h made also fresh is =
    let tails : behind ≡ front ++ x ∷ back = cc in
    let once : is_created h behind ≡ false = fresh.0 h (created_by e.what t h made) in
    let again : is_created h behind ≡ true = ap (is_created h) tails ∙ created_at front back x h (created_by x.what u h also) in
    absurd (cc)
one_create (y ∷ first) behind [] back e x t u h made also fresh is =
    let same : y ≡ x = cc in
    let here : creates y.what h ≡ true = created_by y.what u h (ap (λ (z : Event). z.what) same ∙ also) in
    let once : is_created h (first ++ e ∷ behind) ≡ false = fresh.0 h here in
    let again : is_created h (first ++ e ∷ behind) ≡ true = created_at first behind e h (created_by e.what t h made) in
    absurd (cc)
one_create (y ∷ first) behind (z ∷ front) back e x t u h made also fresh is =
    let tails : first ++ e ∷ behind ≡ front ++ x ∷ back = cc in
    one_create first behind front back e x t u h made also fresh.1 tails

pub created_text_is : (log front back : List Event) (seat : ℕ) (created text : List ℕ) (h : Handle) → IsFresh log →
    log ≡ with_event front seat (Create created h) back → HasHandle (map_of log) text h → text ≡ created
created_text_is log front back seat created text h fresh is has = elim (live_was_created no_texts log text h has) [
  | inl was ↦ absurd (no_text_has text h was)
  | inr made ↦
      one_create made.0 made.1 front back (record { seat = made.2; what = Create text h }) (record { seat = seat; what = Create created h }) text created h refl refl
      (subst IsFresh made.3 fresh) (sym made.3 ∙ is)
]

-- callers share what begins a log that they share
AreCallers-prefix : (callers : List (List ℕ)) (front rest : List Event) → AreCallers callers (front ++ rest) → AreCallers callers front
AreCallers-prefix callers [] rest shared = All-nil (IsShared callers)
AreCallers-prefix callers (x ∷ front) rest shared =
    All-cons (IsShared callers) x front (All-head (IsShared callers) x (front ++ rest) shared)
    (AreCallers-prefix callers front rest (All-tail (IsShared callers) x (front ++ rest) shared))

-- a text that callers hold at each place of a window is live there
pub held_is_live_throughout : (table : TableKind) (callers : List (List ℕ)) (before after : List Event) (text : List ℕ) →
    table.kind ≡ Counted → IsLawful table after → AreCallers callers after → IsHeldThroughout callers before after text → IsLiveThroughout before after text
held_is_live_throughout table callers before after text counted lawful shared holds done place =
    let at = holds done place in
    let rest = place.1.0 in
    let whole = place.1.1 in
    let lawful_here = IsLawful-prefix table done rest (subst (IsLawful table) whole lawful) in
    let shared_here = AreCallers-prefix callers done rest (subst (AreCallers callers) whole shared) in
    let live = held_by_caller table callers done at.0 counted lawful_here shared_here at.2 at.3 in
    let created = at.1 in
    let same = created_text_is done created.0 created.1 created.2 text live.0 at.0 lawful_here.fresh created.3 live.1 in
    (at.0, subst (λ t. HasHandle (map_of done) t at.0) same live.1)
