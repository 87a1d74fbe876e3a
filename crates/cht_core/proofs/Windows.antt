-- Windows of logs: their places, the events of others in them, and the own ones.
use Rattle.std.proofs.Common.{◌≡◌, ◌≢◌, ℕ, ◌≤◌, ◌==◌, Bool, true, false, cond, List, [], ◌∷◌, ◌++◌, length, Option, Some, None, refl, sym, ap, subst, ◌∙◌, arith, append_assoc}
use Rattle.std.proofs.Common.{append-nil, length-append}
use Rattle.std.specs.List.{filter}
use Rattle.std.proofs.lemmas.Bool.{eq-eqb}
use Rattle.std.proofs.lemmas.List.Elements.{filter-append}
use Rattle.intern_log.specs.declared.event.Event.{Event}
use Rattle.intern_log.specs.declared.event.What.{What}
use Rattle.intern_log.specs.Own.{is_visible}
use Rattle.cht_core.specs.Invariant.{events_of}
use Rattle.cht_core.specs.Windows.{Somewhere, Another, AnotherSince, WasSince, whats_by}
use Rattle.cht_core.specs.Causes.{IsUnseen}

module _ (seen window : List Event) where
  -- a longer window has the places of the shorter one
  pub somewhere_on : (Says : List Event → Type 0) (more : List Event) → Somewhere Says seen window → Somewhere Says seen (window ++ more)
  somewhere_on Says more h = (h.0, h.1 ++ more, ap (λ l. l ++ more) h.2 ∙ append_assoc h.0 h.1 more, h.3)

  -- its end is a place of a window
  pub at_end : (Says : List Event → Type 0) → Says (seen ++ window) → Somewhere Says seen window
  at_end Says h = (window, [], sym (append-nil window), h)

  -- a longer window has the events of the shorter one
  pub another_on : (i : ℕ) (Is : List Event → What → Type 0) (more : List Event) → Another i Is seen window → Another i Is seen (window ++ more)
  another_on i Is more h = (h.0, h.1 ++ more, h.2, ap (λ l. l ++ more) h.3 ∙ append_assoc h.0 (h.2 ∷ h.1) more, h.4, h.5)

-- what is so at a place of a window, by what is weaker
pub somewhere_so : (Says So : List Event → Type 0) (seen window : List Event) → ((log : List Event) → Says log → So log) → Somewhere Says seen window → Somewhere So seen window
somewhere_so Says So seen window weaker h = (h.0, h.1, h.2, weaker (seen ++ h.0) h.3)

-- where one list is cut at or behind another's end
pub cut_behind : (xs ys front back : List Event) → xs ++ ys ≡ front ++ back → length xs ≤ length front → (w : List Event) × (front ≡ xs ++ w) × (ys ≡ w ++ back)
cut_behind [] ys front back e behind = (front, refl, e)
cut_behind (x ∷ xs) ys [] back e behind = absurd (omega (arith, behind))
cut_behind (x ∷ xs) ys (a ∷ front) back e behind =
    let same : x ≡ a = cc in
    let rest : xs ++ ys ≡ front ++ back = cc in
    let k = cut_behind xs ys front back rest (omega (arith, behind)) in
    (k.0, ap (λ z. z ∷ front) (sym same) ∙ ap (λ l. x ∷ l) k.1, k.2)

-- an event of another seat since the window began is one of the window
pub another_since : (i from : ℕ) (Is : List Event → What → Type 0) (seen window : List Event) → length seen ≤ from → AnotherSince i Is from (seen ++ window) → Another i Is seen window
another_since i from Is seen window began h =
    let behind : from ≤ length h.0 = h.4 in
    let k = cut_behind seen window h.0 (h.2 ∷ h.1) h.3 (omega (arith, began, behind)) in
    (k.0, h.1, h.2, k.2, h.5, subst (λ log. Is log h.2.what) k.1 h.6)

-- what a log said since the window began, it said at a place of it
pub somewhere_since : (from : ℕ) (Says : List Event → Type 0) (seen window : List Event) → length seen ≤ from → WasSince Says from (seen ++ window) → Somewhere Says seen window
somewhere_since from Says seen window began h =
    let behind : from ≤ length h.0 = h.3 in
    let k = cut_behind seen window h.0 h.1 h.2 (omega (arith, began, behind)) in
    (k.0, h.1, k.2, subst Says k.1 h.4)

-- the log is longer than what was seen
pub seen_before : (seen window : List Event) (place : ℕ) → place ≡ length (seen ++ window) → length seen ≤ place
seen_before seen window place is = let whole = length-append seen window in omega (arith, is, whole)

-- WHAT A SEAT DID

chosen : (b : Bool) (x : What) (xs ys : List What) → cond b (x ∷ (xs ++ ys)) (xs ++ ys) ≡ cond b (x ∷ xs) xs ++ ys
chosen true x xs ys = refl
chosen false x xs ys = refl

-- what a seat did in two pieces of a log, and in its own next event
pub whats_by-append : (i : ℕ) (xs ys : List Event) → whats_by i (xs ++ ys) ≡ whats_by i xs ++ whats_by i ys
whats_by-append i [] ys = refl
whats_by-append i (e ∷ xs) ys = ap (λ l. cond (e.seat == i) (e.what ∷ l) l) (whats_by-append i xs ys) ∙ chosen (e.seat == i) e.what (whats_by i xs) (whats_by i ys)

abbrev pub whats_of : Option What → List What
whats_of None = []
whats_of (Some w) = w ∷ []

pub whats_by_own : (i : ℕ) (e : Option What) → whats_by i (events_of i e) ≡ whats_of e
whats_by_own i None = refl
whats_by_own i (Some w) = ap (λ b. cond b (w ∷ []) []) (eq-eqb i i refl)

-- others' events change nothing of it, and an own event is added
pub whats_by_waits : (i : ℕ) (window more : List Event) → whats_by i more ≡ [] → whats_by i (window ++ more) ≡ whats_by i window
whats_by_waits i window more none = whats_by-append i window more ∙ ap (λ l. whats_by i window ++ l) none ∙ append-nil (whats_by i window)

pub whats_by_step : (i : ℕ) (window : List Event) (e : Option What) → whats_by i (window ++ events_of i e) ≡ whats_by i window ++ whats_of e
whats_by_step i window e = whats_by-append i window (events_of i e) ∙ ap (λ l. whats_by i window ++ l) (whats_by_own i e)

-- an event that callers see is not the seat's where callers see none of it
pub not_own : (i : ℕ) (front back : List Event) (e : Event) → IsUnseen i (front ++ e ∷ back) → is_visible e.what ≡ true → e.seat ≢ i
not_own i front back e unseen shown own = none (filter is_visible (whats_by i front)) (sym whole ∙ unseen)
  where
    here : filter is_visible (whats_by i (e ∷ back)) ≡ e.what ∷ filter is_visible (whats_by i back)
    here = ap (λ b. filter is_visible (cond b (e.what ∷ whats_by i back) (whats_by i back))) (eq-eqb e.seat i own) ∙ ap
        (λ b. cond b (e.what ∷ filter is_visible (whats_by i back)) (filter is_visible (whats_by i back))) shown

    whole : filter is_visible (whats_by i (front ++ e ∷ back)) ≡ filter is_visible (whats_by i front) ++ e.what ∷ filter is_visible (whats_by i back)
    whole = ap (filter is_visible) (whats_by-append i front (e ∷ back)) ∙ filter-append is_visible (whats_by i front) (whats_by i (e ∷ back)) ∙ ap
        (λ l. filter is_visible (whats_by i front) ++ l) here

    none : (xs : List What) → xs ++ e.what ∷ filter is_visible (whats_by i back) ≡ [] → ⊥
    none [] is = cc
    none (x ∷ xs) is = cc
