-- A handle that is gone never comes back, in a log that creates no handle twice.
use Rattle.std.proofs.Common.{◌≡◌, ℕ, Bool, true, false, List, [], ◌∷◌, ◌++◌, ◌||◌, inl, inr, refl, sym, ap, subst, ◌∙◌}
use Rattle.std.specs.List.{list_any}
use Rattle.std.proofs.lemmas.List.Folds.{list_any-append}
use Rattle.intern_log.specs.declared.event.Handle.{Handle}
use Rattle.intern_log.specs.declared.event.Event.{Event}
use Rattle.intern_log.specs.declared.event.What.{What}
use Rattle.intern_log.specs.declared.event.What.TheVariants.{Create}
use Rattle.intern_log.specs.TextMap.{TextMap, IsLive}
use Rattle.intern_log.specs.Log.{next, creates, map_after, map_of, IsFresh}
use Rattle.intern_log.proofs.Slots.{neither}
use Rattle.intern_log.proofs.Logs.{map_after-append}
use Rattle.intern_log.proofs.Handles.{origin_in_map, handle_eq-Decides}

-- whether some event creates the handle
abbrev pub is_created : Handle → List Event → Bool
is_created h log = list_any (λ e. creates e.what h) log

pub created_by : (what : What) (t : List ℕ) (h : Handle) → what ≡ Create t h → creates what h ≡ true
created_by what t h is = ap (λ w. creates w h) is ∙ (handle_eq-Decides h h).1 refl

pub gone-next : (m : TextMap) (what : What) (h : Handle) → creates what h ≡ false → ¬ (IsLive m h) → ¬ (IsLive (next m what) h)
gone-next m what h other gone live =
    elim (origin_in_map m what live.0 h live.1) [
      | inl was ↦ gone (live.0, was)
      | inr made ↦ let is : creates what h ≡ true = created_by what live.0 h made in absurd (cc)
    ]

-- a handle that is not live, and that no event creates, is not live after them
pub gone-after : (m : TextMap) (log : List Event) (h : Handle) → is_created h log ≡ false → ¬ (IsLive m h) → ¬ (IsLive (map_after m log) h)
gone-after m [] h none gone = gone
gone-after m (e ∷ log) h none gone =
    let parts = neither (creates e.what h) (is_created h log) none in
    gone-after (next m e.what) log h parts.1 (gone-next m e.what h parts.0 gone)

-- of two tests of which one answers true, by the first
of_either : (b c : Bool) {A : Type 0} → (b || c) ≡ true → (b ≡ true → A) → (c ≡ true → A) → A
of_either true c any first second = first refl
of_either false c any first second = second any

-- what is created in the front of a fresh log is not created in the rest
pub created_once : (front rest : List Event) (h : Handle) → IsFresh (front ++ rest) → is_created h front ≡ true → is_created h rest ≡ false
created_once [] rest h fresh made = absurd (cc)
created_once (e ∷ front) rest h fresh made =
    of_either (creates e.what h) (is_created h front) made
    (λ here. (neither (is_created h front) (is_created h rest) (sym (list_any-append _ front rest) ∙ fresh.0 h here)).1)
    (λ later. created_once front rest h fresh.1 later)

-- a handle that was created and is gone never comes back
pub gone_for_good : (front rest : List Event) (h : Handle) → IsFresh (front ++ rest) → is_created h front ≡ true → ¬ (IsLive (map_of front) h) → ¬ (IsLive (map_of (front ++ rest)) h)
gone_for_good front rest h fresh made gone =
    subst (λ m. ¬ (IsLive m h)) (sym (map_after-append _ front rest)) (gone-after (map_of front) rest h (created_once front rest h fresh made) gone)
