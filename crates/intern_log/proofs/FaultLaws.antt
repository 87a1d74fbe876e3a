-- The first event that the map of those before it does not allow.
use Rattle.std.proofs.Common.{◌≡◌, ℕ, ◌+◌, suc, ◌<◌, true, List, [], ◌∷◌, ◌++◌, length, get_or, take, drop, refl, sym, ap, subst, ◌∙◌, arith}
use Rattle.std.proofs.Math.Seq.{drop-cons}
use Rattle.std.proofs.lemmas.List.{take_more, take-append-drop, length-take-le}
use Rattle.intern_log.specs.declared.event.Event.{Event}
use Rattle.intern_log.specs.declared.event.What.{What}
use Rattle.intern_log.specs.declared.event.What.TheVariants.{Create, Take, Found, Drop, Perm, Kill, Claim, Free, Open, Close, Grace, Lock, Unlock, Unlink, ResizeTaken, ResizeGiven, Level, Rehash}
use Rattle.intern_log.specs.TextMap.{TextMap, no_texts}
use Rattle.intern_log.specs.Log.{next, Allows, map_of, IsLegal}
use Rattle.intern_log.specs.Own.{is_visible}
use Rattle.intern_log.specs.Counts.{is_create}
use Rattle.intern_log.specs.Faults.{IsFirstFault, IsNotAllowedAt, ReachesCreate}
use Rattle.intern_log.proofs.Logs.{map_after-append, IsLegal-one_more}

-- an event that the map does not allow is visible
pub visible : (m : TextMap) (what : What) → (¬ (Allows m what)) → is_visible what ≡ true
visible m (Create t h) not = refl
visible m (Take t h) not = refl
visible m (Found t h) not = refl
visible m (Drop h) not = refl
visible m (Perm h) not = refl
visible m (Kill h) not = refl
visible m (Claim s) not = absurd (not tt)
visible m (Free s) not = absurd (not tt)
visible m (Open c) not = absurd (not tt)
visible m Close not = absurd (not tt)
visible m Grace not = absurd (not tt)
visible m (Lock r b) not = absurd (not tt)
visible m (Unlock r b) not = absurd (not tt)
visible m (Unlink s) not = absurd (not tt)
visible m ResizeTaken not = absurd (not tt)
visible m ResizeGiven not = absurd (not tt)
visible m (Level l) not = absurd (not tt)
visible m (Rehash n) not = absurd (not tt)

module _ (log : List Event) (i : ℕ) (e : Event) (inside : i < length log) (is : e ≡ get_or log i e) where
  -- the log around the event at a place, and up to it
  around : log ≡ take i log ++ e ∷ drop (suc i) log
  around = sym (take-append-drop i log) ∙ ap (λ xs. take i log ++ xs) (drop-cons log i e inside ∙ ap (λ x. x ∷ drop (suc i) log) (sym is))

  up_to : take (i + 1) log ≡ take i log ++ e ∷ []
  up_to = take_more log i e inside ∙ ap (λ x. take i log ++ x ∷ []) (sym is)

  before : length (take i log) ≡ i
  before = length-take-le i log (omega arith)

  pub IsFirstFault-at : IsLegal (take i log) → (¬ (Allows (map_of (take i log)) e.what)) → IsFirstFault IsLegal log i
  IsFirstFault-at legal not = (take i log, drop (suc i) log, e, around, before, legal, λ all. not ((IsLegal-one_more (take i log) e).0 all).1)

  pub IsNotAllowedAt-at : (¬ (Allows (map_of (take i log)) e.what)) → IsNotAllowedAt log i
  IsNotAllowedAt-at not = (take i log, drop (suc i) log, e, around, before, visible (map_of (take i log)) e.what not, not)

  -- one more event that is allowed
  pub map_of-up_to : map_of (take (i + 1) log) ≡ next (map_of (take i log)) e.what
  map_of-up_to = ap map_of up_to ∙ map_after-append no_texts (take i log) (e ∷ [])

  pub IsLegal-up_to : IsLegal (take i log) → Allows (map_of (take i log)) e.what → IsLegal (take (i + 1) log)
  IsLegal-up_to legal allowed = subst IsLegal (sym up_to) ((IsLegal-one_more (take i log) e).1 (legal, allowed))

  -- a Create that is allowed
  pub ReachesCreate-at : IsLegal (take i log) → Allows (map_of (take i log)) e.what → is_create e.what ≡ true → ReachesCreate IsLegal log
  ReachesCreate-at legal allowed made = (take i log, drop (suc i) log, e, around, made, (IsLegal-one_more (take i log) e).1 (legal, allowed))
