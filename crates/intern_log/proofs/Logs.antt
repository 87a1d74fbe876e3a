-- Logs by pieces: what holds of two lists of events, one after the other, and of one more event.
use Rattle.std.proofs.Common.{◌≡◌, ℕ, Bool, true, false, List, [], ◌∷◌, ◌++◌, ◌||◌, ◌↔◌, refl, sym, ◌∙◌}
use Rattle.std.proofs.lemmas.List.{map-append}
use Rattle.std.proofs.lemmas.List.Elements.{filter-append}
use Rattle.std.proofs.lemmas.List.Folds.{list_any-append}
use Rattle.intern_log.specs.declared.event.Event.{Event}
use Rattle.intern_log.specs.declared.event.What.{What}
use Rattle.intern_log.specs.TextMap.{TextMap, no_texts}
use Rattle.intern_log.specs.Log.{next, Allows, map_after, map_of, IsLegalFrom, IsLegal, IsFresh}
use Rattle.intern_log.specs.Own.{mine}
use Rattle.intern_log.specs.Window.{by_seat}

pub map_after-append : (m : TextMap) (xs ys : List Event) → map_after m (xs ++ ys) ≡ map_after (map_after m xs) ys
map_after-append m [] ys = refl
map_after-append m (x ∷ xs) ys = map_after-append (next m x.what) xs ys

pub IsLegalFrom-append : (m : TextMap) (xs ys : List Event) → IsLegalFrom m xs → IsLegalFrom (map_after m xs) ys → IsLegalFrom m (xs ++ ys)
IsLegalFrom-append m [] ys front rest = rest
IsLegalFrom-append m (x ∷ xs) ys front rest = (front.0, IsLegalFrom-append (next m x.what) xs ys front.1 rest)

pub IsLegalFrom-prefix : (m : TextMap) (xs ys : List Event) → IsLegalFrom m (xs ++ ys) → IsLegalFrom m xs
IsLegalFrom-prefix m [] ys legal = tt
IsLegalFrom-prefix m (x ∷ xs) ys legal = (legal.0, IsLegalFrom-prefix (next m x.what) xs ys legal.1)

pub IsLegalFrom-rest : (m : TextMap) (xs ys : List Event) → IsLegalFrom m (xs ++ ys) → IsLegalFrom (map_after m xs) ys
IsLegalFrom-rest m [] ys legal = legal
IsLegalFrom-rest m (x ∷ xs) ys legal = IsLegalFrom-rest (next m x.what) xs ys legal.1

pub IsLegal-push : (log : List Event) (e : Event) → IsLegal log → Allows (map_of log) e.what → IsLegal (log ++ e ∷ [])
IsLegal-push log e legal allowed = IsLegalFrom-append no_texts log (e ∷ []) legal (allowed, tt)

pub mine-append : (xs ys : List Event) (numbers : List ℕ) → mine (xs ++ ys) numbers ≡ mine xs numbers ++ mine ys numbers
mine-append xs ys numbers = filter-append _ xs ys

pub by_seat-append : (seat : ℕ) (xs ys : List What) → by_seat seat (xs ++ ys) ≡ by_seat seat xs ++ by_seat seat ys
by_seat-append seat xs ys = map-append _ xs ys

none_before : (b c : Bool) → (b || c) ≡ false → b ≡ false
none_before true c none = none
none_before false c none = refl

pub IsFresh-prefix : (xs ys : List Event) → IsFresh (xs ++ ys) → IsFresh xs
IsFresh-prefix [] ys fresh = tt
IsFresh-prefix (x ∷ xs) ys fresh = ((λ h here. none_before _ _ (sym (list_any-append _ xs ys) ∙ fresh.0 h here)), IsFresh-prefix xs ys fresh.1)

pub IsLegal-pieces : (front rest : List Event) → IsLegal (front ++ rest) ↔ (IsLegal front × IsLegalFrom (map_of front) rest)
IsLegal-pieces front rest = (
  (λ legal. (IsLegalFrom-prefix no_texts front rest legal, IsLegalFrom-rest no_texts front rest legal)),
  (λ both. IsLegalFrom-append no_texts front rest both.0 both.1),
)

pub IsLegal-one_more : (log : List Event) (e : Event) → IsLegal (log ++ e ∷ []) ↔ (IsLegal log × Allows (map_of log) e.what)
IsLegal-one_more log e = (
  (λ legal. (IsLegalFrom-prefix no_texts log (e ∷ []) legal, (IsLegalFrom-rest no_texts log (e ∷ []) legal).0)),
  (λ both. IsLegal-push log e both.0 both.1),
)
