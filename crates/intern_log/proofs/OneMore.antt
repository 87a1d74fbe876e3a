-- Logs by one more event.
use Rattle.std.proofs.Common.{◌≡◌, ℕ, ◌+◌, ◌<◌, ◌^◌, Bool, true, false, cond, ◌&&◌, List, [], ◌∷◌, ◌++◌, length, ◌↔◌, refl, sym, ◌∙◌}
use native.Mathlib.Omega.{arith}
use Rattle.std.specs.List.{list_any}
use Rattle.std.proofs.lemmas.List.Folds.{list_any-append}
use Rattle.std.proofs.lemmas.List.Sums.{sum_by_push, sum_by-append}
use Rattle.intern_log.specs.declared.event.Handle.{Handle}
use Rattle.intern_log.specs.declared.event.Event.{Event}
use Rattle.intern_log.specs.declared.event.What.{What}
use Rattle.intern_log.specs.declared.event.TableKind.{TableKind}
use Rattle.intern_log.specs.TextMap.{no_texts}
use Rattle.intern_log.specs.Log.{next, map_of, creates, IsFresh}
use Rattle.intern_log.specs.Own.{is_visible, is_among, mine}
use Rattle.intern_log.specs.Counts.{is_create, events_in}
use Rattle.intern_log.specs.Now.{Now, opening, now_after_event, now_after, now_of}
use Rattle.intern_log.specs.Short.{IsShort}
use Rattle.intern_log.specs.Lawful.{IsNew, MayFollow, IsLawful}
use Rattle.intern_log.proofs.Logs.{map_after-append, mine-append, IsFresh-prefix}
use Rattle.intern_log.proofs.LawfulLaws.{now_after-append, IsAllowedFrom-append, IsAllowedFrom-rest, IsLawful-prefix}
use Rattle.intern_log.proofs.Slots.{neither}
use Rattle.intern_log.proofs.Graced.{or_false}

pub map_of-one_more : (log : List Event) (e : Event) → map_of (log ++ e ∷ []) ≡ next (map_of log) e.what
map_of-one_more log e = map_after-append no_texts log (e ∷ [])

pub now_of-one_more : (min_level : ℕ) (log : List Event) (e : Event) → now_of min_level (log ++ e ∷ []) ≡ now_after_event (now_of min_level log) e
now_of-one_more min_level log e = now_after-append (opening min_level) log (e ∷ [])

place_after : (now : Now) (log : List Event) → (now_after now log).place ≡ now.place + length log
place_after now [] = omega arith
place_after now (e ∷ log) = let more = place_after (now_after_event now e) log in omega (arith, more)

pub place_is : (min_level : ℕ) (log : List Event) → (now_of min_level log).place ≡ length log
place_is min_level log = let more = place_after (opening min_level) log in omega (arith, more)

pub mine-one_more : (log : List Event) (e : Event) (numbers : List ℕ) →
    mine (log ++ e ∷ []) numbers ≡ mine log numbers ++ cond (is_visible e.what && is_among numbers e.seat) (e ∷ []) []
mine-one_more log e numbers = mine-append log (e ∷ []) numbers

pub count-one_more : (test : What → Bool) (log : List Event) (e : Event) → events_in test (log ++ e ∷ []) ≡ events_in test log + cond (test e.what) 1 0
count-one_more test log e = sum_by_push (λ (x : Event). cond (test x.what) 1 0) log e

pub IsFresh-push : (log : List Event) (e : Event) → IsFresh log → IsNew log e.what → IsFresh (log ++ e ∷ [])
IsFresh-push [] e fresh new = ((λ h here. refl), tt)
IsFresh-push (x ∷ log) e fresh new = (
  (λ h here. list_any-append _ log (e ∷ []) ∙ or_false _ _ (fresh.0 h here) (or_false _ false (unlike h here (creates e.what h) refl) refl)),
  IsFresh-push log e fresh.1 (λ h here. (neither (creates x.what h) _ (new h here)).1),
)
  where
    unlike : (h : Handle) → creates x.what h ≡ true → (b : Bool) → creates e.what h ≡ b → b ≡ false
    unlike h here true again = let never = (neither (creates x.what h) _ (new h again)).0 in absurd (cc)
    unlike h here false other = refl

-- what is created at the end of a fresh log was not created before
new_at_end : (log : List Event) (e : Event) → IsFresh (log ++ e ∷ []) → IsNew log e.what
new_at_end [] e fresh h here = refl
new_at_end (x ∷ log) e fresh h here = or_false _ _ (first (creates x.what h) refl) (new_at_end log e fresh.1 h here)
  where
    first : (b : Bool) → creates x.what h ≡ b → b ≡ false
    first false other = refl
    first true again =
        let none = (neither (list_any (λ (l : Event). creates l.what h) log) _ (sym (list_any-append _ log (e ∷ [])) ∙ fresh.0 h again)).1 in
        let never = (neither (creates e.what h) false none).0 in
        absurd (cc)

pub IsFresh-one_more : (log : List Event) (e : Event) → IsFresh (log ++ e ∷ []) ↔ (IsFresh log × IsNew log e.what)
IsFresh-one_more log e = (
  (λ fresh. (IsFresh-prefix log (e ∷ []) fresh, new_at_end log e fresh)),
  (λ both. IsFresh-push log e both.0 both.1),
)

pub IsLawful-push : (table : TableKind) (log : List Event) (e : Event) → IsLawful table log → MayFollow table (now_of table.min_level log) e.seat e.what → IsNew log e.what →
    IsLawful table (log ++ e ∷ [])
IsLawful-push table log e lawful may new = record {
  allowed = IsAllowedFrom-append table (opening table.min_level) log (e ∷ []) lawful.allowed (may, tt);
  fresh = IsFresh-push log e lawful.fresh new;
}

pub IsLawful-one_more : (table : TableKind) (log : List Event) (e : Event) →
    IsLawful table (log ++ e ∷ []) ↔ (IsLawful table log × MayFollow table (now_of table.min_level log) e.seat e.what × IsNew log e.what)
IsLawful-one_more table log e = (
  (λ lawful. (
    IsLawful-prefix table log (e ∷ []) lawful,
    (IsAllowedFrom-rest table (opening table.min_level) log (e ∷ []) lawful.allowed).0,
    new_at_end log e lawful.fresh,
  )),
  (λ all. IsLawful-push table log e all.0 all.1 all.2),
)

-- what begins a short log is short, and one more event counts as one where it is a Create
pub IsShort-prefix : (front rest : List Event) → IsShort (front ++ rest) → IsShort front
IsShort-prefix front rest short = let sum = sum_by-append (λ (x : Event). cond (is_create x.what) 1 0) front rest in omega (arith, sum, short)

pub IsShort-one_more : (log : List Event) (e : Event) → IsShort (log ++ e ∷ []) ↔ (events_in is_create log + cond (is_create e.what) 1 0 < 2 ^ 47)
IsShort-one_more log e = let count = count-one_more is_create log e in ((λ short. omega (arith, count, short)), (λ few. omega (arith, count, few)))
