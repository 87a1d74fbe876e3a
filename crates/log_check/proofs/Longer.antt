-- A lawful log with one more event.
use Rattle.std.proofs.Common.{◌≡◌, ℕ, ◌+◌, ◌<◌, Bool, true, false, ◌||◌, List, [], ◌∷◌, ◌++◌, suc, take, drop, length, get_or, refl, sym, ap, subst, ◌∙◌, ◌↔◌, not}
use native.Mathlib.Omega.{arith}
use Rattle.std.proofs.lemmas.List.{take-append-drop, take_more, length-take-le}
use Rattle.std.proofs.Math.Seq.{drop-cons}
use Rattle.std.proofs.lemmas.List.Folds.{list_any-append}
use Rattle.intern_log.specs.declared.event.Event.{Event}
use Rattle.intern_log.specs.declared.event.TableKind.{TableKind}
use Rattle.intern_log.specs.Log.{next, Allows, creates, IsFresh}
use Rattle.intern_log.specs.Faults.{IsFirstFault, ReachesCreate}
use Rattle.intern_log.specs.Counts.{is_create}
use Rattle.intern_log.specs.TextMap.{TextMap}
use Rattle.intern_log.specs.Now.{Now, opening, now_of}
use Rattle.intern_log.specs.Lawful.{IsLawful}
use Rattle.intern_log.proofs.Gone.{is_created, created_once}
use Rattle.intern_log.proofs.Graced.{or_false}
use Rattle.intern_log.proofs.LawfulLaws.{MayFollow-allows, now_after-append, IsAllowedFrom-append, IsAllowedFrom-rest}
use Rattle.log_check.specs.Parts.{MayStand, IsRepeated}

fails : (b : Bool) → (b ≡ true → ⊥) → b ≡ false
fails true never = absurd (never refl)
fails false never = refl

later : (b c : Bool) → c ≡ true → (b || c) ≡ true
later true c is = refl
later false c is = is

fresh_push : (before : List Event) (e : Event) → IsFresh before → ¬ (IsRepeated before e) → IsFresh (before ++ e ∷ [])
fresh_push [] e fresh new = ((λ h made. refl), tt)
fresh_push (x ∷ before) e fresh new = (
  (λ h made. list_any-append (λ (y : Event). creates y.what h) before (e ∷ [])
      ∙ or_false _ _ (fresh.0 h made) (or_false _ false (fails _ (λ again. new (h, again, ap (λ b. b || is_created h before) made))) refl)),
  fresh_push before e fresh.1 (λ repeated. new (repeated.0, repeated.1, later (creates x.what repeated.0) _ repeated.2)),
)

pub lawful_push : (table : TableKind) (before : List Event) (e : Event) → IsLawful table before → MayStand table before e.seat e.what → ¬ (IsRepeated before e) → IsLawful table (before ++ e ∷ [])
lawful_push table before e lawful may new = record {
  allowed = IsAllowedFrom-append table (opening table.min_level) before (e ∷ []) lawful.allowed (may, tt);
  fresh = fresh_push before e lawful.fresh new;
}

pub lawful_last : (table : TableKind) (before : List Event) (e : Event) → IsLawful table (before ++ e ∷ []) → MayStand table before e.seat e.what
lawful_last table before e lawful = (IsAllowedFrom-rest table (opening table.min_level) before (e ∷ []) lawful.allowed).0

pub lawful_once : (table : TableKind) (before : List Event) (e : Event) → IsLawful table (before ++ e ∷ []) → ¬ (IsRepeated before e)
lawful_once table before e lawful repeated =
    let once : (creates e.what repeated.0 || false) ≡ false = created_once before (e ∷ []) repeated.0 lawful.fresh repeated.2 in
    let again : (creates e.what repeated.0 || false) ≡ true = ap (λ b. b || false) repeated.1 in
    absurd (cc)

-- the two questions of an event together
pub longer_is_lawful : (table : TableKind) (before : List Event) (e : Event) (b : Bool) → IsLawful table before → MayStand table before e.seat e.what →
    (b ≡ true) ↔ IsRepeated before e → (not b ≡ true) ↔ IsLawful table (before ++ e ∷ [])
longer_is_lawful table before e true lawful may says = ((λ is. absurd (cc)), (λ longer. absurd (lawful_once table before e longer (says.0 refl))))
longer_is_lawful table before e false lawful may says =
    ((λ is. lawful_push table before e lawful may (λ repeated. let yes : false ≡ true = says.1 repeated in absurd (cc))), (λ longer. refl))

pub longer_is_not : (table : TableKind) (before : List Event) (e : Event) (b : Bool) → b ≡ false → (b ≡ true) ↔ MayStand table before e.seat e.what → (b ≡ true) ↔ IsLawful table (before ++ e ∷ [])
longer_is_not table before e b no_ says = ((λ is. absurd (cc)), (λ longer. says.1 (lawful_last table before e longer)))

-- a list by the item at a place
pub split_at : (log : List Event) (i : ℕ) (e : Event) → i < length log → e ≡ get_or log i e → log ≡ take i log ++ e ∷ drop (suc i) log
split_at log i e below is = sym (take-append-drop i log) ∙ ap (λ l. take i log ++ l) (drop-cons log i e below ∙ ap (λ x. x ∷ drop (suc i) log) (sym is))

pub one_more : (log : List Event) (i : ℕ) (e : Event) → i < length log → e ≡ get_or log i e → take (i + 1) log ≡ take i log ++ e ∷ []
one_more log i e below is = take_more log i e below ∙ ap (λ x. take i log ++ x ∷ []) (sym is)

-- the place of an event with which a lawful log is one no longer
pub fault_at : (table : TableKind) (log : List Event) (i : ℕ) (e : Event) (b : Bool) → i < length log → e ≡ get_or log i e → IsLawful table (take i log) →
    b ≡ false → (b ≡ true) ↔ IsLawful table (take i log ++ e ∷ []) → IsFirstFault (IsLawful table) log i
fault_at table log i e b below is lawful no_ says =
    (take i log, drop (suc i) log, e, split_at log i e below is, length-take-le i log (omega (arith, below)), lawful, (λ longer. let yes = says.1 longer in absurd (cc)))

-- a Create with which a lawful log stays lawful
pub create_at : (table : TableKind) (log : List Event) (i : ℕ) (e : Event) → i < length log → e ≡ get_or log i e →
    is_create e.what ≡ true → IsLawful table (take i log ++ e ∷ []) → ReachesCreate (IsLawful table) log
create_at table log i e below is made lawful = (take i log, drop (suc i) log, e, split_at log i e below is, made, lawful)

-- the map allows the last event of a lawful log
pub last_is_allowed : (table : TableKind) (before : List Event) (e : Event) (m : TextMap) → m ≡ (now_of table.min_level before).texts → IsLawful table (before ++ e ∷ []) → Allows m e.what
last_is_allowed table before e m is lawful =
    subst (λ texts. Allows texts e.what) (sym is) (MayFollow-allows table (now_of table.min_level before) e.seat e.what (lawful_last table before e lawful))

-- the map of one more event
pub texts_of_one_more : (min_level : ℕ) (before : List Event) (e : Event) (m n : TextMap) → m ≡ (now_of min_level before).texts → n ≡ next m e.what →
    n ≡ (now_of min_level (before ++ e ∷ [])).texts
texts_of_one_more min_level before e m n is new =
    new ∙ ap (λ texts. next texts e.what) is ∙ ap (λ (now : Now). now.texts) (sym (now_after-append (opening min_level) before (e ∷ [])))
