-- Sections, locks, the resize lock and graces of Now, in the log's own words.
use Rattle.std.proofs.Common.{◌≡◌, ℕ, List, [], ◌↔◌, Option, Some, None, refl, ap, subst, ◌∙◌}
use native.Mathlib.Omega.{arith}
use Rattle.intern_log.specs.declared.event.Event.{Event}
use Rattle.intern_log.specs.declared.event.What.TheVariants.{Open}
use Rattle.intern_log.specs.declared.event.TableKind.{TableKind}
use Rattle.intern_log.specs.Counts.{events_in}
use Rattle.intern_log.specs.Now.{OpenSection, Now, owner_of, opening, now_after_event, now_after, now_of}
use Rattle.intern_log.specs.Lawful.{IsAllowedFrom, IsLawful}
use Rattle.intern_log.specs.Sections.{IsOpenAs, IsOpenIn}
use Rattle.intern_log.specs.Orderly.{is_grace, HasResizeLock, IsLockedBy}
use Rattle.intern_log.proofs.LawfulLaws.{IsAllowedFrom-rest}
use Rattle.intern_log.proofs.Slots.{open_until_close}
use Rattle.intern_log.proofs.Graced.{put_there, said}
use Rattle.intern_log.proofs.OneMore.{place_is}
use Rattle.intern_log.proofs.OrderlyLaws.{graces_are, open_was_opened, lock_was_taken, lock_is, owner_took, owner_is}

pub graces_of_log : (min_level : ℕ) (log : List Event) → (now_of min_level log).graces ≡ events_in is_grace log
graces_of_log min_level log = let sum = graces_are (opening min_level) log in omega (arith, sum)

-- an option that is no value is none
none_of : {A : Type 0} (o : Option A) → ((x : A) → o ≡ Some x → ⊥) → o ≡ None
none_of None not = refl
none_of (Some x) not = absurd (not x refl)

-- and one that is none is no value
not_none : {A : Type 0} (o : Option A) (x : A) → o ≡ None → o ≡ Some x → ⊥
not_none o x none some = cc

-- an open section by its place and counter
abbrev opened_at : ℕ → ℕ → Option OpenSection
opened_at place counter = Some (record { place = place; counter = counter })

pub section_of_log : (table : TableKind) (log : List Event) (k : ℕ) (o : OpenSection) → IsLawful table log → (now_of table.min_level log).section k ≡ Some o ↔ IsOpenAs log k o.place o.counter
section_of_log table log k o lawful = (
  (λ is. open_was_opened table log k o lawful.allowed is),
  (λ (front, back, is, at, kept).
      let start = opening table.min_level in
      let whole = subst (IsAllowedFrom table start) is lawful.allowed in
      let opened = now_after_event (now_after start front) (record { seat = k; what = Open o.counter }) in
      let p : OpenSection = record { place = (now_after start front).place; counter = o.counter } in
      let there : opened.section k ≡ Some p = put_there ((now_after start front).section) k (Some p) in
      let stays = open_until_close table opened back k p there (IsAllowedFrom-rest table start front _ whole).1 kept in
      ap (λ (n : Now). n.section k) (ap (now_after start) is ∙ said start front k (Open o.counter) back) ∙ stays
      ∙ ap (λ (n : ℕ). opened_at n o.counter) (place_is table.min_level front ∙ at)),
)

pub no_section_of_log : (table : TableKind) (log : List Event) (k : ℕ) → IsLawful table log → (now_of table.min_level log).section k ≡ None ↔ ¬ (IsOpenIn log k)
no_section_of_log table log k lawful = (
  (λ none opened. not_none _ _ none ((section_of_log table log k (record { place = opened.0; counter = opened.1 }) lawful).1 opened.2)),
  (λ closed. none_of _ (λ o is. closed (o.place, o.counter, (section_of_log table log k o lawful).0 is))),
)

pub lock_of_log : (table : TableKind) (log : List Event) (row bucket k : ℕ) → IsLawful table log → (now_of table.min_level log).lock row bucket ≡ Some k ↔ IsLockedBy log row bucket k
lock_of_log table log row bucket k lawful = (
  (λ is. lock_was_taken table row bucket k [] log (opening table.min_level) lawful.allowed (λ was. absurd (cc)) is),
  (λ locked. lock_is table (opening table.min_level) log row bucket k lawful.allowed locked),
)

pub no_lock_of_log : (table : TableKind) (log : List Event) (row bucket : ℕ) → IsLawful table log →
    (now_of table.min_level log).lock row bucket ≡ None ↔ ((k : ℕ) → ¬ (IsLockedBy log row bucket k))
no_lock_of_log table log row bucket lawful = (
  (λ none k locked. not_none _ _ none ((lock_of_log table log row bucket k lawful).1 locked)),
  (λ free. none_of _ (λ k is. free k ((lock_of_log table log row bucket k lawful).0 is))),
)

pub owner_of_log : (table : TableKind) (log : List Event) (k : ℕ) → IsLawful table log → owner_of (now_of table.min_level log).resizing ≡ Some k ↔ HasResizeLock log k
owner_of_log table log k lawful = (
  (λ is. owner_took table k [] log (opening table.min_level) lawful.allowed (λ was. absurd (cc)) is),
  (λ has. owner_is table (opening table.min_level) log k lawful.allowed has),
)

pub no_resizing_of_log : (table : TableKind) (log : List Event) → IsLawful table log → (now_of table.min_level log).resizing ≡ None ↔ ((k : ℕ) → ¬ (HasResizeLock log k))
no_resizing_of_log table log lawful = (
  (λ none k has. not_none _ _ (ap owner_of none) ((owner_of_log table log k lawful).1 has)),
  (λ free. none_of _ (λ r is. free r.seat ((owner_of_log table log r.seat lawful).0 (ap owner_of is)))),
)
