-- Lawful logs are exactly those that keep the rules.
use Rattle.std.proofs.Common.{◌≡◌, ℕ, ◌+◌, ◌<◌, ◌⊎◌, Bool, true, false, List, [], ◌∷◌, ◌++◌, length, ◌↔◌, Option, Some, None, refl, sym, ap, subst, ◌∙◌}
use native.Mathlib.Omega.{arith}
use Rattle.std.proofs.lemmas.List.{append_assoc}
use Rattle.std.proofs.lemmas.List.Folds.{list_any-append}
use Rattle.intern_log.specs.declared.event.Event.{Event}
use Rattle.intern_log.specs.declared.event.What.{What}
use Rattle.intern_log.specs.declared.event.What.TheVariants.{Create, Take, Found, Drop, Perm, Kill, Claim, Free, Open, Close, Grace, Lock, Unlock, Unlink, ResizeTaken, ResizeGiven, Level, Rehash}
use Rattle.intern_log.specs.declared.event.TableKind.{TableKind}
use Rattle.intern_log.specs.TextMap.{no_texts, IsLive}
use Rattle.intern_log.specs.Log.{Allows, IsLegal, IsFresh}
use Rattle.intern_log.specs.Now.{Phase, Vacant, Claimed, Linked, Unlinked, OpenSection, Resizing, owner_of, opening, now_of}
use Rattle.intern_log.specs.Lawful.{IsResizing, IsGracedSince, MayFree, IsLinkedDead, MayFollow, IsAllowedFrom, IsLawful}
use Rattle.intern_log.specs.Sections.{some_closes, with_event, IsOpenAs, IsUnlinkedAt, IsCreatedByItsClaimer, IsFreedByItsOwner}
use Rattle.intern_log.specs.Orderly.{HasResizeLock}
use Rattle.intern_log.specs.Rules.{KeepsTheRules}
use Rattle.intern_log.proofs.Logs.{IsFresh-prefix, IsLegalFrom-rest}
use Rattle.intern_log.proofs.LawfulLaws.{IsAllowedFrom-append, IsLawful-prefix, lawful_is_legal, texts-now_after}
use Rattle.intern_log.proofs.Slots.{neither}
use Rattle.intern_log.proofs.Graced.{lawful_is_graced}
use Rattle.intern_log.proofs.Careful.{lawful_is_careful}
use Rattle.intern_log.proofs.OneMore.{now_of-one_more}
use Rattle.intern_log.proofs.OrderlyLaws.{at_event, level_is, lawful_is_orderly}
use Rattle.intern_log.proofs.SeededLaws.{seed_is, quiet_is, lawful_is_seeded}
use Rattle.intern_log.proofs.SlotPhases.{claimed_slot, linked_slot, unlinked_slot, vacant_slot}
use Rattle.intern_log.proofs.NowLaws.{graces_of_log, section_of_log, no_section_of_log, lock_of_log, no_lock_of_log, owner_of_log, no_resizing_of_log}

before_event : (table : TableKind) (log front back : List Event) (seat : ℕ) (what : What) → IsLawful table log → log ≡ with_event front seat what back → IsLawful table front
before_event table log front back seat what lawful is = IsLawful-prefix table front _ (subst (IsLawful table) is lawful)

pub lawful_creates_by_claimers : (table : TableKind) (log : List Event) → IsLawful table log → IsCreatedByItsClaimer log
lawful_creates_by_claimers table log lawful front back seat text h is =
    (claimed_slot table front h.slot seat (before_event table log front back seat (Create text h) lawful is)).0 (at_event table log front back seat (Create text h) lawful is).1.1

pub lawful_frees_by_owners : (table : TableKind) (log : List Event) → IsLawful table log → IsFreedByItsOwner log
lawful_frees_by_owners table log lawful = record {
  claimer = λ front back seat s owner is claimed.
      let slot = (claimed_slot table front s owner (before_event table log front back seat (Free s) lawful is)).1 claimed in
      subst (MayFree (now_of table.min_level front) seat) slot (at_event table log front back seat (Free s) lawful is).1;
  unlinker = λ front back seat s owner place is unlinked.
      let slot = (unlinked_slot table front s owner place (before_event table log front back seat (Free s) lawful is)).1 unlinked in
      (subst (MayFree (now_of table.min_level front) seat) slot (at_event table log front back seat (Free s) lawful is).1).0;
}

-- an event of a log that keeps the rules, after a lawful log
record Follows (table : TableKind) (front : List Event) (seat : ℕ) (what : What) : Type 0 where
  log : List Event
  back : List Event
  rules : KeepsTheRules table log
  lawful : IsLawful table front
  is : log ≡ with_event front seat what back

-- the event may come next
abbrev May : TableKind → List Event → ℕ → What → Type 0
May table front seat what = MayFollow table (now_of table.min_level front) seat what

legal_at : (table : TableKind) (front : List Event) (seat : ℕ) (what : What) → Follows table front seat what → Allows (now_of table.min_level front).texts what
legal_at table front seat what f =
    subst (λ m. Allows m what) (sym (texts-now_after (opening table.min_level) front)) (IsLegalFrom-rest no_texts front _ (subst IsLegal f.is f.rules.legal)).0

-- of two events of one list, the first comes earlier, or they are one, or it comes later
by_order : {A : Type 0} (front back earlier later : List Event) (a b : Event) → front ++ a ∷ back ≡ earlier ++ b ∷ later →
    (length front < length earlier → A) → (a ≡ b → A) → ((between : List Event) → front ≡ earlier ++ b ∷ between → later ≡ between ++ a ∷ back → A) → A
by_order [] back [] later a b is before same after = same (cc)
by_order [] back (y ∷ earlier) later a b is before same after = before (omega arith)
by_order (x ∷ front) back [] later a b is before same after = let first : x ≡ b = cc in after front (ap (λ e. e ∷ front) first) (cc)
by_order (x ∷ front) back (y ∷ earlier) later a b is before same after =
    let first : x ≡ y = cc in
    let rest : front ++ a ∷ back ≡ earlier ++ b ∷ later = cc in
    by_order front back earlier later a b rest (λ less. before (omega (arith, less))) same
    (λ between at rest. after between (ap (λ e. e ∷ front) first ∙ ap (λ l. y ∷ l) at) rest)

-- an Unlink is no Open
not_one : (a b : Event) (s counter : ℕ) → a.what ≡ Unlink s → b.what ≡ Open counter → a ≡ b → ⊥
not_one a b s counter unlinks opens same = let whats : Unlink s ≡ Open counter = sym unlinks ∙ ap (λ (e : Event). e.what) same ∙ opens in cc

both_ways : (b : Bool) → b ≡ true → b ≡ false → ⊥
both_ways b is not = cc

-- a section that is open where a slot may be freed was opened after the slot's Unlink
opened_after : (table : TableKind) (front : List Event) (seat s owner place : ℕ) → Follows table front seat (Free s) → IsUnlinkedAt front s owner place →
    (k opening counter : ℕ) → IsOpenAs front k opening counter → place < opening
opened_after table front seat s owner place f (before, between, unlinked, at, kept) k opening counter (opened, later, there, placed, unclosed) =
    let unlink : Event = record { seat = owner; what = Unlink s } in
    let open_it : Event = record { seat = k; what = Open counter } in
    by_order before between opened later unlink open_it (sym unlinked ∙ there)
    (λ less. omega (arith, less, at, placed))
    (λ same. absurd (not_one unlink open_it s counter refl refl same))
    (λ middle is rest.
    let parts = neither (some_closes k middle) (some_closes k (unlink ∷ between)) (sym (list_any-append _ middle (unlink ∷ between)) ∙ ap (some_closes k) (sym rest) ∙ unclosed) in
    let whole = f.is ∙ ap (λ l. with_event l seat (Free s) f.back) unlinked ∙ append_assoc before _ _ in
    let closed = f.rules.graced.closed before between f.back owner seat s k whole kept (length opened, counter, (opened, middle, is, refl, parts.0)) in
    absurd (both_ways (some_closes k between) closed parts.1))

graced_since : (table : TableKind) (front : List Event) (seat s owner place : ℕ) → Follows table front seat (Free s) → IsUnlinkedAt front s owner place →
    IsGracedSince (now_of table.min_level front) place
graced_since table front seat s owner place f unlinked k o is_open =
    opened_after table front seat s owner place f unlinked k o.place o.counter ((section_of_log table front k o f.lawful).0 is_open)

may_free : (table : TableKind) (front : List Event) (seat s : ℕ) → Follows table front seat (Free s) → (phase : Phase) → (now_of table.min_level front).slot s ≡ phase →
    MayFree (now_of table.min_level front) seat phase
may_free table front seat s f Vacant is = (vacant_slot table front s f.lawful).0 is (f.rules.graced.freed front f.back seat s f.is).0
may_free table front seat s f (Claimed owner) is = f.rules.freed.claimer front f.back seat s owner f.is ((claimed_slot table front s owner f.lawful).0 is)
may_free table front seat s f (Linked text h born) is = (f.rules.graced.freed front f.back seat s f.is).1 (text, h, (born, (linked_slot table front s text h born f.lawful).0 is))
may_free table front seat s f (Unlinked owner place) is =
    let unlinked = (unlinked_slot table front s owner place f.lawful).0 is in
    (f.rules.freed.unlinker front f.back seat s owner place f.is unlinked, graced_since table front seat s owner place f unlinked)

may_unlink : (table : TableKind) (front : List Event) (seat s : ℕ) → Follows table front seat (Unlink s) → May table front seat (Unlink s)
may_unlink table front seat s f =
    let careful = f.rules.careful front f.back seat s f.is in
    let linked = careful.2 in
    let slot = (linked_slot table front s careful.0 careful.1 linked.0 f.lawful).1 linked.1 in
    let dead = subst (λ m. ¬ (IsLive m careful.1)) (sym (texts-now_after (opening table.min_level) front)) careful.3 in
    subst (IsLinkedDead (now_of table.min_level front)) (sym slot) dead

may_open : (table : TableKind) (front : List Event) (seat counter : ℕ) → Follows table front seat (Open counter) → May table front seat (Open counter)
may_open table front seat counter f =
    let opens = f.rules.orderly.opens front f.back seat counter f.is in
    let graces = graces_of_log table.min_level front in
    let within = opens.1 in
    ((no_section_of_log table front seat f.lawful).1 opens.0, omega (arith, graces, within))

may_close : (table : TableKind) (front : List Event) (seat : ℕ) → Follows table front seat Close → May table front seat Close
may_close table front seat f =
    let opened = f.rules.orderly.closings front f.back seat f.is in
    let o : OpenSection = record { place = opened.0; counter = opened.1 } in
    (o, (section_of_log table front seat o f.lawful).1 opened.2)

-- who has the resize lock is resizing
has_owner : (o : Option Resizing) (k : ℕ) → owner_of o ≡ Some k → (r : Resizing) × (o ≡ Some r) × (r.seat ≡ k)
has_owner None k is = absurd (cc)
has_owner (Some r) k is = (r, refl, cc)

is_resizing : (table : TableKind) (front : List Event) (seat : ℕ) → IsLawful table front → HasResizeLock front seat → IsResizing (now_of table.min_level front) seat
is_resizing table front seat lawful has = has_owner _ seat ((owner_of_log table front seat lawful).1 has)

may_give_resize : (table : TableKind) (front : List Event) (seat : ℕ) → Follows table front seat ResizeGiven → May table front seat ResizeGiven
may_give_resize table front seat f = (
  is_resizing table front seat f.lawful (f.rules.orderly.given front f.back seat f.is),
  (λ s place is.
      let unlinked = (unlinked_slot table front s seat place f.lawful).0 is in
      both_ways _ (f.rules.orderly.given_freed front f.back unlinked.0 unlinked.1 seat s f.is unlinked.2) unlinked.4),
)

may_level : (table : TableKind) (front : List Event) (seat level : ℕ) → Follows table front seat (Level level) → May table front seat (Level level)
may_level table front seat level f =
    let within = f.rules.orderly.level_within front f.back seat level f.is in (
      is_resizing table front seat f.lawful (f.rules.orderly.level_owner front f.back seat level f.is),
      subst (λ l. (level ≡ l + 1) ⊎ (l ≡ level + 1)) (sym (level_is (opening table.min_level) front)) (f.rules.orderly.level_by_one front f.back seat level f.is),
      within.0,
      within.1,
    )

may_rehash : (table : TableKind) (front : List Event) (seat seed : ℕ) → Follows table front seat (Rehash seed) → May table front seat (Rehash seed)
may_rehash table front seat seed f = (
  f.rules.seeded.by_zero front f.back seat seed f.is,
  f.rules.seeded.next front f.back seat seed f.is ∙ ap (λ n. n + 1) (sym (seed_is (opening table.min_level) front)),
  f.rules.seeded.most front f.back seat seed f.is,
  (quiet_is table front f.lawful).1 (f.rules.seeded.idle front f.back seat seed f.is),
)

-- each event of a log that keeps the rules may come next
may_follow : (table : TableKind) (front : List Event) (seat : ℕ) (what : What) → Follows table front seat what → May table front seat what
may_follow table front seat (Create t h) f = (legal_at table front seat (Create t h) f, (claimed_slot table front h.slot seat f.lawful).1 (f.rules.created front f.back seat t h f.is))
may_follow table front seat (Take t h) f = (f.rules.orderly.takes front f.back seat t h f.is, legal_at table front seat (Take t h) f)
may_follow table front seat (Found t h) f = (f.rules.orderly.founds front f.back seat t h f.is, legal_at table front seat (Found t h) f)
may_follow table front seat (Drop h) f = (f.rules.orderly.drops front f.back seat h f.is, legal_at table front seat (Drop h) f)
may_follow table front seat (Perm h) f = (f.rules.orderly.perms front f.back seat h f.is, legal_at table front seat (Perm h) f)
may_follow table front seat (Kill h) f = (f.rules.orderly.kills front f.back seat h f.is, legal_at table front seat (Kill h) f)
may_follow table front seat (Claim s) f = (vacant_slot table front s f.lawful).1 (f.rules.graced.claimed front f.back seat s f.is)
may_follow table front seat (Free s) f = may_free table front seat s f ((now_of table.min_level front).slot s) refl
may_follow table front seat (Open counter) f = may_open table front seat counter f
may_follow table front seat Close f = may_close table front seat f
may_follow table front seat Grace f = tt
may_follow table front seat (Lock row b) f = (no_lock_of_log table front row b f.lawful).1 (λ j. f.rules.orderly.locks front f.back seat row b j f.is)
may_follow table front seat (Unlock row b) f = (lock_of_log table front row b seat f.lawful).1 (f.rules.orderly.unlocks front f.back seat row b f.is)
may_follow table front seat (Unlink s) f = may_unlink table front seat s f
may_follow table front seat ResizeTaken f = (no_resizing_of_log table front f.lawful).1 (λ j. f.rules.orderly.taken front f.back seat j f.is)
may_follow table front seat ResizeGiven f = may_give_resize table front seat f
may_follow table front seat (Level level) f = may_level table front seat level f
may_follow table front seat (Rehash seed) f = may_rehash table front seat seed f

-- the rest of such a log is allowed after what begins it
allowed_rest : (table : TableKind) (log : List Event) → KeepsTheRules table log → (front rest : List Event) → log ≡ front ++ rest → IsAllowedFrom table (opening table.min_level) front →
    IsAllowedFrom table (now_of table.min_level front) rest
allowed_rest table log rules front [] is allowed = tt
allowed_rest table log rules front (e ∷ rest) is allowed =
    let lawful : IsLawful table front = record { allowed = allowed; fresh = IsFresh-prefix front (e ∷ rest) (subst IsFresh is rules.fresh) } in
    let may = may_follow table front e.seat e.what (record { log = log; back = rest; rules = rules; lawful = lawful; is = is }) in
    let longer = IsAllowedFrom-append table (opening table.min_level) front (e ∷ []) allowed (may, tt) in
    let later = allowed_rest table log rules (front ++ e ∷ []) rest (is ∙ sym (append_assoc front (e ∷ []) rest)) longer in
    (may, subst (λ now. IsAllowedFrom table now rest) (now_of-one_more table.min_level front e) later)

pub lawful_is_by_the_rules : (table : TableKind) (log : List Event) → IsLawful table log ↔ KeepsTheRules table log
lawful_is_by_the_rules table log = (
  (λ lawful. record {
    legal = lawful_is_legal table log lawful;
    fresh = lawful.fresh;
    graced = lawful_is_graced table log lawful;
    careful = lawful_is_careful table log lawful;
    orderly = lawful_is_orderly table log lawful;
    seeded = lawful_is_seeded table log lawful;
    created = lawful_creates_by_claimers table log lawful;
    freed = lawful_frees_by_owners table log lawful;
  }),
  (λ rules. record { allowed = allowed_rest table log rules [] log refl tt; fresh = rules.fresh }),
)
