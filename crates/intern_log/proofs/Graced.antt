-- A lawful log is graced.
use Rattle.std.proofs.Common.{◌≡◌, ℕ, Bool, true, false, cond, List, [], ◌∷◌, ◌++◌, ◌||◌, Some, refl, sym, ap, subst, ◌∙◌}
use native.Mathlib.Omega.{arith}
use Rattle.std.proofs.lemmas.Bool.Decides.{Decides-eqb}
use Rattle.std.proofs.lemmas.List.{append_assoc, append-nil}
use Rattle.std.proofs.lemmas.List.Folds.{list_any-append}
use Rattle.intern_log.specs.declared.event.Event.{Event}
use Rattle.intern_log.specs.declared.event.What.{What}
use Rattle.intern_log.specs.declared.event.What.TheVariants.{Create, Claim, Free, Open, Unlink}
use Rattle.intern_log.specs.Now.{Phase, Vacant, Claimed, Linked, Unlinked, OpenSection, Now, with_at, opening, now_after_event, now_after}
use Rattle.intern_log.specs.declared.event.TableKind.{TableKind}
use Rattle.intern_log.specs.Lawful.{IsLinkedDead, MayFree, IsAllowedFrom, IsLawful}
use Rattle.intern_log.specs.Sections.{frees, some_frees, some_closes, with_event, IsOpenIn, IsTakenIn, IsLinkedIn, IsGraced}
use Rattle.intern_log.proofs.LawfulLaws.{now_after-append, IsAllowedFrom-prefix, IsAllowedFrom-rest}
use Rattle.intern_log.proofs.Slots.{slot_after, unlinked_until_free, taken_until_free, linked_until_unlink, open_until_close, OpenedBefore, opened_before-after, opened_before-opening}

pub put_there : {A : Type 0} (f : ℕ → A) (n : ℕ) (value : A) → with_at f n value n ≡ value
put_there f n value = ap (λ b. cond b value (f n)) ((Decides-eqb n n).1 refl)

pub otherwise : (b : Bool) → (b ≡ false → ⊥) → b ≡ true
otherwise true never = refl
otherwise false never = absurd (never refl)

-- what the log says after one event and those behind it
pub said : (now : Now) (front : List Event) (seat : ℕ) (what : What) (back : List Event) →
    now_after now (with_event front seat what back) ≡ now_after (now_after_event (now_after now front) (record { seat = seat; what = what })) back
said now front seat what back = now_after-append now front _

-- a slot that a log claims, and does not free since, is not vacant
pub taken_is : (table : TableKind) (now : Now) (log : List Event) (s : ℕ) → IsAllowedFrom table now log → IsTakenIn log s → ¬ ((now_after now log).slot s ≡ Vacant)
taken_is table now log s allowed (front, back, seat, is, kept) =
    let whole = subst (IsAllowedFrom table now) is allowed in
    let claimed = now_after_event (now_after now front) (record { seat = seat; what = Claim s }) in
    let there : claimed.slot s ≡ Claimed seat = put_there ((now_after now front).slot) s (Claimed seat) in
    let stays = taken_until_free table claimed back s (λ vacant. absurd (cc)) (IsAllowedFrom-rest table now front _ whole).1 kept in
    subst (λ (n : Now). ¬ (n.slot s ≡ Vacant)) (sym (ap (now_after now) is ∙ said now front seat (Claim s) back)) stays

-- a slot that a log links, and does not unlink since, is in a chain
linked_is : (table : TableKind) (now : Now) (log : List Event) (s : ℕ) → IsAllowedFrom table now log → IsLinkedIn log s → (seat : ℕ) → ¬ (MayFree (now_after now log) seat ((now_after now log).slot s))
linked_is table now log s allowed (text, h, (place, (front, back, seat, is, placed, at, unfilled, kept))) freer may =
    let whole = subst (IsAllowedFrom table now) is allowed in
    let created = now_after_event (now_after now front) (record { seat = seat; what = Create text h }) in
    let there : created.slot s ≡ Linked text h (now_after now front).place = subst (λ x. created.slot x ≡ Linked text h (now_after now front).place) at (put_there ((now_after now front).slot) h.slot (Linked text h (now_after now front).place)) in
    let stays = linked_until_unlink table created back s text h (now_after now front).place there (IsAllowedFrom-rest table now front _ whole).1 kept in
    let ends = ap (λ (n : Now). n.slot s) (ap (now_after now) is ∙ said now front seat (Create text h) back) ∙ stays in
    subst (MayFree (now_after now log) freer) ends may

-- a section that a log opens, and does not close since, is open
pub open_is : (table : TableKind) (now : Now) (log : List Event) (k : ℕ) → IsAllowedFrom table now log → IsOpenIn log k → (o : OpenSection) × ((now_after now log).section k ≡ Some o)
open_is table now log k allowed (place, counter, (front, back, is, placed, kept)) =
    let whole = subst (IsAllowedFrom table now) is allowed in
    let opened = now_after_event (now_after now front) (record { seat = k; what = Open counter }) in
    let o : OpenSection = record { place = (now_after now front).place; counter = counter } in
    let there : opened.section k ≡ Some o = put_there ((now_after now front).section) k (Some o) in
    let stays = open_until_close table opened back k o there (IsAllowedFrom-rest table now front _ whole).1 kept in
    (o, ap (λ (n : Now). n.section k) (ap (now_after now) is ∙ said now front k (Open counter) back) ∙ stays)

pub or_false : (b c : Bool) → b ≡ false → c ≡ false → (b || c) ≡ false
or_false true c is other = absurd (cc)
or_false false c is other = other

taken-push : (log : List Event) (e : Event) (s : ℕ) → IsTakenIn log s → frees s e.what ≡ false → IsTakenIn (log ++ e ∷ []) s
taken-push log e s (front, back, seat, is, kept) unfreed =
    (front, back ++ e ∷ [], seat, ap (λ l. l ++ e ∷ []) is ∙ append_assoc front _ (e ∷ []), list_any-append _ back (e ∷ []) ∙ or_false _ _ kept (or_false _ false unfreed refl))

-- a slot that is not vacant was claimed, and not freed since
pub not_vacant_is_taken : (table : TableKind) (done rest : List Event) (now : Now) (s : ℕ) → IsAllowedFrom table now rest →
    (¬ (now.slot s ≡ Vacant) → IsTakenIn done s) → ¬ ((now_after now rest).slot s ≡ Vacant) → IsTakenIn (done ++ rest) s
not_vacant_is_taken table done [] now s allowed tie filled = subst (λ l. IsTakenIn l s) (sym (append-nil done)) (tie filled)
not_vacant_is_taken table done (e ∷ rest) now s allowed tie filled =
    let more = slot_after (λ phase. ¬ (phase ≡ Vacant) → IsTakenIn (done ++ e ∷ []) s) table now e.seat e.what s allowed.0
    (λ unfreed linked full. taken-push done e s (tie full) unfreed)
    (λ t h made at claimed full. taken-push done e s (tie (λ vacant. absurd (cc))) (ap (frees s) made))
    (λ made vacant full. (done, [], e.seat, ap (λ w. done ++ record { seat = e.seat; what = w } ∷ []) made, refl))
    (λ made is may full. absurd (full refl))
    (λ made is may full. taken-push done e s (tie (λ vacant. subst (IsLinkedDead now) vacant may)) (ap (frees s) made)) in
    subst (λ l. IsTakenIn l s) (append_assoc done (e ∷ []) rest) (not_vacant_is_taken table (done ++ e ∷ []) rest (now_after_event now e) s allowed.1 more filled)

-- a slot that may be freed is not vacant
not_free : (now : Now) (seat : ℕ) (phase : Phase) → MayFree now seat phase → ¬ (phase ≡ Vacant)
not_free now seat phase may vacant = subst (MayFree now seat) vacant may

-- between an Unlink and the next Free, what was open is closed
closed_between : (table : TableKind) (now : Now) (between back : List Event) (i j s k : ℕ) (o : OpenSection) → OpenedBefore now → now.section k ≡ Some o →
    IsAllowedFrom table now (record { seat = i; what = Unlink s } ∷ with_event between j (Free s) back) → some_frees s between ≡ false → some_closes k between ≡ true
closed_between table now between back i j s k o opened is_open allowed none = otherwise _ (λ never.
    let unlinked = now_after_event now (record { seat = i; what = Unlink s }) in
    let front = IsAllowedFrom-prefix table unlinked between _ allowed.1 in
    let rest = IsAllowedFrom-rest table unlinked between _ allowed.1 in
    let slot = unlinked_until_free table unlinked between s i now.place (put_there now.slot s (Unlinked i now.place)) front none in
    let may : MayFree (now_after unlinked between) j (Unlinked i now.place) = subst (MayFree (now_after unlinked between) j) slot rest.0 in
    let later = may.1 k o (open_until_close table unlinked between k o is_open front never) in
    let earlier = opened k o is_open in
    omega (arith, later, earlier))

pub lawful_is_graced : (table : TableKind) (log : List Event) → IsLawful table log → IsGraced log
lawful_is_graced table log lawful = record {
  claimed = λ front back seat s is taken.
      let whole = subst (IsAllowedFrom table (opening table.min_level)) is lawful.allowed in
      taken_is table (opening table.min_level) front s (IsAllowedFrom-prefix table _ front _ whole) taken (IsAllowedFrom-rest table _ front _ whole).0;
  freed = λ front back seat s is.
      let whole = subst (IsAllowedFrom table (opening table.min_level)) is lawful.allowed in
      let before = IsAllowedFrom-prefix table _ front _ whole in
      let may = (IsAllowedFrom-rest table _ front _ whole).0 in (
        not_vacant_is_taken table [] front (opening table.min_level) s before (λ full. absurd (full refl)) (not_free (now_after (opening table.min_level) front) seat ((now_after (opening table.min_level) front).slot s) may),
        (λ linked. linked_is table (opening table.min_level) front s before linked seat may),
      );
  closed = λ front between back i j s k is none opened.
      let whole = subst (IsAllowedFrom table (opening table.min_level)) is lawful.allowed in
      let before = IsAllowedFrom-prefix table _ front _ whole in
      let section = open_is table (opening table.min_level) front k before opened in
      closed_between table (now_after (opening table.min_level) front) between back i j s k section.0
      (opened_before-after table (opening table.min_level) front before (opened_before-opening table.min_level)) section.1 (IsAllowedFrom-rest table _ front _ whole) none;
}
