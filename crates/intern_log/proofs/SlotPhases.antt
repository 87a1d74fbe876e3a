-- The phase of a slot, in the log's own words.
use Rattle.std.proofs.Common.{◌≡◌, ℕ, Bool, true, false, cond, List, [], ◌∷◌, ◌++◌, length, ◌↔◌, refl, sym, ap, subst, ◌∙◌}
use Rattle.std.proofs.lemmas.Bool.Decides.{Decides-eqb}
use Rattle.intern_log.specs.declared.event.Handle.{Handle}
use Rattle.intern_log.specs.declared.event.Event.{Event}
use Rattle.intern_log.specs.declared.event.What.{What}
use Rattle.intern_log.specs.declared.event.What.TheVariants.{Create, Claim, Unlink}
use Rattle.intern_log.specs.declared.event.TableKind.{TableKind}
use Rattle.intern_log.specs.Now.{Phase, Vacant, Claimed, Linked, Unlinked, Now, opening, changed_by, now_after_event, now_after, now_of}
use Rattle.intern_log.specs.Lawful.{IsLinkedDead, MayFollow, IsAllowedFrom, IsLawful}
use Rattle.intern_log.specs.Sections.{fills, frees, unlinks, some_fills, some_frees, IsTakenIn, IsClaimedBy, IsLinkedAt, IsUnlinkedAt}
use Rattle.intern_log.proofs.LawfulLaws.{IsAllowedFrom-rest}
use Rattle.intern_log.proofs.Slots.{slot_after, neither, linked_until_unlink}
use Rattle.intern_log.proofs.Graced.{put_there, said, taken_is, not_vacant_is_taken}
use Rattle.intern_log.proofs.OneMore.{place_is}
use Rattle.intern_log.proofs.OrderlyLaws.{carried, pushed, still_none, event_is, place_next, unlinked_is}

-- what the log says of a slot in this phase; nothing here of a vacant one
abbrev SaysOf : List Event → ℕ → Phase → Type 0
SaysOf log s Vacant = Unit {0}
SaysOf log s (Claimed seat) = IsClaimedBy log s seat
SaysOf log s (Linked text h born) = IsLinkedAt log s text h born
SaysOf log s (Unlinked seat place) = IsUnlinkedAt log s seat place

-- a slot is linked after an event that creates an entry in it, and was claimed before
filled_is_linked : (now : Now) (seat : ℕ) (what : What) (s : ℕ) → fills s what ≡ true →
    (text : List ℕ) × (h : Handle) × ((changed_by now seat what).slot s ≡ Linked text h now.place)
filled_is_linked now seat (Create text h) s is = (text, h, ap (λ b. cond b (Linked text h now.place) (now.slot s)) is)
filled_is_linked now seat _ s is = absurd (cc)

filled_was_claimed : (table : TableKind) (now : Now) (seat : ℕ) (what : What) (s : ℕ) → MayFollow table now seat what → fills s what ≡ true → now.slot s ≡ Claimed seat
filled_was_claimed table now seat (Create text h) s may is = ap now.slot ((Decides-eqb s h.slot).0 is) ∙ may.1
filled_was_claimed table now seat _ s may is = absurd (cc)

never : (b : Bool) → (b ≡ true → ⊥) → b ≡ false
never true not = absurd (not refl)
never false not = refl

-- one more event after what the log says of a slot, which leaves its phase
says-push : (table : TableKind) (s : ℕ) (done : List Event) (now : Now) (e : Event) (phase : Phase) → MayFollow table now e.seat e.what →
    frees s e.what ≡ false → unlinks s e.what ≡ false → now.slot s ≡ phase → (changed_by now e.seat e.what).slot s ≡ phase →
    SaysOf done s phase → SaysOf (done ++ e ∷ []) s phase
says-push table s done now e Vacant may unfreed linked was is says = tt
says-push table s done now e (Claimed seat) may unfreed linked was is (front, back, at, unfilled, kept) =
    let other = never (fills s e.what) (λ fills. let filled = filled_is_linked now e.seat e.what s fills in absurd (cc)) in (
      front,
      back ++ e ∷ [],
      pushed front back seat (Claim s) e done at,
      still_none (λ (x : Event). fills s x.what) back e unfilled other,
      still_none (λ (x : Event). frees s x.what) back e kept unfreed,
    )
says-push table s done now e (Linked text h born) may unfreed linked was is (front, back, seat, at, place, slot, unfilled, kept) =
    let other = never (fills s e.what) (λ fills. let claimed = filled_was_claimed table now e.seat e.what s may fills in absurd (cc)) in (
      front,
      back ++ e ∷ [],
      seat,
      pushed front back seat (Create text h) e done at,
      place,
      slot,
      still_none (λ (x : Event). fills s x.what) back e unfilled other,
      still_none (λ (x : Event). unlinks s x.what) back e kept linked,
    )
says-push table s done now e (Unlinked seat place) may unfreed linked was is (front, back, at, placed, kept) =
    (front, back ++ e ∷ [], pushed front back seat (Unlink s) e done at, placed, still_none (λ (x : Event). frees s x.what) back e kept unfreed)

-- the place, and the phase of a slot with what the log says of it
record Tied (s : ℕ) (done : List Event) (now : Now) : Type 0 where
  place : now.place ≡ length done
  says : SaysOf done s (now.slot s)

tied_next : (table : TableKind) (s : ℕ) (done : List Event) (now : Now) (e : Event) → MayFollow table now e.seat e.what → Tied s done now → Tied s (done ++ e ∷ []) (now_after_event now e)
tied_next table s done now e may tied = record {
  place = place_next done now e tied.place;
  says = slot_after (λ phase. (changed_by now e.seat e.what).slot s ≡ phase → SaysOf (done ++ e ∷ []) s phase) table now e.seat e.what s may
      (λ unfreed linked is. says-push table s done now e (now.slot s) may unfreed linked refl is tied.says)
      (λ text h made at claimed is. (done, [], e.seat, event_is e e.seat (Create text h) made refl done, sym tied.place, at, refl, refl))
      (λ made vacant is. (done, [], event_is e e.seat (Claim s) made refl done, refl, refl))
      (λ made frees may is. tt)
      (λ made unlinks may is. (done, [], event_is e e.seat (Unlink s) made refl done, sym tied.place, refl))
      refl;
}

says_of_slot : (table : TableKind) (log : List Event) (s : ℕ) → IsLawful table log → SaysOf log s ((now_of table.min_level log).slot s)
says_of_slot table log s lawful = (carried table (Tied s) (tied_next table s) [] log (opening table.min_level) lawful.allowed (record { place = refl; says = tt })).says

-- what a log says of the phase of a slot at its end, in each of its phases
pub says_of_phase : (table : TableKind) (log : List Event) (s : ℕ) (phase : Phase) → IsLawful table log → (now_of table.min_level log).slot s ≡ phase → SaysOf log s phase
says_of_phase table log s phase lawful is = subst (SaysOf log s) is (says_of_slot table log s lawful)

-- a claimed slot stays so until an entry is created in it or it is freed
claimed_until_filled : (table : TableKind) (now : Now) (log : List Event) (s i : ℕ) →
    now.slot s ≡ Claimed i → IsAllowedFrom table now log → some_fills s log ≡ false → some_frees s log ≡ false → (now_after now log).slot s ≡ Claimed i
claimed_until_filled table now [] s i is allowed unfilled unfreed = is
claimed_until_filled table now (e ∷ log) s i is allowed unfilled unfreed =
    let fillings = neither (fills s e.what) (some_fills s log) unfilled in
    let frees = neither (frees s e.what) (some_frees s log) unfreed in
    let stays = slot_after (λ phase. phase ≡ Claimed i) table now e.seat e.what s allowed.0 (λ unfreed linked. is)
    (λ text h made at claimed. absurd (not_filled e.what text h s made at fillings.0)) (λ made vacant. absurd (cc)) (λ made frees may. absurd (cc)) (λ made unlinks may. absurd (subst (IsLinkedDead now) is may)) in
    claimed_until_filled table (now_after_event now e) log s i stays allowed.1 fillings.1 frees.1
  where
    not_filled : (what : What) (text : List ℕ) (h : Handle) (s : ℕ) → what ≡ Create text h → h.slot ≡ s → fills s what ≡ false → ⊥
    not_filled what text h s made at other =
        let filled : fills s what ≡ true = ap (fills s) made ∙ (Decides-eqb s h.slot).1 (sym at) in cc

pub claimed_slot : (table : TableKind) (log : List Event) (s seat : ℕ) → IsLawful table log → (now_of table.min_level log).slot s ≡ Claimed seat ↔ IsClaimedBy log s seat
claimed_slot table log s seat lawful = (
  (λ is. says_of_phase table log s (Claimed seat) lawful is),
  (λ (front, back, is, unfilled, unfreed).
      let start = opening table.min_level in
      let whole = subst (IsAllowedFrom table start) is lawful.allowed in
      let claimed = now_after_event (now_after start front) (record { seat = seat; what = Claim s }) in
      let there : claimed.slot s ≡ Claimed seat = put_there ((now_after start front).slot) s (Claimed seat) in
      ap (λ (n : Now). n.slot s) (ap (now_after start) is ∙ said start front seat (Claim s) back)
      ∙ claimed_until_filled table claimed back s seat there (IsAllowedFrom-rest table start front _ whole).1 unfilled unfreed),
)

pub linked_slot : (table : TableKind) (log : List Event) (s : ℕ) (text : List ℕ) (h : Handle) (born : ℕ) → IsLawful table log →
    (now_of table.min_level log).slot s ≡ Linked text h born ↔ IsLinkedAt log s text h born
linked_slot table log s text h born lawful = (
  (λ is. says_of_phase table log s (Linked text h born) lawful is),
  (λ (front, back, seat, is, placed, at, unfilled, kept).
      let start = opening table.min_level in
      let whole = subst (IsAllowedFrom table start) is lawful.allowed in
      let place = (now_after start front).place in
      let created = now_after_event (now_after start front) (record { seat = seat; what = Create text h }) in
      let there : created.slot s ≡ Linked text h place = subst (λ x. created.slot x ≡ Linked text h place) at (put_there ((now_after start front).slot) h.slot (Linked text h place)) in
      ap (λ (n : Now). n.slot s) (ap (now_after start) is ∙ said start front seat (Create text h) back)
      ∙ linked_until_unlink table created back s text h place there (IsAllowedFrom-rest table start front _ whole).1 kept
      ∙ ap (Linked text h) (place_is table.min_level front ∙ placed)),
)

pub unlinked_slot : (table : TableKind) (log : List Event) (s seat place : ℕ) → IsLawful table log →
    (now_of table.min_level log).slot s ≡ Unlinked seat place ↔ IsUnlinkedAt log s seat place
unlinked_slot table log s seat place lawful = (
  (λ is. says_of_phase table log s (Unlinked seat place) lawful is),
  (λ (front, back, is, placed, kept).
      unlinked_is table (opening table.min_level) log front back seat s lawful.allowed is kept
      ∙ ap (Unlinked seat) (place_is table.min_level front ∙ placed)),
)

pub vacant_slot : (table : TableKind) (log : List Event) (s : ℕ) → IsLawful table log → (now_of table.min_level log).slot s ≡ Vacant ↔ ¬ (IsTakenIn log s)
vacant_slot table log s lawful = (
  (λ is taken. taken_is table (opening table.min_level) log s lawful.allowed taken is),
  (λ free. by_phase ((now_of table.min_level log).slot s) (λ full.
      free (not_vacant_is_taken table [] log (opening table.min_level) s lawful.allowed (λ full. absurd (full refl)) full))),
)
  where
    by_phase : (phase : Phase) → (¬ (phase ≡ Vacant) → ⊥) → phase ≡ Vacant
    by_phase Vacant not = refl
    by_phase (Claimed seat) not = absurd (not (λ is. absurd (cc)))
    by_phase (Linked text h born) not = absurd (not (λ is. absurd (cc)))
    by_phase (Unlinked seat place) not = absurd (not (λ is. absurd (cc)))
