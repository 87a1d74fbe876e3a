-- The bucket of a slot, by one more event and at its Unlink.
use Rattle.std.proofs.Common.{◌≡◌, ℕ, false, List, Some, refl, ap, subst, ◌∙◌}
use Rattle.intern_log.specs.declared.event.Handle.{Handle}
use Rattle.intern_log.specs.declared.event.Event.{Event}
use Rattle.intern_log.specs.declared.event.What.TheVariants.{Unlink, Rehash}
use Rattle.intern_log.specs.declared.event.TableKind.{TableKind}
use Rattle.intern_log.specs.Lawful.{IsAllowedFrom, IsLawful}
use Rattle.intern_log.specs.Now.{Phase, Vacant, Claimed, Linked, Unlinked, Now, opening, now_after_event, now_after, now_of}
use Rattle.intern_log.specs.Sections.{with_event, IsLinkedAs}
use Rattle.intern_log.specs.Buckets.{bucket_of}
use Rattle.intern_log.specs.SlotBuckets.{bucket_now, phase_bucket, slot_bucket, IsUnlinkOn}
use Rattle.intern_log.specs.Touches.{touches_slot, is_rehash}
use Rattle.intern_log.proofs.LawfulLaws.{IsAllowedFrom-rest, IsLawful-prefix}
use Rattle.intern_log.proofs.Careful.{linked_dead}
use Rattle.intern_log.proofs.SlotPhases.{linked_slot}
use Rattle.intern_log.proofs.Stays.{slot_unchanged, seed_unchanged}

pub linked_bucket : (now : Now) (row s : ℕ) (text : List ℕ) (h : Handle) (born : ℕ) → now.slot s ≡ Linked text h born → slot_bucket now row s ≡ Some (bucket_now now row text)
linked_bucket now row s text h born is = ap (phase_bucket now row) is

pub bucket_unchanged : (now : Now) (e : Event) (row s : ℕ) → touches_slot s e.what ≡ false → is_rehash e.what ≡ false → slot_bucket (now_after_event now e) row s ≡ slot_bucket now row s
bucket_unchanged now e row s other seeded =
    ap (phase_bucket (now_after_event now e) row) (slot_unchanged now e.seat e.what s other) ∙ one_seed (now.slot s)
  where
    one_seed : (phase : Phase) → phase_bucket (now_after_event now e) row phase ≡ phase_bucket now row phase
    one_seed Vacant = refl
    one_seed (Claimed seat) = refl
    one_seed (Linked text h born) = ap (λ seed. Some (bucket_of seed row text)) (seed_unchanged now e.seat e.what seeded)
    one_seed (Unlinked seat place) = refl

pub bucket_after_rehash : (now : Now) (k seed row s : ℕ) (text : List ℕ) (h : Handle) (born : ℕ) → now.slot s ≡ Linked text h born →
    slot_bucket (now_after_event now (record { seat = k; what = Rehash seed })) row s ≡ Some (bucket_of seed row text)
bucket_after_rehash now k seed row s text h born is = ap (phase_bucket (now_after_event now (record { seat = k; what = Rehash seed })) row) is

pub unlink_is_on : (table : TableKind) (log front back : List Event) (seat s row : ℕ) → IsLawful table log → log ≡ with_event front seat (Unlink s) back →
    (text : List ℕ) × (h : Handle) × IsLinkedAs front s text h × IsUnlinkOn (now_of table.min_level front) row (bucket_now (now_of table.min_level front) row text) (Unlink s)
unlink_is_on table log front back seat s row lawful is =
    let start = opening table.min_level in
    let now = now_after start front in
    let whole = subst (IsAllowedFrom table start) is lawful.allowed in
    let dead = linked_dead now (now.slot s) (IsAllowedFrom-rest table start front _ whole).0 in (
      dead.0,
      dead.1,
      (dead.2, (linked_slot table front s dead.0 dead.1 dead.2 (IsLawful-prefix table front _ (subst (IsLawful table) is lawful))).0 dead.3),
      (s, refl, linked_bucket now row s dead.0 dead.1 dead.2 dead.3),
    )
