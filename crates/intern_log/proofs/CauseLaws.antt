-- Events on a handle and on a bucket, said by what they change, and locks with their places.
use Rattle.std.proofs.Common.{◌≡◌, ℕ, Bool, true, false, cond, ◌⊎◌, List, [], ◌∷◌, ◌++◌, length, ◌↔◌, Some, None, inl, inr, refl, sym, ap, subst, ◌∙◌}
use Rattle.intern_log.specs.declared.event.Handle.{Handle}
use Rattle.intern_log.specs.declared.event.Event.{Event}
use Rattle.intern_log.specs.declared.event.TableKind.{TableKind}
use Rattle.intern_log.specs.declared.event.What.{What}
use Rattle.intern_log.specs.declared.event.What.TheVariants.{Create, Take, Found, Drop, Perm, Kill, Lock, Unlock, Unlink}
use Rattle.intern_log.specs.Own.{is_visible, is_gain, is_loss}
use Rattle.intern_log.specs.Now.{Phase, Vacant, Claimed, Linked, Unlinked, Now, changed_by, now_after_event}
use Rattle.intern_log.specs.Lawful.{MayFree, MayFollow}
use Rattle.intern_log.specs.Orderly.{ends_lock, some_ends_lock, IsLockedAt}
use Rattle.intern_log.specs.SlotBuckets.{bucket_now, phase_bucket, IsUnlinkOn}
use Rattle.intern_log.specs.Touches.{is_level}
use Rattle.intern_log.specs.CauseEvents.{IsVisibleOn, IsCreateOn, IsCreateUnlinkOrLockOn, IsCreateLockOrUnlockOn, JoinsChain, LeavesChain}
use Rattle.intern_log.proofs.Handles.{handle_eq-Decides}
use Rattle.std.proofs.lemmas.List.Folds.{list_any-append}
use Rattle.intern_log.specs.Touches.{touches_lock}
use Rattle.intern_log.proofs.Slots.{slot_after, lock_after, neither}
use Rattle.intern_log.proofs.Graced.{put_there}
use Rattle.intern_log.proofs.OrderlyLaws.{pushed, still_none}
use Rattle.intern_log.proofs.Stays.{lock_unchanged}
use Rattle.intern_log.proofs.Changed.{touched_lock, both_reflexive}

-- a visible event is on a handle
on_a_handle : (what : What) → is_visible what ≡ true → (h : Handle) × IsVisibleOn h what
on_a_handle (Create text h) seen = (h, inl (text, inl refl))
on_a_handle (Take text h) seen = (h, inl (text, inr (inl refl)))
on_a_handle (Found text h) seen = (h, inl (text, inr (inr refl)))
on_a_handle (Drop h) seen = (h, inr (inl refl))
on_a_handle (Perm h) seen = (h, inr (inr (inl refl)))
on_a_handle (Kill h) seen = (h, inr (inr (inr refl)))
on_a_handle _ seen = absurd (cc)

is_seen : (h : Handle) (what : What) → IsVisibleOn h what → is_visible what ≡ true
is_seen h what (inl (text, inl is)) = ap is_visible is
is_seen h what (inl (text, inr (inl is))) = ap is_visible is
is_seen h what (inl (text, inr (inr is))) = ap is_visible is
is_seen h what (inr (inl is)) = ap is_visible is
is_seen h what (inr (inr (inl is))) = ap is_visible is
is_seen h what (inr (inr (inr is))) = ap is_visible is

pub visible_is_on : (what : What) → (is_visible what ≡ true) ↔ ((h : Handle) × IsVisibleOn h what)
visible_is_on what = (on_a_handle what, (λ on. is_seen on.0 what on.1))

-- the handle of an event, or this one where it has none
abbrev handle_of : Handle → What → Handle
handle_of k (Create text h) = h
handle_of k (Take text h) = h
handle_of k (Found text h) = h
handle_of k (Drop h) = h
handle_of k (Perm h) = h
handle_of k (Kill h) = h
handle_of k _ = k

handle_is : (k h : Handle) (what : What) → IsVisibleOn h what → handle_of k what ≡ h
handle_is k h what (inl (text, inl is)) = ap (handle_of k) is
handle_is k h what (inl (text, inr (inl is))) = ap (handle_of k) is
handle_is k h what (inl (text, inr (inr is))) = ap (handle_of k) is
handle_is k h what (inr (inl is)) = ap (handle_of k) is
handle_is k h what (inr (inr (inl is))) = ap (handle_of k) is
handle_is k h what (inr (inr (inr is))) = ap (handle_of k) is

pub one_handle : (what : What) (h k : Handle) → IsVisibleOn h what → IsVisibleOn k what → h ≡ k
one_handle what h k first second = sym (handle_is h h what first) ∙ handle_is h k what second

pub gain_is_on : (what : What) (h : Handle) → is_gain what h ≡ true → IsVisibleOn h what
gain_is_on (Create text k) h is = inl (text, inl (ap (Create text) ((handle_eq-Decides k h).0 is)))
gain_is_on (Take text k) h is = inl (text, inr (inl (ap (Take text) ((handle_eq-Decides k h).0 is))))
gain_is_on _ h is = absurd (cc)

pub loss_is_on : (what : What) (h : Handle) → is_loss what h ≡ true → IsVisibleOn h what
loss_is_on (Drop k) h is = inr (inl (ap Drop ((handle_eq-Decides k h).0 is)))
loss_is_on _ h is = absurd (cc)

-- a slot that was not in the chain came by a Create, and one that is no longer in it went by an Unlink
joins_by : (table : TableKind) (now : Now) (seat : ℕ) (what : What) (row bucket s : ℕ) → MayFollow table now seat what → ¬ (phase_bucket now row (now.slot s) ≡ Some bucket) →
    phase_bucket now row ((changed_by now seat what).slot s) ≡ Some bucket → IsCreateOn now row bucket what
joins_by table now seat what row bucket s may out =
    slot_after (λ phase. phase_bucket now row phase ≡ Some bucket → IsCreateOn now row bucket what) table now seat what s may
    (λ unfreed unlinked here. absurd (out here))
    (λ text h is at was here. (text, h, is, cc))
    (λ is was here. absurd (cc))
    (λ is frees may_free here. absurd (cc))
    (λ is unlinks dead here. absurd (cc))

vacant_before : (now : Now) (seat row bucket : ℕ) (phase : Phase) → MayFree now seat phase → phase_bucket now row phase ≡ Some bucket → ⊥
vacant_before now seat row bucket Vacant may here = absurd may
vacant_before now seat row bucket (Claimed owner) may here = absurd (cc)
vacant_before now seat row bucket (Linked text h born) may here = absurd may
vacant_before now seat row bucket (Unlinked owner place) may here = absurd (cc)

leaves_by : (table : TableKind) (now : Now) (seat : ℕ) (what : What) (row bucket s : ℕ) → MayFollow table now seat what → phase_bucket now row (now.slot s) ≡ Some bucket →
    ¬ (phase_bucket now row ((changed_by now seat what).slot s) ≡ Some bucket) → IsUnlinkOn now row bucket what
leaves_by table now seat what row bucket s may here =
    slot_after (λ phase. ¬ (phase_bucket now row phase ≡ Some bucket) → IsUnlinkOn now row bucket what) table now seat what s may
    (λ unfreed unlinked gone. absurd (gone here))
    (λ text h is at was gone. absurd (not_in Vacant (sym (ap (phase_bucket now row) was) ∙ here)))
    (λ is was gone. absurd (not_in Vacant (sym (ap (phase_bucket now row) was) ∙ here)))
    (λ is frees may_free gone. absurd (vacant_before now seat row bucket (now.slot s) may_free here))
    (λ is unlinks dead gone. (s, is, here))
  where
    not_in : (phase : Phase) → None ≡ Some bucket → ⊥
    not_in phase none = absurd (cc)

-- a Lock sets the lock of a free bucket, and an Unlock takes it away
locks_by : (table : TableKind) (now : Now) (seat : ℕ) (what : What) (row bucket k : ℕ) → MayFollow table now seat what → now.lock row bucket ≡ None →
    (changed_by now seat what).lock row bucket ≡ Some k → what ≡ Lock row bucket
locks_by table now seat what row bucket k may free =
    lock_after (λ lock. lock ≡ Some k → what ≡ Lock row bucket) table now seat what row bucket may
    (λ kept is. let none : None ≡ Some k = sym free ∙ is in absurd (cc)) (λ is was set. is) (λ ended set. absurd (cc))

joins_so : (now : Now) (seat : ℕ) (what : What) (row bucket : ℕ) (table : TableKind) → MayFollow table now seat what → IsCreateOn now row bucket what →
    (s : ℕ) × (¬ (phase_bucket now row (now.slot s) ≡ Some bucket)) × (phase_bucket now row ((changed_by now seat what).slot s) ≡ Some bucket)
joins_so now seat what row bucket table may (text, h, is, in_bucket) =
    let may_create = subst (MayFollow table now seat) is may in
    let linked : phase_bucket now row ((changed_by now seat (Create text h)).slot h.slot) ≡ Some (bucket_now now row text) = ap (phase_bucket now row) (put_there now.slot h.slot (Linked text h now.place)) in (
      h.slot,
      (λ here. not_there (sym (ap (phase_bucket now row) may_create.1) ∙ here)),
      ap (λ w. phase_bucket now row ((changed_by now seat w).slot h.slot)) is ∙ linked ∙ ap Some in_bucket,
    )
  where
    not_there : None ≡ Some bucket → ⊥
    not_there none = absurd (cc)

leaves_so : (now : Now) (seat : ℕ) (what : What) (row bucket : ℕ) → IsUnlinkOn now row bucket what →
    (s : ℕ) × (phase_bucket now row (now.slot s) ≡ Some bucket) × (¬ (phase_bucket now row ((changed_by now seat what).slot s) ≡ Some bucket))
leaves_so now seat what row bucket (s, is, here) = (
  s,
  here,
  (λ still.
      let gone : phase_bucket now row ((changed_by now seat (Unlink s)).slot s) ≡ None = ap (phase_bucket now row) (put_there now.slot s (Unlinked seat now.place)) in
      not_there (sym gone ∙ ap (λ w. phase_bucket now row ((changed_by now seat w).slot s)) (sym is) ∙ still)),
)
  where
    not_there : None ≡ Some bucket → ⊥
    not_there none = absurd (cc)

-- the lock of a bucket after its Lock and after its Unlock
after_lock : (now : Now) (seat row bucket : ℕ) → (changed_by now seat (Lock row bucket)).lock row bucket ≡ Some seat
after_lock now seat row bucket = ap (λ b. cond b (Some seat) (now.lock row bucket)) (both_reflexive row bucket)

after_unlock : (now : Now) (seat row bucket : ℕ) → (changed_by now seat (Unlock row bucket)).lock row bucket ≡ None
after_unlock now seat row bucket = ap (λ b. cond b None (now.lock row bucket)) (both_reflexive row bucket)

pub by_create_unlink_or_lock : (table : TableKind) (now : Now) (e : Event) (row bucket : ℕ) → MayFollow table now e.seat e.what →
    IsCreateUnlinkOrLockOn now row bucket e.what
    ↔ (JoinsChain now e row bucket ⊎ LeavesChain now e row bucket ⊎ ((now.lock row bucket ≡ None) × ((now_after_event now e).lock row bucket ≡ Some e.seat)))
by_create_unlink_or_lock table now e row bucket may = (
  (λ on. elim on [
    | inl created ↦ inl (joins_so now e.seat e.what row bucket table may created)
    | inr (inl unlinked) ↦ inr (inl (leaves_so now e.seat e.what row bucket unlinked))
    | inr (inr locked) ↦
        inr (inr (subst (MayFollow table now e.seat) locked may, ap (λ w. (changed_by now e.seat w).lock row bucket) locked ∙ after_lock now e.seat row bucket))
  ]),
  (λ so. elim so [
    | inl (s, out, here) ↦ inl (joins_by table now e.seat e.what row bucket s may out here)
    | inr (inl (s, here, gone)) ↦ inr (inl (leaves_by table now e.seat e.what row bucket s may here gone))
    | inr (inr (free, set)) ↦ inr (inr (locks_by table now e.seat e.what row bucket e.seat may free set))
  ]),
)

-- a lock that changed by no Level
lock_moved : (now : Now) (seat : ℕ) (what : What) (row bucket : ℕ) → is_level what ≡ false → ¬ ((changed_by now seat what).lock row bucket ≡ now.lock row bucket) →
    (what ≡ Lock row bucket) ⊎ (what ≡ Unlock row bucket)
lock_moved now seat what row bucket other moved = by (touches_lock row bucket what) refl
  where
    by : (b : Bool) → touches_lock row bucket what ≡ b → (what ≡ Lock row bucket) ⊎ (what ≡ Unlock row bucket)
    by false none = absurd (moved (lock_unchanged now seat what row bucket none))
    by true some = elim ((touched_lock row bucket what).0 some) [
      | inl locked ↦ inl locked
      | inr (inl unlocked) ↦ inr unlocked
      | inr (inr (level, is, far)) ↦ let yes : is_level what ≡ true = ap is_level is in absurd (cc)
    ]

pub by_create_lock_or_unlock : (table : TableKind) (now : Now) (e : Event) (row bucket : ℕ) → MayFollow table now e.seat e.what → is_level e.what ≡ false →
    IsCreateLockOrUnlockOn now row bucket e.what ↔ (JoinsChain now e row bucket ⊎ ¬ ((now_after_event now e).lock row bucket ≡ now.lock row bucket))
by_create_lock_or_unlock table now e row bucket may other = (
  (λ on. elim on [
    | inl created ↦ inl (joins_so now e.seat e.what row bucket table may created)
    | inr (inl locked) ↦ inr (λ same.
        let free : now.lock row bucket ≡ None = subst (MayFollow table now e.seat) locked may in
        let set : (now_after_event now e).lock row bucket ≡ Some e.seat = ap (λ w. (changed_by now e.seat w).lock row bucket) locked ∙ after_lock now e.seat row bucket in
        unlike (sym free ∙ sym same ∙ set))
    | inr (inr unlocked) ↦ inr (λ same.
        let set : now.lock row bucket ≡ Some e.seat = subst (MayFollow table now e.seat) unlocked may in
        let free : (now_after_event now e).lock row bucket ≡ None = ap (λ w. (changed_by now e.seat w).lock row bucket) unlocked ∙ after_unlock now e.seat row bucket in
        unlike (sym free ∙ same ∙ set))
  ]),
  (λ so. elim so [
    | inl (s, out, here) ↦ inl (joins_by table now e.seat e.what row bucket s may out here)
    | inr moved ↦ inr (lock_moved now e.seat e.what row bucket other moved)
  ]),
)
  where
    unlike : None ≡ Some e.seat → ⊥
    unlike none = absurd (cc)

pub never_locked : (row bucket k place : ℕ) → ¬ (IsLockedAt [] row bucket k place)
never_locked row bucket k place ([], back, is, at, kept) = absurd (cc)
never_locked row bucket k place (e ∷ front, back, is, at, kept) = absurd (cc)

-- an event of a log with one more event is that one, or stands before it
last_or_earlier : (log front back : List Event) (e x : Event) → log ++ e ∷ [] ≡ front ++ x ∷ back →
    ((back ≡ []) × (front ≡ log) × (x ≡ e)) ⊎ ((older : List Event) × (back ≡ older ++ e ∷ []) × (log ≡ front ++ x ∷ older))
last_or_earlier [] [] back e x is = let same : e ≡ x = cc in let none : [] ≡ back = cc in inl (sym none, refl, sym same)
last_or_earlier [] (f ∷ []) back e x is = absurd (cc)
last_or_earlier [] (f ∷ g ∷ front) back e x is = absurd (cc)
last_or_earlier (l ∷ log) [] back e x is = let same : l ≡ x = cc in let rest : log ++ e ∷ [] ≡ back = cc in inr (log, sym rest, ap (λ y. y ∷ log) same)
last_or_earlier (l ∷ log) (f ∷ front) back e x is =
    let same : l ≡ f = cc in
    let rest : log ++ e ∷ [] ≡ front ++ x ∷ back = cc in
    elim (last_or_earlier log front back e x rest) [
      | inl (none, whole, last) ↦ inl (none, ap (λ y. y ∷ front) (sym same) ∙ ap (λ ys. l ∷ ys) whole, last)
      | inr (older, longer, before) ↦ inr (older, longer, ap (λ y. y ∷ log) same ∙ ap (λ ys. f ∷ ys) before)
    ]

pub locked_at-one_more : (log : List Event) (e : Event) (row bucket k place : ℕ) →
    IsLockedAt (log ++ e ∷ []) row bucket k place
    ↔ ((IsLockedAt log row bucket k place × (ends_lock row bucket e.what ≡ false)) ⊎ ((e ≡ record { seat = k; what = Lock row bucket }) × (place ≡ length log)))
locked_at-one_more log e row bucket k place = (
  (λ (front, back, is, at, kept). elim (last_or_earlier log front back e (record { seat = k; what = Lock row bucket }) is) [
    | inl (none, whole, last) ↦ inr (sym last, sym at ∙ ap length whole)
    | inr (older, longer, before) ↦
        let parts = neither (some_ends_lock row bucket older) _ (sym (list_any-append (λ (x : Event). ends_lock row bucket x.what) older (e ∷ [])) ∙ sym (ap (some_ends_lock row bucket) longer) ∙ kept) in
        inl ((front, older, before, at, parts.0), (neither (ends_lock row bucket e.what) false parts.1).0)
  ]),
  (λ so. elim so [
    | inl ((front, back, is, at, kept), other) ↦
        (front, back ++ e ∷ [], pushed front back k (Lock row bucket) e log is, at, still_none (λ (x : Event). ends_lock row bucket x.what) back e kept other)
    | inr (last, at) ↦ (log, [], ap (λ x. log ++ x ∷ []) last, sym at, refl)
  ]),
)
