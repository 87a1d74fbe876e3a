-- Events on one handle or on one bucket, and events by others: what may come in the way of a caller.
use Rattle.std.specs.Prelude.{◌≡◌, ℕ, false, List, Some, ◌⊎◌}
use Rattle.intern_log.specs.declared.event.Handle.{Handle}
use Rattle.intern_log.specs.declared.event.Event.{Event}
use Rattle.intern_log.specs.declared.event.What.{What}
use Rattle.intern_log.specs.declared.event.What.TheVariants.{Create, Take, Found, Drop, Perm, Kill, Lock, Unlock}
use Rattle.intern_log.specs.Own.{is_among}
use Rattle.intern_log.specs.Now.{Now, now_after_event}
use Rattle.intern_log.specs.SlotBuckets.{bucket_now, phase_bucket, IsUnlinkOn}

-- the event interns the text as the handle: it creates the entry, takes it or finds it
abbrev pub IsInternAs : List ℕ → Handle → What → Type 0
IsInternAs text h what = (what ≡ Create text h) ⊎ (what ≡ Take text h) ⊎ (what ≡ Found text h)

-- callers see the event, and it is on the handle: an intern as the handle, or a Drop, Perm or Kill of it
abbrev pub IsVisibleOn : Handle → What → Type 0
IsVisibleOn h what = ((text : List ℕ) × IsInternAs text h what) ⊎ (what ≡ Drop h) ⊎ (what ≡ Perm h) ⊎ (what ≡ Kill h)

-- the event is a Create of a text whose bucket, at the place and in the row, is this one
abbrev pub IsCreateOn : Now → ℕ → ℕ → What → Type 0
IsCreateOn now row bucket what = (text : List ℕ) × (h : Handle) × (what ≡ Create text h) × (bucket_now now row text ≡ bucket)

-- the event is a Create, an Unlink or a Lock on the bucket
abbrev pub IsCreateUnlinkOrLockOn : Now → ℕ → ℕ → What → Type 0
IsCreateUnlinkOrLockOn now row bucket what = IsCreateOn now row bucket what ⊎ IsUnlinkOn now row bucket what ⊎ (what ≡ Lock row bucket)

-- the event is a Create, a Lock or an Unlock on the bucket
abbrev pub IsCreateLockOrUnlockOn : Now → ℕ → ℕ → What → Type 0
IsCreateLockOrUnlockOn now row bucket what = IsCreateOn now row bucket what ⊎ (what ≡ Lock row bucket) ⊎ (what ≡ Unlock row bucket)

-- the event is by another number than these
abbrev pub IsByOther : List ℕ → Event → Type 0
IsByOther numbers e = is_among numbers e.seat ≡ false

-- a slot is in the bucket's chain after the event and was not before; both by the hash of the place before it
abbrev pub JoinsChain : Now → Event → ℕ → ℕ → Type 0
JoinsChain now e row bucket = (s : ℕ) × (¬ (phase_bucket now row (now.slot s) ≡ Some bucket)) × (phase_bucket now row ((now_after_event now e).slot s) ≡ Some bucket)

-- a slot was in it before and is not after
abbrev pub LeavesChain : Now → Event → ℕ → ℕ → Type 0
LeavesChain now e row bucket = (s : ℕ) × (phase_bucket now row (now.slot s) ≡ Some bucket) × (¬ (phase_bucket now row ((now_after_event now e).slot s) ≡ Some bucket))
