-- What the code reads from the events of a log: one part of what the log says at its end, event by event.
use Rattle.std.specs.Prelude.{List, ◌+◌, ◌≤◌, ◌⊎◌, ℕ, ◌≡◌, true, ◌&&◌, Bool, false, if◌then◌else◌, nat_eq, Option, Some, None, is_none}
use Rattle.intern_log.specs.declared.event.Event.{Event}
use Rattle.intern_log.specs.declared.event.What.{What}
use Rattle.intern_log.specs.declared.event.What.TheVariants.{Create, Take, Found, Drop, Perm, Kill, Claim, Free, Open, Close, Grace, Lock, Unlock, Unlink, ResizeTaken, ResizeGiven, Level, Rehash}
use Rattle.std.specs.List.{list_any}
use Rattle.intern_log.specs.Log.{creates}
use Rattle.intern_log.specs.declared.event.Handle.{Handle}
use Rattle.intern_log.specs.declared.event.TableKind.{TableKind}
use Rattle.intern_log.specs.Lawful.{IsLinkedDead, MayFollow}
use Rattle.intern_log.specs.Now.{Phase, Now, now_of}
use Rattle.intern_log.specs.Now as model
use Rattle.log_check.specs.declared.past.SlotPhase.{SlotPhase}
use Rattle.log_check.specs.declared.past.SlotPhase.TheVariants.{Vacant, Claimed, Linked, Unlinked}

-- a phase without the text and the place of its Create
abbrev pub phase_seen : Phase → SlotPhase
phase_seen model.Vacant = Vacant
phase_seen (model.Claimed seat) = Claimed seat
phase_seen (model.Linked text h born) = Linked h
phase_seen (model.Unlinked seat place) = Unlinked seat place

-- the phase of a slot after one more event, which is at the place
abbrev pub phase_by : ℕ → SlotPhase → ℕ → ℕ → What → SlotPhase
phase_by slot phase place seat (Create text h) = if nat_eq slot h.slot then Linked h else phase
phase_by slot phase place seat (Claim s) = if nat_eq slot s then Claimed seat else phase
phase_by slot phase place seat (Free s) = if nat_eq slot s then Vacant else phase
phase_by slot phase place seat (Unlink s) = if nat_eq slot s then Unlinked seat place else phase
phase_by slot phase place seat (Take text h) = phase
phase_by slot phase place seat (Found text h) = phase
phase_by slot phase place seat (Drop h) = phase
phase_by slot phase place seat (Perm h) = phase
phase_by slot phase place seat (Kill h) = phase
phase_by slot phase place seat (Open counter) = phase
phase_by slot phase place seat Close = phase
phase_by slot phase place seat Grace = phase
phase_by slot phase place seat (Lock r b) = phase
phase_by slot phase place seat (Unlock r b) = phase
phase_by slot phase place seat ResizeTaken = phase
phase_by slot phase place seat ResizeGiven = phase
phase_by slot phase place seat (Level l) = phase
phase_by slot phase place seat (Rehash n) = phase

abbrev pub phase_step : ℕ → SlotPhase → ℕ × Event → SlotPhase
phase_step slot phase at = phase_by slot phase at.0 at.1.seat at.1.what

-- where the open section of a seat was opened, after one more event
abbrev pub own_section_by : Option ℕ → ℕ → What → Option ℕ
own_section_by opened place (Open counter) = Some place
own_section_by opened place Close = None
own_section_by opened place (Create text h) = opened
own_section_by opened place (Take text h) = opened
own_section_by opened place (Found text h) = opened
own_section_by opened place (Drop h) = opened
own_section_by opened place (Perm h) = opened
own_section_by opened place (Kill h) = opened
own_section_by opened place (Claim x) = opened
own_section_by opened place (Free x) = opened
own_section_by opened place Grace = opened
own_section_by opened place (Lock r b) = opened
own_section_by opened place (Unlock r b) = opened
own_section_by opened place (Unlink x) = opened
own_section_by opened place ResizeTaken = opened
own_section_by opened place ResizeGiven = opened
own_section_by opened place (Level l) = opened
own_section_by opened place (Rehash n) = opened

abbrev pub section_by : ℕ → Option ℕ → ℕ → ℕ → What → Option ℕ
section_by k opened place seat what = if nat_eq k seat then own_section_by opened place what else opened

abbrev pub section_step : ℕ → Option ℕ → ℕ × Event → Option ℕ
section_step k opened at = section_by k opened at.0 at.1.seat at.1.what

-- who has locked a bucket, after one more event
abbrev pub lock_by : ℕ → ℕ → Option ℕ → ℕ → What → Option ℕ
lock_by row bucket owner seat (Lock r b) = if nat_eq row r && nat_eq bucket b then Some seat else owner
lock_by row bucket owner seat (Unlock r b) = if nat_eq row r && nat_eq bucket b then None else owner
lock_by row bucket owner seat (Level level) = if nat_eq row level then owner else None
lock_by row bucket owner seat (Create text h) = owner
lock_by row bucket owner seat (Take text h) = owner
lock_by row bucket owner seat (Found text h) = owner
lock_by row bucket owner seat (Drop h) = owner
lock_by row bucket owner seat (Perm h) = owner
lock_by row bucket owner seat (Kill h) = owner
lock_by row bucket owner seat (Claim x) = owner
lock_by row bucket owner seat (Free x) = owner
lock_by row bucket owner seat (Open counter) = owner
lock_by row bucket owner seat Close = owner
lock_by row bucket owner seat Grace = owner
lock_by row bucket owner seat (Unlink x) = owner
lock_by row bucket owner seat ResizeTaken = owner
lock_by row bucket owner seat ResizeGiven = owner
lock_by row bucket owner seat (Rehash n) = owner

abbrev pub lock_step : ℕ → ℕ → Option ℕ → Event → Option ℕ
lock_step row bucket owner e = lock_by row bucket owner e.seat e.what

-- who has the resize lock, after one more event
abbrev pub owner_by : Option ℕ → ℕ → What → Option ℕ
owner_by owner seat ResizeTaken = Some seat
owner_by owner seat ResizeGiven = None
owner_by owner seat (Create text h) = owner
owner_by owner seat (Take text h) = owner
owner_by owner seat (Found text h) = owner
owner_by owner seat (Drop h) = owner
owner_by owner seat (Perm h) = owner
owner_by owner seat (Kill h) = owner
owner_by owner seat (Claim x) = owner
owner_by owner seat (Free x) = owner
owner_by owner seat (Open counter) = owner
owner_by owner seat Close = owner
owner_by owner seat Grace = owner
owner_by owner seat (Lock r b) = owner
owner_by owner seat (Unlock r b) = owner
owner_by owner seat (Unlink x) = owner
owner_by owner seat (Level l) = owner
owner_by owner seat (Rehash n) = owner

abbrev pub owner_step : Option ℕ → Event → Option ℕ
owner_step owner e = owner_by owner e.seat e.what

-- the slot of an Unlink
abbrev pub slot_unlinked : What → Option ℕ
slot_unlinked (Unlink s) = Some s
slot_unlinked _ = None

-- whether a slot was taken out of its chain by the seat, and was not freed since
abbrev pub is_unlinked_by : ℕ → Phase → Bool
is_unlinked_by seat (model.Unlinked unlinker place) = nat_eq unlinker seat
is_unlinked_by seat _ = false

abbrev pub is_left_by : ℕ → (ℕ → Phase) → Option ℕ → Bool
is_left_by seat slot None = false
is_left_by seat slot (Some s) = is_unlinked_by seat (slot s)

-- the seat has unlinked some slot that is not freed yet
abbrev pub HasUnlinked : Now → ℕ → Type 0
HasUnlinked now seat = (s : ℕ) × (place : ℕ) × (now.slot s ≡ model.Unlinked seat place)

-- whether the event is no Lock of a bucket that is locked
abbrev pub leaves_unlocked : (ℕ → ℕ → Option ℕ) → What → Bool
leaves_unlocked lock (Lock row bucket) = is_none (lock row bucket)
leaves_unlocked lock _ = true

-- the event is a Create in a slot that is in a chain with its entry gone
abbrev pub NamesDead : Now → What → Type 0
NamesDead now (Create text h) = IsLinkedDead now (now.slot h.slot)
NamesDead now _ = ⊥

-- no section is open, no bucket is locked, and no slot is in a chain with its entry gone
abbrev pub AreClosed : Now → Type 0
AreClosed now = (seat : ℕ) → now.section seat ≡ None

abbrev pub AreUnlocked : Now → Type 0
AreUnlocked now = (row bucket : ℕ) → now.lock row bucket ≡ None

abbrev pub AreLive : Now → Type 0
AreLive now = (s : ℕ) → ¬ (IsLinkedDead now (now.slot s))

-- the event may come after these events
abbrev pub MayStand : TableKind → List Event → ℕ → What → Type 0
MayStand table before seat what = MayFollow table (now_of table.min_level before) seat what

-- a level is one above or below another, and within the bounds of the table
abbrev pub IsNextLevel : TableKind → ℕ → ℕ → Type 0
IsNextLevel table now level = ((level ≡ now + 1) ⊎ (now ≡ level + 1)) × (table.min_level ≤ level) × (level ≤ table.max_level)

-- the event creates a handle that one of these events has created
abbrev pub IsRepeated : List Event → Event → Type 0
IsRepeated before e = (h : Handle) × (creates e.what h ≡ true) × (list_any (λ (x : Event). creates x.what h) before ≡ true)
