-- Which events a log allows at its end, and which logs are lawful.
use Rattle.std.specs.Prelude.{◌≡◌, ℕ, ◌+◌, ◌*◌, ◌<◌, ◌≤◌, ◌⊎◌, true, false, List, [], ◌∷◌, Some, None}
use Rattle.std.specs.List.{list_any}
use Rattle.intern_log.specs.declared.event.Handle.{Handle}
use Rattle.intern_log.specs.declared.event.Event.{Event}
use Rattle.intern_log.specs.declared.event.Kind.TheVariants.{Counted, Weak}
use Rattle.intern_log.specs.declared.event.TableKind.{TableKind}
use Rattle.intern_log.specs.declared.event.What.{What}
use Rattle.intern_log.specs.declared.event.What.TheVariants.{Create, Take, Found, Drop, Perm, Kill, Claim, Free, Open, Close, Grace, Lock, Unlock, Unlink, ResizeTaken, ResizeGiven, Level, Rehash}
use Rattle.intern_log.specs.TextMap.{IsLive}
use Rattle.intern_log.specs.Log.{Allows, creates, IsFresh}
use Rattle.intern_log.specs.Now.{Phase, Vacant, Claimed, Linked, Unlinked, OpenSection, Resizing, Now, now_after_event, opening}

-- the seat has the resize lock
abbrev pub IsResizing : Now → ℕ → Type 0
IsResizing now seat = (r : Resizing) × (now.resizing ≡ Some r) × (r.seat ≡ seat)

-- every section that was open at the place has been closed
abbrev pub IsGracedSince : Now → ℕ → Type 0
IsGracedSince now place = (seat : ℕ) (o : OpenSection) → now.section seat ≡ Some o → place < o.place

-- the slot may be given back: the seat claimed it and did not link it, or the seat unlinked it and every section open then is closed
abbrev pub MayFree : Now → ℕ → Phase → Type 0
MayFree now seat Vacant = ⊥
MayFree now seat (Claimed owner) = owner ≡ seat
MayFree now seat (Linked text h born) = ⊥
MayFree now seat (Unlinked owner place) = (owner ≡ seat) × IsGracedSince now place

-- the slot is in a chain, and its entry is gone
abbrev pub IsLinkedDead : Now → Phase → Type 0
IsLinkedDead now (Linked text h born) = ¬ (IsLive now.texts h)
IsLinkedDead now _ = ⊥

-- nothing is going on: no section is open, no bucket is locked, nobody has the resize lock, and no slot is in a chain with its entry gone
pub record IsQuiet (now : Now) : Type 0 where
  pub sections : (seat : ℕ) → now.section seat ≡ None
  pub locks : (row bucket : ℕ) → now.lock row bucket ≡ None
  pub resizing : now.resizing ≡ None
  pub dead : (s : ℕ) → ¬ (IsLinkedDead now (now.slot s))

-- the log allows the event at its end
abbrev pub MayFollow : TableKind → Now → ℕ → What → Type 0
MayFollow table now seat (Create text h) = Allows now.texts (Create text h) × (now.slot h.slot ≡ Claimed seat)
MayFollow table now seat (Take text h) = (table.kind ≡ Counted) × Allows now.texts (Take text h)
MayFollow table now seat (Found text h) = (table.kind ≡ Weak) × Allows now.texts (Found text h)
MayFollow table now seat (Drop h) = (table.kind ≡ Counted) × Allows now.texts (Drop h)
MayFollow table now seat (Perm h) = (table.kind ≡ Counted) × Allows now.texts (Perm h)
MayFollow table now seat (Kill h) = (table.kind ≡ Weak) × Allows now.texts (Kill h)
MayFollow table now seat (Claim s) = now.slot s ≡ Vacant
MayFollow table now seat (Free s) = MayFree now seat (now.slot s)
MayFollow table now seat (Open counter) = (now.section seat ≡ None) × (counter ≤ table.first_counter + 2 * now.graces)
MayFollow table now seat Close = (o : OpenSection) × (now.section seat ≡ Some o)
MayFollow table now seat Grace = Unit {0}
MayFollow table now seat (Lock row bucket) = now.lock row bucket ≡ None
MayFollow table now seat (Unlock row bucket) = now.lock row bucket ≡ Some seat
MayFollow table now seat (Unlink s) = IsLinkedDead now (now.slot s)
MayFollow table now seat ResizeTaken = now.resizing ≡ None
MayFollow table now seat ResizeGiven = IsResizing now seat × ((s place : ℕ) → now.slot s ≡ Unlinked seat place → ⊥)
MayFollow table now seat (Level level) = IsResizing now seat × ((level ≡ now.level + 1) ⊎ (now.level ≡ level + 1)) × (table.min_level ≤ level) × (level ≤ table.max_level)
MayFollow table now seat (Rehash seed) = (seat ≡ 0) × (seed ≡ now.seed + 1) × (seed ≤ 2) × IsQuiet now

-- each event may follow what comes before it
abbrev pub IsAllowedFrom : TableKind → Now → List Event → Type 0
IsAllowedFrom table now [] = Unit {0}
IsAllowedFrom table now (e ∷ es) = MayFollow table now e.seat e.what × IsAllowedFrom table (now_after_event now e) es

-- the event creates no handle that the log has created
abbrev pub IsNew : List Event → What → Type 0
IsNew log what = (h : Handle) → creates what h ≡ true → list_any (λ (earlier : Event). creates earlier.what h) log ≡ false

-- a lawful log: each event may follow what comes before it, and no handle is created twice
pub record IsLawful (table : TableKind) (log : List Event) : Type 0 where
  pub allowed : IsAllowedFrom table (opening table.min_level) log
  pub fresh : IsFresh log
