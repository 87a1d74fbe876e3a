-- The seed of the hash in the words of a log: what a seeded log keeps.
use Rattle.std.specs.Prelude.{◌≡◌, ℕ, ◌+◌, ◌≤◌, List, [], ◌∷◌}
use Rattle.intern_log.specs.declared.event.Handle.{Handle}
use Rattle.intern_log.specs.declared.event.Event.{Event}
use Rattle.intern_log.specs.declared.event.What.{What}
use Rattle.intern_log.specs.declared.event.What.TheVariants.{Create, Take, Found, Drop, Perm, Kill, Claim, Free, Open, Close, Grace, Lock, Unlock, Unlink, ResizeTaken, ResizeGiven, Level, Rehash}
use Rattle.intern_log.specs.TextMap.{IsLive}
use Rattle.intern_log.specs.Log.{map_of}
use Rattle.intern_log.specs.Sections.{with_event, IsOpenIn, IsLinkedAs}
use Rattle.intern_log.specs.Orderly.{IsLockedBy, HasResizeLock}

-- the seed that an event leaves, and that of the last Rehash, or the one before the log where there is none
abbrev pub seed_after_event : ℕ → What → ℕ
seed_after_event seed (Rehash next) = next
seed_after_event seed (Create text h) = seed
seed_after_event seed (Take text h) = seed
seed_after_event seed (Found text h) = seed
seed_after_event seed (Drop h) = seed
seed_after_event seed (Perm h) = seed
seed_after_event seed (Kill h) = seed
seed_after_event seed (Claim x) = seed
seed_after_event seed (Free x) = seed
seed_after_event seed (Open counter) = seed
seed_after_event seed Close = seed
seed_after_event seed Grace = seed
seed_after_event seed (Lock r b) = seed
seed_after_event seed (Unlock r b) = seed
seed_after_event seed (Unlink x) = seed
seed_after_event seed ResizeTaken = seed
seed_after_event seed ResizeGiven = seed
seed_after_event seed (Level l) = seed

abbrev pub seed_after : ℕ → List Event → ℕ
seed_after seed [] = seed
seed_after seed (e ∷ log) = seed_after (seed_after_event seed e.what) log

-- the slot is linked, and its handle's entry is gone from the map
abbrev pub IsDeadIn : List Event → ℕ → Type 0
IsDeadIn log s = (text : List ℕ) × (h : Handle) × IsLinkedAs log s text h × ¬ (IsLive (map_of log) h)

-- nothing is going on: no section is open, no bucket is locked, nobody has the resize lock, and no slot is linked and dead
pub record IsIdleIn (log : List Event) : Type 0 where
  pub sections : (k : ℕ) → ¬ (IsOpenIn log k)
  pub locks : (row bucket k : ℕ) → ¬ (IsLockedBy log row bucket k)
  pub resizing : (k : ℕ) → ¬ (HasResizeLock log k)
  pub slots : (s : ℕ) → ¬ (IsDeadIn log s)

-- a seeded log: each Rehash is by number 0, has the seed before it plus one, at most 2, and is where nothing is going on
pub record IsSeeded (log : List Event) : Type 0 where
  pub by_zero : (front back : List Event) (k seed : ℕ) → log ≡ with_event front k (Rehash seed) back → k ≡ 0
  pub next : (front back : List Event) (k seed : ℕ) → log ≡ with_event front k (Rehash seed) back → seed ≡ seed_after 0 front + 1
  pub most : (front back : List Event) (k seed : ℕ) → log ≡ with_event front k (Rehash seed) back → seed ≤ 2
  pub idle : (front back : List Event) (k seed : ℕ) → log ≡ with_event front k (Rehash seed) back → IsIdleIn front
