-- Sections, locks, levels and kinds in the words of a log: what an orderly log keeps.
use Rattle.std.specs.Prelude.{◌≡◌, ℕ, ◌+◌, ◌*◌, ◌≤◌, ◌&&◌, Bool, true, false, not, nat_eq, List, [], ◌∷◌, length, ◌⊎◌}
use Rattle.std.specs.List.{list_any}
use Rattle.intern_log.specs.declared.event.Handle.{Handle}
use Rattle.intern_log.specs.declared.event.Event.{Event}
use Rattle.intern_log.specs.declared.event.Kind.TheVariants.{Counted, Weak}
use Rattle.intern_log.specs.declared.event.What.{What}
use Rattle.intern_log.specs.declared.event.What.TheVariants.{Create, Take, Found, Drop, Perm, Kill, Claim, Free, Open, Close, Grace, Lock, Unlock, Unlink, ResizeTaken, ResizeGiven, Level, Rehash}
use Rattle.intern_log.specs.Counts.{events_in}
use Rattle.intern_log.specs.declared.event.TableKind.{TableKind}
use Rattle.intern_log.specs.Sections.{some_frees, with_event, IsOpenIn}

abbrev pub is_grace : What → Bool
is_grace Grace = true
is_grace _ = false

abbrev pub is_resize_given : What → Bool
is_resize_given ResizeGiven = true
is_resize_given _ = false

-- whether the event ends each lock of the bucket: its Unlock, or a Level of another row's level
abbrev pub ends_lock : ℕ → ℕ → What → Bool
ends_lock row bucket (Unlock r b) = nat_eq row r && nat_eq bucket b
ends_lock row bucket (Level level) = not (nat_eq row level)
ends_lock row bucket (Create text h) = false
ends_lock row bucket (Take text h) = false
ends_lock row bucket (Found text h) = false
ends_lock row bucket (Drop h) = false
ends_lock row bucket (Perm h) = false
ends_lock row bucket (Kill h) = false
ends_lock row bucket (Claim x) = false
ends_lock row bucket (Free x) = false
ends_lock row bucket (Open counter) = false
ends_lock row bucket Close = false
ends_lock row bucket Grace = false
ends_lock row bucket (Lock r b) = false
ends_lock row bucket (Unlink x) = false
ends_lock row bucket ResizeTaken = false
ends_lock row bucket ResizeGiven = false
ends_lock row bucket (Rehash n) = false

abbrev pub some_ends_lock : ℕ → ℕ → List Event → Bool
some_ends_lock row bucket log = list_any (λ (e : Event). ends_lock row bucket e.what) log

-- the number has taken the resize lock, which was not given back since
abbrev pub HasResizeLock : List Event → ℕ → Type 0
HasResizeLock log k = (front back : List Event) × (log ≡ with_event front k ResizeTaken back) × (list_any (λ (e : Event). is_resize_given e.what) back ≡ false)

-- the number has locked the bucket at the place, and nothing ended its lock since
abbrev pub IsLockedAt : List Event → ℕ → ℕ → ℕ → ℕ → Type 0
IsLockedAt log row bucket k place = (front back : List Event) × (log ≡ with_event front k (Lock row bucket) back) × (length front ≡ place) × (some_ends_lock row bucket back ≡ false)

abbrev pub IsLockedBy : List Event → ℕ → ℕ → ℕ → Type 0
IsLockedBy log row bucket k = (place : ℕ) × IsLockedAt log row bucket k place

-- the level that an event leaves, and that of the last Level, or the one before the log where there is none
abbrev pub level_after_event : ℕ → What → ℕ
level_after_event level (Level l) = l
level_after_event level (Create text h) = level
level_after_event level (Take text h) = level
level_after_event level (Found text h) = level
level_after_event level (Drop h) = level
level_after_event level (Perm h) = level
level_after_event level (Kill h) = level
level_after_event level (Claim x) = level
level_after_event level (Free x) = level
level_after_event level (Open counter) = level
level_after_event level Close = level
level_after_event level Grace = level
level_after_event level (Lock r b) = level
level_after_event level (Unlock r b) = level
level_after_event level (Unlink x) = level
level_after_event level ResizeTaken = level
level_after_event level ResizeGiven = level
level_after_event level (Rehash n) = level

abbrev pub level_after : ℕ → List Event → ℕ
level_after level [] = level
level_after level (e ∷ log) = level_after (level_after_event level e.what) log

-- whether a Lock by this seat, of a bucket of row `locked`, is one by the number, of another row than `row`
abbrev pub is_lock_elsewhere : ℕ → ℕ → ℕ → ℕ → Bool
is_lock_elsewhere k row seat locked = nat_eq seat k && not (nat_eq locked row)

-- whether the event, by this seat, is such a Lock, and whether one of the events is
abbrev pub locks_other_row : ℕ → ℕ → ℕ → What → Bool
locks_other_row k row seat (Lock r b) = is_lock_elsewhere k row seat r
locks_other_row k row seat _ = false

abbrev pub some_lock_other_row : ℕ → ℕ → List Event → Bool
some_lock_other_row k row log = list_any (λ (e : Event). locks_other_row k row e.seat e.what) log

-- the number took the resize lock at the place, where the level was this one, and has not given it back since; `replacing` is whether it has locked a bucket of another row since
abbrev pub IsResizingAs : ℕ → List Event → ℕ → ℕ → ℕ → Bool → Type 0
IsResizingAs min_level log k place level replacing = (front back : List Event)
    × (log ≡ with_event front k ResizeTaken back) × (length front ≡ place) × (list_any (λ (e : Event). is_resize_given e.what) back ≡ false)
    × (level_after min_level front ≡ level) × (some_lock_other_row k level back ≡ replacing)

-- the row is being replaced: a number has the resize lock, the row's level is the one at which it was taken, and since then that number has locked a bucket of another row
abbrev pub IsBeingReplaced : ℕ → List Event → ℕ → Type 0
IsBeingReplaced min_level log row = (k place : ℕ) × IsResizingAs min_level log k place row true

-- an orderly log
pub record IsOrderly (table : TableKind) (log : List Event) : Type 0 where
  -- Opens and Closes of a number alternate, an Open first; an Open's counter is at most the first counter and twice the Graces before it
  pub opens : (front back : List Event) (k counter : ℕ) → log ≡ with_event front k (Open counter) back →
      ¬ (IsOpenIn front k) × (counter ≤ table.first_counter + 2 * events_in is_grace front)
  pub closings : (front back : List Event) (k : ℕ) → log ≡ with_event front k Close back → IsOpenIn front k
  -- the resize lock is taken where nobody has it, and given back by who has it, once each slot that it unlinked is freed
  pub taken : (front back : List Event) (k j : ℕ) → log ≡ with_event front k ResizeTaken back → ¬ (HasResizeLock front j)
  pub given : (front back : List Event) (k : ℕ) → log ≡ with_event front k ResizeGiven back → HasResizeLock front k
  pub given_freed : (front back before since : List Event) (k s : ℕ) → log ≡ with_event front k ResizeGiven back →
      front ≡ with_event before k (Unlink s) since → some_frees s since ≡ true
  -- a bucket is locked where it is not locked, and unlocked by the number that locked it
  pub locks : (front back : List Event) (k row bucket j : ℕ) → log ≡ with_event front k (Lock row bucket) back → ¬ (IsLockedBy front row bucket j)
  pub unlocks : (front back : List Event) (k row bucket : ℕ) → log ≡ with_event front k (Unlock row bucket) back → IsLockedBy front row bucket k
  -- a Level is by who has the resize lock, differs by one from the level at its place, and lies from the least to the greatest
  pub level_owner : (front back : List Event) (k level : ℕ) → log ≡ with_event front k (Level level) back → HasResizeLock front k
  pub level_by_one : (front back : List Event) (k level : ℕ) → log ≡ with_event front k (Level level) back →
      (level ≡ level_after table.min_level front + 1) ⊎ (level_after table.min_level front ≡ level + 1)
  pub level_within : (front back : List Event) (k level : ℕ) → log ≡ with_event front k (Level level) back → (table.min_level ≤ level) × (level ≤ table.max_level)
  -- Take, Drop and Perm are in Counted logs alone, Found and Kill in Weak logs alone
  pub takes : (front back : List Event) (k : ℕ) (text : List ℕ) (h : Handle) → log ≡ with_event front k (Take text h) back → table.kind ≡ Counted
  pub drops : (front back : List Event) (k : ℕ) (h : Handle) → log ≡ with_event front k (Drop h) back → table.kind ≡ Counted
  pub perms : (front back : List Event) (k : ℕ) (h : Handle) → log ≡ with_event front k (Perm h) back → table.kind ≡ Counted
  pub founds : (front back : List Event) (k : ℕ) (text : List ℕ) (h : Handle) → log ≡ with_event front k (Found text h) back → table.kind ≡ Weak
  pub kills : (front back : List Event) (k : ℕ) (h : Handle) → log ≡ with_event front k (Kill h) back → table.kind ≡ Weak
