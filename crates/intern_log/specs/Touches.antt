-- Which events change a slot, a section, a lock, the resize lock, the level or the seed; all others leave it.
use Rattle.std.specs.Prelude.{ℕ, Bool, true, false, not, ◌&&◌, nat_eq}
use Rattle.intern_log.specs.declared.event.What.{What}
use Rattle.intern_log.specs.declared.event.What.TheVariants.{Create, Take, Found, Drop, Perm, Kill, Claim, Free, Open, Close, Grace, Lock, Unlock, Unlink, ResizeTaken, ResizeGiven, Level, Rehash}

-- whether the event is a Create, Claim, Free or Unlink of the slot
abbrev pub touches_slot : ℕ → What → Bool
touches_slot s (Create text h) = nat_eq s h.slot
touches_slot s (Claim x) = nat_eq s x
touches_slot s (Free x) = nat_eq s x
touches_slot s (Unlink x) = nat_eq s x
touches_slot s (Take text h) = false
touches_slot s (Found text h) = false
touches_slot s (Drop h) = false
touches_slot s (Perm h) = false
touches_slot s (Kill h) = false
touches_slot s (Open counter) = false
touches_slot s Close = false
touches_slot s Grace = false
touches_slot s (Lock r b) = false
touches_slot s (Unlock r b) = false
touches_slot s ResizeTaken = false
touches_slot s ResizeGiven = false
touches_slot s (Level l) = false
touches_slot s (Rehash n) = false

-- whether the event, by this seat, is an Open or Close of the number's section
abbrev pub touches_section : ℕ → ℕ → What → Bool
touches_section k seat (Open counter) = nat_eq k seat
touches_section k seat Close = nat_eq k seat
touches_section k seat (Create text h) = false
touches_section k seat (Take text h) = false
touches_section k seat (Found text h) = false
touches_section k seat (Drop h) = false
touches_section k seat (Perm h) = false
touches_section k seat (Kill h) = false
touches_section k seat (Claim x) = false
touches_section k seat (Free x) = false
touches_section k seat Grace = false
touches_section k seat (Lock r b) = false
touches_section k seat (Unlock r b) = false
touches_section k seat (Unlink x) = false
touches_section k seat ResizeTaken = false
touches_section k seat ResizeGiven = false
touches_section k seat (Level l) = false
touches_section k seat (Rehash n) = false

-- whether the event is a Lock or Unlock of the bucket, or a Level of another row's level
abbrev pub touches_lock : ℕ → ℕ → What → Bool
touches_lock row bucket (Lock r b) = nat_eq row r && nat_eq bucket b
touches_lock row bucket (Unlock r b) = nat_eq row r && nat_eq bucket b
touches_lock row bucket (Level level) = not (nat_eq row level)
touches_lock row bucket (Create text h) = false
touches_lock row bucket (Take text h) = false
touches_lock row bucket (Found text h) = false
touches_lock row bucket (Drop h) = false
touches_lock row bucket (Perm h) = false
touches_lock row bucket (Kill h) = false
touches_lock row bucket (Claim x) = false
touches_lock row bucket (Free x) = false
touches_lock row bucket (Open counter) = false
touches_lock row bucket Close = false
touches_lock row bucket Grace = false
touches_lock row bucket (Unlink x) = false
touches_lock row bucket ResizeTaken = false
touches_lock row bucket ResizeGiven = false
touches_lock row bucket (Rehash n) = false

-- whether the event is a ResizeTaken or ResizeGiven
abbrev pub touches_owner : What → Bool
touches_owner ResizeTaken = true
touches_owner ResizeGiven = true
touches_owner (Create text h) = false
touches_owner (Take text h) = false
touches_owner (Found text h) = false
touches_owner (Drop h) = false
touches_owner (Perm h) = false
touches_owner (Kill h) = false
touches_owner (Claim x) = false
touches_owner (Free x) = false
touches_owner (Open counter) = false
touches_owner Close = false
touches_owner Grace = false
touches_owner (Lock r b) = false
touches_owner (Unlock r b) = false
touches_owner (Unlink x) = false
touches_owner (Level l) = false
touches_owner (Rehash n) = false

-- whether the event is one of these, or a Lock
abbrev pub touches_resizing : What → Bool
touches_resizing (Lock row bucket) = true
touches_resizing what = touches_owner what

abbrev pub is_level : What → Bool
is_level (Level level) = true
is_level (Create text h) = false
is_level (Take text h) = false
is_level (Found text h) = false
is_level (Drop h) = false
is_level (Perm h) = false
is_level (Kill h) = false
is_level (Claim x) = false
is_level (Free x) = false
is_level (Open counter) = false
is_level Close = false
is_level Grace = false
is_level (Lock r b) = false
is_level (Unlock r b) = false
is_level (Unlink x) = false
is_level ResizeTaken = false
is_level ResizeGiven = false
is_level (Rehash n) = false

-- whether the event is a Rehash
abbrev pub is_rehash : What → Bool
is_rehash (Rehash seed) = true
is_rehash _ = false
