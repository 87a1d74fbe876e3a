-- What follows the events of a work: the bucket that it has locked, what it counts, its end, and the slots that it unlinked.
use Rattle.std.specs.Prelude.{ℕ, ◌+◌, ◌==◌, ◌&&◌, min, if◌then◌else◌, List, [], ◌∷◌, ◌++◌, Option, Some, None}
use Rattle.intern_log.specs.declared.event.What.{What}
use Rattle.intern_log.specs.declared.event.What.TheVariants as what

-- a bucket is locked where none is, and the one that is locked is unlocked
abbrev pub locks : ℕ → ℕ → Option (ℕ × ℕ) → Option (Option (ℕ × ℕ))
locks row bucket None = Some (Some (row, bucket))
locks row bucket (Some lock) = None

abbrev pub unlocks : ℕ → ℕ → Option (ℕ × ℕ) → Option (Option (ℕ × ℕ))
unlocks row bucket None = None
unlocks row bucket (Some lock) = if (lock.0 == row) && (lock.1 == bucket) then Some None else None

abbrev pub locked : Option (ℕ × ℕ) → What → Option (Option (ℕ × ℕ))
locked lock (what.Lock row bucket) = locks row bucket lock
locked lock (what.Unlock row bucket) = unlocks row bucket lock
locked lock _ = Some lock

-- one more; 2^64 - 1 stays
abbrev pub one_more : ℕ → ℕ
one_more n = min (n + 1) 18446744073709551615

-- unlinked slots are counted, with graces and alone
abbrev pub counts : ℕ × ℕ → What → Option (ℕ × ℕ)
counts n (what.Unlink slot) = Some (one_more n.0, n.1)
counts n what.Grace = Some (n.0, one_more n.1)
counts n _ = Some n

abbrev pub unlinks : ℕ → What → Option ℕ
unlinks n (what.Unlink slot) = Some (one_more n)
unlinks n _ = Some n

-- levels that are stored and the giving back of the resize lock come in this order, each once; the lock is not taken again
abbrev pub stores : ℕ → List What → Option (List What)
stores level (what.Level next ∷ to_come) = if next == level then Some to_come else None
stores level _ = None

abbrev pub gives : List What → Option (List What)
gives (what.ResizeGiven ∷ to_come) = Some to_come
gives _ = None

abbrev pub ends : List What → What → Option (List What)
ends to_come (what.Level level) = stores level to_come
ends to_come what.ResizeGiven = gives to_come
ends to_come what.ResizeTaken = None
ends to_come _ = Some to_come

-- slots are freed in the order of their unlinking
abbrev pub frees : ℕ → List ℕ → Option (List ℕ)
frees slot [] = None
frees slot (first ∷ slots) = if first == slot then Some slots else None

abbrev pub queue : List ℕ → What → Option (List ℕ)
queue slots (what.Unlink slot) = Some (slots ++ slot ∷ [])
queue slots (what.Free slot) = frees slot slots
queue slots _ = Some slots
