-- How far a table has come that grows or shrinks: which heads are redirected, to which ones callers come, and whose texts are on two chains.
use Rattle.std.specs.Prelude.{◌≡◌, ◌≢◌, ℕ, ◌+◌, ◌%◌, ◌^◌, ◌<◌, ◌≤◌, ◌⊎◌, Option, Some, None}

-- what has become of a slot whose node was moved past on the chain of the other side: it was not, or it was and the counter was not raised
-- since, or that was raised at a place
pub data Parted : Type 0 where
  Whole : Parted
  Pending : Parted
  Since : ℕ → Parted

pub data Stage : Type 0 where
  -- no resize, or one that has told nobody
  Quiet : Stage
  -- a grow: the buckets below this one are redirected
  Growing : ℕ → Stage
  -- a grow: those up to this one are, and its chain is unzipped
  Splitting : ℕ → Stage
  -- a shrink to this level: the pairs below this one are redirected
  Shrinking : ℕ → ℕ → Stage
  -- the same, and the even chain of this pair leads on to the odd one
  Joining : ℕ → ℕ → Stage
  -- the even bucket of this pair is redirected, and the odd one is not
  Turning : ℕ → ℕ → Stage
  -- the new level is stored, and callers may still come from before
  Closing : Stage

-- the bucket of a text with this hash, in the row of a level
abbrev pub bucket_in : ℕ → ℕ → ℕ
bucket_in row hash = hash % 2 ^ row

-- the row to which a resize goes
abbrev pub next_row : Stage → ℕ → ℕ
next_row (Shrinking k d) level = k
next_row (Joining k b) level = k
next_row (Turning k b) level = k
next_row _ level = level + 1

-- of the heads of a row, of which a half are even ones: the first so many even ones and so many odd ones; and the others
abbrev pub IsInPairs : ℕ → ℕ → ℕ → ℕ → Type 0
IsInPairs half evens odds b = (b < evens) ⊎ ((half ≤ b) × (b < odds + half))

abbrev pub IsOffPairs : ℕ → ℕ → ℕ → ℕ → Type 0
IsOffPairs half evens odds b = (evens ≤ b) × ((b < half) ⊎ (odds + half ≤ b))

-- HEADS

-- a head of the level's row is redirected; or it is not
abbrev pub IsGone : Stage → ℕ → Type 0
IsGone Quiet b = ⊥
IsGone (Growing d) b = b < d
IsGone (Splitting a) b = b < a + 1
IsGone (Shrinking k d) b = IsInPairs (2 ^ k) d d b
IsGone (Joining k a) b = IsInPairs (2 ^ k) a a b
IsGone (Turning k a) b = IsInPairs (2 ^ k) (a + 1) a b
IsGone Closing b = ⊥

abbrev pub IsLeft : Stage → ℕ → Type 0
IsLeft Quiet b = Unit {0}
IsLeft (Growing d) b = d ≤ b
IsLeft (Splitting a) b = a + 1 ≤ b
IsLeft (Shrinking k d) b = IsOffPairs (2 ^ k) d d b
IsLeft (Joining k a) b = IsOffPairs (2 ^ k) a a b
IsLeft (Turning k a) b = IsOffPairs (2 ^ k) (a + 1) a b
IsLeft Closing b = Unit {0}

-- callers come to a head of the next row
abbrev pub IsOpen : Stage → ℕ → ℕ → Type 0
IsOpen Quiet level b = ⊥
IsOpen (Growing d) level b = IsInPairs (2 ^ level) d d b
IsOpen (Splitting a) level b = IsInPairs (2 ^ level) (a + 1) (a + 1) b
IsOpen (Shrinking k d) level b = b < d
IsOpen (Joining k a) level b = b < a
IsOpen (Turning k a) level b = b < a + 1
IsOpen Closing level b = ⊥

-- a head whose nodes are on two chains: it is locked by the owner of the resize lock
abbrev pub IsPinned : Stage → ℕ → ℕ → ℕ → Type 0
IsPinned (Splitting a) level row b = (row ≡ level + 1) × ((b ≡ a) ⊎ (b ≡ a + 2 ^ level))
IsPinned (Joining k a) level row b = (row ≡ k + 1) × ((b ≡ a) ⊎ (b ≡ a + 2 ^ k))
IsPinned (Turning k a) level row b = ((row ≡ k + 1) × (b ≡ a + 2 ^ k)) ⊎ ((row ≡ k) × (b ≡ a))
IsPinned _ level row b = ⊥

-- an old head whose chain leads on to that of another
abbrev pub IsJoined : Stage → ℕ → ℕ → Type 0
IsJoined (Joining k a) row b = (row ≡ k + 1) × (b ≡ a)
IsJoined _ row b = ⊥

-- a redirected head of the row that is left: in the last stage of all heads of the row before
abbrev pub IsBehind : Stage → ℕ → ℕ → ℕ → ℕ → Type 0
IsBehind Closing level before row b = (row ≡ before) × (b < 2 ^ row)
IsBehind stage level before row b = (row ≡ level) × IsGone stage b

-- TEXTS, BY THEIR HASHES

-- the bucket of a text in the level's row is redirected; or it is not
abbrev pub IsSent : Stage → ℕ → ℕ → Type 0
IsSent Quiet level hash = ⊥
IsSent (Growing d) level hash = bucket_in level hash < d
IsSent (Splitting a) level hash = bucket_in level hash < a + 1
IsSent (Shrinking k d) level hash = bucket_in k hash < d
IsSent (Joining k a) level hash = bucket_in k hash < a
IsSent (Turning k a) level hash = (bucket_in k hash < a) ⊎ (bucket_in (k + 1) hash ≡ a)
IsSent Closing level hash = ⊥

abbrev pub IsUnsent : Stage → ℕ → ℕ → Type 0
IsUnsent Quiet level hash = Unit {0}
IsUnsent (Growing d) level hash = d ≤ bucket_in level hash
IsUnsent (Splitting a) level hash = a + 1 ≤ bucket_in level hash
IsUnsent (Shrinking k d) level hash = d ≤ bucket_in k hash
IsUnsent (Joining k a) level hash = a ≤ bucket_in k hash
IsUnsent (Turning k a) level hash = (a ≤ bucket_in k hash) × (bucket_in (k + 1) hash ≢ a)
IsUnsent Closing level hash = Unit {0}

-- the text is of the bucket that is unzipped
abbrev pub IsUnzipped : Stage → ℕ → ℕ → Type 0
IsUnzipped (Splitting a) level hash = bucket_in level hash ≡ a
IsUnzipped _ level hash = ⊥

-- the text is of a bucket or a pair whose nodes are on two chains
abbrev pub IsOnTwo : Stage → ℕ → ℕ → Type 0
IsOnTwo (Splitting a) level hash = bucket_in level hash ≡ a
IsOnTwo (Joining k a) level hash = bucket_in k hash ≡ a
IsOnTwo (Turning k a) level hash = bucket_in k hash ≡ a
IsOnTwo _ level hash = ⊥

-- the text may be on a chain that is not its bucket's
abbrev pub IsMixed : Stage → ℕ → ℕ → ℕ → ℕ → Type 0
IsMixed (Splitting a) level row b hash = (row ≡ level + 1) × (bucket_in level hash ≡ a) × ((b ≡ a) ⊎ (b ≡ a + 2 ^ level))
IsMixed (Joining k a) level row b hash = (row ≡ k + 1) × (bucket_in k hash ≡ a) × (b ≡ a)
IsMixed _ level row b hash = ⊥

-- a node of a text with the other hash may be on a walk for this one, in a section that was opened at a place
abbrev pub IsNearIn : Stage → ℕ → ℕ → ℕ → ℕ → ℕ → Type 0
IsNearIn (Growing d) level since at sought hash = (bucket_in level hash ≡ bucket_in level sought) × (bucket_in level sought < d → bucket_in (level + 1) hash ≡ bucket_in (level + 1) sought)
IsNearIn (Splitting a) level since at sought hash = (bucket_in level hash ≡ bucket_in level sought) × (bucket_in level sought < a → bucket_in (level + 1) hash ≡ bucket_in (level + 1) sought)
IsNearIn (Shrinking k d) level since at sought hash = (bucket_in k hash ≡ bucket_in k sought) × (d ≤ bucket_in k sought → bucket_in (k + 1) hash ≡ bucket_in (k + 1) sought)
IsNearIn (Joining k a) level since at sought hash = (bucket_in k hash ≡ bucket_in k sought) × ((a ≤ bucket_in k sought) × (bucket_in (k + 1) sought ≢ a) → bucket_in (k + 1) hash ≡ bucket_in (k + 1) sought)
IsNearIn (Turning k a) level since at sought hash = (bucket_in k hash ≡ bucket_in k sought) × ((a ≤ bucket_in k sought) × (bucket_in (k + 1) sought ≢ a) → bucket_in (k + 1) hash ≡ bucket_in (k + 1) sought)
IsNearIn Closing level since at sought hash = since ≤ at → bucket_in level hash ≡ bucket_in level sought
IsNearIn _ level since at sought hash = bucket_in level hash ≡ bucket_in level sought

-- a walk for a text of the other side, in a section that was opened at a place, may be at such a node
abbrev pub IsSpared : Parted → ℕ → Type 0
IsSpared (Since raise) at = at ≤ raise
IsSpared _ at = Unit {0}

-- THE STAGE ITSELF

-- the stage is one of the level
abbrev pub IsWithin : Stage → ℕ → Type 0
IsWithin (Growing d) level = d ≤ 2 ^ level
IsWithin (Splitting a) level = a < 2 ^ level
IsWithin (Shrinking k d) level = (level ≡ k + 1) × (d ≤ 2 ^ k)
IsWithin (Joining k a) level = (level ≡ k + 1) × (a < 2 ^ k)
IsWithin (Turning k a) level = (level ≡ k + 1) × (a < 2 ^ k)
IsWithin _ level = Unit {0}

-- the level that the new-level word names
abbrev pub named_level : Stage → ℕ → Option ℕ
named_level Quiet level = None
named_level (Growing d) level = Some (level + 1)
named_level (Splitting a) level = Some (level + 1)
named_level (Shrinking k d) level = Some k
named_level (Joining k a) level = Some k
named_level (Turning k a) level = Some k
named_level Closing level = Some level

-- no head of the level's row is redirected, and its chains are those of their buckets
abbrev pub IsWhole : Stage → Type 0
IsWhole (Growing d) = d ≡ 0
IsWhole (Splitting a) = ⊥
IsWhole (Shrinking k d) = d ≡ 0
IsWhole (Joining k a) = ⊥
IsWhole (Turning k a) = ⊥
IsWhole _ = Unit {0}
