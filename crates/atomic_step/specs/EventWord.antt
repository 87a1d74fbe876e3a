-- What each event says in plain numbers: on which word its step was, what it did to it, and which word it found.
use Rattle.std.specs.Prelude.{◌≡◌, ℕ, ◌+◌, ◌-◌, ◌*◌, ◌/◌, ◌%◌, ◌≤◌, ◌⊎◌, min, List, Option, Some, None}
use Rattle.table_shape.specs.declared.place.Place.{Place}
use Rattle.table_shape.specs.declared.place.Place.TheVariants as place
use Rattle.intern_log.specs.declared.event.Kind.TheVariants.{Weak}
use Rattle.intern_log.specs.declared.event.What.{What}
use Rattle.intern_log.specs.declared.event.What.TheVariants as what
use Rattle.atomic_step.specs.declared.access.Deed.{Deed}
use Rattle.atomic_step.specs.declared.access.Deed.TheVariants as deed
use Rattle.atomic_step.specs.declared.access.StepKind.{StepKind}
use Rattle.atomic_step.specs.declared.access.StepKind.TheVariants.{K2, K4, K7, K8, K10, K11, K12, K14, K15, K16, K17, K18, K21, K25}
use Rattle.atomic_step.specs.declared.count.Change.TheVariants.{Drop}
use Rattle.atomic_step.specs.declared.step.Step.{Step}
use Rattle.atomic_step.specs.declared.step.Step.TheVariants as step
use Rattle.atomic_step.specs.Kind.{IsHead, IsStoreOf, IsLedOn, HasNoMark, HasLock}
use Rattle.atomic_step.specs.Step.{access_of}

-- a drop is seen at a count of 65,535, which stays, or takes one hold away
abbrev pub IsDropOf : Deed → ℕ → Type 0
IsDropOf d word = ((d ≡ deed.Load) × (word % 65536 ≡ 65535)) ⊎ ((d ≡ deed.Exchange word (word - 1)) × (1 ≤ word % 65536) × (word % 65536 ≤ 65534))

-- a lock is set in a head that had none, or stored with the head of a new row
abbrev pub IsLockOf : Deed → ℕ → Type 0
IsLockOf d word = ((d ≡ deed.Exchange word (word + 1)) × (word % 2 ≡ 0)) ⊎ IsStoreOf HasLock d

-- what a step of the seat of this number did, by its event: on this place, with this deed, which found this word; an event that names a text names that of its call
abbrev pub IsDone : List ℕ → ℕ → Place → Deed → ℕ → What → Type 0
IsDone text seat p d word (what.Open counter) = (p ≡ place.Section seat) × (d ≡ deed.Store (counter + 1))
IsDone text seat p d word what.Close = (p ≡ place.Section seat) × (d ≡ deed.Store 0)
IsDone text seat p d word (what.Claim slot) = (p ≡ place.Claim slot) × (d ≡ deed.Swap 1) × (word ≡ 0)
IsDone text seat p d word (what.Free slot) = (p ≡ place.Claim slot) × (d ≡ deed.Store 0)
IsDone text seat p d word (what.Create named h) = (named ≡ text) × IsHead p × (d ≡ deed.Exchange word (4 * (h.slot + 1)))
IsDone text seat p d word (what.Take named h) =
    (named ≡ text) × (p ≡ place.Count h.slot) × (h.generation ≡ word / 65536) × (d ≡ deed.Exchange word (65536 * (word / 65536) + min (word % 65536 + 1) 65535))
IsDone text seat p d word (what.Found named h) = (named ≡ text) × (p ≡ place.Count h.slot) × (h.generation ≡ word / 65536) × (d ≡ deed.Load) × (1 ≤ word % 65536)
IsDone text seat p d word (what.Drop h) = (p ≡ place.Count h.slot) × IsDropOf d word
IsDone text seat p d word (what.Perm h) = (p ≡ place.Count h.slot) × (d ≡ deed.Exchange word (65536 * (word / 65536) + 65535))
IsDone text seat p d word (what.Kill h) = (p ≡ place.Count h.slot) × (d ≡ deed.Exchange word (65536 * (word / 65536)))
IsDone text seat p d word what.Grace = (p ≡ place.Counter) × (d ≡ deed.Add 2)
IsDone text seat p d word (what.Lock row bucket) = (p ≡ place.Head row bucket) × IsLockOf d word
IsDone text seat p d word (what.Unlock row bucket) = (p ≡ place.Head row bucket) × IsStoreOf HasNoMark d
IsDone text seat p d word (what.Unlink slot) = IsLedOn p d
IsDone text seat p d word what.ResizeTaken = (p ≡ place.ResizeLock) × (d ≡ deed.Exchange 0 (seat + 1)) × (word ≡ 0)
IsDone text seat p d word what.ResizeGiven = (p ≡ place.ResizeLock) × (d ≡ deed.Store 0)
IsDone text seat p d word (what.Level level) = (p ≡ place.Level) × (d ≡ deed.Store level)
IsDone text seat p d word (what.Rehash seed) = ⊥

-- an exchange that found another word than the one that it was to find
abbrev pub HasLost : Deed → ℕ → Type 0
HasLost (deed.Exchange old new) word = ¬ (word ≡ old)
HasLost _ word = ⊥

-- a step of this kind has no event: one of the other kinds always has one, a claim where the slot was free, and an exchange where it found its word
abbrev pub HasNoneOfKind : StepKind → Deed → ℕ → Type 0
HasNoneOfKind K2 d word = ¬ (word ≡ 0)
HasNoneOfKind K4 d word = ⊥
HasNoneOfKind K7 d word = HasLost d word
HasNoneOfKind K8 d word = HasLost d word
HasNoneOfKind K10 d word = ⊥
HasNoneOfKind K11 d word = ⊥
HasNoneOfKind K12 d word = ⊥
HasNoneOfKind K14 d word = HasLost d word
HasNoneOfKind K15 d word = ⊥
HasNoneOfKind K16 d word = ⊥
HasNoneOfKind K17 d word = HasLost d word
HasNoneOfKind K18 d word = ⊥
HasNoneOfKind K21 d word = ⊥
HasNoneOfKind K25 d word = ⊥
HasNoneOfKind _ d word = Unit {0}

-- why a step has no event: an entry that was seen in a weak table was gone, and a count that was seen for a drop was not 65,535
abbrev pub HasNoEvent : Step → ℕ → Type 0
HasNoEvent (step.SeeEntry Weak slot) word = word % 65536 ≡ 0
HasNoEvent (step.SeeHandle Drop h) word = ¬ (word % 65536 ≡ 65535)
HasNoEvent s word = HasNoneOfKind (access_of s).kind (access_of s).deed word

-- what the event of a step says, or why there is none
abbrev pub SaysWhatWasDone : List ℕ → ℕ → Step → ℕ → Option What → Type 0
SaysWhatWasDone text seat s word None = HasNoEvent s word
SaysWhatWasDone text seat s word (Some e) = IsDone text seat (access_of s).place (access_of s).deed word e
