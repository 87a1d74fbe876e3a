-- The kinds of steps in plain numbers: on which words each is made, and what it may do to them.
use Rattle.std.specs.Prelude.{◌≡◌, ℕ, ◌+◌, ◌/◌, ◌%◌, ◌≤◌, ◌⊎◌}
use Rattle.intern_log.specs.declared.event.What.{What}
use Rattle.intern_log.specs.declared.event.What.TheVariants as what
use Rattle.table_shape.specs.declared.place.Place.{Place}
use Rattle.table_shape.specs.declared.place.Place.TheVariants as place
use Rattle.atomic_step.specs.declared.access.Deed.{Deed}
use Rattle.atomic_step.specs.declared.access.Deed.TheVariants as deed
use Rattle.atomic_step.specs.declared.access.StepKind.{StepKind}
use Rattle.atomic_step.specs.declared.access.StepKind.TheVariants.{K1, K2, K3, K4, K5, K6, K7, K8, K9, K10, K11, K12, K13, K14, K15, K16, K17, K18, K19, K20, K21, K22, K23, K24, K25, K26}

-- the word is a section word, a head, a claim, a count, a link, and one of the other words of a slot
abbrev pub IsSection : Place → Type 0
IsSection (place.Section number) = Unit {0}
IsSection _ = ⊥

abbrev pub IsHead : Place → Type 0
IsHead (place.Head row bucket) = Unit {0}
IsHead _ = ⊥

abbrev pub IsClaim : Place → Type 0
IsClaim (place.Claim slot) = Unit {0}
IsClaim _ = ⊥

abbrev pub IsCount : Place → Type 0
IsCount (place.Count slot) = Unit {0}
IsCount _ = ⊥

abbrev pub IsLink : Place → Type 0
IsLink (place.Link slot) = Unit {0}
IsLink _ = ⊥

abbrev pub IsSlotWord : Place → Type 0
IsSlotWord (place.Link slot) = Unit {0}
IsSlotWord (place.Count slot) = Unit {0}
IsSlotWord (place.Meta slot) = Unit {0}
IsSlotWord (place.Text slot at) = Unit {0}
IsSlotWord _ = ⊥

-- a word of this form is stored; or the word that was found is exchanged for one that is so beside it
abbrev pub IsStoreOf : (ℕ → Type 0) → Deed → Type 0
IsStoreOf Is (deed.Store value) = Is value
IsStoreOf Is _ = ⊥

abbrev pub IsExchangeOf : (ℕ → ℕ → Type 0) → Deed → Type 0
IsExchangeOf Is (deed.Exchange old new) = Is old new
IsExchangeOf Is _ = ⊥

-- the marks of a head: none, the lock, and the lock and the redirect
abbrev pub HasNoMark : ℕ → Type 0
HasNoMark word = word % 4 ≡ 0

abbrev pub HasLock : ℕ → Type 0
HasLock word = word % 4 ≡ 1

abbrev pub HasLockAndRedirect : ℕ → Type 0
HasLockAndRedirect word = word % 4 ≡ 3

-- any link may be led on, and a head only while it is locked
abbrev pub IsLedOn : Place → Deed → Type 0
IsLedOn (place.Link slot) d = IsStoreOf (λ word. Unit {0}) d
IsLedOn (place.Head row bucket) d = IsStoreOf HasLock d
IsLedOn _ d = ⊥

-- a step of the kind may be on this word and do this to it
abbrev pub IsOfKind : StepKind → Place → Deed → Type 0
IsOfKind K1 p d = (p ≡ place.Draws) × ((d ≡ deed.Load) ⊎ (d ≡ deed.Add 1))
IsOfKind K2 p d = IsClaim p × (d ≡ deed.Swap 1)
IsOfKind K3 p d = IsSlotWord p × IsStoreOf (λ word. Unit {0}) d
IsOfKind K4 p d = IsClaim p × (d ≡ deed.Store 0)
IsOfKind K5 p d = IsHead p × (d ≡ deed.Load)
IsOfKind K6 p d = IsSlotWord p × (d ≡ deed.Load)
IsOfKind K7 p d = IsHead p × IsExchangeOf (λ old new. HasNoMark new × (4 ≤ new)) d
IsOfKind K8 p d = IsCount p × IsExchangeOf (λ old new. new / 65536 ≡ old / 65536) d
IsOfKind K9 p d = (p ≡ place.Counter) × (d ≡ deed.Load)
IsOfKind K10 p d = IsSection p × IsStoreOf (λ word. word % 2 ≡ 1) d
IsOfKind K11 p d = IsSection p × (d ≡ deed.Store 0)
IsOfKind K12 p d = (p ≡ place.Counter) × (d ≡ deed.Add 2)
IsOfKind K13 p d = IsSection p × (d ≡ deed.Load)
IsOfKind K14 p d = IsHead p × IsExchangeOf (λ old new. (old % 2 ≡ 0) × (new ≡ old + 1)) d
IsOfKind K15 p d = IsHead p × IsStoreOf HasNoMark d
IsOfKind K16 p d = IsLedOn p d
IsOfKind K17 p d = (p ≡ place.ResizeLock) × IsExchangeOf (λ old new. (old ≡ 0) × (1 ≤ new)) d
IsOfKind K18 p d = (p ≡ place.ResizeLock) × (d ≡ deed.Store 0)
IsOfKind K19 p d = (p ≡ place.Level) × (d ≡ deed.Load)
IsOfKind K20 p d = (p ≡ place.NewLevel) × (d ≡ deed.Load)
IsOfKind K21 p d = IsHead p × IsStoreOf HasLock d
IsOfKind K22 p d = (p ≡ place.NewLevel) × IsStoreOf (λ word. Unit {0}) d
IsOfKind K23 p d = IsHead p × IsStoreOf HasLockAndRedirect d
IsOfKind K24 p d = IsLedOn p d
IsOfKind K25 p d = (p ≡ place.Level) × IsStoreOf (λ word. Unit {0}) d
IsOfKind K26 p d = IsLink p × IsStoreOf (λ word. Unit {0}) d

-- a step with this event is of one of these kinds
abbrev pub IsKindOf : What → StepKind → Type 0
IsKindOf (what.Create text h) k = k ≡ K7
IsKindOf (what.Take text h) k = k ≡ K8
IsKindOf (what.Found text h) k = k ≡ K6
IsKindOf (what.Drop h) k = (k ≡ K6) ⊎ (k ≡ K8)
IsKindOf (what.Perm h) k = k ≡ K8
IsKindOf (what.Kill h) k = k ≡ K8
IsKindOf (what.Claim slot) k = k ≡ K2
IsKindOf (what.Free slot) k = k ≡ K4
IsKindOf (what.Open counter) k = k ≡ K10
IsKindOf what.Close k = k ≡ K11
IsKindOf what.Grace k = k ≡ K12
IsKindOf (what.Lock row bucket) k = (k ≡ K14) ⊎ (k ≡ K21)
IsKindOf (what.Unlock row bucket) k = k ≡ K15
IsKindOf (what.Unlink slot) k = k ≡ K16
IsKindOf what.ResizeTaken k = k ≡ K17
IsKindOf what.ResizeGiven k = k ≡ K18
IsKindOf (what.Level level) k = k ≡ K25
IsKindOf (what.Rehash seed) k = ⊥
