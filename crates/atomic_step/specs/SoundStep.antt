-- What a step of a machine of a table may be, and which words it may find.
use Rattle.std.specs.Prelude.{◌≡◌, ℕ, ◌+◌, ◌-◌, ◌*◌, ◌/◌, ◌%◌, ◌^◌, ◌<◌, ◌≤◌, false, Option, IfSome}
use Rattle.table_shape.specs.declared.shape.Shape.{Shape}
use Rattle.table_shape.specs.declared.place.Place.{Place}
use Rattle.table_shape.specs.declared.place.Place.TheVariants as place
use Rattle.table_shape.specs.Place.{IsInside}
use Rattle.marked_word.specs.Head.{is_locked}
use Rattle.marked_word.specs.Meta.{length_in}
use Rattle.marked_word.specs.Number.{new_level_of}
use Rattle.intern_log.specs.declared.event.Handle.{Handle}
use Rattle.atomic_step.specs.declared.access.Deed.{Deed}
use Rattle.atomic_step.specs.declared.access.Deed.TheVariants as deed
use Rattle.atomic_step.specs.declared.count.Change.{Change}
use Rattle.atomic_step.specs.declared.count.Change.TheVariants.{Drop, Kill}
use Rattle.atomic_step.specs.declared.plan.Plan.{Plan}
use Rattle.atomic_step.specs.declared.plan.Plan.TheVariants as plan
use Rattle.atomic_step.specs.declared.step.Step.{Step}
use Rattle.atomic_step.specs.declared.step.Step.TheVariants as step
use Rattle.atomic_step.specs.Count.{holds_of, generation_of}
use Rattle.atomic_step.specs.Step.{access_of}

-- a level of the table, the grace counter, a head, a meta word, and a node of a table
abbrev pub IsLevel : Shape → ℕ → Type 0
IsLevel shape level = (shape.min_level ≤ level) × (level ≤ shape.max_level)

abbrev pub IsCounter : ℕ → Type 0
IsCounter counter = (counter % 2 ≡ 0) × (counter ≤ 2 ^ 64 - 4)

abbrev pub IsHeadWord : Shape → ℕ → Type 0
IsHeadWord shape word = word / 4 ≤ shape.slots

abbrev pub IsMetaWord : Shape → ℕ → Type 0
IsMetaWord shape word = (word < 2 ^ 48) × (length_in word ≤ 8 * shape.text_words)

abbrev pub IsNode : Shape → Option ℕ → Type 0
IsNode shape node = IfSome node (λ slot. slot < shape.slots)

-- the word can stand there
abbrev pub CanStandAt : Shape → Place → ℕ → Type 0
CanStandAt shape place.Counter word = IsCounter word
CanStandAt shape place.Level word = IsLevel shape word
CanStandAt shape place.NewLevel word = (1 ≤ word) × IsLevel shape (new_level_of word)
CanStandAt shape (place.Head row bucket) word = IsHeadWord shape word
CanStandAt shape (place.Link slot) word = word ≤ shape.slots
CanStandAt shape (place.Meta slot) word = IsMetaWord shape word
CanStandAt shape _ word = Unit {0}

-- a store takes any word as the one that it found
abbrev pub CanBeAt : Shape → Place → Deed → ℕ → Type 0
CanBeAt shape place (deed.Store value) word = Unit {0}
CanBeAt shape place _ word = CanStandAt shape place word

-- the count word of the entry of a handle that is held, where the call has one that its seat holds
abbrev pub IsHeldCount : Handle → Change → ℕ → Type 0
IsHeldCount h Kill word = Unit {0}
IsHeldCount h _ word = (generation_of word ≡ h.generation) × (1 ≤ holds_of word)

abbrev pub IsHeldBy : Step → ℕ → Type 0
IsHeldBy (step.SeeHandle change h) word = IsHeldCount h change word
IsHeldBy _ word = Unit {0}

-- the step may find the word; nothing is found once the call has answered
abbrev pub CanBeFound : Shape → Step → ℕ → Type 0
CanBeFound shape s word = CanBeAt shape (access_of s).place (access_of s).deed word × IsHeldBy s word

abbrev pub CanFollow : Shape → Plan → ℕ → Type 0
CanFollow shape (plan.Step s) word = CanBeFound shape s word
CanFollow shape (plan.Answered a) word = ⊥

-- a drop begins with a count from 1 to 65,534
abbrev pub IsChangeable : Change → ℕ → Type 0
IsChangeable Drop count = (1 ≤ holds_of count) × (holds_of count < 65535)
IsChangeable _ count = Unit {0}

-- generations fit their words, a section is opened with an even counter, and a head that is locked had no lock
abbrev pub HasSoundValue : Step → Type 0
HasSoundValue (step.OpenSection number counter) = IsCounter counter
HasSoundValue (step.ChangeEntry change h count) = IsChangeable change count
HasSoundValue (step.PutCount h holds) = h.generation < 2 ^ 48
HasSoundValue (step.PutNextGeneration slot generation) = generation + 1 < 2 ^ 48
HasSoundValue (step.LockHead row bucket head) = is_locked head ≡ false
HasSoundValue _ = Unit {0}

-- nodes, levels and lengths that are stored are of the table
abbrev pub LeadsInside : Shape → Step → Type 0
LeadsInside shape (step.PutMeta slot meta) = (meta.hash < 2 ^ 32) × (meta.length < 65536) × (meta.length ≤ 8 * shape.text_words)
LeadsInside shape (step.PutLink slot next) = IsNode shape next
LeadsInside shape (step.CreateEntry h row bucket head) = h.slot < shape.slots
LeadsInside shape (step.LockHead row bucket head) = IsHeadWord shape head
LeadsInside shape (step.UnlockHead row bucket first) = IsNode shape first
LeadsInside shape (step.Unlink slot edge next) = (slot < shape.slots) × IsNode shape next
LeadsInside shape (step.PutHead row bucket first) = IsNode shape first
LeadsInside shape (step.PutNewLevel level) = IfSome level (IsLevel shape)
LeadsInside shape (step.RedirectHead row bucket first) = IsNode shape first
LeadsInside shape (step.MoveEdge edge next) = IsNode shape next
LeadsInside shape (step.StoreLevel level) = IsLevel shape level
LeadsInside shape (step.JoinChains slot next) = IsNode shape next
LeadsInside shape _ = Unit {0}

-- a section is opened and closed by its seat alone, and the resize lock is taken with the seat's number
abbrev pub IsBySeat : ℕ → Step → Type 0
IsBySeat seat (step.OpenSection number counter) = number ≡ seat
IsBySeat seat (step.CloseSection number) = number ≡ seat
IsBySeat seat (step.TakeResizeLock number) = number ≡ seat
IsBySeat seat _ = Unit {0}

-- a step that a seat of this number may make in a table of a shape: on a word of it, with values that can stand there
abbrev pub IsSoundStep : Shape → ℕ → Step → Type 0
IsSoundStep shape seat s = IsInside shape (access_of s).place × HasSoundValue s × LeadsInside shape s × IsBySeat seat s

abbrev pub IsSoundPlan : Shape → ℕ → Plan → Type 0
IsSoundPlan shape seat (plan.Step s) = IsSoundStep shape seat s
IsSoundPlan shape seat (plan.Answered a) = Unit {0}

-- the operation of the plan can be told
abbrev pub CanBeWanted : Shape → Plan → Type 0
CanBeWanted shape (plan.Step s) = IsInside shape (access_of s).place × HasSoundValue s
CanBeWanted shape (plan.Answered a) = Unit {0}
