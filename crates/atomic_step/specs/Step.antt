-- Atomic steps by name: of which kind each is, on which word, and what it does to it.
use Rattle.std.specs.Prelude.{ℕ, ◌+◌, true, false, Option, Some, None}
use Rattle.table_shape.specs.declared.shape.Shape.{Shape}
use Rattle.table_shape.specs.declared.place.Place.{Place}
use Rattle.table_shape.specs.declared.place.Place.TheVariants as place
use Rattle.table_shape.specs.Place.{index_of}
use Rattle.marked_word.specs.Head.{head_word, locked}
use Rattle.marked_word.specs.Link.{link_word}
use Rattle.marked_word.specs.Meta.{meta_word}
use Rattle.marked_word.specs.Number.{section_word, owner_word, new_level_word}
use Rattle.atomic_step.specs.declared.access.Access.{Access}
use Rattle.atomic_step.specs.declared.access.Deed.{Deed}
use Rattle.atomic_step.specs.declared.access.Deed.TheVariants as deed
use Rattle.atomic_step.specs.declared.access.Op.{Op}
use Rattle.atomic_step.specs.declared.access.StepKind.TheVariants.{K1, K2, K3, K4, K5, K6, K7, K8, K9, K10, K11, K12, K13, K14, K15, K16, K17, K18, K19, K20, K21, K22, K23, K24, K25, K26}
use Rattle.atomic_step.specs.declared.step.Edge.{Edge}
use Rattle.atomic_step.specs.declared.step.Edge.TheVariants as edge
use Rattle.atomic_step.specs.declared.step.Step.{Step}
use Rattle.atomic_step.specs.declared.step.Step.TheVariants as step
use Rattle.atomic_step.specs.Access.{loads, stores, swaps, adds, exchanges, op_of}
use Rattle.atomic_step.specs.Count.{raised, changed, holds_word}

-- the words of a head with this first node: without a mark, with the lock, and with the lock and the redirect
abbrev pub plain_head : Option ℕ → ℕ
plain_head first = head_word (record { node = first; lock = false; redirect = false })

abbrev pub locked_head : Option ℕ → ℕ
locked_head first = head_word (record { node = first; lock = true; redirect = false })

abbrev pub redirected_head : Option ℕ → ℕ
redirected_head first = head_word (record { node = first; lock = true; redirect = true })

-- the word of an edge, and what stands there where it leads to a node: a head stays locked
abbrev pub edge_place : Edge → Place
edge_place (edge.Head row bucket) = place.Head row bucket
edge_place (edge.Link slot) = place.Link slot

abbrev pub edge_word : Edge → Option ℕ → ℕ
edge_word (edge.Head row bucket) next = locked_head next
edge_word (edge.Link slot) next = link_word next

-- what each step is
abbrev pub access_of : Step → Access
access_of step.LoadDraws = loads K1 place.Draws
access_of step.Draw = adds K1 place.Draws 1
access_of step.LoadCounter = loads K9 place.Counter
access_of (step.OpenSection number counter) = stores K10 (place.Section number) (section_word (Some counter))
access_of (step.CloseSection number) = stores K11 (place.Section number) (section_word None)
access_of step.LoadLevel = loads K19 place.Level
access_of step.LoadNewLevel = loads K20 place.NewLevel
access_of (step.LoadHead row bucket) = loads K5 (place.Head row bucket)
access_of (step.LoadLink slot) = loads K6 (place.Link slot)
access_of (step.LoadMeta slot) = loads K6 (place.Meta slot)
access_of (step.LoadText slot at) = loads K6 (place.Text slot at)
access_of (step.LoadCount slot) = loads K6 (place.Count slot)
access_of (step.SeeEntry kind slot) = loads K6 (place.Count slot)
access_of (step.SeeHandle change h) = loads K6 (place.Count h.slot)
access_of (step.TakeEntry slot count) = exchanges K8 (place.Count slot) count (raised count)
access_of (step.ChangeEntry change h count) = exchanges K8 (place.Count h.slot) count (changed change count)
access_of (step.ClaimSlot slot) = swaps K2 (place.Claim slot) 1
access_of (step.FreeSlot slot) = stores K4 (place.Claim slot) 0
access_of (step.PutMeta slot meta) = stores K3 (place.Meta slot) (meta_word meta)
access_of (step.PutText slot at word) = stores K3 (place.Text slot at) word
access_of (step.PutLink slot next) = stores K3 (place.Link slot) (link_word next)
access_of (step.PutCount h holds) = stores K3 (place.Count h.slot) (holds_word h holds)
access_of (step.PutNextGeneration slot generation) = stores K3 (place.Count slot) (holds_word (record { slot = slot; generation = generation + 1 }) 0)
access_of (step.CreateEntry h row bucket head) = exchanges K7 (place.Head row bucket) head (plain_head (Some h.slot))
access_of step.RaiseCounter = adds K12 place.Counter 2
access_of (step.LoadSection number) = loads K13 (place.Section number)
access_of (step.LockHead row bucket head) = exchanges K14 (place.Head row bucket) head (locked head)
access_of (step.UnlockHead row bucket first) = stores K15 (place.Head row bucket) (plain_head first)
access_of (step.Unlink slot edge next) = stores K16 (edge_place edge) (edge_word edge next)
access_of (step.TakeResizeLock number) = exchanges K17 place.ResizeLock (owner_word None) (owner_word (Some number))
access_of step.GiveResizeLock = stores K18 place.ResizeLock (owner_word None)
access_of (step.PutHead row bucket first) = stores K21 (place.Head row bucket) (locked_head first)
access_of (step.PutNewLevel level) = stores K22 place.NewLevel (new_level_word level)
access_of (step.RedirectHead row bucket first) = stores K23 (place.Head row bucket) (redirected_head first)
access_of (step.MoveEdge edge next) = stores K24 (edge_place edge) (edge_word edge next)
access_of (step.StoreLevel level) = stores K25 place.Level level
access_of (step.JoinChains slot next) = stores K26 (place.Link slot) (link_word next)

-- the operation of a step in a table of a shape
abbrev pub op_at : Shape → Access → Op
op_at shape access = op_of (index_of shape access.place) access.deed

-- a load, or a store of this word
abbrev pub IsLoadOrStore : Deed → Type 0
IsLoadOrStore deed.Load = Unit {0}
IsLoadOrStore (deed.Store value) = Unit {0}
IsLoadOrStore _ = ⊥

abbrev pub stores_or_loads : Option ℕ → Deed
stores_or_loads None = deed.Load
stores_or_loads (Some word) = deed.Store word
