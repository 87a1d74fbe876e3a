-- On which word each step is that has no event, by the numbers that it names, and which number it leaves there.
use Rattle.std.specs.Prelude.{◌≡◌, ℕ, ◌+◌, ◌*◌, Option, Some, None}
use Rattle.table_shape.specs.declared.place.Place.{Place}
use Rattle.table_shape.specs.declared.place.Place.TheVariants as place
use Rattle.atomic_step.specs.declared.access.Access.{Access}
use Rattle.atomic_step.specs.declared.access.Deed.TheVariants as deed
use Rattle.atomic_step.specs.declared.step.Edge.{Edge}
use Rattle.atomic_step.specs.declared.step.Edge.TheVariants as edge
use Rattle.atomic_step.specs.declared.step.Step.{Step}
use Rattle.atomic_step.specs.declared.step.Step.TheVariants as step

-- the word is loaded, or this number is stored there
abbrev pub IsLoadOf : Place → Access → Type 0
IsLoadOf p a = (a.place ≡ p) × (a.deed ≡ deed.Load)

abbrev pub Puts : Place → ℕ → Access → Type 0
Puts p number a = (a.place ≡ p) × (a.deed ≡ deed.Store number)

-- 0 for none, and otherwise the number plus 1
abbrev pub number_or_0 : Option ℕ → ℕ
number_or_0 None = 0
number_or_0 (Some number) = number + 1

-- an edge leads to a node: in a link it is written alone, and in a head beside the lock
abbrev pub LeadsOn : Edge → Option ℕ → Access → Type 0
LeadsOn (edge.Head row bucket) next a = Puts (place.Head row bucket) (4 * number_or_0 next + 1) a
LeadsOn (edge.Link slot) next a = Puts (place.Link slot) (number_or_0 next) a

-- the step is on the word that it names, and stores the number that it names
abbrev pub IsAsNamed : Step → Access → Type 0
IsAsNamed (step.LoadSection number) a = IsLoadOf (place.Section number) a
IsAsNamed (step.LoadHead row bucket) a = IsLoadOf (place.Head row bucket) a
IsAsNamed (step.LoadLink slot) a = IsLoadOf (place.Link slot) a
IsAsNamed (step.LoadMeta slot) a = IsLoadOf (place.Meta slot) a
IsAsNamed (step.LoadText slot at) a = IsLoadOf (place.Text slot at) a
IsAsNamed (step.LoadCount slot) a = IsLoadOf (place.Count slot) a
IsAsNamed (step.SeeEntry kind slot) a = IsLoadOf (place.Count slot) a
IsAsNamed (step.SeeHandle change h) a = IsLoadOf (place.Count h.slot) a
IsAsNamed (step.PutMeta slot meta) a = Puts (place.Meta slot) (65536 * meta.hash + meta.length) a
IsAsNamed (step.PutText slot at word) a = Puts (place.Text slot at) word a
IsAsNamed (step.PutLink slot next) a = Puts (place.Link slot) (number_or_0 next) a
IsAsNamed (step.PutCount h holds) a = Puts (place.Count h.slot) (65536 * h.generation + holds) a
IsAsNamed (step.PutNextGeneration slot generation) a = Puts (place.Count slot) (65536 * (generation + 1)) a
IsAsNamed (step.CreateEntry h row bucket head) a = a.place ≡ place.Head row bucket
IsAsNamed (step.UnlockHead row bucket first) a = Puts (place.Head row bucket) (4 * number_or_0 first) a
IsAsNamed (step.Unlink slot edge next) a = LeadsOn edge next a
IsAsNamed (step.PutHead row bucket first) a = Puts (place.Head row bucket) (4 * number_or_0 first + 1) a
IsAsNamed (step.PutNewLevel level) a = Puts place.NewLevel (number_or_0 level) a
IsAsNamed (step.RedirectHead row bucket first) a = Puts (place.Head row bucket) (4 * number_or_0 first + 3) a
IsAsNamed (step.MoveEdge edge next) a = LeadsOn edge next a
IsAsNamed (step.JoinChains slot next) a = Puts (place.Link slot) (number_or_0 next) a
IsAsNamed _ a = Unit {0}
