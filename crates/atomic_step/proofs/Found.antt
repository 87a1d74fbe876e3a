-- Of each step there is a word that it may find.
use Rattle.std.proofs.Common.{◌≡◌, ◌<◌, ◌+◌, ◌*◌, ◌^◌, ◌⊎◌, inl, inr, ℕ, refl}
use native.Mathlib.Omega.{arith}
use Rattle.table_shape.specs.declared.place.Place.{Place}
use Rattle.table_shape.specs.declared.place.Place.TheVariants as place
use Rattle.table_shape.specs.declared.shape.Shape.{Shape}
use Rattle.table_shape.specs.Shape.{IsSound}
use Rattle.atomic_step.specs.declared.answer.Answer.{Answer}
use Rattle.atomic_step.specs.declared.access.Deed.{Deed}
use Rattle.atomic_step.specs.declared.access.Deed.TheVariants as deed
use Rattle.atomic_step.specs.declared.count.Change.{Change}
use Rattle.intern_log.specs.declared.event.Handle.{Handle}
use Rattle.atomic_step.specs.declared.count.Change.TheVariants.{Kill}
use Rattle.atomic_step.specs.declared.plan.Plan.{Plan}
use Rattle.atomic_step.specs.declared.plan.Plan.TheVariants as plan
use Rattle.atomic_step.specs.declared.step.Step.{Step}
use Rattle.atomic_step.specs.declared.step.Step.TheVariants as step
use Rattle.atomic_step.specs.Found.{HasSoundHandle, HasSoundHandleIn}
use Rattle.atomic_step.specs.SoundStep.{CanStandAt, CanBeAt, CanBeFound, CanFollow, IsHeldCount}
use Rattle.atomic_step.specs.Step.{access_of}

-- a word of 64 bits of which this holds
abbrev pub HasWord : (ℕ → Type 0) → Type 0
HasWord P = (word : ℕ) × (word < 2 ^ 64) × P word

-- at each place one can stand: 0, except at the level and the new level
stands : (shape : Shape) (p : Place) → IsSound shape → HasWord (CanStandAt shape p)
stands shape place.Counter sound = (0, omega arith, (omega arith, omega arith))
stands shape place.Level sound = let some = sound.levels.0 in let most = sound.levels.1 in (shape.min_level, omega (arith, some, most), (omega arith, some))
stands shape place.NewLevel sound =
    let some = sound.levels.0 in let most = sound.levels.1 in (shape.min_level + 1, omega (arith, some, most), (omega arith, (omega arith, omega (arith, some))))
stands shape (place.Head row bucket) sound = (0, omega arith, omega arith)
stands shape (place.Link slot) sound = (0, omega arith, omega arith)
stands shape (place.Meta slot) sound = (0, omega arith, (omega arith, omega arith))
stands shape _ sound = (0, omega arith, tt)

can_be : (shape : Shape) (p : Place) (d : Deed) (word : ℕ) → CanStandAt shape p word → CanBeAt shape p d word
can_be shape p (deed.Store value) word is = tt
can_be shape p _ word is = is

-- the count of a handle that is held once
held : (change : Change) (h : Handle) → h.generation < 2 ^ 48 → HasWord (IsHeldCount h change)
held Kill h small = (0, omega arith, tt)
held _ h small = (h.generation * 65536 + 1, omega (arith, small), (omega arith, omega arith))

pub found : (shape : Shape) (s : Step) → IsSound shape → HasSoundHandle s → HasWord (CanBeFound shape s)
found shape (step.SeeHandle change h) sound small = let word = held change h small in (word.0, word.1, (tt, word.2))
found shape s sound small =
    let access = access_of s in
    let word = stands shape access.place sound in
    (word.0, word.1, (can_be shape access.place access.deed word.0 word.2, tt))

-- a machine has answered, or there is a word that it may be told
pub goes_on : (shape : Shape) (p : Plan) → IsSound shape → HasSoundHandleIn p → ((a : Answer) × (p ≡ plan.Answered a)) ⊎ HasWord (CanFollow shape p)
goes_on shape (plan.Answered a) sound small = inl (a, refl)
goes_on shape (plan.Step s) sound small = inr (found shape s sound small)
