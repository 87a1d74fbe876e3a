-- What a bucket that is cleaned may be.
use Rattle.std.specs.Prelude.{◌+◌, ◌^◌, ◌<◌, ◌≤◌, length, IfSome}
use Rattle.std.specs.List.{All}
use Rattle.table_shape.specs.declared.shape.Shape.{Shape}
use Rattle.atomic_step.specs.SoundStep.{IsLevel, IsNode}
use Rattle.call_machine.specs.declared.pass.Cleaning.{Cleaning}
use Rattle.call_machine.specs.declared.pass.FreeStage.{FreeStage}
use Rattle.call_machine.specs.declared.pass.FreeStage.TheVariants.{PutNextGeneration, FreeSlot}
use Rattle.call_machine.specs.declared.pass.PassStage.{PassStage}
use Rattle.call_machine.specs.declared.pass.PassStage.TheVariants.{LoadCount, LoadLink, Unlink}
use Rattle.call_machine.specs.declared.pass.Waiting.{Waiting}

-- a slot that may be freed: its generation can rise
abbrev pub MayWait : Shape → Waiting → Type 0
MayWait shape x = (x.slot < shape.slots) × (x.generation + 1 < 2 ^ 48)

pub record IsSoundCleaning (shape : Shape) (c : Cleaning) : Type 0 where
  pub level : IsLevel shape c.row
  pub bucket : c.bucket < 2 ^ c.row
  pub first : IsNode shape c.first
  pub last : IsNode shape c.last
  pub waiting : All (MayWait shape) c.waiting.items
  pub few : length c.waiting.items ≤ 256
  pub pass_waiting : c.pass_waiting ≤ length c.waiting.items

-- what each stage has beside its step: room for one more slot, and the generation of a dead node
abbrev pub HasSoundPass : PassStage → Type 0
HasSoundPass (LoadCount slot) = Unit {0}
HasSoundPass (LoadLink slot dead) = IfSome dead (λ g. g < 2 ^ 48)
HasSoundPass (Unlink slot g next) = g < 2 ^ 48

abbrev pub IsSoundPass : Cleaning → PassStage → Type 0
IsSoundPass c s = (length c.waiting.items < 256) × HasSoundPass s

-- the slot of the number waits
abbrev pub IsSoundFree : Cleaning → FreeStage → Type 0
IsSoundFree c (PutNextGeneration at) = at < length c.waiting.items
IsSoundFree c (FreeSlot at) = at < length c.waiting.items
