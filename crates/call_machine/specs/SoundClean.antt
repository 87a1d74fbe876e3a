-- What a clean on its way may be.
use Rattle.std.specs.Prelude.{◌≡◌, ℕ, ◌<◌, [], length}
use Rattle.table_shape.specs.declared.shape.Shape.{Shape}
use Rattle.atomic_step.specs.SoundStep.{IsSoundStep}
use Rattle.call_machine.specs.declared.clean.CleanAlong.{CleanAlong}
use Rattle.call_machine.specs.declared.clean.CleanStage.{CleanStage}
use Rattle.call_machine.specs.declared.clean.CleanStage.TheVariants.{LoadLevel, Lock, Pass, UnlockHead, Grace, Free, GiveResizeLock}
use Rattle.call_machine.specs.declared.pass.Cleaning.{Cleaning}
use Rattle.call_machine.specs.Clean.{clean_row}
use Rattle.call_machine.specs.SoundPass.{IsSoundCleaning, IsSoundPass, IsSoundFree}

-- what a stage has beside its step: room for one more slot where a bucket is cleaned, slots that wait where a grace is for them,
-- and none at the beginning and at the end
abbrev pub IsSoundAt : Cleaning → CleanStage → Type 0
IsSoundAt c LoadLevel = (c.bucket ≡ 0) × (c.waiting.items ≡ [])
IsSoundAt c (Lock s) = length c.waiting.items < 256
IsSoundAt c (Pass s) = IsSoundPass c s
IsSoundAt c UnlockHead = Unit {0}
IsSoundAt c (Grace freeing s) = 0 < length c.waiting.items
IsSoundAt c (Free freeing s) = IsSoundFree c s
IsSoundAt c GiveResizeLock = c.waiting.items ≡ []

-- a clean on its way: its next step may be made by a seat of any number
pub record IsSoundClean (shape : Shape) (w : CleanAlong) (s : CleanStage) : Type 0 where
  pub cleaning : IsSoundCleaning shape w.cleaning
  pub at : IsSoundAt w.cleaning s
  pub step : (seat : ℕ) → IsSoundStep shape seat (clean_row shape w s).step
