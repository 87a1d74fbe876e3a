-- What a grow or a shrink on its way may be.
use Rattle.std.specs.Prelude.{◌≡◌, ℕ, ◌+◌, ◌<◌, ◌≤◌}
use Rattle.table_shape.specs.declared.shape.Shape.{Shape}
use Rattle.atomic_step.specs.SoundStep.{IsNode, IsSoundStep}
use Rattle.call_machine.specs.declared.resize.AfterGrace.{AfterGrace}
use Rattle.call_machine.specs.declared.resize.AfterGrace.TheVariants as after
use Rattle.call_machine.specs.declared.resize.Chain.{Chain}
use Rattle.call_machine.specs.declared.resize.Direction.{Direction}
use Rattle.call_machine.specs.declared.resize.Direction.TheVariants.{Grow, Shrink}
use Rattle.call_machine.specs.declared.resize.ResizeAlong.{ResizeAlong}
use Rattle.call_machine.specs.declared.resize.ResizeStage.{ResizeStage}
use Rattle.call_machine.specs.declared.resize.ResizeStage.TheVariants.{PutNewLevel, Lock, PutHead, RedirectHead, Unzip, Join, UnlockHead, Grace, StoreLevel, ClearNewLevel, GiveResizeLock}
use Rattle.call_machine.specs.declared.resize.Side.{Side}
use Rattle.call_machine.specs.declared.resize.Side.TheVariants.{Even, Odd}
use Rattle.call_machine.specs.declared.resize.UnzipStage.{UnzipStage}
use Rattle.call_machine.specs.declared.resize.UnzipStage.TheVariants as unzip
use Rattle.call_machine.specs.Resize.{half, resize_row}

-- the level is of the table, and so is the one above for a grow and the one below for a shrink
abbrev pub LeadsToLevel : Shape → Direction → ℕ → Type 0
LeadsToLevel shape Grow level = (shape.min_level ≤ level) × (level < shape.max_level)
LeadsToLevel shape Shrink level = (shape.min_level < level) × (level ≤ shape.max_level)

abbrev pub IsSoundChain : Shape → Chain → Type 0
IsSoundChain shape chain = IsNode shape chain.first × IsNode shape chain.last

-- what goes along: a lower bucket of a pair, and nodes of the table
pub record IsSoundResizing (shape : Shape) (d : Direction) (w : ResizeAlong) : Type 0 where
  pub level : LeadsToLevel shape d w.level
  pub bucket : w.bucket < half d w.level
  pub even : IsSoundChain shape w.chains.even
  pub odd : IsSoundChain shape w.chains.odd
  pub rest : IsNode shape w.rest

-- a grow has the odd side in the row that it makes, and a shrink in the row that it leaves
abbrev pub IsGrow : Direction → Type 0
IsGrow Grow = Unit {0}
IsGrow Shrink = ⊥

abbrev pub IsShrink : Direction → Type 0
IsShrink Grow = ⊥
IsShrink Shrink = Unit {0}

abbrev pub HasNewSide : Direction → Side → Type 0
HasNewSide d Even = Unit {0}
HasNewSide d Odd = IsGrow d

abbrev pub HasOldSide : Direction → Side → Type 0
HasOldSide d Even = Unit {0}
HasOldSide d Odd = IsShrink d

-- a node that is unzipped is one of the table also where its step is on another
abbrev pub HasSoundNode : Shape → UnzipStage → Type 0
HasSoundNode shape (unzip.MoveEdge x side next) = x < shape.slots
HasSoundNode shape _ = Unit {0}

-- the pair is the last one
abbrev pub IsAtLast : Direction → ResizeAlong → Type 0
IsAtLast d w = w.bucket + 1 ≡ half d w.level

abbrev pub IsSoundAfter : Direction → ResizeAlong → AfterGrace → Type 0
IsSoundAfter d w after.Unzip = IsGrow d
IsSoundAfter d w after.UnlockHead = IsShrink d
IsSoundAfter d w after.ClearNewLevel = IsAtLast d w

-- what a stage has beside its step: it is one of a grow or of a shrink, and the level comes after the last pair
abbrev pub IsSoundAt : Shape → Direction → ResizeAlong → ResizeStage → Type 0
IsSoundAt shape d w PutNewLevel = w.bucket ≡ 0
IsSoundAt shape d w (Lock side s) = HasOldSide d side
IsSoundAt shape d w (PutHead side) = HasNewSide d side
IsSoundAt shape d w (RedirectHead side) = HasOldSide d side
IsSoundAt shape d w (Unzip s) = IsGrow d × HasSoundNode shape s
IsSoundAt shape d w (Join s) = IsShrink d
IsSoundAt shape d w (UnlockHead side) = HasNewSide d side
IsSoundAt shape d w (Grace then_do s) = IsSoundAfter d w then_do
IsSoundAt shape d w StoreLevel = IsAtLast d w
IsSoundAt shape d w ClearNewLevel = IsAtLast d w
IsSoundAt shape d w GiveResizeLock = IsAtLast d w

-- a grow or a shrink on its way: its next step may be made by a seat of any number
pub record IsSoundResize (shape : Shape) (d : Direction) (w : ResizeAlong) (s : ResizeStage) : Type 0 where
  pub along : IsSoundResizing shape d w
  pub at : IsSoundAt shape d w s
  pub step : (seat : ℕ) → IsSoundStep shape seat (resize_row shape d w s).step
