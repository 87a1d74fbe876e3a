-- Which heads a grow or a shrink has locked, each by its row and its bucket, the newest first.
use Rattle.std.specs.Prelude.{ℕ, ◌+◌, zero, suc, List, [], ◌∷◌}
use Rattle.call_machine.specs.declared.resize.AfterGrace.{AfterGrace}
use Rattle.call_machine.specs.declared.resize.AfterGrace.TheVariants as after
use Rattle.call_machine.specs.declared.resize.Direction.{Direction}
use Rattle.call_machine.specs.declared.resize.Direction.TheVariants.{Grow, Shrink}
use Rattle.call_machine.specs.declared.resize.ResizeAlong.{ResizeAlong}
use Rattle.call_machine.specs.declared.resize.ResizeStage.{ResizeStage}
use Rattle.call_machine.specs.declared.resize.ResizeStage.TheVariants.{PutNewLevel, Lock, PutHead, RedirectHead, Unzip, Join, UnlockHead, Grace, StoreLevel, ClearNewLevel, GiveResizeLock}
use Rattle.call_machine.specs.declared.resize.Side.TheVariants.{Even, Odd}
use Rattle.call_machine.specs.Resize.{end_level, half}

-- the first heads of a row, and its first pairs: they are redirected, and keep their lock marks
abbrev pub row_left : ℕ → ℕ → List (ℕ × ℕ)
row_left level zero = []
row_left level (suc n) = (level, n) ∷ row_left level n

abbrev pub pairs_left : ℕ → ℕ → ℕ → List (ℕ × ℕ)
pairs_left level apart zero = []
pairs_left level apart (suc n) = (level, n + apart) ∷ (level, n) ∷ pairs_left level apart n

-- the old heads of the pairs before one, those with its own, and all with its new heads
abbrev pub left_of : Direction → ℕ → ℕ → List (ℕ × ℕ)
left_of Grow level bucket = row_left level bucket
left_of Shrink level bucket = pairs_left level (half Shrink level) bucket

abbrev pub old_heads : Direction → ℕ → ℕ → List (ℕ × ℕ)
old_heads Grow level bucket = (level, bucket) ∷ left_of Grow level bucket
old_heads Shrink level bucket = (level, bucket + half Shrink level) ∷ (level, bucket) ∷ left_of Shrink level bucket

abbrev pub all_heads : Direction → ℕ → ℕ → List (ℕ × ℕ)
all_heads Grow level bucket = (end_level Grow level, bucket + half Grow level) ∷ (end_level Grow level, bucket) ∷ old_heads Grow level bucket
all_heads Shrink level bucket = (end_level Shrink level, bucket) ∷ old_heads Shrink level bucket

abbrev pub heads_waiting : Direction → ℕ → ℕ → AfterGrace → List (ℕ × ℕ)
heads_waiting d level bucket after.ClearNewLevel = old_heads d level bucket
heads_waiting d level bucket _ = all_heads d level bucket

-- the heads that are locked at a stage
abbrev pub locked_heads : Direction → ResizeAlong → ResizeStage → List (ℕ × ℕ)
locked_heads d w PutNewLevel = left_of d w.level w.bucket
locked_heads d w (Lock Even s) = left_of d w.level w.bucket
locked_heads d w (Lock Odd s) = (w.level, w.bucket) ∷ left_of d w.level w.bucket
locked_heads d w (PutHead Even) = old_heads d w.level w.bucket
locked_heads d w (PutHead Odd) = (end_level d w.level, w.bucket) ∷ old_heads d w.level w.bucket
locked_heads d w (RedirectHead side) = all_heads d w.level w.bucket
locked_heads d w (Unzip s) = all_heads d w.level w.bucket
locked_heads d w (Join s) = all_heads d w.level w.bucket
locked_heads d w (UnlockHead Even) = all_heads d w.level w.bucket
locked_heads d w (UnlockHead Odd) = (end_level d w.level, w.bucket + half d w.level) ∷ old_heads d w.level w.bucket
locked_heads d w (Grace then_do s) = heads_waiting d w.level w.bucket then_do
locked_heads d w StoreLevel = old_heads d w.level w.bucket
locked_heads d w ClearNewLevel = old_heads d w.level w.bucket
locked_heads d w GiveResizeLock = old_heads d w.level w.bucket
