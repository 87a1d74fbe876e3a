-- How works end that are waited for.
use Rattle.std.specs.Prelude.{◌≡◌, ℕ, ◌+◌, ◌-◌, ◌^◌, ◌≤◌, min, List, [], ◌∷◌, ◌++◌, Option, Some, None}
use Rattle.intern_log.specs.declared.event.Event.{Event}
use Rattle.intern_log.specs.declared.event.Handle.{Handle}
use Rattle.intern_log.specs.declared.event.What.{What}
use Rattle.intern_log.specs.declared.event.What.TheVariants as what
use Rattle.intern_log.specs.Log.{map_of}
use Rattle.intern_log.specs.Now.{Linked}
use Rattle.intern_log.specs.TextMap.{IsLive}
use Rattle.atomic_step.specs.declared.answer.Worked.{Worked}
use Rattle.atomic_step.specs.Monitor as monitor
use Rattle.atomic_step.specs.Monitor.{after_all}
use Rattle.call_machine.specs.declared.begin.Task.{Task}
use Rattle.call_machine.specs.declared.begin.Task.TheVariants as task
use Rattle.call_machine.specs.declared.resize.Direction.{Direction}
use Rattle.call_machine.specs.declared.resize.Direction.TheVariants.{Grow, Shrink}
use Rattle.call_machine.specs.declared.work.Work.{Work as Working}
use Rattle.call_machine.specs.Resize.{end_level}
use Rattle.call_machine.specs.ResizeLocks.{row_left, pairs_left}
use Rattle.call_machine.specs.WorkMonitor.{locked, counts, ends}
use Rattle.cht_core.specs.declared.table.Table.{Table}
use Rattle.cht_core.specs.Causes.{now_in, IsSpent}
use Rattle.cht_core.specs.Graces.{WorkedWithFew}
use Rattle.cht_core.specs.Passes.{IsUnlinkedIn}
use Rattle.cht_run.specs.declared.seat.Seat.{Seat}
use Rattle.cht_run.specs.declared.waits.Cleaned.{Cleaned}
use Rattle.cht_run.specs.declared.waits.Cleaned.TheVariants as cleaned
use Rattle.cht_run.specs.declared.waits.Finished.{Finished}
use Rattle.cht_run.specs.declared.waits.Finished.TheVariants as finished
use Rattle.cht_run.specs.declared.waits.Grown.{Grown}
use Rattle.cht_run.specs.declared.waits.Grown.TheVariants as grown
use Rattle.cht_run.specs.declared.waits.Shrunk.{Shrunk}
use Rattle.cht_run.specs.declared.waits.Shrunk.TheVariants as shrunk
use Rattle.cht_run.specs.Ended.{Ended, Only}
use Rattle.cht_run.specs.Ends.{HasNothing}
use Rattle.cht_run.specs.Graces.{IsUnspent}
use Rattle.cht_run.specs.Unlinks.{HasFreed, HasNoLock}
use Rattle.cht_run.specs.Works.{IsBound, WasLevel, WasSo, IsDone}

-- these events come in this order, each once, and nothing comes after the last of them
abbrev pub ends_last : List What → What → Option (List What)
ends_last [] e = None
ends_last (next ∷ to_come) e = ends (next ∷ to_come) e

-- what a clean that is done did after it took the resize lock: its Unlinks and its Graces are counted, up to 2^64 - 1; each bucket that it locked
-- it has unlocked before the next; it stored no level; and last of all it gave the resize lock back, once
pub record CleanDid (did : List What) (worked : Worked) : Type 0 where
  pub counts : after_all counts (Some (0, 0)) did ≡ Some (worked.unlinked, worked.graces)
  pub few : worked.graces ≤ worked.unlinked
  pub locks : after_all locked (Some None) did ≡ Some None
  pub ends : after_all ends_last (Some (what.ResizeGiven ∷ [])) did ≡ Some []

-- the heads of the row that a resize leaves; they stay locked
abbrev pub heads_left : Direction → ℕ → List (ℕ × ℕ)
heads_left Grow level = row_left level (2 ^ level)
heads_left Shrink level = pairs_left level (2 ^ (level - 1)) (2 ^ (level - 1))

-- how many graces a shrink has
abbrev pub HasGraces : Direction → ℕ → ℕ → Type 0
HasGraces Grow level graces = Unit {0}
HasGraces Shrink level graces = graces ≡ 2 ^ (level - 1) + 1

-- what a grow or a shrink that is done did from a level on: it stored the next level once, and last of all gave the resize lock back; its Graces are
-- counted, up to 2^64 - 1; and each head that it locked is unlocked, but those of the row that it left
pub record ResizeDid (d : Direction) (level : ℕ) (did : List What) (worked : Worked) : Type 0 where
  pub ends : after_all ends_last (Some (what.Level (end_level d level) ∷ what.ResizeGiven ∷ [])) did ≡ Some []
  pub level_is : worked.level ≡ end_level d level
  pub unlinked : worked.unlinked ≡ 0
  pub graces : ℕ
  pub counts : after_all monitor.graces (Some 0) did ≡ Some graces
  pub graces_is : worked.graces ≡ min graces 18446744073709551615
  pub graces_so : HasGraces d level graces
  pub locks : after_all monitor.locked (Some []) did ≡ Some (heads_left d level)

-- a work that its seat had unfinished is done
abbrev pub FinishesWork : Table → Working → Seat → Seat → Worked → Type 0
FinishesWork t state old new worked = HasNothing new × ((did : List What) × IsDone t state did worked new × Ended t old new (Only did) (λ seen window. Unit {0}))

-- each slot that was linked and whose entry was gone, as the seat had seen it, was unlinked in the window
abbrev pub UnlinksDead : Table → List Event → List Event → Type 0
UnlinksDead t seen window = (s : ℕ) (text : List ℕ) (h : Handle) (born : ℕ) → (now_in t seen).slot s ≡ Linked text h born → ¬ (IsLive (map_of seen) h) → IsUnlinkedIn s window

-- a grow has at most one grace more than there are Creates
abbrev pub HasFew : List Event → Worked → Type 0
HasFew log worked = WorkedWithFew log Grow worked

-- what a work that is done has found out by the window of its seat's call: a clean has unlinked what was dead, and freed what it unlinked
abbrev pub FinishedSo : Table → ℕ → Task → Worked → List Event → List Event → Type 0
FinishedSo t i task.Clean worked seen window = HasNoLock t (seen ++ window) i × UnlinksDead t seen window × HasFreed t (seen ++ window) i
FinishedSo t i task.Grow worked seen window = HasNoLock t (seen ++ window) i × HasFew (seen ++ window) worked
FinishedSo t i task.Shrink worked seen window = HasNoLock t (seen ++ window) i

-- how a call ends that waits for a work: it is done, or it was at its bound, or the counter is too great
abbrev pub DidSo : Task → ℕ → List What → Worked → Type 0
DidSo task.Clean level did worked = CleanDid did worked
DidSo task.Grow level did worked = ResizeDid Grow level did worked
DidSo task.Shrink level did worked = ResizeDid Shrink level did worked

abbrev pub Finishes : Table → Task → Seat → Seat → Finished → Type 0
Finishes t x old new (finished.Spent counter) = HasNothing new × Ended t old new (Only []) (λ seen window. IsSpent t seen window counter)
Finishes t x old new (finished.AtBound level) = HasNothing new × IsBound t x level × Ended t old new (Only (what.ResizeTaken ∷ what.ResizeGiven ∷ [])) (λ seen window. WasLevel t level seen window)
Finishes t x old new (finished.Done worked) = HasNothing new × ((level : ℕ) × ¬ (IsBound t x level)
    × ((did : List What) × DidSo x level did worked × Ended t old new (Only (what.ResizeTaken ∷ did)) (λ seen window. WasSo t x level seen window × FinishedSo t old.number x worked seen window)))

abbrev pub Cleans : Table → Seat → Seat → Cleaned → Type 0
Cleans t old new (cleaned.Spent counter) = HasNothing new × Ended t old new (Only []) (λ seen window. IsSpent t seen window counter)
Cleans t old new (cleaned.Done worked) = HasNothing new × ((did : List What) × CleanDid did worked × Ended t old new (Only (what.ResizeTaken ∷ did)) (λ seen window. IsUnspent t seen window × (HasNoLock t (seen ++ window) old.number × UnlinksDead t seen window × HasFreed t (seen ++ window) old.number)))

abbrev pub Grows : Table → Seat → Seat → Grown → Type 0
Grows t old new (grown.Spent counter) = HasNothing new × Ended t old new (Only []) (λ seen window. IsSpent t seen window counter)
Grows t old new (grown.AtMaximum level) =
    HasNothing new × (level ≡ t.shape.max_level) × Ended t old new (Only (what.ResizeTaken ∷ what.ResizeGiven ∷ [])) (λ seen window. WasLevel t level seen window)
Grows t old new (grown.Done worked) = HasNothing new × ((level : ℕ) × ¬ (level ≡ t.shape.max_level)
    × ((did : List What) × ResizeDid Grow level did worked × Ended t old new (Only (what.ResizeTaken ∷ did)) (λ seen window. WasLevel t level seen window × (HasNoLock t (seen ++ window) old.number × HasFew (seen ++ window) worked))))

abbrev pub Shrinks : Table → Seat → Seat → Shrunk → Type 0
Shrinks t old new (shrunk.Spent counter) = HasNothing new × Ended t old new (Only []) (λ seen window. IsSpent t seen window counter)
Shrinks t old new (shrunk.AtMinimum level) =
    HasNothing new × (level ≡ t.shape.min_level) × Ended t old new (Only (what.ResizeTaken ∷ what.ResizeGiven ∷ [])) (λ seen window. WasLevel t level seen window)
Shrinks t old new (shrunk.Done worked) = HasNothing new × ((level : ℕ) × ¬ (level ≡ t.shape.min_level)
    × ((did : List What) × ResizeDid Shrink level did worked × Ended t old new (Only (what.ResizeTaken ∷ did)) (λ seen window. WasLevel t level seen window × HasNoLock t (seen ++ window) old.number)))
