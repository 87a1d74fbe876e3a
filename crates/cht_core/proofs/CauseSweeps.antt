-- What a sweep has found out of its window, by each word that it finds.
use Rattle.std.proofs.Common.{ℕ, ◌^◌, nat_le, List, [], ◌∷◌, ◌++◌, Option, Some, None}
use Rattle.marked_word.specs.Head.{is_locked}
use Rattle.intern_log.specs.declared.event.Event.{Event}
use Rattle.atomic_step.specs.declared.answer.Answer.TheVariants as answer
use Rattle.atomic_step.proofs.Choices.{where_it_is, either_way}
use Rattle.call_machine.specs.declared.find.FindStage.{FindStage}
use Rattle.call_machine.specs.declared.grace.Gracing.{Gracing}
use Rattle.call_machine.specs.declared.grace.Gracing.TheVariants as gracing
use Rattle.call_machine.specs.declared.lock.Locking.{Locking}
use Rattle.call_machine.specs.declared.lock.Locking.TheVariants as locking
use Rattle.call_machine.specs.declared.lock.LockStage.TheVariants.{LockHead}
use Rattle.call_machine.specs.Lock.{lock_row}
use Rattle.call_machine.specs.Find.{find_row}
use Rattle.call_machine.specs.Grace.{grace_row}
use Rattle.call_machine.specs.Pass.{pass_row, free_row, passes_on}
use Rattle.call_machine.specs.declared.pass.Cleaning.{Cleaning}
use Rattle.call_machine.specs.declared.pass.FreeStage.{FreeStage}
use Rattle.call_machine.specs.declared.pass.PassStage.{PassStage}
use Rattle.call_machine.specs.declared.pass.Waiting.{Waiting}
use Rattle.call_machine.specs.declared.sweep.Closing.{Closing}
use Rattle.call_machine.specs.declared.sweep.Closing.TheVariants as closing
use Rattle.call_machine.specs.declared.sweep.SweepAlong.{SweepAlong}
use Rattle.call_machine.specs.declared.sweep.SweepAsked.{SweepAsked}
use Rattle.call_machine.specs.declared.sweep.SweepStage.{SweepStage}
use Rattle.call_machine.specs.declared.sweep.SweepStage.TheVariants as sweep
use Rattle.call_machine.specs.Sweep.{plan_at, next_at, finds_anew, finds_on, locks_on, cleans_on, closed, unlocked, graces_on, frees_on}
use Rattle.cht_core.specs.declared.table.Table.{Table}
use Rattle.cht_core.specs.Flow.{Flow}
use Rattle.cht_core.specs.Past.{past_of}
use Rattle.cht_core.specs.Causes.{PlanSays, SweepCaused}
use Rattle.cht_core.proofs.CauseSteps.{spent_now}

module _ (t : Table) (i : ℕ) (seen window : List Event) where
  finding : (head : ℕ) (s : Option FindStage) → SweepCaused t seen window (finds_on head s)
  finding head None = either_way (SweepCaused t seen window) (is_locked head) (sweep.Close closing.Again) sweep.Lock tt tt
  finding head (Some s) = tt

  locking_on : (w : SweepAlong) (l : Locking) → SweepCaused t seen window (locks_on w l).1
  locking_on w (locking.Locked first) = tt
  locking_on w (locking.Goes s) = tt
  locking_on w locking.Waits = tt

  cleaning : (s : Option PassStage) → SweepCaused t seen window (cleans_on s)
  cleaning None = tt
  cleaning (Some s) = tt

  closing_on : (c : Cleaning) (why : Closing) → SweepCaused t seen window (closed c why)
  closing_on c closing.Again = tt
  closing_on c closing.Clean = cleaning (passes_on c.first)

  unlocking : (c : Cleaning) (xs : List Waiting) → SweepCaused t seen window (unlocked c xs)
  unlocking c [] = tt
  unlocking c (x ∷ xs) = tt

  gracing_on : (g : Gracing) → SweepCaused t seen window (graces_on g)
  gracing_on gracing.Over = tt
  gracing_on gracing.Goes = tt
  gracing_on gracing.Waits = tt

  freeing : (c : Cleaning) (s : Option FreeStage) → SweepCaused t seen window (frees_on c s)
  freeing c None = tt
  freeing c (Some s) = tt

  -- by a word that is found
  pub sweep_found : (f : Flow) (q : SweepAsked) (w : SweepAlong) (s : SweepStage) (word : ℕ) → SweepCaused t seen window s →
      PlanSays t (past_of t.shape.min_level (seen ++ window)) f (plan_at q w s) word → SweepCaused t seen window (next_at q w s word).1
  sweep_found f q w (sweep.Answered a) word h says = h
  sweep_found f q w sweep.Check word h says =
      where_it_is (SweepCaused t seen window) (nat_le (2 ^ 48) word) (sweep.Answered (answer.Spent word)) finds_anew (λ great. spent_now t i seen window word says great) (λ small. tt)
  sweep_found f q w (sweep.Find s) word h says = let at = (find_row q.caller.number q.hash w.walk s).next word in finding at.0.head at.1
  sweep_found f q w sweep.Lock word h says = locking_on w ((lock_row w.walk.row w.walk.bucket (LockHead w.walk.head)).next word)
  sweep_found f q w (sweep.Close why) word h says = closing_on w.cleaning why
  sweep_found f q w (sweep.Pass s) word h says = cleaning ((pass_row w.cleaning s).next word).1
  sweep_found f q w sweep.UnlockHead word h says = unlocking w.cleaning w.cleaning.waiting.items
  sweep_found f q w (sweep.Grace s) word h says = gracing_on ((grace_row q.caller.shape.seats w.grace s).next word).1
  sweep_found f q w (sweep.Free s) word h says = let came = (free_row w.cleaning s).next word in freeing came.0 came.1
