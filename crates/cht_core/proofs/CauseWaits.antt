-- What a call has found out of its window stays so as the window grows.
use Rattle.std.proofs.Common.{◌≡◌, ℕ, ◌+◌, ◌*◌, List, [], ◌++◌, Option, Some, None, inl, inr}
use Rattle.intern_log.specs.declared.event.Event.{Event}
use Rattle.atomic_step.specs.declared.answer.Answer.{Answer}
use Rattle.atomic_step.specs.declared.answer.Answer.TheVariants as answer
use Rattle.call_machine.specs.declared.begin.BeginStage.{BeginStage}
use Rattle.call_machine.specs.declared.begin.BeginStage.TheVariants as begin
use Rattle.call_machine.specs.declared.begin.Left.{Left}
use Rattle.call_machine.specs.declared.begin.Left.TheVariants as left
use Rattle.call_machine.specs.declared.clean.CleanAlong.{CleanAlong}
use Rattle.call_machine.specs.declared.clean.CleanStage.{CleanStage}
use Rattle.call_machine.specs.declared.resize.ResizeAlong.{ResizeAlong}
use Rattle.call_machine.specs.declared.resize.ResizeStage.{ResizeStage}
use Rattle.call_machine.specs.declared.work.Work.{Work}
use Rattle.call_machine.specs.declared.work.Work.TheVariants as work
use Rattle.call_machine.specs.declared.sweep.SweepStage.{SweepStage}
use Rattle.call_machine.specs.declared.sweep.SweepStage.TheVariants as sweep
use Rattle.cht_core.specs.declared.table.Table.{Table}
use Rattle.cht_core.specs.Causes.{now_in, IsSpent, IsBusy, IsOpenBelow, BeginEnds, BeginCaused, SweepCaused, IsAtLevel, IsLockedByOther, IsOnBucket, WorkEnds, CleanCaused, ResizeCaused, PollCaused}
use Rattle.cht_core.specs.Windows.{whats_by}
use Rattle.cht_core.proofs.CausePasses.{keeps_waits, unlinked_on}
use Rattle.cht_core.proofs.Windows.{somewhere_on, another_on}

module _ (t : Table) (i : ℕ) (seen window more : List Event) where
  spent_on : (counter : ℕ) → IsSpent t seen window counter → IsSpent t seen (window ++ more) counter
  spent_on counter h = (somewhere_on seen window (λ log. counter ≡ t.first_counter + 2 * (now_in t log).graces) more h.0, h.1)

  begin_ends_on : (a : Answer) (l : Left) → BeginEnds t i seen window a l → BeginEnds t i seen (window ++ more) a l
  begin_ends_on (answer.Spent counter) l h = spent_on counter h
  begin_ends_on answer.Busy l h = somewhere_on seen window (IsBusy t i) more h
  begin_ends_on (answer.AtMaximum level) l h = (somewhere_on seen window (IsAtLevel t level) more h.0, h.1)
  begin_ends_on (answer.AtMinimum level) l h = (somewhere_on seen window (IsAtLevel t level) more h.0, h.1)
  begin_ends_on (answer.PendingSeat number) (left.Grace g) h = somewhere_on seen window (IsOpenBelow t number g.raised) more h
  begin_ends_on (answer.PendingSeat number) _ h = absurd h
  begin_ends_on _ l h = tt

  -- of a call that begins a work or a grace, or polls a grace
  pub begin_on : (s : BeginStage) → BeginCaused t i seen window s → BeginCaused t i seen (window ++ more) s
  begin_on (begin.Answered a l) h = begin_ends_on a l h
  begin_on (begin.GiveResizeLock a) h = begin_ends_on a left.Nothing h
  begin_on _ h = tt

  -- of a sweep
  pub sweep_on : (s : SweepStage) → SweepCaused t seen window s → SweepCaused t seen (window ++ more) s
  sweep_on (sweep.Answered (answer.Spent counter)) h = spent_on counter h
  sweep_on _ h = tt

  -- of a poll of a work that has answered
  pub work_ends_on : (raised : ℕ) (a : Answer) → WorkEnds t i seen window raised a → WorkEnds t i seen (window ++ more) raised a
  work_ends_on raised (answer.PendingSeat number) h = elim h [
    | inl waits ↦ inl (somewhere_on seen window (IsOpenBelow t number raised) more waits)
    | inr great ↦ inr great
  ]
  work_ends_on raised (answer.PendingBucket row bucket) h = elim h [
    | inl locked ↦ inl (somewhere_on seen window (IsLockedByOther t i row bucket) more locked)
    | inr moved ↦ inr (another_on seen window i (IsOnBucket t row bucket) more moved)
  ]
  work_ends_on raised _ h = tt

  clean_on : (load : ℕ) (w : CleanAlong) (s : CleanStage) (a : Option Answer) → whats_by i more ≡ [] → CleanCaused t i seen window load w s a → CleanCaused t i seen (window ++ more) load w s a
  clean_on load w s (Some a) none h = work_ends_on w.grace.raised a h
  clean_on load w s None none h = (keeps_waits t i seen window more none h.0, unlinked_on t i seen window w s more h.1, h.2)

  resize_on : (load : ℕ) (w : ResizeAlong) (s : ResizeStage) (a : Option Answer) → ResizeCaused t i seen window load w s a → ResizeCaused t i seen (window ++ more) load w s a
  resize_on load w s (Some a) h = work_ends_on w.grace.raised a h
  resize_on load w s None h = h

  -- of a poll of a work, by events of others
  pub poll_on : (load : ℕ) (w : Work) (a : Option Answer) → whats_by i more ≡ [] → PollCaused t i seen window load w a → PollCaused t i seen (window ++ more) load w a
  poll_on load (work.Clean c) a none h = clean_on load c.along c.stage a none h
  poll_on load (work.Resize r) a none h = resize_on load r.along r.stage a h
