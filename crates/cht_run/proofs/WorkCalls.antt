-- How the calls end that are to begin a work.
use Rattle.std.proofs.Common.{◌≡◌, ℕ, List, [], ◌∷◌, Some, None, refl, sym, ap, subst, ◌∙◌}
use Rattle.std.specs.Prelude.{IfSome}
use Rattle.intern_log.specs.declared.event.Event.{Event}
use Rattle.intern_log.specs.declared.event.What.TheVariants as what
use Rattle.atomic_step.specs.declared.answer.Answer.TheVariants as answer
use Rattle.call_machine.specs.declared.begin.BeginStage.TheVariants as begin
use Rattle.call_machine.specs.declared.begin.Left.{Left}
use Rattle.call_machine.specs.declared.begin.Left.TheVariants as left
use Rattle.call_machine.specs.declared.begin.Task.{Task}
use Rattle.call_machine.specs.declared.begin.Task.TheVariants as task
use Rattle.call_machine.specs.declared.call.Call.{Call}
use Rattle.call_machine.specs.declared.machine.Own.{Own}
use Rattle.call_machine.specs.declared.resize.Direction.{Direction}
use Rattle.call_machine.specs.declared.resize.Direction.TheVariants.{Grow, Shrink}
use Rattle.call_machine.specs.Machine.{grace_left}
use Rattle.call_machine.specs.Begin.{answers, begun}
use Rattle.call_machine.specs.Work.{begun_work, IsSoundWork}
use Rattle.cht_core.specs.declared.table.Table.{Table}
use Rattle.cht_core.specs.Causes.{IsSpent, IsBusy}
use Rattle.cht_core.specs.Windows.{Somewhere, whats_by}
use Rattle.cht_run.specs.declared.seat.Seat.{Seat}
use Rattle.cht_run.specs.declared.sight.Origin.{Origin}
use Rattle.cht_run.specs.declared.table.Cht.{Cht}
use Rattle.cht_run.specs.declared.works.Tried.TheVariants as tried
use Rattle.cht_run.specs.declared.work.Work.{Work}
use Rattle.cht_run.specs.declared.sight.Sight.{Sight}
use Rattle.cht_run.specs.Beginnings.{begins_at, at_bound}
use Rattle.cht_run.specs.Begins.{first_of, caller_in}
use Rattle.cht_run.specs.History.{log_of}
use Rattle.cht_run.specs.Runs.{Ran}
use Rattle.cht_run.specs.Seats.{sight, seen, IsOf}
use Rattle.cht_run.specs.Works.{IsRefused, WasLevel, begin_call, IsBound, left_by, WasSo, BeginsWork}
use Rattle.cht_run.proofs.Begun.{Ends, at}
use Rattle.cht_run.proofs.GraceCalls.{ends, ended, own_left, new_origin, sound_left, leaves_nothing}
use Rattle.cht_run.proofs.Goes.{went_answered}

-- a work of a task has begun
pub record Began (t : Table) (i : ℕ) (x : Task) (seen window : List Event) (l : Left) : Type 0 where
  pub level : ℕ
  pub is : l ≡ left_by x level
  pub so : WasSo t x level seen window
  pub not_bound : ¬ (IsBound t x level)
  pub did : whats_by i window ≡ what.ResizeTaken ∷ []

some_same : {A : Type 0} (a b : A) → Some a ≡ Some b → a ≡ b
some_same a b same = cc

began : (t : Table) (i : ℕ) (x : Task) (seen window : List Event) (l : Left) → Ends t i (Some x) seen window answer.Begun l → Began t i x seen window l
began t i x seen window left.Nothing e = absurd e
began t i x seen window (left.Grace g) e = absurd (cc)
began t i x seen window left.Clean (is, low, did) = subst (λ y. Began t i y seen window left.Clean) (sym (some_same x task.Clean is)) (record { level = 0; is = refl; so = low; not_bound = λ never. never; did = did })
began t i x seen window (left.Resize Grow level) (is, low, was, differ, did) =
    subst (λ y. Began t i y seen window (left.Resize Grow level)) (sym (some_same x task.Grow is)) (record { level = level; is = refl; so = (low, was); not_bound = differ; did = did })
began t i x seen window (left.Resize Shrink level) (is, low, was, differ, did) =
    subst (λ y. Began t i y seen window (left.Resize Shrink level)) (sym (some_same x task.Shrink is)) (record { level = level; is = refl; so = (low, was); not_bound = differ; did = did })

-- it leaves no grace
no_grace_left : (x : Task) (level : ℕ) → grace_left (left_by x level) ≡ None
no_grace_left task.Clean level = refl
no_grace_left task.Grow level = refl
no_grace_left task.Shrink level = refl

-- the call of a task loads the counter first
pub begins_so : (b : Sight) (x : Task) → first_of b (begin_call x) ≡ at (caller_in b) (begin.LoadCounter (Some x))
begins_so b task.Clean = refl
begins_so b task.Grow = refl
begins_so b task.Shrink = refl

module _ (cht : Cht) (old new : Seat) (x : Task) (of : IsOf cht old) where
  abbrev t : Table
  t = cht.origin.table

  abbrev c : Call
  c = begin_call x

  abbrev first : first_of (sight old) (begin_call x) ≡ at (caller_in (sight old)) (begin.LoadCounter (Some x))
  first = begins_so (sight old) x

  pub work_spent : (counter : ℕ) → Ran (sight old) c (sight new) (begins_at (sight old) (answers (answer.Spent counter))) → BeginsWork t x old new (tried.Spent counter)
  work_spent counter ran =
      let (none, spent, did) = ends cht old new c (answer.Spent counter) left.Nothing of ran (Some x) first in
      (leaves_nothing cht old new c (answer.Spent counter) left.Nothing of ran none, ended cht old new c _ of ran [] (λ seen window. IsSpent t seen window counter) did spent)

  -- another seat has the resize lock
  pub work_busy : Ran (sight old) c (sight new) (begins_at (sight old) (answers answer.Busy)) → BeginsWork t x old new tried.Busy
  work_busy ran =
      let (none, some, low, did) = ends cht old new c answer.Busy left.Nothing of ran (Some x) first in
      let cause = went_answered (sight old) c (sight new) (begins_at (sight old) (answers answer.Busy)) answer.Busy ran.went refl in
      let busy = subst (λ (z : Origin × ℕ). Somewhere (IsBusy z.0.table z.1) (seen old) (log_of ran.went.window)) (λ i. (of.origin i, sym old.named i)) cause.1 in
      (leaves_nothing cht old new c answer.Busy left.Nothing of ran none, ended cht old new c _ of ran [] (λ seen window. IsRefused t old.number seen window) did (low, busy))

  pub work_at_bound : (d : Direction) (level : ℕ) → Ran (sight old) c (sight new) (begins_at (sight old) (answers (at_bound d level))) → BeginsWork t x old new (tried.AtBound level)
  work_at_bound Grow level ran =
      let (none, some, low, was, bound, did) = ends cht old new c (answer.AtMaximum level) left.Nothing of ran (Some x) first in (
        leaves_nothing cht old new c (answer.AtMaximum level) left.Nothing of ran none,
        subst (λ y. IsBound t y level) (sym (some_same x task.Grow some)) bound,
        ended cht old new c _ of ran (what.ResizeTaken ∷ what.ResizeGiven ∷ []) (λ seen window. WasLevel t level seen window) did (low, was),
      )
  work_at_bound Shrink level ran =
      let (none, some, low, was, bound, did) = ends cht old new c (answer.AtMinimum level) left.Nothing of ran (Some x) first in (
        leaves_nothing cht old new c (answer.AtMinimum level) left.Nothing of ran none,
        subst (λ y. IsBound t y level) (sym (some_same x task.Shrink some)) bound,
        ended cht old new c _ of ran (what.ResizeTaken ∷ what.ResizeGiven ∷ []) (λ seen window. WasLevel t level seen window) did (low, was),
      )

  pub work_begun : (l : Left) (begun_as : Work) → begun_work t.shape l ≡ Some begun_as.state → Ran (sight old) c (sight new) (begins_at (sight old) (begun l)) → BeginsWork t x old new (tried.Begun begun_as)
  work_begun l begun_as is ran =
      let b = began t old.number x (seen old) (log_of ran.went.window) l (ends cht old new c answer.Begun l of ran (Some x) first) in
      let left_is = own_left cht old new c _ of ran in
      let work_is : begun_work (sight old).origin.table.shape l ≡ Some begun_as.state = ap (λ (o : Origin). begun_work o.table.shape l) of.origin ∙ is in (
        b.level,
        (
          begun_as.state,
          ap (begun_work t.shape) (sym b.is) ∙ is,
          record {
            unfinished = ap (λ (o : Own). o.work) left_is ∙ work_is;
            no_grace = ap (λ (o : Own). o.grace) left_is ∙ ap grace_left b.is ∙ no_grace_left x b.level;
            is = refl;
            sound = subst (λ (o : Origin). IsSoundWork o.table.shape begun_as.state) (sym (new_origin cht old new c _ of ran))
                (subst (λ w. IfSome w (IsSoundWork t.shape)) work_is (sound_left cht old new c answer.Begun l of ran).1);
          },
        ),
        b.not_bound,
        ended cht old new c _ of ran (what.ResizeTaken ∷ []) (λ seen window. WasSo t x b.level seen window) b.did b.so,
      )
