-- The giving back of the resize lock is the last event of a work.
use Rattle.std.proofs.Common.{◌≡◌, ℕ, true, false, List, [], ◌∷◌, Option, Some, None, refl, sym, ap, ◌∙◌}
use Rattle.table_shape.specs.declared.shape.Shape.{Shape}
use Rattle.table_shape.specs.Shape.{IsSound}
use Rattle.intern_log.specs.declared.event.What.{What}
use Rattle.intern_log.specs.declared.event.What.TheVariants as what
use Rattle.atomic_step.specs.declared.answer.Answer.{Answer}
use Rattle.atomic_step.specs.declared.answer.Answer.TheVariants as answer
use Rattle.atomic_step.specs.declared.answer.Worked.{Worked}
use Rattle.atomic_step.specs.Event.{event_of}
use Rattle.atomic_step.specs.Monitor.{after_one, after_all}
use Rattle.atomic_step.specs.Run.{AreFitting, after_words, events_of_words}
use Rattle.atomic_step.specs.SoundStep.{IsLevel, CanBeFound}
use Rattle.atomic_step.proofs.Runs.{follows}
use Rattle.call_machine.specs.declared.clean.CleanAlong.{CleanAlong}
use Rattle.call_machine.specs.declared.clean.CleanStage.{CleanStage}
use Rattle.call_machine.specs.declared.clean.CleanStage.TheVariants as clean
use Rattle.call_machine.specs.declared.grace.GraceStage.TheVariants.{RaiseCounter}
use Rattle.call_machine.specs.declared.resize.AfterGrace.TheVariants as after
use Rattle.call_machine.specs.declared.resize.Direction.{Direction}
use Rattle.call_machine.specs.declared.resize.ResizeAlong.{ResizeAlong}
use Rattle.call_machine.specs.declared.resize.ResizeStage.{ResizeStage}
use Rattle.call_machine.specs.declared.resize.ResizeStage.TheVariants as stage
use Rattle.call_machine.specs.Clean.{Went, clean_row, resumed}
use Rattle.call_machine.specs.Resize.{end_level, resize_row}
use Rattle.call_machine.specs.ResizeRuns as resize
use Rattle.call_machine.specs.ResizeRuns.{is_done, IsRun, ends_at, events_of_run, ending_at, end_to_come}
use Rattle.call_machine.specs.SoundResize.{IsSoundResize}
use Rattle.call_machine.specs.WholeClean as whole
use Rattle.call_machine.specs.WholeClean.{polled_on, to_come}
use Rattle.call_machine.specs.WorkMonitor.{ends}
use Rattle.call_machine.proofs.CleanFollows.{follow_step, held}
use Rattle.call_machine.proofs.ResizeEnds.{tally}
use Rattle.call_machine.proofs.ResizeRuns.{runs_on}
use Rattle.call_machine.proofs.SoundResize.{begins_soundly}
use Rattle.call_machine.proofs.WholeClean.{Keeps, got_keeps, begins}
use Rattle.cht_run.specs.Waits.{ends_last}

-- where something is still to come, nothing is lost by asking more
same_end : (x : What) (rest : List What) (e : Option What) → after_one ends_last (x ∷ rest) e ≡ after_one ends (x ∷ rest) e
same_end x rest None = refl
same_end x rest (Some e) = refl

-- A CLEAN

resumed_to_come : (w : CleanAlong) (s : CleanStage) → to_come (resumed w s) ≡ what.ResizeGiven ∷ []
resumed_to_come w (clean.Grace freeing RaiseCounter) = held w.grace.raised
resumed_to_come w _ = refl

same_to_come : (w : CleanAlong) (s : CleanStage) (a : Option Answer) → to_come (polled_on w s a).2 ≡ to_come a
same_to_come w s None = refl
same_to_come w s (Some (answer.PendingSeat seat)) = resumed_to_come w s
same_to_come w s (Some (answer.PendingBucket row bucket)) = resumed_to_come w s
same_to_come w s (Some _) = refl

pub clean_ends_last : (shape : Shape) (level : ℕ) (words : List ℕ) (did : Worked) → IsSound shape → IsLevel shape level → AreFitting (whole.cleans shape) (whole.begun level) words →
    (after_words (whole.cleans shape) (whole.begun level) words).2 ≡ Some (answer.Done did) →
    after_all ends_last (Some (what.ResizeGiven ∷ [])) (events_of_words (whole.cleans shape) (whole.begun level) words) ≡ Some []
clean_ends_last shape level words did table is fits done =
    follows (whole.cleans shape) ends_last (λ (c : Went). to_come c.2) (Keeps shape) (got_keeps shape table) (λ c word so fits. go c.0 c.1 c.2 word so fits) (whole.begun level) words (begins shape level is) fits
    ∙ ap (λ a. Some (to_come a)) done
  where
    go : (w : CleanAlong) (s : CleanStage) (a : Option Answer) (word : ℕ) → Keeps shape (w, s, a) → whole.FitsClean shape (w, s, a) word →
        after_one ends_last (to_come a) ((whole.cleans shape).event (w, s, a) word) ≡ Some (to_come ((whole.cleans shape).got (w, s, a) word).2)
    go w s None word so fits =
        let next = (clean_row shape w s).next word in
        same_end what.ResizeGiven [] (event_of [] (clean_row shape w s).step word) ∙ (follow_step shape w s word so.0.at).2 ∙ ap Some (sym (same_to_come next.0 next.1 next.2))
    go w s (Some a) word so fits = absurd fits.1

-- A GROW OR A SHRINK

-- before it is done something is to come
ends_as : (d : Direction) (w : ResizeAlong) (s : ResizeStage) (e : Option What) → after_one ends_last (ending_at d w s) e ≡ after_one ends (ending_at d w s) e
ends_as d w (stage.Grace after.ClearNewLevel s) e = same_end what.ResizeGiven [] e
ends_as d w (stage.Grace after.Unzip s) e = same_end (what.Level (end_level d w.level)) (what.ResizeGiven ∷ []) e
ends_as d w (stage.Grace after.UnlockHead s) e = same_end (what.Level (end_level d w.level)) (what.ResizeGiven ∷ []) e
ends_as d w stage.ClearNewLevel e = same_end what.ResizeGiven [] e
ends_as d w stage.GiveResizeLock e = same_end what.ResizeGiven [] e
ends_as d w _ e = same_end (what.Level (end_level d w.level)) (what.ResizeGiven ∷ []) e

pub resize_ends_last : (shape : Shape) (d : Direction) (level : ℕ) (words : List ℕ) → IsRun shape d level words → is_done (ends_at shape d level words).1 ≡ true →
    after_all ends_last (Some (what.Level (end_level d level) ∷ what.ResizeGiven ∷ [])) (events_of_run shape d level words) ≡ Some []
resize_ends_last shape d level words run done =
    let end = ends_at shape d level words in
    runs_on shape d ends_last (end_to_come d) run.0 step (resize.begun level) words (begins_soundly shape d level run.1) run.2 ∙ ap (λ b. Some (end_to_come d end.0.0 end.0.1 b)) done
  where
    step : (w : ResizeAlong) (s : ResizeStage) (word : ℕ) → IsSoundResize shape d w s → CanBeFound shape (resize_row shape d w s).step word →
        let next = (resize_row shape d w s).next word in after_one ends_last (end_to_come d w s false) (event_of [] (resize_row shape d w s).step word) ≡ Some (end_to_come d next.0 next.1 (is_done next.2))
    step w s word sound fits =
        let next = (resize_row shape d w s).next word in
        let is = tally shape d w s word sound in
        ends_as d w s (event_of [] (resize_row shape d w s).step word) ∙ is.1 ∙ ap (λ b. Some (end_to_come d next.0 next.1 b)) (sym is.0)
