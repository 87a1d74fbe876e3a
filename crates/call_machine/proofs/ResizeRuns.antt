-- What each step of a grow or a shrink adds to its events, over all its polls.
use Rattle.std.proofs.Common.{◌==◌, ◌≡◌, ◌∙◌, sym, ap, subst, ◌^◌, ℕ, Bool, true, false, Option, Some, None, refl, cond, List, []}
use Rattle.std.specs.Prelude.{nat_le}
use Rattle.intern_log.specs.declared.event.What.{What}
use Rattle.table_shape.specs.declared.shape.Shape.{Shape}
use Rattle.table_shape.specs.Shape.{IsSound}
use Rattle.atomic_step.specs.declared.answer.Answer.{Answer}
use Rattle.atomic_step.specs.declared.answer.Answer.TheVariants as answer
use Rattle.atomic_step.specs.Event.{event_of}
use Rattle.atomic_step.specs.Monitor.{after_one, after_all}
use Rattle.atomic_step.specs.Run.{AreFitting, after_words, events_of_words}
use Rattle.atomic_step.specs.SoundStep.{CanBeFound}
use Rattle.atomic_step.proofs.Choices.{either_way, not_equal}
use Rattle.atomic_step.proofs.Runs.{follows}
use Rattle.call_machine.specs.declared.grace.GraceStage.TheVariants.{RaiseCounter, LoadSection}
use Rattle.call_machine.specs.declared.lock.Locking.{Locking}
use Rattle.call_machine.specs.declared.resize.Direction.{Direction}
use Rattle.call_machine.specs.declared.resize.ResizeAlong.{ResizeAlong}
use Rattle.call_machine.specs.declared.resize.ResizeStage.{ResizeStage}
use Rattle.call_machine.specs.declared.resize.ResizeStage.TheVariants.{PutNewLevel, Lock, PutHead, RedirectHead, Unzip, Join, UnlockHead, StoreLevel, ClearNewLevel, GiveResizeLock}
use Rattle.call_machine.specs.declared.resize.ResizeStage.TheVariants as stage
use Rattle.call_machine.specs.Polls.{polled_on}
use Rattle.call_machine.specs.Grace.{held_back}
use Rattle.call_machine.specs.Resize.{Went, resize_row, resumed}
use Rattle.call_machine.specs.ResizeRuns.{Being, being, resizes, is_done}
use Rattle.call_machine.specs.SoundResize.{IsSoundResize}
use Rattle.call_machine.proofs.SoundResize.{got_soundly}

-- a head is locked where the word is the one that was to be found
pub lock_either : (P : Option What → Went → Type 0) (f : Locking → Went) (b : Bool) (e : What) (x y : Locking) → P (Some e) (f x) → P None (f y) → P (cond b (Some e) None) (f (cond b x y))
lock_either P f true e x y p q = p
lock_either P f false e x y p q = q

-- polls one after another: what a state shows by its stage and by whether it is done is not changed by a new poll
abbrev pub anew : ResizeAlong × ResizeStage → Being
anew at = (at, resumed at.0 at.1)

pub waits_on : (raised : ℕ) → is_done (held_back raised) ≡ false
waits_on raised = either_way (λ a. is_done a ≡ false) (nat_le (2 ^ 63) raised) _ None refl refl

pub resumed_on : (w : ResizeAlong) (s : ResizeStage) → is_done (resumed w s) ≡ false
resumed_on w (stage.Grace then_do RaiseCounter) = waits_on w.grace.raised
resumed_on w (stage.Grace then_do LoadSection) = refl
resumed_on w _ = refl

pub same_polled : {F : Type 0} (seen : ResizeAlong → ResizeStage → Bool → F) (at : ResizeAlong × ResizeStage) (a : Option Answer)
    → let next = polled_on anew (at, a) in seen next.0.0 next.0.1 (is_done next.1) ≡ seen at.0 at.1 (is_done a)
same_polled seen at None = refl
same_polled seen at (Some (answer.PendingSeat seat)) = ap (seen at.0 at.1) (resumed_on at.0 at.1)
same_polled seen at (Some (answer.PendingBucket row bucket)) = ap (seen at.0 at.1) (resumed_on at.0 at.1)
same_polled seen at (Some _) = refl

abbrev pub IsKept : Shape → Direction → Being → Type 0
IsKept shape d at = IsSoundResize shape d at.0.0 at.0.1

pub stays : (shape : Shape) (d : Direction) → IsSound shape → (at : Being) (word : ℕ) → IsKept shape d at → (resizes shape d).Fits at word → IsKept shape d ((resizes shape d).got at word)
stays shape d table (at, Some a) word sound fits = absurd fits
stays shape d table (at, None) word sound fits =
    let next = being ((resize_row shape d at.0 at.1).next word) in
    let same = same_polled (λ w s done. (w, s)) next.0 next.1 in
    subst (λ (n : ResizeAlong × ResizeStage). IsSoundResize shape d n.0 n.1) (sym same) (got_soundly shape d at.0 at.1 word table sound fits)

-- what follows the events of each step follows those of a whole run
pub runs_on : {F : Type 0} (shape : Shape) (d : Direction) (m : F → What → Option F) (seen : ResizeAlong → ResizeStage → Bool → F) → IsSound shape
    → ((w : ResizeAlong) (s : ResizeStage) (word : ℕ) → IsSoundResize shape d w s → CanBeFound shape (resize_row shape d w s).step word
    → let next = (resize_row shape d w s).next word in after_one m (seen w s false) (event_of [] (resize_row shape d w s).step word) ≡ Some (seen next.0 next.1 (is_done next.2)))
    → (at : Being) (words : List ℕ) → IsKept shape d at → AreFitting (resizes shape d) at words
    → let end = after_words (resizes shape d) at words in after_all m (Some (seen at.0.0 at.0.1 (is_done at.1))) (events_of_words (resizes shape d) at words) ≡ Some (seen end.0.0 end.0.1 (is_done end.1))
runs_on {F} shape d m seen table step = follows (resizes shape d) m (λ at. seen at.0.0 at.0.1 (is_done at.1)) (IsKept shape d) (stays shape d table) go
  where
    go : (at : Being) (word : ℕ) → IsKept shape d at → (resizes shape d).Fits at word
        → let next = (resizes shape d).got at word in after_one m (seen at.0.0 at.0.1 (is_done at.1)) ((resizes shape d).event at word) ≡ Some (seen next.0.0 next.0.1 (is_done next.1))
    go (at, Some a) word sound fits = absurd fits
    go (at, None) word sound fits = step at.0 at.1 word sound fits ∙ ap Some (sym (same_polled seen (being ((resize_row shape d at.0 at.1).next word)).0 ((resize_row shape d at.0 at.1).next word).2))

-- the same number, and another one
is_true : (b : Bool) → ¬ (b ≡ false) → b ≡ true
is_true true off = refl
is_true false off = absurd (off refl)

pub is_false : (b : Bool) → ¬ (b ≡ true) → b ≡ false
is_false true off = absurd (off refl)
is_false false off = refl

pub equal : (n : ℕ) → (n == n) ≡ true
equal n = is_true (n == n) (λ is. not_equal n n is refl)
