-- The polls of a work are those of a clean, or of a grow or a shrink.
use Rattle.std.proofs.Common.{◌≡◌, ℕ, Option, Some, None, refl}
use Rattle.table_shape.specs.declared.shape.Shape.{Shape}
use Rattle.atomic_step.specs.declared.answer.Answer.{Answer}
use Rattle.atomic_step.specs.declared.answer.Answer.TheVariants as answer
use Rattle.call_machine.specs.declared.clean.CleanAlong.{CleanAlong}
use Rattle.call_machine.specs.declared.clean.CleanStage.{CleanStage}
use Rattle.call_machine.specs.declared.resize.Direction.{Direction}
use Rattle.call_machine.specs.declared.resize.ResizeAlong.{ResizeAlong}
use Rattle.call_machine.specs.declared.resize.ResizeStage.{ResizeStage}
use Rattle.call_machine.specs.Clean as clean
use Rattle.call_machine.specs.Poll.{works, RunsAs, resizing}
use Rattle.call_machine.specs.Polls as polls
use Rattle.call_machine.specs.Resize.{resumed, resize_row}
use Rattle.call_machine.specs.ResizeRuns.{resizes}
use Rattle.call_machine.specs.WholeClean as whole
use Rattle.call_machine.specs.Work.{of_clean, resumes}
use Rattle.call_machine.proofs.SameRuns.{same_run}

-- the next poll of a clean
clean_on : (w : CleanAlong) (s : CleanStage) (a : Option Answer) → polls.polled_on resumes (of_clean (w, s, a)) ≡ of_clean (whole.polled_on w s a)
clean_on w s (Some (answer.PendingSeat seat)) = refl
clean_on w s (Some (answer.PendingBucket row bucket)) = refl
clean_on w s _ = refl

clean_got : (shape : Shape) (w : CleanAlong) (s : CleanStage) (a : Option Answer) (word : ℕ) → (works shape).got (of_clean (w, s, a)) word ≡ of_clean ((whole.cleans shape).got (w, s, a) word)
clean_got shape w s None word = let went = (clean.clean_row shape w s).next word in clean_on went.0 went.1 went.2
clean_got shape w s (Some a) word = clean_on w s (Some a)

clean_event : (shape : Shape) (w : CleanAlong) (s : CleanStage) (a : Option Answer) (word : ℕ) → (works shape).event (of_clean (w, s, a)) word ≡ (whole.cleans shape).event (w, s, a) word
clean_event shape w s None word = refl
clean_event shape w s (Some a) word = refl

clean_fits : (shape : Shape) (w : CleanAlong) (s : CleanStage) (a : Option Answer) (word : ℕ) → (works shape).Fits (of_clean (w, s, a)) word → (whole.cleans shape).Fits (w, s, a) word
clean_fits shape w s None word fits = fits
clean_fits shape w s (Some a) word fits = fits

pub cleans_law : (shape : Shape) → RunsAs shape (whole.cleans shape) of_clean
cleans_law shape = same_run (whole.cleans shape) (works shape) of_clean (record {
  got = λ c word. clean_got shape c.0 c.1 c.2 word;
  event = λ c word. clean_event shape c.0 c.1 c.2 word;
  fits = λ c word fits. clean_fits shape c.0 c.1 c.2 word fits;
})

-- the next poll of a grow or a shrink
resize_on : (d : Direction) (w : ResizeAlong) (s : ResizeStage) (a : Option Answer) → polls.polled_on resumes (resizing d ((w, s), a)) ≡ resizing d (polls.polled_on (λ at. (at, resumed at.0 at.1)) ((w, s), a))
resize_on d w s (Some (answer.PendingSeat seat)) = refl
resize_on d w s (Some (answer.PendingBucket row bucket)) = refl
resize_on d w s _ = refl

resize_got : (shape : Shape) (d : Direction) (w : ResizeAlong) (s : ResizeStage) (a : Option Answer) (word : ℕ) → (works shape).got (resizing d ((w, s), a)) word ≡ resizing d ((resizes shape d).got ((w, s), a) word)
resize_got shape d w s None word = let went = (resize_row shape d w s).next word in resize_on d went.0 went.1 went.2
resize_got shape d w s (Some a) word = resize_on d w s (Some a)

resize_event : (shape : Shape) (d : Direction) (w : ResizeAlong) (s : ResizeStage) (a : Option Answer) (word : ℕ) → (works shape).event (resizing d ((w, s), a)) word ≡ (resizes shape d).event ((w, s), a) word
resize_event shape d w s None word = refl
resize_event shape d w s (Some a) word = refl

resize_fits : (shape : Shape) (d : Direction) (w : ResizeAlong) (s : ResizeStage) (a : Option Answer) (word : ℕ) → (works shape).Fits (resizing d ((w, s), a)) word → (resizes shape d).Fits ((w, s), a) word
resize_fits shape d w s None word fits = fits.1
resize_fits shape d w s (Some a) word fits = fits.1

pub resizes_law : (shape : Shape) (d : Direction) → RunsAs shape (resizes shape d) (resizing d)
resizes_law shape d = same_run (resizes shape d) (works shape) (resizing d) (record {
  got = λ at word. resize_got shape d at.0.0 at.0.1 at.1 word;
  event = λ at word. resize_event shape d at.0.0 at.0.1 at.1 word;
  fits = λ at word fits. resize_fits shape d at.0.0 at.0.1 at.1 word fits;
})
