-- What a poll of a work may answer: that it is done, or that a seat or a bucket is waited for.
use Rattle.std.proofs.Common.{ℕ, ◌+◌, ◌/◌, ◌^◌, ◌==◌, nat_le, nat_lt, List, [], ◌∷◌, length, Option, Some, None, sym, subst, inl, inr}
use Rattle.marked_word.specs.Head.{is_locked, first_of}
use Rattle.table_shape.specs.declared.shape.Shape.{Shape}
use Rattle.atomic_step.specs.declared.answer.Answer.{Answer}
use Rattle.atomic_step.specs.declared.answer.Answer.TheVariants as answer
use Rattle.atomic_step.specs.Turn.{next_in}
use Rattle.atomic_step.proofs.Choices.{either_way}
use Rattle.call_machine.specs.declared.caller.Caller.{Caller}
use Rattle.call_machine.specs.declared.clean.CleanAlong.{CleanAlong}
use Rattle.call_machine.specs.declared.clean.CleanStage.{CleanStage}
use Rattle.call_machine.specs.declared.clean.CleanStage.TheVariants as clean
use Rattle.call_machine.specs.declared.clean.Freeing.{Freeing}
use Rattle.call_machine.specs.declared.clean.Freeing.TheVariants as freeing
use Rattle.call_machine.specs.declared.grace.GraceStage.TheVariants as grace
use Rattle.call_machine.specs.declared.grace.Gracing.{Gracing}
use Rattle.call_machine.specs.declared.grace.Gracing.TheVariants as gracing
use Rattle.call_machine.specs.declared.lock.Locking.{Locking}
use Rattle.call_machine.specs.declared.lock.Locking.TheVariants as locking
use Rattle.call_machine.specs.declared.lock.LockStage.TheVariants as lock
use Rattle.call_machine.specs.declared.pass.FreeStage.{FreeStage}
use Rattle.call_machine.specs.declared.pass.Waiting.{Waiting}
use Rattle.call_machine.specs.declared.resize.AfterGrace.{AfterGrace}
use Rattle.call_machine.specs.declared.resize.Direction.{Direction}
use Rattle.call_machine.specs.declared.resize.ResizeAlong.{ResizeAlong}
use Rattle.call_machine.specs.declared.resize.ResizeStage.{ResizeStage}
use Rattle.call_machine.specs.declared.resize.ResizeStage.TheVariants as resize
use Rattle.call_machine.specs.declared.work.Work.{Work}
use Rattle.call_machine.specs.declared.work.Work.TheVariants as work
use Rattle.call_machine.specs.Clean as cleans
use Rattle.call_machine.specs.Grace.{held_back, counts_grace, grace_row}
use Rattle.call_machine.specs.Lock.{lock_row}
use Rattle.call_machine.specs.Pass.{free_row}
use Rattle.call_machine.specs.Poll.{poll_turn}
use Rattle.call_machine.specs.Resize as resizes
use Rattle.call_machine.specs.Work.{resumes}
use Rattle.cht_core.proofs.ResizeTurns.{GoesOn, locked_on, plain_on}

abbrev pub IsOfPoll : Answer → Type 0
IsOfPoll (answer.Done did) = Unit {0}
IsOfPoll (answer.PendingSeat seat) = Unit {0}
IsOfPoll (answer.PendingBucket row bucket) = Unit {0}
IsOfPoll _ = ⊥

abbrev pub AnswersSo : Option Answer → Type 0
AnswersSo None = Unit {0}
AnswersSo (Some a) = IsOfPoll a

held : (raised : ℕ) → AnswersSo (held_back raised)
held raised = either_way AnswersSo (nat_le (2 ^ 63) raised) (Some (answer.PendingSeat 0)) None tt tt

-- A CLEAN

abbrev Came : cleans.Went → Type 0
Came came = AnswersSo came.2

resumed : (w : CleanAlong) (s : CleanStage) → AnswersSo (cleans.resumed w s)
resumed w (clean.Grace which grace.RaiseCounter) = held w.grace.raised
resumed w (clean.Grace which grace.LoadSection) = tt
resumed w _ = tt

ends : (w : CleanAlong) (xs : List Waiting) → Came (cleans.ends w xs)
ends w [] = tt
ends w (x ∷ xs) = held w.grace.raised

next_bucket : (w : CleanAlong) → Came (cleans.next_bucket w)
next_bucket w =
    either_way Came (length w.cleaning.waiting.items == 256) (cleans.raises (cleans.counts_pass w) freeing.Again) _ (held (cleans.counts_pass w).grace.raised)
    (either_way Came (nat_lt (w.cleaning.bucket + 1) (2 ^ w.cleaning.row)) _ (cleans.ends w w.cleaning.waiting.items) tt (ends w w.cleaning.waiting.items))

locks : (w : CleanAlong) (l : Locking) → Came (cleans.locks_on w l)
locks w (locking.Goes s) = tt
locks w locking.Waits = tt
locks w (locking.Locked first) = tt

graces : (w : CleanAlong) (which : Freeing) (g : Gracing) → Came (cleans.graces_on w which g)
graces w which gracing.Goes = tt
graces w which gracing.Waits = tt
graces w which gracing.Over = tt

frees : (shape : Shape) (w : CleanAlong) (which : Freeing) (s : Option FreeStage) → Came (cleans.frees_on shape w which s)
frees shape w freeing.Again None = either_way Came (nat_lt (shape.slots / 256) w.full_passes) _ _ tt tt
frees shape w freeing.Last None = tt
frees shape w freeing.Again (Some s) = tt
frees shape w freeing.Last (Some s) = tt

clean_on : (shape : Shape) (w : CleanAlong) (s : CleanStage) (word : ℕ) → Came ((cleans.clean_row shape w s).next word)
clean_on shape w clean.LoadLevel word = tt
clean_on shape w (clean.Lock s) word = locks w ((lock_row w.cleaning.row w.cleaning.bucket s).next word)
clean_on shape w (clean.Pass s) word = tt
clean_on shape w clean.UnlockHead word = next_bucket w
clean_on shape w (clean.Grace which s) word = let came = (grace_row shape.seats w.grace s).next word in graces (record w { grace = came.0; graces = counts_grace s w.graces }) which came.1
clean_on shape w (clean.Free which s) word = let came = (free_row w.cleaning s).next word in frees shape (record w { cleaning = came.0 }) which came.1
clean_on shape w clean.GiveResizeLock word = tt

-- A GROW OR A SHRINK

goes : (at : resizes.Went) → GoesOn at → AnswersSo at.2
goes at on = elim on.1 [
  | inl none ↦ subst AnswersSo (sym none) tt
  | inr back ↦ subst AnswersSo (sym back) (held at.0.grace.raised)
]

resize_on : (shape : Shape) (d : Direction) (w : ResizeAlong) (s : ResizeStage) (word : ℕ) → AnswersSo ((resizes.resize_row shape d w s).next word).2
resize_on shape d w (resize.Lock side lock.LoadHead) word =
    either_way (λ (at : Locking). AnswersSo (resizes.locks_on d w side at).2) (is_locked word) locking.Waits (locking.Goes (lock.LockHead word)) tt tt
resize_on shape d w (resize.Lock side (lock.LockHead head)) word =
    either_way (λ (at : Locking). AnswersSo (resizes.locks_on d w side at).2) (word == head) (locking.Locked (first_of word)) locking.Waits
    (goes (resizes.has_locked d w side (first_of word)) (locked_on d w side (first_of word))) tt
resize_on shape d w (resize.Grace x s) word = let came = (grace_row shape.seats w.grace s).next word in graced_on (record w { grace = came.0; graces = counts_grace s w.graces }) x came.1
  where
    graced_on : (w : ResizeAlong) (x : AfterGrace) (g : Gracing) → AnswersSo (resizes.graces_on w x g).2
    graced_on w x gracing.Goes = tt
    graced_on w x gracing.Waits = tt
    graced_on w x gracing.Over = tt
resize_on shape d w resize.GiveResizeLock word = tt
resize_on shape d w resize.PutNewLevel word = tt
resize_on shape d w (resize.PutHead side) word = tt
resize_on shape d w (resize.RedirectHead side) word = goes ((resizes.resize_row shape d w (resize.RedirectHead side)).next word) (plain_on shape d w (resize.RedirectHead side) word tt)
resize_on shape d w (resize.Unzip s) word = goes ((resizes.resize_row shape d w (resize.Unzip s)).next word) (plain_on shape d w (resize.Unzip s) word tt)
resize_on shape d w (resize.Join s) word = goes ((resizes.resize_row shape d w (resize.Join s)).next word) (plain_on shape d w (resize.Join s) word tt)
resize_on shape d w (resize.UnlockHead side) word = goes ((resizes.resize_row shape d w (resize.UnlockHead side)).next word) (plain_on shape d w (resize.UnlockHead side) word tt)
resize_on shape d w resize.StoreLevel word = held w.grace.raised
resize_on shape d w resize.ClearNewLevel word = tt

resize_resumed : (w : ResizeAlong) (s : ResizeStage) → AnswersSo (resizes.resumed w s)
resize_resumed w (resize.Grace x grace.RaiseCounter) = held w.grace.raised
resize_resumed w (resize.Grace x grace.LoadSection) = tt
resize_resumed w _ = tt

-- ANY WORK

pub resumes_so : (w : Work) → AnswersSo (resumes w).1
resumes_so (work.Clean c) = resumed c.along c.stage
resumes_so (work.Resize r) = resize_resumed r.along r.stage

pub poll_on : (caller : Caller) (w : Work) (a : Option Answer) (word : ℕ) → AnswersSo a → AnswersSo (next_in (w, a) (poll_turn caller (w, a)) word).1
poll_on caller (work.Clean c) None word h = clean_on caller.shape c.along c.stage word
poll_on caller (work.Clean c) (Some a) word h = h
poll_on caller (work.Resize r) None word h = resize_on caller.shape r.direction r.along r.stage word
poll_on caller (work.Resize r) (Some a) word h = h
