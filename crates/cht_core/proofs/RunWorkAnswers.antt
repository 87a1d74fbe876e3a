-- No call that begins a work or a grace, no poll and no sweep answers with the number of a new seat.
use Rattle.std.proofs.Common.{◌≡◌, ℕ, ◌+◌, ◌/◌, ◌^◌, ◌==◌, nat_le, nat_lt, List, [], ◌∷◌, length, Option, Some, None, sym, subst, inl, inr}
use Rattle.marked_word.specs.Head.{is_locked, first_of}
use Rattle.table_shape.specs.declared.shape.Shape.{Shape}
use Rattle.atomic_step.specs.declared.answer.Answer.{Answer}
use Rattle.atomic_step.specs.declared.answer.Answer.TheVariants as answer
use Rattle.atomic_step.specs.declared.plan.Plan.TheVariants as plan
use Rattle.atomic_step.specs.Turn.{next_in, plan_in}
use Rattle.atomic_step.proofs.Choices.{either_way}
use Rattle.call_machine.specs.declared.begin.BeginStage.{BeginStage}
use Rattle.call_machine.specs.declared.begin.BeginStage.TheVariants as begin
use Rattle.call_machine.specs.declared.begin.Task.{Task}
use Rattle.call_machine.specs.declared.begin.Task.TheVariants as task
use Rattle.call_machine.specs.declared.caller.Caller.{Caller}
use Rattle.call_machine.specs.declared.clean.CleanAlong.{CleanAlong}
use Rattle.call_machine.specs.declared.clean.CleanStage.{CleanStage}
use Rattle.call_machine.specs.declared.clean.CleanStage.TheVariants as clean
use Rattle.call_machine.specs.declared.clean.Freeing.{Freeing}
use Rattle.call_machine.specs.declared.clean.Freeing.TheVariants as freeing
use Rattle.call_machine.specs.declared.find.FindStage.{FindStage}
use Rattle.call_machine.specs.declared.grace.Grace.{Grace}
use Rattle.call_machine.specs.declared.grace.GraceStage.{GraceStage}
use Rattle.call_machine.specs.declared.grace.GraceStage.TheVariants as grace
use Rattle.call_machine.specs.declared.grace.Gracing.{Gracing}
use Rattle.call_machine.specs.declared.grace.Gracing.TheVariants as gracing
use Rattle.call_machine.specs.declared.lock.Locking.{Locking}
use Rattle.call_machine.specs.declared.lock.Locking.TheVariants as locking
use Rattle.call_machine.specs.declared.lock.LockStage.TheVariants as lock
use Rattle.call_machine.specs.declared.pass.Cleaning.{Cleaning}
use Rattle.call_machine.specs.declared.pass.FreeStage.{FreeStage}
use Rattle.call_machine.specs.declared.pass.PassStage.{PassStage}
use Rattle.call_machine.specs.declared.pass.Waiting.{Waiting}
use Rattle.call_machine.specs.declared.resize.Direction.{Direction}
use Rattle.call_machine.specs.declared.resize.Direction.TheVariants.{Grow, Shrink}
use Rattle.call_machine.specs.declared.resize.AfterGrace.{AfterGrace}
use Rattle.call_machine.specs.declared.resize.ResizeAlong.{ResizeAlong}
use Rattle.call_machine.specs.declared.resize.ResizeStage.{ResizeStage}
use Rattle.call_machine.specs.declared.resize.ResizeStage.TheVariants as resize
use Rattle.call_machine.specs.declared.sweep.Closing.{Closing}
use Rattle.call_machine.specs.declared.sweep.Closing.TheVariants as closing
use Rattle.call_machine.specs.declared.sweep.SweepAlong.{SweepAlong}
use Rattle.call_machine.specs.declared.sweep.SweepAsked.{SweepAsked}
use Rattle.call_machine.specs.declared.sweep.SweepStage.{SweepStage}
use Rattle.call_machine.specs.declared.sweep.SweepStage.TheVariants as sweep
use Rattle.call_machine.specs.declared.work.Work.{Work}
use Rattle.call_machine.specs.declared.work.Work.TheVariants as work
use Rattle.call_machine.specs.Begin as begins
use Rattle.call_machine.specs.Clean as cleans
use Rattle.call_machine.specs.Find.{find_row}
use Rattle.call_machine.specs.Grace.{held_back, counts_grace, grace_row}
use Rattle.call_machine.specs.Lock.{lock_row}
use Rattle.call_machine.specs.Pass.{free_row, pass_row, passes_on}
use Rattle.call_machine.specs.Poll.{poll_turn}
use Rattle.call_machine.specs.Resize as resizes
use Rattle.call_machine.specs.Sweep as sweeps
use Rattle.call_machine.specs.Work.{resumes}
use Rattle.cht_core.proofs.ResizeTurns.{GoesOn, locked_on, plain_on}
use Rattle.cht_core.proofs.RunCallAnswers.{IsNoSplit}

-- BEGINNINGS

abbrev pub BeginNoSplit : BeginStage → Type 0
BeginNoSplit (begin.Answered a l) = IsNoSplit a
BeginNoSplit (begin.GiveResizeLock a) = IsNoSplit a
BeginNoSplit _ = Unit {0}

goes_no : (t : Option Task) → BeginNoSplit (begins.goes_on t)
goes_no None = tt
goes_no (Some t) = tt

taken_no : (t : Task) → BeginNoSplit (begins.taken t)
taken_no task.Clean = tt
taken_no task.Grow = tt
taken_no task.Shrink = tt

bounded_no : (shape : Shape) (d : Direction) (level : ℕ) → BeginNoSplit (begins.bounded shape d level)
bounded_no shape Grow level = either_way BeginNoSplit (level == shape.max_level) _ _ tt tt
bounded_no shape Shrink level = either_way BeginNoSplit (level == shape.min_level) _ _ tt tt

graced_no : (s : GraceStage) (g : Grace) (at : Gracing) → BeginNoSplit (begins.graced s g at)
graced_no grace.RaiseCounter g at = tt
graced_no grace.LoadSection g gracing.Goes = tt
graced_no grace.LoadSection g gracing.Waits = tt
graced_no grace.LoadSection g gracing.Over = tt

pub begin_on : (caller : Caller) (s : BeginStage) (word : ℕ) → BeginNoSplit s → BeginNoSplit (next_in s (begins.begin_turn caller s) word)
begin_on caller (begin.LoadCounter t) word h = either_way BeginNoSplit (nat_le (2 ^ 48) word) _ (begins.goes_on t) tt (goes_no t)
begin_on caller (begin.TakeResizeLock t) word h = either_way BeginNoSplit (word == 0) (begins.taken t) _ (taken_no t) tt
begin_on caller (begin.LoadLevel d) word h = bounded_no caller.shape d word
begin_on caller (begin.GiveResizeLock a) word h = h
begin_on caller (begin.Grace g s) word h = let at = (grace_row caller.shape.seats g s).next word in graced_no s at.0 at.1
begin_on caller (begin.Answered a l) word h = h

pub begin_ends : (caller : Caller) (s : BeginStage) (number : ℕ) → plan_in (begins.begin_turn caller s) ≡ plan.Answered (answer.Split number) → BeginNoSplit s → ⊥
begin_ends caller (begin.Answered a l) number is h = let same : a ≡ answer.Split number = cc in subst IsNoSplit same h
begin_ends caller (begin.LoadCounter t) number is h = absurd (cc)
begin_ends caller (begin.TakeResizeLock t) number is h = absurd (cc)
begin_ends caller (begin.LoadLevel d) number is h = absurd (cc)
begin_ends caller (begin.GiveResizeLock a) number is h = absurd (cc)
begin_ends caller (begin.Grace g s) number is h = absurd (cc)

-- POLLS

abbrev pub PollNoSplit : Option Answer → Type 0
PollNoSplit None = Unit {0}
PollNoSplit (Some a) = IsNoSplit a

held_no : (raised : ℕ) → PollNoSplit (held_back raised)
held_no raised = either_way PollNoSplit (nat_le (2 ^ 63) raised) (Some (answer.PendingSeat 0)) None tt tt

resumed_no : (w : CleanAlong) (s : CleanStage) → PollNoSplit (cleans.resumed w s)
resumed_no w (clean.Grace which grace.RaiseCounter) = held_no w.grace.raised
resumed_no w (clean.Grace which grace.LoadSection) = tt
resumed_no w clean.LoadLevel = tt
resumed_no w (clean.Lock s) = tt
resumed_no w (clean.Pass s) = tt
resumed_no w clean.UnlockHead = tt
resumed_no w (clean.Free which s) = tt
resumed_no w clean.GiveResizeLock = tt

abbrev Went : cleans.Went → Type 0
Went came = PollNoSplit came.2

ends_no : (w : CleanAlong) (xs : List Waiting) → Went (cleans.ends w xs)
ends_no w [] = tt
ends_no w (x ∷ xs) = held_no w.grace.raised

next_no : (w : CleanAlong) → Went (cleans.next_bucket w)
next_no w =
    either_way Went (length w.cleaning.waiting.items == 256) (cleans.raises (cleans.counts_pass w) freeing.Again) _ (held_no (cleans.counts_pass w).grace.raised)
    (either_way Went (nat_lt (w.cleaning.bucket + 1) (2 ^ w.cleaning.row)) _ (cleans.ends w w.cleaning.waiting.items) tt (ends_no w w.cleaning.waiting.items))

locks_no : (w : CleanAlong) (l : Locking) → Went (cleans.locks_on w l)
locks_no w (locking.Goes s) = tt
locks_no w locking.Waits = tt
locks_no w (locking.Locked first) = tt

graces_no : (w : CleanAlong) (which : Freeing) (g : Gracing) → Went (cleans.graces_on w which g)
graces_no w which gracing.Goes = tt
graces_no w which gracing.Waits = tt
graces_no w which gracing.Over = tt

frees_no : (shape : Shape) (w : CleanAlong) (which : Freeing) (s : Option FreeStage) → Went (cleans.frees_on shape w which s)
frees_no shape w freeing.Again None = either_way Went (nat_lt (shape.slots / 256) w.full_passes) _ _ tt tt
frees_no shape w freeing.Last None = tt
frees_no shape w freeing.Again (Some s) = tt
frees_no shape w freeing.Last (Some s) = tt

clean_on : (shape : Shape) (w : CleanAlong) (s : CleanStage) (word : ℕ) → Went ((cleans.clean_row shape w s).next word)
clean_on shape w clean.LoadLevel word = tt
clean_on shape w (clean.Lock s) word = locks_no w ((lock_row w.cleaning.row w.cleaning.bucket s).next word)
clean_on shape w (clean.Pass s) word = tt
clean_on shape w clean.UnlockHead word = next_no w
clean_on shape w (clean.Grace which s) word =
    let came = (grace_row shape.seats w.grace s).next word in graces_no (record w { grace = came.0; graces = counts_grace s w.graces }) which came.1
clean_on shape w (clean.Free which s) word = let came = (free_row w.cleaning s).next word in frees_no shape (record w { cleaning = came.0 }) which came.1
clean_on shape w clean.GiveResizeLock word = tt

went_no : (at : resizes.Went) → GoesOn at → PollNoSplit at.2
went_no at on = elim on.1 [
  | inl none ↦ subst PollNoSplit (sym none) tt
  | inr back ↦ subst PollNoSplit (sym back) (held_no at.0.grace.raised)
]

resize_on : (shape : Shape) (d : Direction) (w : ResizeAlong) (s : ResizeStage) (word : ℕ) → PollNoSplit ((resizes.resize_row shape d w s).next word).2
resize_on shape d w (resize.Lock side lock.LoadHead) word =
    either_way (λ (at : Locking). PollNoSplit (resizes.locks_on d w side at).2) (is_locked word) locking.Waits (locking.Goes (lock.LockHead word)) tt tt
resize_on shape d w (resize.Lock side (lock.LockHead head)) word =
    either_way (λ (at : Locking). PollNoSplit (resizes.locks_on d w side at).2) (word == head) (locking.Locked (first_of word)) locking.Waits
    (went_no (resizes.has_locked d w side (first_of word)) (locked_on d w side (first_of word))) tt
resize_on shape d w (resize.Grace x s) word = let came = (grace_row shape.seats w.grace s).next word in graced_on (record w { grace = came.0; graces = counts_grace s w.graces }) x came.1
  where
    graced_on : (w : ResizeAlong) (x : AfterGrace) (g : Gracing) → PollNoSplit (resizes.graces_on w x g).2
    graced_on w x gracing.Goes = tt
    graced_on w x gracing.Waits = tt
    graced_on w x gracing.Over = tt
resize_on shape d w resize.GiveResizeLock word = tt
resize_on shape d w resize.PutNewLevel word = tt
resize_on shape d w (resize.PutHead side) word = tt
resize_on shape d w (resize.RedirectHead side) word = went_no ((resizes.resize_row shape d w (resize.RedirectHead side)).next word) (plain_on shape d w (resize.RedirectHead side) word tt)
resize_on shape d w (resize.Unzip s) word = went_no ((resizes.resize_row shape d w (resize.Unzip s)).next word) (plain_on shape d w (resize.Unzip s) word tt)
resize_on shape d w (resize.Join s) word = went_no ((resizes.resize_row shape d w (resize.Join s)).next word) (plain_on shape d w (resize.Join s) word tt)
resize_on shape d w (resize.UnlockHead side) word = went_no ((resizes.resize_row shape d w (resize.UnlockHead side)).next word) (plain_on shape d w (resize.UnlockHead side) word tt)
resize_on shape d w resize.StoreLevel word = held_no w.grace.raised
resize_on shape d w resize.ClearNewLevel word = tt

resize_resumed_no : (w : ResizeAlong) (s : ResizeStage) → PollNoSplit (resizes.resumed w s)
resize_resumed_no w (resize.Grace x grace.RaiseCounter) = held_no w.grace.raised
resize_resumed_no w (resize.Grace x grace.LoadSection) = tt
resize_resumed_no w _ = tt

-- a poll begins so
pub resumes_no : (w : Work) → PollNoSplit (resumes w).1
resumes_no (work.Clean c) = resumed_no c.along c.stage
resumes_no (work.Resize r) = resize_resumed_no r.along r.stage

abbrev pub PolledNoSplit : Work × Option Answer → Type 0
PolledNoSplit at = PollNoSplit at.1

pub poll_on : (caller : Caller) (w : Work) (a : Option Answer) (word : ℕ) → PolledNoSplit (w, a) → PolledNoSplit (next_in (w, a) (poll_turn caller (w, a)) word)
poll_on caller (work.Clean c) None word h = clean_on caller.shape c.along c.stage word
poll_on caller (work.Clean c) (Some a) word h = h
poll_on caller (work.Resize r) None word h = resize_on caller.shape r.direction r.along r.stage word
poll_on caller (work.Resize r) (Some a) word h = h

pub poll_ends : (caller : Caller) (w : Work) (a : Option Answer) (number : ℕ) → plan_in (poll_turn caller (w, a)) ≡ plan.Answered (answer.Split number) → PolledNoSplit (w, a) → ⊥
poll_ends caller (work.Clean c) None number is h = absurd (cc)
poll_ends caller (work.Clean c) (Some a) number is h = let same : a ≡ answer.Split number = cc in subst IsNoSplit same h
poll_ends caller (work.Resize r) None number is h = absurd (cc)
poll_ends caller (work.Resize r) (Some a) number is h = let same : a ≡ answer.Split number = cc in subst IsNoSplit same h

-- SWEEPS

abbrev pub SweepNoSplit : SweepStage → Type 0
SweepNoSplit (sweep.Answered a) = IsNoSplit a
SweepNoSplit _ = Unit {0}

finds_no : (head : ℕ) (s : Option FindStage) → SweepNoSplit (sweeps.finds_on head s)
finds_no head None = either_way SweepNoSplit (is_locked head) (sweep.Close closing.Again) sweep.Lock tt tt
finds_no head (Some s) = tt

swept_no : (w : SweepAlong) (l : Locking) → SweepNoSplit (sweeps.locks_on w l).1
swept_no w (locking.Locked first) = tt
swept_no w (locking.Goes s) = tt
swept_no w locking.Waits = tt

cleaned_no : (s : Option PassStage) → SweepNoSplit (sweeps.cleans_on s)
cleaned_no None = tt
cleaned_no (Some s) = tt

closed_no : (c : Cleaning) (why : Closing) → SweepNoSplit (sweeps.closed c why)
closed_no c closing.Again = tt
closed_no c closing.Clean = cleaned_no (passes_on c.first)

unlocked_no : (c : Cleaning) (xs : List Waiting) → SweepNoSplit (sweeps.unlocked c xs)
unlocked_no c [] = tt
unlocked_no c (x ∷ xs) = tt

gracing_no : (g : Gracing) → SweepNoSplit (sweeps.graces_on g)
gracing_no gracing.Over = tt
gracing_no gracing.Goes = tt
gracing_no gracing.Waits = tt

freed_no : (c : Cleaning) (s : Option FreeStage) → SweepNoSplit (sweeps.frees_on c s)
freed_no c None = tt
freed_no c (Some s) = tt

pub sweep_on : (q : SweepAsked) (w : SweepAlong) (s : SweepStage) (word : ℕ) → SweepNoSplit s → SweepNoSplit (sweeps.next_at q w s word).1
sweep_on q w (sweep.Answered a) word h = h
sweep_on q w sweep.Check word h = either_way SweepNoSplit (nat_le (2 ^ 48) word) (sweep.Answered (answer.Spent word)) sweeps.finds_anew tt tt
sweep_on q w (sweep.Find s) word h = let at = (find_row q.caller.number q.hash w.walk s).next word in finds_no at.0.head at.1
sweep_on q w sweep.Lock word h = swept_no w ((lock_row w.walk.row w.walk.bucket (lock.LockHead w.walk.head)).next word)
sweep_on q w (sweep.Close why) word h = closed_no w.cleaning why
sweep_on q w (sweep.Pass s) word h = cleaned_no ((pass_row w.cleaning s).next word).1
sweep_on q w sweep.UnlockHead word h = unlocked_no w.cleaning w.cleaning.waiting.items
sweep_on q w (sweep.Grace s) word h = gracing_no ((grace_row q.caller.shape.seats w.grace s).next word).1
sweep_on q w (sweep.Free s) word h = let came = (free_row w.cleaning s).next word in freed_no came.0 came.1

pub sweep_ends : (q : SweepAsked) (w : SweepAlong) (s : SweepStage) (number : ℕ) → sweeps.plan_at q w s ≡ plan.Answered (answer.Split number) → SweepNoSplit s → ⊥
sweep_ends q w (sweep.Answered a) number is h = let same : a ≡ answer.Split number = cc in subst IsNoSplit same h
sweep_ends q w sweep.Check number is h = absurd (cc)
sweep_ends q w (sweep.Find s) number is h = absurd (cc)
sweep_ends q w sweep.Lock number is h = absurd (cc)
sweep_ends q w (sweep.Close why) number is h = absurd (cc)
sweep_ends q w (sweep.Pass s) number is h = absurd (cc)
sweep_ends q w sweep.UnlockHead number is h = absurd (cc)
sweep_ends q w (sweep.Grace s) number is h = absurd (cc)
sweep_ends q w (sweep.Free s) number is h = absurd (cc)
