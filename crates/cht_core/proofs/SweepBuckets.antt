-- From its lock on a sweep is at the bucket of its hash.
use Rattle.std.proofs.Common.{◌≡◌, ◌==◌, Bool, true, false, cond, ℕ, ◌^◌, List, [], ◌∷◌, Option, Some, None, sym, ap, ◌∙◌}
use Rattle.std.specs.Prelude.{nat_le}
use Rattle.marked_word.specs.Head.{first_of, is_locked}
use Rattle.atomic_step.specs.declared.answer.Answer.TheVariants as answer
use Rattle.atomic_step.specs.Turn.{Row}
use Rattle.call_machine.specs.declared.find.FindStage.{FindStage}
use Rattle.call_machine.specs.declared.grace.Gracing.{Gracing}
use Rattle.call_machine.specs.declared.grace.Gracing.TheVariants as gracing
use Rattle.call_machine.specs.declared.lock.Locking.TheVariants as locking
use Rattle.call_machine.specs.declared.pass.Cleaning.{Cleaning}
use Rattle.call_machine.specs.declared.pass.FreeStage.{FreeStage}
use Rattle.call_machine.specs.declared.pass.PassStage.{PassStage}
use Rattle.call_machine.specs.declared.pass.Waiting.{Waiting}
use Rattle.call_machine.specs.declared.sweep.Closing.TheVariants as closing
use Rattle.call_machine.specs.declared.sweep.SweepAlong.{SweepAlong}
use Rattle.call_machine.specs.declared.sweep.SweepAsked.{SweepAsked}
use Rattle.call_machine.specs.declared.sweep.SweepStage.{SweepStage}
use Rattle.call_machine.specs.declared.sweep.SweepStage.TheVariants as sweep
use Rattle.call_machine.specs.Find.{find_row}
use Rattle.call_machine.specs.Grace.{grace_row}
use Rattle.call_machine.specs.Pass.{free_row, pass_row, passes_on}
use Rattle.call_machine.specs.Sweep.{sweep_turn, checked, finds_anew, finds_on, locks_on, cleans_on, unlocked, graces_on, frees_on}
use Rattle.cht_core.specs.Flow.{Flow}
use Rattle.cht_core.specs.KnowsWork.{KnowsSweep}
use Rattle.cht_core.specs.Memory.{Memory}
use Rattle.cht_core.specs.Passes.{IsAtHash, SweepIsAt}
use Rattle.cht_core.specs.Past.{Past}
use Rattle.cht_core.specs.Stage.{bucket_in}
use Rattle.cht_core.proofs.CleanFound.{free_same}
use Rattle.cht_core.proofs.PassStages.{pass_same_bucket}
use Rattle.cht_core.proofs.Turns.{IfMakes}

-- the bucket by another name
at_same : (hash : ℕ) (c d : Cleaning) → d.row ≡ c.row → d.bucket ≡ c.bucket → IsAtHash hash c → IsAtHash hash d
at_same hash c d row bucket is = bucket ∙ is ∙ ap (λ (r : ℕ). bucket_in r hash) (sym row)

-- STAGES

checked_at : (hash : ℕ) (c : Cleaning) (word : ℕ) → SweepIsAt hash c (checked word)
checked_at hash c word = go (nat_le (2 ^ 48) word)
  where
    go : (b : Bool) → SweepIsAt hash c (cond b (sweep.Answered (answer.Spent word)) finds_anew)
    go true = tt
    go false = tt

headed_at : (hash : ℕ) (c : Cleaning) (head : ℕ) (next : Option FindStage) → SweepIsAt hash c (finds_on head next)
headed_at hash c head (Some s) = tt
headed_at hash c head None = go (is_locked head)
  where
    go : (b : Bool) → SweepIsAt hash c (cond b (sweep.Close closing.Again) sweep.Lock)
    go true = tt
    go false = tt

passes_at : (hash : ℕ) (c : Cleaning) (next : Option PassStage) → IsAtHash hash c → SweepIsAt hash c (cleans_on next)
passes_at hash c None is = is
passes_at hash c (Some s) is = is

unlocked_at : (hash : ℕ) (c : Cleaning) (xs : List Waiting) → IsAtHash hash c → SweepIsAt hash c (unlocked c xs)
unlocked_at hash c [] is = is
unlocked_at hash c (x ∷ xs) is = is

graced_at : (hash : ℕ) (c : Cleaning) (came : Gracing) → IsAtHash hash c → SweepIsAt hash c (graces_on came)
graced_at hash c gracing.Goes is = is
graced_at hash c gracing.Waits is = is
graced_at hash c gracing.Over is = is

freed_at : (hash : ℕ) (c : Cleaning) (next : Option FreeStage) → IsAtHash hash c → SweepIsAt hash c (frees_on c next)
freed_at hash c None is = is
freed_at hash c (Some s) is = is

locked_at : (hash : ℕ) (w : SweepAlong) (word : ℕ) (b : Bool) → w.walk.bucket ≡ bucket_in w.walk.row hash →
    let came = locks_on w (cond b (locking.Locked (first_of word)) locking.Waits) in SweepIsAt hash came.0.cleaning came.1
locked_at hash w word true is = is
locked_at hash w word false is = tt

-- whatever word a step finds
abbrev pub StaysAt : ℕ → Row (SweepAlong × SweepStage) → Type 0
StaysAt hash does = (word : ℕ) → SweepIsAt hash (does.next word).0.cleaning (does.next word).1

-- each step
pub sweep_at : (m : Memory) (p : Past) (f : Flow) (i : ℕ) (q : SweepAsked) (w : SweepAlong) (s : SweepStage) → KnowsSweep m p f i q w s → SweepIsAt q.hash w.cleaning s → IfMakes (StaysAt q.hash) (sweep_turn q w s)
sweep_at m p f i q w sweep.Check known is = λ word. checked_at q.hash w.cleaning word
sweep_at m p f i q w (sweep.Find s) known is = λ word. let came = (find_row q.caller.number q.hash w.walk s).next word in headed_at q.hash w.cleaning came.0.head came.1
sweep_at m p f i q w sweep.Lock known is = λ word. locked_at q.hash w word (word == w.walk.head) known.0.3
sweep_at m p f i q w (sweep.Close closing.Again) known is = λ word. tt
sweep_at m p f i q w (sweep.Close closing.Clean) known is = λ word. passes_at q.hash w.cleaning (passes_on w.cleaning.first) is
sweep_at m p f i q w (sweep.Pass s) known is = λ word.
    let came = (pass_row w.cleaning s).next word in
    let same = pass_same_bucket w.cleaning s word in
    passes_at q.hash came.0 came.1 (at_same q.hash w.cleaning came.0 same.0 same.1 is)
sweep_at m p f i q w sweep.UnlockHead known is = λ word. unlocked_at q.hash w.cleaning w.cleaning.waiting.items is
sweep_at m p f i q w (sweep.Grace s) known is = λ word. graced_at q.hash w.cleaning ((grace_row q.caller.shape.seats w.grace s).next word).1 is
sweep_at m p f i q w (sweep.Free s) known is = λ word.
    let came = (free_row w.cleaning s).next word in
    let same = free_same w.cleaning s word in
    freed_at q.hash came.0 came.1 (at_same q.hash w.cleaning came.0 same.0 same.1 is)
sweep_at m p f i q w (sweep.Answered a) known is = tt
