-- A poll of a clean makes few full passes over one bucket.
use Rattle.std.proofs.Common.{◌≤◌, ◌+◌, ◌/◌, ◌^◌, ◌==◌, ℕ, cond, Option, Some, None, List, [], ◌∷◌, length}
use native.Mathlib.Omega.{arith}
use Rattle.std.specs.Prelude.{min, nat_lt}
use Rattle.std.proofs.lemmas.Bool.{ltb-false}
use Rattle.table_shape.specs.declared.shape.Shape.{Shape}
use Rattle.atomic_step.specs.declared.answer.Answer.{Answer}
use Rattle.atomic_step.specs.declared.answer.Answer.TheVariants as answer
use Rattle.atomic_step.specs.Run.{AreFitting, after_words}
use Rattle.atomic_step.proofs.Choices.{where_it_is, either_way}
use Rattle.atomic_step.proofs.Runs.{keeps}
use Rattle.call_machine.specs.declared.clean.CleanAlong.{CleanAlong}
use Rattle.call_machine.specs.declared.clean.CleanStage.{CleanStage}
use Rattle.call_machine.specs.declared.clean.CleanStage.TheVariants.{LoadLevel, Lock, Pass, UnlockHead, Grace, Free, GiveResizeLock}
use Rattle.call_machine.specs.declared.clean.Freeing.{Freeing}
use Rattle.call_machine.specs.declared.clean.Freeing.TheVariants.{Again, Last}
use Rattle.call_machine.specs.declared.grace.GraceStage.TheVariants.{RaiseCounter, LoadSection}
use Rattle.call_machine.specs.declared.grace.Gracing.{Gracing}
use Rattle.call_machine.specs.declared.grace.Gracing.TheVariants as gracing
use Rattle.call_machine.specs.declared.lock.LockStage.TheVariants.{LoadHead}
use Rattle.call_machine.specs.declared.lock.Locking.{Locking}
use Rattle.call_machine.specs.declared.lock.Locking.TheVariants as locking
use Rattle.call_machine.specs.declared.pass.FreeStage.{FreeStage}
use Rattle.call_machine.specs.declared.pass.PassStage.{PassStage}
use Rattle.call_machine.specs.declared.pass.Waiting.{Waiting}
use Rattle.call_machine.specs.Clean.{Went, goes, waits_at, raises, cleans_on, locks_on, counts_pass, ends, next_bucket, graces_on, frees_on, clean_row}
use Rattle.call_machine.specs.Grace.{grace_row, held_back}
use Rattle.call_machine.specs.Lock.{lock_row}
use Rattle.call_machine.specs.Pass.{begins_pass, passes_on, pass_row, free_row}
use Rattle.call_machine.specs.CleanMeasure.{most_full}
use Rattle.call_machine.specs.WholeClean.{polled_on, FitsClean, cleans, begun}

-- a poll has made few full passes over its bucket
abbrev pub HasFew : Shape → Went → Type 0
HasFew shape c = c.0.full_passes ≤ most_full shape c.1

-- so it is after a step, where the next poll begins if this one is pending
abbrev pub ComesToFew : Shape → Went → Type 0
ComesToFew shape went = HasFew shape (polled_on went.0 went.1 went.2)

comes : (shape : Shape) (w : CleanAlong) (s : CleanStage) (a : Option Answer) → HasFew shape (w, s, a) → ComesToFew shape (w, s, a)
comes shape w s None few = few
comes shape w s (Some (answer.PendingSeat seat)) few = omega arith
comes shape w s (Some (answer.PendingBucket row bucket)) few = omega arith
comes shape w s (Some _) few = few

on_pass : (shape : Shape) (w : CleanAlong) (next : Option PassStage) → w.full_passes ≤ shape.slots / 256 → ComesToFew shape (goes w (cleans_on next))
on_pass shape w None few = few
on_pass shape w (Some s) few = few

bucket_few : (shape : Shape) (w : CleanAlong) → w.full_passes ≤ shape.slots / 256 → ComesToFew shape (next_bucket w)
bucket_few shape w few =
    let next : Went = goes (record w { cleaning = record w.cleaning { bucket = w.cleaning.bucket + 1 }; full_passes = 0 }) (Lock LoadHead) in
    let last : Went = ends w w.cleaning.waiting.items in
    let more = nat_lt (w.cleaning.bucket + 1) (2 ^ w.cleaning.row) in
    let full : CleanAlong = record w { full_passes = min (w.full_passes + 1) 4294967295 } in
    either_way (ComesToFew shape) (length w.cleaning.waiting.items == 256) (raises (counts_pass w) Again) (cond more next last)
    (either_way (λ v. ComesToFew shape (raises v Again)) (w.cleaning.pass_waiting == 256) full w
    (comes shape full (Grace Again RaiseCounter) (held_back w.grace.raised) (one_more w.full_passes (shape.slots / 256) few)) (comes shape w (Grace Again RaiseCounter) (held_back w.grace.raised) (omega (arith, few))))
    (either_way (ComesToFew shape) more next last (omega arith) (ended w.cleaning.waiting.items))
  where
    one_more : (n most : ℕ) → n ≤ most → min (n + 1) 4294967295 ≤ most + 1
    one_more n most few = grind (arith, few)

    ended : (items : List Waiting) → ComesToFew shape (ends w items)
    ended [] = few
    ended (x ∷ xs) = comes shape w (Grace Last RaiseCounter) (held_back w.grace.raised) few

frees : (shape : Shape) (w : CleanAlong) (freeing : Freeing) (s : FreeStage) (next : Option FreeStage) → w.full_passes ≤ most_full shape (Free freeing s) → ComesToFew shape (frees_on shape w freeing next)
frees shape w Again s (Some t) few = few
frees shape w Last s (Some t) few = few
frees shape w Again s None few =
    where_it_is (ComesToFew shape) (nat_lt (shape.slots / 256) w.full_passes) (waits_at w) (goes w (Lock LoadHead)) (λ enough. omega arith) (λ more. ltb-false (shape.slots / 256) w.full_passes more)
frees shape w Last s None few = few

scans : (shape : Shape) (w : CleanAlong) (freeing : Freeing) (came : Gracing) → w.full_passes ≤ most_full shape (Grace freeing LoadSection) → ComesToFew shape (graces_on w freeing came)
scans shape w Again gracing.Goes few = few
scans shape w Again gracing.Waits few = omega arith
scans shape w Again gracing.Over few = few
scans shape w Last gracing.Goes few = few
scans shape w Last gracing.Waits few = omega arith
scans shape w Last gracing.Over few = few

locks : (shape : Shape) (w : CleanAlong) (came : Locking) → w.full_passes ≤ shape.slots / 256 → ComesToFew shape (locks_on w came)
locks shape w (locking.Goes s) few = few
locks shape w locking.Waits few = omega arith
locks shape w (locking.Locked first) few = on_pass shape (record w { cleaning = begins_pass w.cleaning first }) (passes_on first) few

pub few_step : (shape : Shape) (w : CleanAlong) (s : CleanStage) (word : ℕ) → HasFew shape (w, s, None) → ComesToFew shape ((clean_row shape w s).next word)
few_step shape w LoadLevel word few = few
few_step shape w (Lock s) word few = locks shape w ((lock_row w.cleaning.row w.cleaning.bucket s).next word) few
few_step shape w (Pass s) word few = on_pass shape (record w { cleaning = ((pass_row w.cleaning s).next word).0 }) ((pass_row w.cleaning s).next word).1 few
few_step shape w UnlockHead word few = bucket_few shape w few
few_step shape w (Grace Again RaiseCounter) word few = few
few_step shape w (Grace Last RaiseCounter) word few = few
few_step shape w (Grace Again LoadSection) word few = let came = (grace_row shape.seats w.grace LoadSection).next word in scans shape (record w { grace = came.0 }) Again came.1 few
few_step shape w (Grace Last LoadSection) word few = let came = (grace_row shape.seats w.grace LoadSection).next word in scans shape (record w { grace = came.0 }) Last came.1 few
few_step shape w (Free Again s) word few = let came = (free_row w.cleaning s).next word in frees shape (record w { cleaning = came.0 }) Again s came.1 few
few_step shape w (Free Last s) word few = let came = (free_row w.cleaning s).next word in frees shape (record w { cleaning = came.0 }) Last s came.1 few
few_step shape w GiveResizeLock word few = few

got_few : (shape : Shape) (c : Went) (word : ℕ) → HasFew shape c → FitsClean shape c word → HasFew shape ((cleans shape).got c word)
got_few shape c word few fits = go c.0 c.1 c.2 few fits
  where
    go : (w : CleanAlong) (s : CleanStage) (a : Option Answer) → HasFew shape (w, s, a) → FitsClean shape (w, s, a) word → HasFew shape ((cleans shape).got (w, s, a) word)
    go w s None few fits = few_step shape w s word few
    go w s (Some a) few fits = absurd fits.1

most_above : (shape : Shape) (s : CleanStage) (n : ℕ) → n ≤ most_full shape s → n ≤ shape.slots / 256 + 1
most_above shape (Grace Again s) n few = few
most_above shape (Grace Last s) n few = omega (arith, few)
most_above shape (Free Again s) n few = few
most_above shape (Free Last s) n few = omega (arith, few)
most_above shape _ n few = omega (arith, few)

pub few_at_law : (shape : Shape) (level : ℕ) (words : List ℕ) → AreFitting (cleans shape) (begun level) words → let c = after_words (cleans shape) (begun level) words in c.0.full_passes ≤ most_full shape c.1
few_at_law shape level words fits = keeps (cleans shape) (HasFew shape) (got_few shape) (begun level) words (omega arith) fits

pub few_law : (shape : Shape) (level : ℕ) (words : List ℕ) → AreFitting (cleans shape) (begun level) words → (after_words (cleans shape) (begun level) words).0.full_passes ≤ shape.slots / 256 + 1
few_law shape level words fits =
    let c = after_words (cleans shape) (begun level) words in
    most_above shape c.1 c.0.full_passes (few_at_law shape level words fits)
