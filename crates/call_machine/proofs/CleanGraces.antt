-- A clean makes at most as many graces as it unlinks slots.
use Rattle.std.proofs.Common.{◌≡◌, ◌<◌, ◌≤◌, ◌+◌, ◌/◌, ◌^◌, ◌==◌, ℕ, cond, Option, Some, None, List, [], ◌∷◌, ◌++◌, length, sym, subst}
use native.Mathlib.Omega.{arith}
use Rattle.std.specs.Prelude.{min, nat_lt}
use Rattle.section_core.specs.Words.{waits_for}
use Rattle.marked_word.specs.Head.{is_locked, first_of}
use Rattle.marked_word.specs.Link.{node_of}
use Rattle.table_shape.specs.declared.shape.Shape.{Shape}
use Rattle.table_shape.specs.Shape.{IsSound}
use Rattle.atomic_step.specs.declared.answer.Answer.{Answer}
use Rattle.atomic_step.specs.declared.answer.Answer.TheVariants as answer
use Rattle.atomic_step.specs.declared.answer.Worked.{Worked}
use Rattle.atomic_step.specs.Run.{AreFitting, after_words}
use Rattle.atomic_step.specs.SoundStep.{IsLevel}
use Rattle.atomic_step.proofs.Choices.{either_way}
use Rattle.atomic_step.proofs.Runs.{keeps}
use Rattle.call_machine.specs.declared.clean.CleanAlong.{CleanAlong}
use Rattle.call_machine.specs.declared.clean.CleanStage.{CleanStage}
use Rattle.call_machine.specs.declared.clean.CleanStage.TheVariants.{LoadLevel, Lock, Pass, UnlockHead, Grace, Free, GiveResizeLock}
use Rattle.call_machine.specs.declared.clean.Freeing.{Freeing}
use Rattle.call_machine.specs.declared.clean.Freeing.TheVariants.{Again, Last}
use Rattle.call_machine.specs.declared.grace.Grace as grace
use Rattle.call_machine.specs.declared.grace.GraceStage.TheVariants.{RaiseCounter, LoadSection}
use Rattle.call_machine.specs.declared.grace.Gracing.{Gracing}
use Rattle.call_machine.specs.declared.grace.Gracing.TheVariants as gracing
use Rattle.call_machine.specs.declared.lock.LockStage.TheVariants.{LoadHead, LockHead}
use Rattle.call_machine.specs.declared.lock.Locking.TheVariants as locking
use Rattle.call_machine.specs.declared.pass.Cleaning.{Cleaning}
use Rattle.call_machine.specs.declared.pass.FreeStage.{FreeStage}
use Rattle.call_machine.specs.declared.pass.FreeStage.TheVariants.{PutNextGeneration, FreeSlot}
use Rattle.call_machine.specs.declared.pass.PassStage.{PassStage}
use Rattle.call_machine.specs.declared.pass.PassStage.TheVariants.{LoadCount, LoadLink, Unlink}
use Rattle.call_machine.specs.declared.pass.Waiting.{Waiting}
use Rattle.call_machine.specs.Clean.{Went, goes, waits_at, raises, cleans_on, locks_on, counts_pass, ends, next_bucket, graces_on, frees_on, clean_row}
use Rattle.call_machine.specs.Pass.{begins_pass, passes_on, first_behind, after_unlink, all_freed}
use Rattle.call_machine.specs.SoundClean.{IsSoundAt}
use Rattle.call_machine.specs.WholeClean.{FitsClean, cleans, begun}
use Rattle.call_machine.proofs.WholeClean.{Keeps, got_keeps, begins, same_polled, ended}

-- the slots that wait are to have a grace, unless it has begun; each batch has one, and has unlinked a slot
abbrev owed : Cleaning → CleanStage → ℕ
owed c (Grace freeing LoadSection) = 0
owed c (Free freeing s) = 0
owed c _ = min (length c.waiting.items) 1

record Sums : Type 0 where
  graces : ℕ
  owed : ℕ
  unlinked : ℕ

abbrev IsEnough : ℕ → ℕ → ℕ → Type 0
IsEnough graces more unlinked = (graces ≤ 18446744073709551615) × (min (graces + more) 18446744073709551615 ≤ unlinked)

abbrev IsPaidBy : Cleaning → ℕ → CleanStage → Type 0
IsPaidBy c graces s = IsEnough graces (owed c s) c.unlinked

abbrev IsPaid : Went → Type 0
IsPaid went = IsPaidBy went.0.cleaning went.0.graces went.1

on_pass : (w : CleanAlong) (next : Option PassStage) → IsPaid (goes w UnlockHead) → IsPaid (goes w (cleans_on next))
on_pass w None so = so
on_pass w (Some s) so = so

bucket_paid : (w : CleanAlong) → IsPaid (goes w UnlockHead) → IsPaid (next_bucket w)
bucket_paid w so =
    let next : Went = goes (record w { cleaning = record w.cleaning { bucket = w.cleaning.bucket + 1 }; full_passes = 0 }) (Lock LoadHead) in
    let last : Went = ends w w.cleaning.waiting.items in
    let more = nat_lt (w.cleaning.bucket + 1) (2 ^ w.cleaning.row) in
    either_way IsPaid (length w.cleaning.waiting.items == 256) (raises (counts_pass w) Again) (cond more next last)
    (either_way (λ v. IsPaid (raises v Again)) (w.cleaning.pass_waiting == 256) (record w { full_passes = min (w.full_passes + 1) 4294967295 }) w so so)
    (either_way IsPaid more next last so (ended_paid w.cleaning.waiting.items))
  where
    ended_paid : (items : List Waiting) → IsPaid (ends w items)
    ended_paid [] = so
    ended_paid (x ∷ xs) = so

-- an unlinked slot pays for one more grace, and a grace for slots that wait is paid for
one_more : (graces before after unlinked : ℕ) → IsEnough graces (min before 1) unlinked → IsEnough graces (min after 1) (min (unlinked + 1) 18446744073709551615)
one_more graces before after unlinked so = let small = so.0 in let enough = so.1 in (small, grind (arith, small, enough))

one_grace : (graces some unlinked : ℕ) → 0 < some → IsEnough graces (min some 1) unlinked → IsEnough (min (graces + 1) 18446744073709551615) 0 unlinked
one_grace graces some unlinked wait so = let enough = so.1 in (grind arith, grind (arith, wait, enough))

none_owed : (graces some unlinked : ℕ) → IsEnough graces some unlinked → graces ≤ unlinked
none_owed graces some unlinked so = let small = so.0 in let enough = so.1 in grind (arith, small, enough)

unlinked_paid : (shape : Shape) (w : CleanAlong) (x g : ℕ) (next : Option ℕ) (word : ℕ) → IsPaid (goes w UnlockHead) → IsPaid ((clean_row shape w (Pass (Unlink x g next))).next word)
unlinked_paid shape w x g next word so =
    let c : Cleaning = record w.cleaning { first = first_behind w.cleaning.last w.cleaning.first next; unlinked = min (w.cleaning.unlinked + 1) 18446744073709551615 } in
    let more : Cleaning = record c { waiting = record { items = c.waiting.items ++ record { slot = x; generation = g } ∷ [] }; pass_waiting = c.pass_waiting + 1 } in
    let P : Cleaning → Type 0 = λ d. IsPaid (goes (record w { cleaning = d }) (cleans_on (after_unlink d next))) in
    either_way P (nat_lt (g + 1) (2 ^ 48)) more c
    (on_pass (record w { cleaning = more }) (after_unlink more next) (one_more w.graces (length w.cleaning.waiting.items) (length more.waiting.items) w.cleaning.unlinked so))
    (on_pass (record w { cleaning = c }) (after_unlink c next) (one_more w.graces (length w.cleaning.waiting.items) (length c.waiting.items) w.cleaning.unlinked so))

freed_paid : (shape : Shape) (w : CleanAlong) (freeing : Freeing) (at word : ℕ) → IsPaid (goes w (Free freeing (FreeSlot at))) → IsPaid ((clean_row shape w (Free freeing (FreeSlot at))).next word)
freed_paid shape w freeing at word so =
    either_way (λ (came : Cleaning × Option FreeStage). IsPaid (frees_on shape (record w { cleaning = came.0 }) freeing came.1)) (at + 1 == length w.cleaning.waiting.items) (all_freed w.cleaning, None) (w.cleaning, Some (PutNextGeneration (at + 1))) (over freeing) so
  where
    over : (f : Freeing) → IsPaid (frees_on shape (record w { cleaning = all_freed w.cleaning }) f None)
    over Last = so
    over Again = let v : CleanAlong = record w { cleaning = all_freed w.cleaning } in either_way IsPaid (nat_lt (shape.slots / 256) v.full_passes) (waits_at v) (goes v (Lock LoadHead)) so so

paid_step : (shape : Shape) (w : CleanAlong) (s : CleanStage) (word : ℕ) → IsSoundAt w.cleaning s → IsPaid (goes w s) → IsPaid ((clean_row shape w s).next word)
paid_step shape w LoadLevel word at so = so
paid_step shape w (Lock LoadHead) word at so = either_way (λ came. IsPaid (locks_on w came)) (is_locked word) locking.Waits (locking.Goes (LockHead word)) so so
paid_step shape w (Lock (LockHead head)) word at so =
    either_way (λ came. IsPaid (locks_on w came)) (word == head) (locking.Locked (first_of word)) locking.Waits (on_pass (record w { cleaning = begins_pass w.cleaning (first_of word) }) (passes_on (first_of word)) so) so
paid_step shape w (Pass (LoadCount x)) word at so = so
paid_step shape w (Pass (LoadLink x None)) word at so = on_pass (record w { cleaning = record w.cleaning { last = Some x } }) (passes_on (node_of word)) so
paid_step shape w (Pass (LoadLink x (Some g))) word at so = so
paid_step shape w (Pass (Unlink x g next)) word at so = unlinked_paid shape w x g next word so
paid_step shape w UnlockHead word at so = bucket_paid w so
paid_step shape w (Grace freeing RaiseCounter) word at so = one_grace w.graces (length w.cleaning.waiting.items) w.cleaning.unlinked at so
paid_step shape w (Grace freeing LoadSection) word at so =
    let P : grace.Grace × Gracing → Type 0 = λ came. IsPaid (graces_on (record w { grace = came.0 }) freeing came.1) in
    let over : grace.Grace × Gracing = (w.grace, gracing.Over) in
    let more : grace.Grace × Gracing = (record w.grace { next = w.grace.next + 1 }, gracing.Goes) in
    either_way P (waits_for w.grace.raised word) (w.grace, gracing.Waits) (cond (w.grace.next + 1 == shape.seats) over more) so (either_way P (w.grace.next + 1 == shape.seats) over more so so)
paid_step shape w (Free freeing (PutNextGeneration n)) word at so = so
paid_step shape w (Free freeing (FreeSlot n)) word at so = freed_paid shape w freeing n word so
paid_step shape w GiveResizeLock word at so = so

-- over all polls
abbrev KeepsPaid : Shape → Went → Type 0
KeepsPaid shape c = Keeps shape c × IsPaid c

got_paid : (shape : Shape) → IsSound shape → (c : Went) (word : ℕ) → KeepsPaid shape c → FitsClean shape c word → KeepsPaid shape ((cleans shape).got c word)
got_paid shape table c word so fits = (got_keeps shape table c word so.0 fits, go c.0 c.1 c.2 so fits)
  where
    go : (w : CleanAlong) (s : CleanStage) (a : Option Answer) → KeepsPaid shape (w, s, a) → FitsClean shape (w, s, a) word → IsPaid ((cleans shape).got (w, s, a) word)
    go w s None so fits = let next = (clean_row shape w s).next word in subst (λ (n : Sums). IsEnough n.graces n.owed n.unlinked) (sym (same_polled (λ c graces s. record { graces = graces; owed = owed c s; unlinked = c.unlinked }) next.0 next.1 next.2)) (paid_step shape w s word so.0.0.at so.1)
    go w s (Some a) so fits = absurd fits.1

pub graces_law : (shape : Shape) (level : ℕ) (words : List ℕ) (did : Worked) → IsSound shape → IsLevel shape level → AreFitting (cleans shape) (begun level) words →
    (after_words (cleans shape) (begun level) words).2 ≡ Some (answer.Done did) → did.graces ≤ did.unlinked
graces_law shape level words did table is fits done =
    let c = after_words (cleans shape) (begun level) words in
    let end = ended shape level words did table is fits done in
    let paid = (keeps (cleans shape) (KeepsPaid shape) (got_paid shape table) (begun level) words (begins shape level is, (omega arith, grind arith)) fits).1 in
    subst (λ (d : Worked). d.graces ≤ d.unlinked) (sym end.2) (none_owed c.0.graces (owed c.0.cleaning c.1) c.0.cleaning.unlinked paid)
