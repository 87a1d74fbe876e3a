-- A sweep goes on in time between two waits.
use Rattle.std.proofs.Common.{◌≡◌, ◌<◌, ◌≤◌, ◌+◌, ◌-◌, ◌*◌, ◌^◌, ◌==◌, ℕ, false, cond, Option, Some, None, List, [], ◌∷◌, ◌++◌, length}
use native.Mathlib.Omega.{arith}
use Rattle.std.specs.Prelude.{min, nat_le, nat_lt}
use Rattle.section_core.specs.Words.{waits_for}
use Rattle.marked_word.specs.Head.{is_locked, is_redirected, first_of}
use Rattle.marked_word.specs.Link.{node_of}
use Rattle.table_shape.specs.declared.shape.Shape.{Shape}
use Rattle.atomic_step.specs.declared.answer.Answer.TheVariants as answer
use Rattle.atomic_step.specs.Run.{AreFitting, after_words}
use Rattle.atomic_step.specs.SoundStep.{CanFollow}
use Rattle.atomic_step.proofs.Choices.{where_it_is, either_way}
use Rattle.call_machine.specs.declared.enter.EnterStage.TheVariants.{LoadCounter, OpenSection}
use Rattle.call_machine.specs.declared.find.FindStage.{FindStage}
use Rattle.call_machine.specs.declared.find.FindStage.TheVariants.{Enter, LoadLevel, LoadHead, LoadNewLevel, LoadNewHead}
use Rattle.call_machine.specs.declared.grace.Grace as grace
use Rattle.call_machine.specs.declared.grace.GraceStage.TheVariants.{RaiseCounter, LoadSection}
use Rattle.call_machine.specs.declared.grace.Gracing.{Gracing}
use Rattle.call_machine.specs.declared.grace.Gracing.TheVariants as gracing
use Rattle.call_machine.specs.declared.lock.Locking.TheVariants as locking
use Rattle.call_machine.specs.declared.pass.Cleaning.{Cleaning}
use Rattle.call_machine.specs.declared.pass.FreeStage.{FreeStage}
use Rattle.call_machine.specs.declared.pass.FreeStage.TheVariants.{PutNextGeneration, FreeSlot}
use Rattle.call_machine.specs.declared.pass.PassStage.{PassStage}
use Rattle.call_machine.specs.declared.pass.PassStage.TheVariants.{LoadCount, LoadLink, Unlink}
use Rattle.call_machine.specs.declared.pass.Waiting.{Waiting}
use Rattle.call_machine.specs.declared.sweep.Closing.TheVariants as closing
use Rattle.call_machine.specs.declared.sweep.SweepAlong.{SweepAlong}
use Rattle.call_machine.specs.declared.sweep.SweepAsked.{SweepAsked}
use Rattle.call_machine.specs.declared.sweep.SweepStage.{SweepStage}
use Rattle.call_machine.specs.declared.sweep.SweepStage.TheVariants.{Check, Find, Lock, Close, Pass, UnlockHead, Grace, Free, Answered}
use Rattle.call_machine.specs.declared.sweep.Sweeping.{Sweeping}
use Rattle.call_machine.specs.Pass.{passes_on, first_behind, after_unlink, all_freed}
use Rattle.call_machine.specs.SoundSweep.{IsSoundSweepAt, IsSoundSweep}
use Rattle.call_machine.specs.Sweep.{finds_anew, finds_on, locks_on, cleans_on, unlocked, graces_on, frees_on, plan_at, next_at, sweep_got}
use Rattle.call_machine.specs.SweepMeasure.{find_left, pass_left, left_at, left, waits_at, between_waits}
use Rattle.call_machine.proofs.Nodes.{few_slots}
use Rattle.call_machine.proofs.SoundSweep.{sweep_law}

-- at the next node, or at the end of the chain
on_pass : (shape : Shape) (w : SweepAlong) (next : Option ℕ) (n : ℕ) → 515 + shape.seats + 3 * (shape.slots - w.cleaning.passed) < n → left_at shape w (cleans_on (passes_on next)) < n
on_pass shape w None n so = omega (arith, so)
on_pass shape w (Some x) n so = so

found : (shape : Shape) (w v : SweepAlong) (s : FindStage) (head : ℕ) → 1 ≤ find_left s → left_at shape v (finds_on head None) < left_at shape w (Find s)
found shape w v s head some = either_way (λ t. left_at shape v t < left_at shape w (Find s)) (is_locked head) (Close closing.Again) Lock (omega (arith, some)) (omega (arith, some))

ends : (shape : Shape) (w : SweepAlong) (items : List Waiting) → left_at shape w (unlocked w.cleaning items) < left_at shape w UnlockHead
ends shape w [] = omega arith
ends shape w (x ∷ xs) = omega arith

unlinks : (q : SweepAsked) (w : SweepAlong) (x g : ℕ) (next : Option ℕ) (word : ℕ) → let s = Pass (Unlink x g next) in let went = next_at q w s word in left_at q.caller.shape went.0 went.1 < left_at q.caller.shape w s
unlinks q w x g next word =
    let shape : Shape = q.caller.shape in
    let n : ℕ = left_at shape w (Pass (Unlink x g next)) in
    let c : Cleaning = record w.cleaning { first = first_behind w.cleaning.last w.cleaning.first next; unlinked = min (w.cleaning.unlinked + 1) 18446744073709551615 } in
    let more : Cleaning = record c { waiting = record { items = c.waiting.items ++ record { slot = x; generation = g } ∷ [] }; pass_waiting = c.pass_waiting + 1 } in
    either_way (λ d. left_at shape (record w { cleaning = d }) (cleans_on (after_unlink d next)) < n) (nat_lt (g + 1) (2 ^ 48)) more c
    (goes (record w { cleaning = more }) n (omega arith)) (goes (record w { cleaning = c }) n (omega arith))
  where
    goes : (v : SweepAlong) (n : ℕ) → 515 + q.caller.shape.seats + 3 * (q.caller.shape.slots - v.cleaning.passed) < n → left_at q.caller.shape v (cleans_on (after_unlink v.cleaning next)) < n
    goes v n so = either_way (λ t. left_at q.caller.shape v (cleans_on t) < n) (length v.cleaning.waiting.items == 256) None (passes_on next) (omega (arith, so)) (on_pass q.caller.shape v next n so)

lowers : (q : SweepAsked) (w : SweepAlong) (s : SweepStage) (word : ℕ) → IsSoundSweepAt q w s → CanFollow q.caller.shape (plan_at q w s) word → waits_at w s word ≡ false → (next_at q w s word).0.cleaning.passed ≤ q.caller.shape.slots
    → left_at q.caller.shape (next_at q w s word).0 (next_at q w s word).1 < left_at q.caller.shape w s
lowers q w (Answered a) word sound fits goes few = absurd fits
lowers q w Check word sound fits goes few = either_way (λ t. left_at q.caller.shape w t < left_at q.caller.shape w Check) (nat_le (2 ^ 48) word) (Answered (answer.Spent word)) finds_anew (omega arith) (omega arith)
lowers q w (Find (Enter LoadCounter)) word sound fits goes few = omega arith
lowers q w (Find (Enter (OpenSection counter))) word sound fits goes few = omega arith
lowers q w (Find LoadLevel) word sound fits goes few = omega arith
lowers q w (Find LoadHead) word sound fits goes few =
    let v : SweepAlong = record w { walk = record w.walk { head = word } } in
    either_way (λ next. left_at q.caller.shape v (finds_on word next) < left_at q.caller.shape w (Find LoadHead)) (is_redirected word) (Some LoadNewLevel) None (omega arith) (found q.caller.shape w v LoadHead word (omega arith))
lowers q w (Find LoadNewLevel) word sound fits goes few = omega arith
lowers q w (Find LoadNewHead) word sound fits goes few = found q.caller.shape w (record w { walk = record w.walk { head = word } }) LoadNewHead word (omega arith)
lowers q w Lock word sound fits goes few =
    either_way (λ came. left_at q.caller.shape (locks_on w came).0 (locks_on w came).1 < left_at q.caller.shape w Lock) (word == w.walk.head) (locking.Locked (first_of word)) locking.Waits (omega arith) (omega arith)
lowers q w (Close closing.Again) word sound fits goes few = absurd (cc)
lowers q w (Close closing.Clean) word sound fits goes few = on_pass q.caller.shape w w.cleaning.first (left_at q.caller.shape w (Close closing.Clean)) (omega arith)
lowers q w (Pass (LoadCount x)) word sound fits goes few = let small = few_slots q.caller.shape sound.caller.shape in omega (arith, few, small)
lowers q w (Pass (LoadLink x None)) word sound fits goes few =
    on_pass q.caller.shape (record w { cleaning = record w.cleaning { last = Some x } }) (node_of word) (left_at q.caller.shape w (Pass (LoadLink x None))) (omega arith)
lowers q w (Pass (LoadLink x (Some g))) word sound fits goes few = omega arith
lowers q w (Pass (Unlink x g next)) word sound fits goes few = unlinks q w x g next word
lowers q w UnlockHead word sound fits goes few = ends q.caller.shape w w.cleaning.waiting.items
lowers q w (Grace RaiseCounter) word sound fits goes few = omega arith
lowers q w (Grace LoadSection) word sound fits goes few =
    let P : grace.Grace × Gracing → Type 0 = λ came. left_at q.caller.shape (record w { grace = came.0 }) (graces_on came.1) < left_at q.caller.shape w (Grace LoadSection) in
    let over : grace.Grace × Gracing = (w.grace, gracing.Over) in
    let more : grace.Grace × Gracing = (record w.grace { next = w.grace.next + 1 }, gracing.Goes) in
    let below : w.grace.next < q.caller.shape.seats = sound.plan.0 in
    where_it_is P (waits_for w.grace.raised word) (w.grace, gracing.Waits) (cond (w.grace.next + 1 == q.caller.shape.seats) over more) (λ older. absurd (cc))
    (λ newer. either_way P (w.grace.next + 1 == q.caller.shape.seats) over more (omega (arith, below)) (omega (arith, below)))
lowers q w (Free (PutNextGeneration at)) word sound fits goes few = let below : at < length w.cleaning.waiting.items = sound.at in let room = sound.cleaning.few in omega (arith, below, room)
lowers q w (Free (FreeSlot at)) word sound fits goes few =
    let below : at < length w.cleaning.waiting.items = sound.at in let room = sound.cleaning.few in
    either_way (λ (came : Cleaning × Option FreeStage). left_at q.caller.shape (record w { cleaning = came.0 }) (frees_on came.0 came.1) < left_at q.caller.shape w (Free (FreeSlot at))) (at + 1 == length w.cleaning.waiting.items)
    (all_freed w.cleaning, None) (w.cleaning, Some (PutNextGeneration (at + 1))) (omega (arith, below, room)) (omega (arith, below, room))

pub lowers_law : (s : Sweeping) (word : ℕ) → IsSoundSweep s → between_waits.Fits s word → left (sweep_got s word) < left s
lowers_law s word sound fits = lowers s.asked s.along s.stage word sound fits.1 fits.2 fits.3

pub in_time_law : (s : Sweeping) (words : List ℕ) → IsSoundSweep s → AreFitting between_waits s words → length words + left (after_words between_waits s words) ≤ left s
in_time_law s [] sound fits = omega arith
in_time_law s (word ∷ words) sound fits =
    let now = lowers_law s word sound fits.0 in
    let later = in_time_law (sweep_got s word) words (sweep_law s word fits.0.0 sound fits.0.1) fits.1 in
    omega (arith, now, later)

find_most : (s : FindStage) → find_left s ≤ 6
find_most (Enter LoadCounter) = omega arith
find_most (Enter (OpenSection counter)) = omega arith
find_most LoadLevel = omega arith
find_most LoadHead = omega arith
find_most LoadNewLevel = omega arith
find_most LoadNewHead = omega arith

pass_most : (shape : Shape) (c : Cleaning) (s : PassStage) → pass_left shape c s ≤ 3 * shape.slots + 2
pass_most shape c (LoadCount x) = omega arith
pass_most shape c (LoadLink x dead) = omega arith
pass_most shape c (Unlink x g next) = omega arith

most_at : (shape : Shape) (w : SweepAlong) (s : SweepStage) → left_at shape w s ≤ 524 + shape.seats + 3 * shape.slots
most_at shape w Check = omega arith
most_at shape w (Find s) = let most = find_most s in omega (arith, most)
most_at shape w Lock = omega arith
most_at shape w (Close closing.Again) = omega arith
most_at shape w (Close closing.Clean) = omega arith
most_at shape w (Pass s) = let most = pass_most shape w.cleaning s in omega (arith, most)
most_at shape w UnlockHead = omega arith
most_at shape w (Grace RaiseCounter) = omega arith
most_at shape w (Grace LoadSection) = omega arith
most_at shape w (Free (PutNextGeneration at)) = omega arith
most_at shape w (Free (FreeSlot at)) = omega arith
most_at shape w (Answered a) = omega arith

pub most_law : (s : Sweeping) (words : List ℕ) → IsSoundSweep s → AreFitting between_waits s words → length words ≤ 524 + s.asked.caller.shape.seats + 3 * s.asked.caller.shape.slots
most_law s words sound fits = let run = in_time_law s words sound fits in let most = most_at s.asked.caller.shape s.along s.stage in omega (arith, run, most)
