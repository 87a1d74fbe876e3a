-- A sweep begins one grace at most.
use Rattle.std.proofs.Common.{◌≡◌, ℕ, ◌+◌, ◌≤◌, ◌^◌, ◌==◌, cond, List, [], ◌∷◌, ◌++◌, length, Option, Some, None, refl, sym, ap, ◌∙◌, arith, zero-add}
use Rattle.std.specs.List.{count_by}
use Rattle.std.specs.Option.{option_to_list}
use Rattle.std.specs.Prelude.{min, nat_le, nat_lt}
use Rattle.std.proofs.lemmas.List.Sums.{sum_by-cons}
use Rattle.marked_word.specs.Head.{first_of, is_locked, is_redirected}
use Rattle.marked_word.specs.Link.{node_of}
use Rattle.section_core.specs.Words.{waits_for}
use Rattle.intern_log.specs.declared.event.What.{What}
use Rattle.intern_log.specs.declared.event.What.TheVariants as what
use Rattle.intern_log.specs.Orderly.{is_grace}
use Rattle.atomic_step.specs.declared.answer.Answer.TheVariants as answer
use Rattle.atomic_step.specs.Run.{AreFitting, events_of_words, cost_of_words}
use Rattle.atomic_step.specs.SoundStep.{CanFollow}
use Rattle.atomic_step.specs.Turn.{event_by}
use Rattle.atomic_step.proofs.Choices.{either_way}
use Rattle.atomic_step.proofs.Runs.{spends}
use Rattle.call_machine.specs.declared.caller.Caller.{Caller}
use Rattle.call_machine.specs.declared.enter.EnterStage.TheVariants.{LoadCounter, OpenSection}
use Rattle.call_machine.specs.declared.find.FindStage.TheVariants.{Enter, LoadLevel, LoadHead, LoadNewLevel, LoadNewHead}
use Rattle.call_machine.specs.declared.grace.Grace as grace
use Rattle.call_machine.specs.declared.grace.GraceStage.TheVariants.{RaiseCounter, LoadSection}
use Rattle.call_machine.specs.declared.grace.Gracing.{Gracing}
use Rattle.call_machine.specs.declared.lock.Locking.TheVariants as locking
use Rattle.call_machine.specs.declared.pass.Cleaning.{Cleaning}
use Rattle.call_machine.specs.declared.pass.FreeStage.{FreeStage}
use Rattle.call_machine.specs.declared.pass.FreeStage.TheVariants.{PutNextGeneration, FreeSlot}
use Rattle.call_machine.specs.declared.pass.PassStage.{PassStage}
use Rattle.call_machine.specs.declared.pass.PassStage.TheVariants.{LoadCount, LoadLink, Unlink}
use Rattle.call_machine.specs.declared.pass.Waiting.{Waiting}
use Rattle.call_machine.specs.declared.sweep.Closing.TheVariants as closing
use Rattle.call_machine.specs.declared.sweep.SweepAlong.{SweepAlong}
use Rattle.call_machine.specs.declared.sweep.SweepAsked.{SweepAsked}
use Rattle.call_machine.specs.declared.sweep.Sweeping.{Sweeping}
use Rattle.call_machine.specs.declared.sweep.SweepStage.{SweepStage}
use Rattle.call_machine.specs.declared.sweep.SweepStage.TheVariants.{Check, Find, Lock, Close, Pass, UnlockHead, Grace, Free, Answered}
use Rattle.call_machine.specs.Pass.{passes_on, first_behind, after_unlink, waiting_at}
use Rattle.call_machine.specs.Sweep.{begun_sweep, finds_anew, finds_on, cleans_on, locks_on, unlocked, graces_on, frees_on, plan_at, next_at, sweep_event}
use Rattle.call_machine.specs.WholeSweep.{sweeps}
use Rattle.call_machine.proofs.CleanFollows.{both_ways}

-- the grace of an event
abbrev graces_of : Option What → ℕ
graces_of (Some what.Grace) = 1
graces_of _ = 0

-- the grace that is still to come at a stage
abbrev left_at : SweepStage → ℕ
left_at (Grace LoadSection) = 0
left_at (Free s) = 0
left_at (Answered a) = 0
left_at _ = 1

abbrev Spends : SweepStage → Option What → SweepStage → Type 0
Spends s e next = graces_of e + left_at next ≤ left_at s

on_pass : (s : SweepStage) (e : Option What) (next : Option PassStage) → Spends s e UnlockHead → Spends s e (cleans_on next)
on_pass s e None so = so
on_pass s e (Some t) so = so

unlocks : (w : SweepAlong) (items : List Waiting) → Spends UnlockHead (Some (what.Unlock w.cleaning.row w.cleaning.bucket)) (unlocked w.cleaning items)
unlocks w [] = omega arith
unlocks w (x ∷ xs) = omega arith

head_found : (s : SweepStage) (head : ℕ) → 1 ≤ left_at s → Spends s None (finds_on head None)
head_found s head one = either_way (λ t. Spends s None t) (is_locked head) (Close closing.Again) Lock one one

unlinked : (x g : ℕ) (next : Option ℕ) (d : Cleaning) → Spends (Pass (Unlink x g next)) (Some (what.Unlink x)) (cleans_on (after_unlink d next))
unlinked x g next d = on_pass (Pass (Unlink x g next)) (Some (what.Unlink x)) (after_unlink d next) (omega arith)

step_spends : (q : SweepAsked) (w : SweepAlong) (s : SweepStage) (word : ℕ) → CanFollow q.caller.shape (plan_at q w s) word → Spends s (event_by [] (plan_at q w s) word) (next_at q w s word).1
step_spends q w (Answered a) word fits = absurd fits
step_spends q w Check word fits = either_way (λ t. Spends Check None t) (nat_le (2 ^ 48) word) (Answered (answer.Spent word)) finds_anew (omega arith) (omega arith)
step_spends q w (Find (Enter LoadCounter)) word fits = omega arith
step_spends q w (Find (Enter (OpenSection counter))) word fits = omega arith
step_spends q w (Find LoadLevel) word fits = omega arith
step_spends q w (Find LoadHead) word fits = either_way (λ next. Spends (Find LoadHead) None (finds_on word next)) (is_redirected word) (Some LoadNewLevel) None (omega arith) (head_found (Find LoadHead) word (omega arith))
step_spends q w (Find LoadNewLevel) word fits = omega arith
step_spends q w (Find LoadNewHead) word fits = head_found (Find LoadNewHead) word (omega arith)
step_spends q w Lock word fits =
    both_ways (λ e came. Spends Lock e (locks_on w came).1) (word == w.walk.head) (Some (what.Lock w.walk.row w.walk.bucket)) None (locking.Locked (first_of word)) locking.Waits (omega arith) (omega arith)
step_spends q w (Close closing.Again) word fits = omega arith
step_spends q w (Close closing.Clean) word fits = on_pass (Close closing.Clean) (Some what.Close) (passes_on w.cleaning.first) (omega arith)
step_spends q w (Pass (LoadCount x)) word fits = omega arith
step_spends q w (Pass (LoadLink x None)) word fits = on_pass (Pass (LoadLink x None)) None (passes_on (node_of word)) (omega arith)
step_spends q w (Pass (LoadLink x (Some g))) word fits = omega arith
step_spends q w (Pass (Unlink x g next)) word fits =
    let c : Cleaning = record w.cleaning { first = first_behind w.cleaning.last w.cleaning.first next; unlinked = min (w.cleaning.unlinked + 1) 18446744073709551615 } in
    let more : Cleaning = record c { waiting = record { items = c.waiting.items ++ record { slot = x; generation = g } ∷ [] }; pass_waiting = c.pass_waiting + 1 } in
    either_way (λ (d : Cleaning). Spends (Pass (Unlink x g next)) (Some (what.Unlink x)) (cleans_on (after_unlink d next))) (nat_lt (g + 1) (2 ^ 48)) more c (unlinked x g next more) (unlinked x g next c)
step_spends q w UnlockHead word fits = unlocks w w.cleaning.waiting.items
step_spends q w (Grace RaiseCounter) word fits = omega arith
step_spends q w (Grace LoadSection) word fits =
    let P : grace.Grace × Gracing → Type 0 = λ came. Spends (Grace LoadSection) None (graces_on came.1) in
    either_way P (waits_for w.grace.raised word) _ _ (omega arith) (either_way P (w.grace.next + 1 == q.caller.shape.seats) _ _ (omega arith) (omega arith))
step_spends q w (Free (PutNextGeneration n)) word fits = omega arith
step_spends q w (Free (FreeSlot n)) word fits =
    either_way (λ (came : Cleaning × Option FreeStage). Spends (Free (FreeSlot n)) (Some (what.Free (waiting_at w.cleaning n).slot)) (frees_on came.0 came.1)) (n + 1 == length w.cleaning.waiting.items) _ _ (omega arith) (omega arith)

-- the graces of a run
abbrev cost : Sweeping → ℕ → ℕ
cost s word = graces_of (sweep_event s word)

counted_one : (e : Option What) (rest : List What) → count_by is_grace (option_to_list e ++ rest) ≡ graces_of e + count_by is_grace rest
counted_one None rest = sym (zero-add (count_by is_grace rest))
counted_one (Some e) rest = sum_by-cons (λ (x : What). cond (is_grace x) 1 0) e rest ∙ ap (λ n. n + count_by is_grace rest) (one e)
  where
    one : (e : What) → cond (is_grace e) 1 0 ≡ graces_of (Some e)
    one what.Grace = refl
    one _ = refl

counted : (s : Sweeping) (words : List ℕ) → count_by is_grace (events_of_words sweeps s words) ≡ cost_of_words sweeps cost s words
counted s [] = refl
counted s (word ∷ words) = counted_one (sweep_event s word) (events_of_words sweeps (sweeps.got s word) words) ∙ ap (λ n. graces_of (sweep_event s word) + n) (counted (sweeps.got s word) words)

pub one_grace : (caller : Caller) (hash : ℕ) (words : List ℕ) → AreFitting sweeps (begun_sweep caller hash) words → count_by is_grace (events_of_words sweeps (begun_sweep caller hash) words) ≤ 1
one_grace caller hash words fits =
    let s = begun_sweep caller hash in
    let spent = spends sweeps cost (λ (x : Sweeping). left_at x.stage) (λ x. Unit {0}) (λ x word so fits. tt) (λ x word so fits. step_spends x.asked x.along x.stage word fits.1) s words tt fits in
    let same = counted s words in
    omega (arith, spent, same)
