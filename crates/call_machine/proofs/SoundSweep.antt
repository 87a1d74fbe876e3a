-- A sweep stays sound: each stage leads to one that the table has room for.
use Rattle.std.proofs.Common.{◌≡◌, ◌<◌, ◌≤◌, ◌+◌, ◌/◌, ◌^◌, ◌==◌, ℕ, Option, Some, None, List, [], ◌∷◌, length, refl, ap, mod-lt}
use native.Mathlib.Omega.{arith}
use Rattle.std.specs.Prelude.{nat_le}
use Rattle.std.proofs.lemmas.Nat.{pow_pos}
use Rattle.section_core.specs.Words.{waits_for}
use Rattle.marked_word.specs.Head.{is_locked, is_redirected, first_of}
use Rattle.marked_word.specs.Number.{new_level_of}
use Rattle.atomic_step.specs.declared.answer.Answer.TheVariants as answer
use Rattle.atomic_step.specs.SoundStep.{IsHeadWord, IsSoundPlan, CanFollow}
use Rattle.atomic_step.proofs.Choices.{where_it_is, either_way, not_equal}
use Rattle.table_shape.specs.declared.place.Place.TheVariants as place
use Rattle.table_shape.specs.Place.{IsInside}
use Rattle.call_machine.specs.declared.enter.EnterStage.TheVariants.{LoadCounter, OpenSection}
use Rattle.call_machine.specs.declared.find.FindStage.TheVariants.{Enter, LoadLevel, LoadHead, LoadNewLevel, LoadNewHead}
use Rattle.call_machine.specs.declared.grace.Grace as grace
use Rattle.call_machine.specs.declared.grace.GraceStage.TheVariants.{RaiseCounter, LoadSection}
use Rattle.call_machine.specs.declared.grace.Gracing.{Gracing}
use Rattle.call_machine.specs.declared.lock.Locking.TheVariants as locking
use Rattle.call_machine.specs.declared.pass.FreeStage.{FreeStage}
use Rattle.call_machine.specs.declared.pass.PassStage.{PassStage}
use Rattle.call_machine.specs.declared.pass.Waiting.{Waiting}
use Rattle.call_machine.specs.declared.sweep.Closing.TheVariants as closing
use Rattle.call_machine.specs.declared.sweep.SweepAlong.{SweepAlong}
use Rattle.call_machine.specs.declared.sweep.SweepAsked.{SweepAsked}
use Rattle.call_machine.specs.declared.sweep.SweepStage.{SweepStage}
use Rattle.call_machine.specs.declared.sweep.SweepStage.TheVariants.{Check, Find, Lock, Close, Pass, UnlockHead, Grace, Free, Answered}
use Rattle.call_machine.specs.declared.caller.Caller.{Caller}
use Rattle.call_machine.specs.declared.sweep.Sweeping.{Sweeping}
use Rattle.call_machine.specs.Caller.{IsSoundCaller}
use Rattle.call_machine.specs.SoundPass.{IsSoundCleaning}
use Rattle.call_machine.specs.SoundSweep.{IsSoundAt, IsSoundSweepAt, IsSoundSweep, FitsSweep}
use Rattle.call_machine.specs.Sweep.{finds_anew, finds_on, locks_on, cleans_on, swept, unlocked, graces_on, frees_on, plan_at, next_at, begun_sweep, sweep_got}
use Rattle.call_machine.proofs.SoundClean.{none_soundly}
use Rattle.call_machine.proofs.Nodes.{node_below}
use Rattle.call_machine.proofs.SoundPass.{head_inside, PassesOn, passes_from, begins_soundly, pass_soundly, FreesOn, frees_from, free_soundly}

-- the sweep after a step
abbrev IsSoundNext : SweepAsked → SweepAlong × SweepStage → Type 0
IsSoundNext q went = IsSoundSweepAt q went.0 went.1

-- at a stage of which the plan is sound
at_stage : (q : SweepAsked) (w : SweepAlong) (s : SweepStage) → IsSoundCaller q.caller → IsSoundCleaning q.caller.shape w.cleaning → IsSoundAt w.cleaning s → IsSoundPlan q.caller.shape q.caller.number (plan_at q w s)
    → IsSoundSweepAt q w s
at_stage q w s caller sound at is = record { caller = caller; cleaning = sound; at = at; plan = is }

-- the section is closed to find the head anew, or the head is locked
head_found : (q : SweepAsked) (w : SweepAlong) (word : ℕ) → IsSoundCaller q.caller → IsSoundCleaning q.caller.shape w.cleaning → w.cleaning.waiting.items ≡ []
    → IsInside q.caller.shape (place.Head w.walk.row w.walk.bucket) → IsHeadWord q.caller.shape word → IsSoundNext q (record w { walk = record w.walk { head = word } }, finds_on word None)
head_found q w word caller sound none inside fits =
    let v : SweepAlong = record w { walk = record w.walk { head = word } } in
    where_it_is (λ s. IsSoundSweepAt q v s) (is_locked word) (Close closing.Again) Lock
    (λ held. at_stage q v (Close closing.Again) caller sound none (caller.number, tt, tt, refl))
    (λ plain. at_stage q v Lock caller sound none (inside, plain, fits, tt))

cleans : (q : SweepAsked) (w : SweepAlong) (next : Option PassStage) → IsSoundCaller q.caller → IsSoundCleaning q.caller.shape w.cleaning → PassesOn q.caller.shape w.cleaning next → IsSoundSweepAt q w (cleans_on next)
cleans q w None caller sound on = at_stage q w UnlockHead caller sound tt (head_inside q.caller.shape w.cleaning sound, tt, sound.first, tt)
cleans q w (Some s) caller sound on = at_stage q w (Pass s) caller sound on.0 (on.1 q.caller.number)

unlocks : (q : SweepAsked) (w : SweepAlong) (items : List Waiting) → w.cleaning.waiting.items ≡ items → IsSoundCaller q.caller → IsSoundCleaning q.caller.shape w.cleaning → IsSoundSweepAt q w (unlocked w.cleaning items)
unlocks q w [] same caller sound = at_stage q w (swept w.cleaning) caller sound same tt
unlocks q w (x ∷ xs) same caller sound = let count = ap length same in at_stage q w (Grace RaiseCounter) caller sound (omega (arith, count)) (tt, tt, tt, tt)

scans : (q : SweepAsked) (w : SweepAlong) (word : ℕ) → IsSoundSweepAt q w (Grace LoadSection) → IsSoundNext q (next_at q w (Grace LoadSection) word)
scans q w word sound =
    let P : grace.Grace × Gracing → Type 0 = λ came. IsSoundNext q (record w { grace = came.0 }, graces_on came.1) in
    where_it_is P (waits_for w.grace.raised word) _ _
    (λ older. at_stage q _ (Grace LoadSection) sound.caller sound.cleaning sound.at sound.plan)
    (λ newer. where_it_is P (w.grace.next + 1 == q.caller.shape.seats) _ _
    (λ last. let on = frees_from q.caller.shape w.cleaning 0 sound.cleaning sound.at in at_stage q _ _ sound.caller sound.cleaning on.0 (on.1 q.caller.number))
    (λ more. let other = not_equal (w.grace.next + 1) q.caller.shape.seats more in let below : w.grace.next < q.caller.shape.seats = sound.plan.0 in
    at_stage q _ (Grace LoadSection) sound.caller sound.cleaning sound.at (omega (arith, other, below), tt, tt, tt)))

frees : (q : SweepAsked) (w : SweepAlong) (next : Option FreeStage) → IsSoundCaller q.caller → IsSoundCleaning q.caller.shape w.cleaning → FreesOn q.caller.shape w.cleaning next → IsSoundSweepAt q w (frees_on w.cleaning next)
frees q w (Some s) caller sound on = at_stage q w (Free s) caller sound on.0 (on.1 q.caller.number)
frees q w None caller sound none = at_stage q w (swept w.cleaning) caller sound none tt

pub sweep_soundly : (q : SweepAsked) (w : SweepAlong) (s : SweepStage) (word : ℕ) → word < 2 ^ 64 → IsSoundSweepAt q w s → CanFollow q.caller.shape (plan_at q w s) word → IsSoundNext q (next_at q w s word)
sweep_soundly q w (Answered a) word small sound fits = absurd fits
sweep_soundly q w Check word small sound fits =
    either_way (IsSoundSweepAt q w) (nat_le (2 ^ 48) word) (Answered (answer.Spent word)) finds_anew
    (at_stage q w _ sound.caller sound.cleaning sound.at tt) (at_stage q w _ sound.caller sound.cleaning sound.at (tt, tt, tt, tt))
sweep_soundly q w (Find (Enter LoadCounter)) word small sound fits = at_stage q w _ sound.caller sound.cleaning sound.at (sound.caller.number, fits.0, tt, refl)
sweep_soundly q w (Find (Enter (OpenSection counter))) word small sound fits = at_stage q w _ sound.caller sound.cleaning sound.at (tt, tt, tt, tt)
sweep_soundly q w (Find LoadLevel) word small sound fits = at_stage q _ _ sound.caller sound.cleaning sound.at ((fits.0.0, fits.0.1, mod-lt _ (pow_pos word)), tt, tt, tt)
sweep_soundly q w (Find LoadHead) word small sound fits =
    either_way (λ next. IsSoundNext q (record w { walk = record w.walk { head = word } }, finds_on word next)) (is_redirected word) (Some LoadNewLevel) None
    (at_stage q _ _ sound.caller sound.cleaning sound.at (tt, tt, tt, tt))
    (head_found q w word sound.caller sound.cleaning sound.at sound.plan.0 fits.0)
sweep_soundly q w (Find LoadNewLevel) word small sound fits = at_stage q _ _ sound.caller sound.cleaning sound.at ((fits.0.1.0, fits.0.1.1, mod-lt _ (pow_pos (new_level_of word))), tt, tt, tt)
sweep_soundly q w (Find LoadNewHead) word small sound fits = head_found q w word sound.caller sound.cleaning sound.at sound.plan.0 fits.0
sweep_soundly q w Lock word small sound fits =
    let inside = sound.plan.0 in
    either_way (λ came. IsSoundNext q (locks_on w came)) (word == w.walk.head) (locking.Locked (first_of word)) locking.Waits
    (at_stage q _ (Close closing.Clean) sound.caller
    (begins_soundly q.caller.shape _ (first_of word) (none_soundly q.caller.shape w.walk.row w.walk.bucket (inside.0, inside.1) inside.2) (node_below q.caller.shape (word / 4) fits.0))
    refl (sound.caller.number, tt, tt, refl))
    (at_stage q w (Close closing.Again) sound.caller sound.cleaning sound.at (sound.caller.number, tt, tt, refl))
sweep_soundly q w (Close closing.Again) word small sound fits = at_stage q w finds_anew sound.caller sound.cleaning sound.at (tt, tt, tt, tt)
sweep_soundly q w (Close closing.Clean) word small sound fits =
    let c = sound.cleaning in let count = ap length sound.at in cleans q w _ sound.caller c (passes_from q.caller.shape w.cleaning w.cleaning.first c.first (omega (arith, count)))
sweep_soundly q w (Pass s) word small sound fits = let came = pass_soundly q.caller.shape w.cleaning s q.caller.number word small sound.cleaning sound.at sound.plan fits in cleans q _ _ sound.caller came.0 came.1
sweep_soundly q w UnlockHead word small sound fits = unlocks q w w.cleaning.waiting.items refl sound.caller sound.cleaning
sweep_soundly q w (Grace RaiseCounter) word small sound fits = at_stage q _ (Grace LoadSection) sound.caller sound.cleaning sound.at (sound.caller.shape.seats.0, tt, tt, tt)
sweep_soundly q w (Grace LoadSection) word small sound fits = scans q w word sound
sweep_soundly q w (Free s) word small sound fits = let came = free_soundly q.caller.shape w.cleaning s q.caller.number word sound.cleaning sound.at sound.plan in frees q _ _ sound.caller came.0 came.1

pub sweep_law : (s : Sweeping) (word : ℕ) → word < 2 ^ 64 → IsSoundSweep s → FitsSweep s word → IsSoundSweep (sweep_got s word)
sweep_law s word small sound fits = sweep_soundly s.asked s.along s.stage word small sound fits

pub begins_sweep : (caller : Caller) (hash : ℕ) → IsSoundCaller caller → IsSoundSweep (begun_sweep caller hash)
begins_sweep caller hash sound =
    let levels = sound.shape.levels.0 in let least : caller.shape.min_level ≤ caller.shape.min_level = omega arith in
    record { caller = sound; cleaning = none_soundly caller.shape caller.shape.min_level 0 (least, levels) (pow_pos caller.shape.min_level); at = refl; plan = (tt, tt, tt, tt) }
