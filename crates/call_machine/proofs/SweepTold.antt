-- What a sweep answers is what it counted.
use Rattle.std.proofs.Common.{◌^◌, ℕ, Option, Some, None, List, [], ◌∷◌, refl}
use Rattle.std.specs.Prelude.{nat_le}
use Rattle.std.proofs.lemmas.Bool.{leb-true}
use Rattle.marked_word.specs.Head.{is_locked, is_redirected}
use Rattle.atomic_step.specs.declared.answer.Answer.TheVariants as answer
use Rattle.atomic_step.specs.SoundStep.{CanFollow}
use Rattle.atomic_step.proofs.Choices.{where_it_is, either_way}
use Rattle.call_machine.specs.declared.enter.EnterStage.TheVariants.{LoadCounter, OpenSection}
use Rattle.call_machine.specs.declared.find.FindStage.TheVariants.{Enter, LoadLevel, LoadHead, LoadNewLevel, LoadNewHead}
use Rattle.call_machine.specs.Grace.{grace_row}
use Rattle.call_machine.specs.declared.grace.Gracing.{Gracing}
use Rattle.call_machine.specs.declared.grace.Gracing.TheVariants as gracing
use Rattle.call_machine.specs.declared.lock.Locking.{Locking}
use Rattle.call_machine.specs.declared.lock.LockStage.TheVariants.{LockHead}
use Rattle.call_machine.specs.declared.lock.Locking.TheVariants as locking
use Rattle.call_machine.specs.declared.pass.Cleaning.{Cleaning}
use Rattle.call_machine.specs.declared.pass.FreeStage.{FreeStage}
use Rattle.call_machine.specs.declared.pass.PassStage.{PassStage}
use Rattle.call_machine.specs.declared.pass.Waiting.{Waiting}
use Rattle.call_machine.specs.declared.sweep.Closing.TheVariants as closing
use Rattle.call_machine.specs.declared.sweep.SweepAlong.{SweepAlong}
use Rattle.call_machine.specs.declared.sweep.SweepAsked.{SweepAsked}
use Rattle.call_machine.specs.declared.sweep.SweepStage.{SweepStage}
use Rattle.call_machine.specs.declared.sweep.SweepStage.TheVariants.{Check, Find, Lock, Close, Pass, UnlockHead, Grace, Free, Answered}
use Rattle.call_machine.specs.Lock.{lock_row}
use Rattle.call_machine.specs.Pass.{passes_on, pass_row, free_row}
use Rattle.call_machine.specs.Sweep.{finds_anew, finds_on, locks_on, cleans_on, unlocked, graces_on, frees_on, plan_at, next_at}
use Rattle.call_machine.specs.WholeSweep.{unlinked_at, IsToldOf}

abbrev pub IsTold : Cleaning → SweepStage → Type 0
IsTold c (Answered a) = IsToldOf (unlinked_at c (Answered a)) a
IsTold c _ = Unit {0}

on_pass : (c : Cleaning) (next : Option PassStage) → IsTold c (cleans_on next)
on_pass c None = tt
on_pass c (Some s) = tt

found : (c : Cleaning) (head : ℕ) → IsTold c (finds_on head None)
found c head = either_way (IsTold c) (is_locked head) (Close closing.Again) Lock tt tt

ends : (c : Cleaning) (items : List Waiting) → IsTold c (unlocked c items)
ends c [] = refl
ends c (x ∷ xs) = tt

frees : (c : Cleaning) (next : Option FreeStage) → IsTold c (frees_on c next)
frees c None = refl
frees c (Some s) = tt

locks : (w : SweepAlong) (came : Locking) → IsTold (locks_on w came).0.cleaning (locks_on w came).1
locks w (locking.Locked first) = tt
locks w _ = tt

scans : (c : Cleaning) (gracing : Gracing) → IsTold c (graces_on gracing)
scans c gracing.Over = tt
scans c _ = tt

pub tells_step : (q : SweepAsked) (w : SweepAlong) (s : SweepStage) (word : ℕ) → CanFollow q.caller.shape (plan_at q w s) word → IsTold (next_at q w s word).0.cleaning (next_at q w s word).1
tells_step q w (Answered a) word fits = absurd fits
tells_step q w Check word fits = where_it_is (IsTold w.cleaning) (nat_le (2 ^ 48) word) (Answered (answer.Spent word)) finds_anew (λ spent. (leb-true (2 ^ 48) word spent, refl)) (λ more. tt)
tells_step q w (Find (Enter LoadCounter)) word fits = tt
tells_step q w (Find (Enter (OpenSection counter))) word fits = tt
tells_step q w (Find LoadLevel) word fits = tt
tells_step q w (Find LoadHead) word fits = either_way (λ next. IsTold w.cleaning (finds_on word next)) (is_redirected word) (Some LoadNewLevel) None tt (found w.cleaning word)
tells_step q w (Find LoadNewLevel) word fits = tt
tells_step q w (Find LoadNewHead) word fits = found w.cleaning word
tells_step q w Lock word fits = locks w ((lock_row w.walk.row w.walk.bucket (LockHead w.walk.head)).next word)
tells_step q w (Close closing.Again) word fits = tt
tells_step q w (Close closing.Clean) word fits = on_pass w.cleaning (passes_on w.cleaning.first)
tells_step q w (Pass s) word fits = on_pass ((pass_row w.cleaning s).next word).0 ((pass_row w.cleaning s).next word).1
tells_step q w UnlockHead word fits = ends w.cleaning w.cleaning.waiting.items
tells_step q w (Grace s) word fits = scans w.cleaning ((grace_row q.caller.shape.seats w.grace s).next word).1
tells_step q w (Free s) word fits = frees ((free_row w.cleaning s).next word).0 ((free_row w.cleaning s).next word).1
