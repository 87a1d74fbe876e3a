-- How often a sweep may raise the counter after each of its steps.
use Rattle.std.proofs.Common.{◌≡◌, ◌≢◌, ℕ, ◌+◌, ◌^◌, ◌≤◌, Bool, true, false, Option, Some, None, inl, inr, refl, arith}
use Rattle.std.specs.Prelude.{nat_le, if◌then◌else◌}
use Rattle.std.proofs.lemmas.Bool.Decides.{nat_tests}
use Rattle.table_shape.specs.declared.place.Place.TheVariants as place
use Rattle.atomic_step.specs.declared.answer.Answer.TheVariants as answer
use Rattle.atomic_step.specs.declared.step.Step.TheVariants as step
use Rattle.atomic_step.specs.Turn.{Row, row, map_row}
use Rattle.call_machine.specs.declared.grace.GraceStage.TheVariants.{RaiseCounter, LoadSection}
use Rattle.call_machine.specs.declared.grace.Gracing.{Gracing}
use Rattle.call_machine.specs.declared.grace.Gracing.TheVariants.{Goes, Waits, Over}
use Rattle.call_machine.specs.declared.lock.LockStage.TheVariants.{LockHead}
use Rattle.call_machine.specs.declared.machine.Machine.TheVariants as machine
use Rattle.call_machine.specs.declared.pass.Cleaning.{Cleaning}
use Rattle.call_machine.specs.declared.pass.FreeStage.{FreeStage}
use Rattle.call_machine.specs.declared.sweep.SweepAlong.{SweepAlong}
use Rattle.call_machine.specs.declared.sweep.SweepAsked.{SweepAsked}
use Rattle.call_machine.specs.declared.sweep.SweepStage.{SweepStage}
use Rattle.call_machine.specs.declared.sweep.SweepStage.TheVariants as sweep
use Rattle.call_machine.specs.Find.{find_row}
use Rattle.call_machine.specs.Grace.{scanned}
use Rattle.call_machine.specs.Lock.{lock_row}
use Rattle.call_machine.specs.Pass.{pass_row, free_row}
use Rattle.call_machine.specs.Sweep.{sweep_turn, goes_to, checked, finds_anew, finds_on, locks_on, closed, cleans_on, unlocked, graces_on, frees_on}
use Rattle.cht_core.specs.declared.seat.Seat.{Seat}
use Rattle.cht_core.specs.declared.seat.Seat.TheVariants as doing
use Rattle.cht_core.specs.Bounds.{raises_sweep}
use Rattle.cht_core.specs.Memory.{Memory, IsMade, found}
use Rattle.cht_core.proofs.BoundSteps.{counter_stays, counter_raised, lock_plain, pass_plain, free_plain, find_plain}
use Rattle.cht_core.proofs.GraceStages.{CanRaise}
use Rattle.cht_core.proofs.Turns.{IfMakes}
use Rattle.cht_core.proofs.WorkBounds.{RaisesBy, raises_no_more, from_one}

-- a seat that sweeps, at a stage
abbrev sweeps_at : SweepAsked → SweepAlong × SweepStage → Seat
sweeps_at q at = doing.Running (machine.Sweep (goes_to q at))

-- a stage from which the counter may be raised, and a step that leaves it
raises_on : (m m' : Memory) (q : SweepAsked) (w : SweepAlong) (s : SweepStage) (does : Row (SweepAlong × SweepStage)) → does.step ≢ step.RaiseCounter → 1 ≤ raises_sweep s
    → IsMade does.step m m' → CanRaise m does.step → RaisesBy (m place.Counter) (m' place.Counter) (sweeps_at q (w, s)) (sweeps_at q (does.next (found does.step m)))
raises_on m m' q w s does other one made may =
    let to : SweepAlong × SweepStage = does.next (found does.step m) in
    raises_no_more (m place.Counter) (m' place.Counter) (sweeps_at q (w, s)) (sweeps_at q to) refl
    (from_one (m place.Counter) (m' place.Counter) (sweeps_at q (w, s)) (sweeps_at q to) (counter_stays m m' does.step made other) one)

-- the counter was looked at
checked_raises : (q : SweepAsked) (w : SweepAlong) (counter after : ℕ) → after ≡ counter → RaisesBy counter after (sweeps_at q (w, sweep.Check)) (sweeps_at q (w, checked counter))
checked_raises q w counter after same = by_test (nat_le (2 ^ 48) counter) refl
  where
    by_test : (spent : Bool) → nat_le (2 ^ 48) counter ≡ spent
        → RaisesBy counter after (sweeps_at q (w, sweep.Check)) (sweeps_at q (w, if spent then sweep.Answered (answer.Spent counter) else finds_anew))
    by_test true is = raises_no_more counter after (sweeps_at q (w, sweep.Check)) (sweeps_at q (w, sweep.Answered (answer.Spent counter))) refl (omega (arith, same))
    by_test false is = inr (inl (record { same = same; low = grind (arith, nat_tests); none = refl }))

-- a section word was looked at
scanned_raises : (q : SweepAsked) (w w' : SweepAlong) (gracing : Gracing) (before after : ℕ) → after ≡ before
    → RaisesBy before after (sweeps_at q (w, sweep.Grace LoadSection)) (sweeps_at q (w', graces_on gracing))
scanned_raises q w w' Goes before after same = raises_no_more before after (sweeps_at q (w, sweep.Grace LoadSection)) (sweeps_at q (w', graces_on Goes)) refl (omega (arith, same))
scanned_raises q w w' Waits before after same = raises_no_more before after (sweeps_at q (w, sweep.Grace LoadSection)) (sweeps_at q (w', graces_on Waits)) refl (omega (arith, same))
scanned_raises q w w' Over before after same = raises_no_more before after (sweeps_at q (w, sweep.Grace LoadSection)) (sweeps_at q (w', graces_on Over)) refl (omega (arith, same))

-- a slot was freed
freed_raises : (q : SweepAsked) (w w' : SweepAlong) (s : FreeStage) (c : Cleaning) (next : Option FreeStage) (before after : ℕ) → after ≡ before
    → RaisesBy before after (sweeps_at q (w, sweep.Free s)) (sweeps_at q (w', frees_on c next))
freed_raises q w w' s c (Some x) before after same = raises_no_more before after (sweeps_at q (w, sweep.Free s)) (sweeps_at q (w', frees_on c (Some x))) refl (omega (arith, same))
freed_raises q w w' s c None before after same = raises_no_more before after (sweeps_at q (w, sweep.Free s)) (sweeps_at q (w', frees_on c None)) refl (omega (arith, same))

-- each step of a sweep
pub sweep_raises : (m m' : Memory) (q : SweepAsked) (w : SweepAlong) (s : SweepStage)
    → IfMakes (λ does. IsMade does.step m m' → CanRaise m does.step →
    RaisesBy (m place.Counter) (m' place.Counter) (sweeps_at q (w, s)) (sweeps_at q (does.next (found does.step m)))) (sweep_turn q w s)
sweep_raises m m' q w sweep.Check = λ made may. checked_raises q w (m place.Counter) (m' place.Counter) (counter_stays m m' step.LoadCounter made (λ e. cc))
sweep_raises m m' q w (sweep.Find s) =
    raises_on m m' q w (sweep.Find s) (map_row (λ at. (record w { walk = at.0 }, finds_on at.0.head at.1)) (find_row q.caller.number q.hash w.walk s))
    (find_plain q.caller.number q.hash w.walk s).0 (omega arith)
sweep_raises m m' q w sweep.Lock =
    raises_on m m' q w sweep.Lock (map_row (locks_on w) (lock_row w.walk.row w.walk.bucket (LockHead w.walk.head))) (lock_plain w.walk.row w.walk.bucket (LockHead w.walk.head)).0 (omega arith)
sweep_raises m m' q w (sweep.Close why) = raises_on m m' q w (sweep.Close why) (row (step.CloseSection q.caller.number) (λ word. (w, closed w.cleaning why))) (λ e. cc) (omega arith)
sweep_raises m m' q w (sweep.Pass s) =
    raises_on m m' q w (sweep.Pass s) (map_row (λ came. (record w { cleaning = came.0 }, cleans_on came.1)) (pass_row w.cleaning s)) (pass_plain w.cleaning s).0 (omega arith)
sweep_raises m m' q w sweep.UnlockHead =
    raises_on m m' q w sweep.UnlockHead (row (step.UnlockHead w.cleaning.row w.cleaning.bucket w.cleaning.first) (λ word. (w, unlocked w.cleaning w.cleaning.waiting.items))) (λ e. cc) (omega arith)
sweep_raises m m' q w (sweep.Grace RaiseCounter) = λ made may.
    let more : m' place.Counter ≡ m place.Counter + 2 = counter_raised m m' made (may refl) in
    raises_no_more (m place.Counter) (m' place.Counter) (sweeps_at q (w, sweep.Grace RaiseCounter))
    (sweeps_at q (record w { grace = record { raised = m place.Counter + 2; next = 0 } }, sweep.Grace LoadSection)) refl (omega (arith, more))
sweep_raises m m' q w (sweep.Grace LoadSection) = λ made may.
    let came = scanned q.caller.shape.seats w.grace (m (place.Section w.grace.next)) in
    scanned_raises q w (record w { grace = came.0 }) came.1 (m place.Counter) (m' place.Counter) (counter_stays m m' (step.LoadSection w.grace.next) made (λ e. cc))
sweep_raises m m' q w (sweep.Free s) = λ made may.
    let came = (free_row w.cleaning s).next (found (free_row w.cleaning s).step m) in
    freed_raises q w (record w { cleaning = came.0 }) s came.0 came.1 (m place.Counter) (m' place.Counter) (counter_stays m m' (free_row w.cleaning s).step made (free_plain w.cleaning s).0)
sweep_raises m m' q w (sweep.Answered a) = tt
