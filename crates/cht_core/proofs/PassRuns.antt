-- A clean that is done, and a sweep of few slots, have unlinked what was dead as they began.
use Rattle.std.proofs.Common.{◌≡◌, ℕ, ◌<◌, List, Option, Some, refl, sym, ap, subst, ◌∙◌}
use Rattle.intern_log.specs.declared.event.Event.{Event}
use Rattle.intern_log.specs.declared.event.What.TheVariants as what
use Rattle.intern_log.specs.Now.{Now}
use Rattle.atomic_step.specs.declared.answer.Answer.{Answer}
use Rattle.atomic_step.specs.declared.answer.Answer.TheVariants as answer
use Rattle.atomic_step.specs.declared.answer.Worked.{Worked}
use Rattle.atomic_step.specs.declared.plan.Plan.TheVariants as plan
use Rattle.atomic_step.specs.declared.step.Step.{Step}
use Rattle.atomic_step.specs.Turn.{plan_in, next_in}
use Rattle.call_machine.specs.declared.clean.Clean.{Clean}
use Rattle.call_machine.specs.declared.machine.Machine.{Machine}
use Rattle.call_machine.specs.declared.machine.Machine.TheVariants as machine
use Rattle.call_machine.specs.declared.poll.Polling.{Polling}
use Rattle.call_machine.specs.declared.sweep.SweepAlong.{SweepAlong}
use Rattle.call_machine.specs.declared.sweep.SweepAsked.{SweepAsked}
use Rattle.call_machine.specs.declared.sweep.SweepStage.{SweepStage}
use Rattle.call_machine.specs.declared.sweep.SweepStage.TheVariants as sweep
use Rattle.call_machine.specs.declared.sweep.Sweeping.{Sweeping}
use Rattle.call_machine.specs.declared.work.Work.{Work}
use Rattle.call_machine.specs.declared.work.Work.TheVariants as work
use Rattle.call_machine.specs.Machine.{plan_of, got_of, IsSameWork, IsSameMachine}
use Rattle.call_machine.specs.Poll.{poll_turn, polling, state_of}
use Rattle.call_machine.specs.Sweep.{sweep_turn, next_at, goes_to}
use Rattle.call_machine.proofs.Machines.{plan_is, got_is, same_law}
use Rattle.cht_core.specs.declared.seat.Seat.TheVariants as doing
use Rattle.cht_core.specs.declared.table.Table.{Table}
use Rattle.cht_core.specs.Invariant.{Inv}
use Rattle.cht_core.specs.Memory.{Memory}
use Rattle.cht_core.specs.Passes.{IsAny, IsAtHash, IsLast, IsOfBucket, PollFinds, SweptAll, SweepIsAt, PassesFind, SweepFinds, WereLiveSince, HasCleaned, HasSwept, is_lock}
use Rattle.cht_core.specs.Past.{past_of}
use Rattle.cht_core.specs.Runs.{word_in}
use Rattle.cht_core.specs.Stage.{bucket_in}
use Rattle.cht_core.specs.State.{Core, IsCore, seat_in, after_step}
use Rattle.cht_core.specs.View.{View}
use Rattle.cht_core.proofs.DeadSlots.{dead_unlinked}
use Rattle.cht_core.proofs.GraceRuns.{has_answered}
use Rattle.cht_core.proofs.StateLaw.{any_step_keeps, any_word_fits}
use Rattle.cht_core.proofs.StateSteps.{running, moves}

-- A SEAT

module _ (t : Table) (m : Memory) (seat : ℕ → Option View) (log : List Event) (inv : Inv t m seat log) (k : ℕ) (v : View) (is : seat k ≡ Some v) where
  abbrev n : Now
  n = (past_of t.shape.min_level log).now

  -- what was dead as a clean took the resize lock was unlinked once the clean is done
  pub cleaned_when_done : (q : Polling) (c : Clean) (did : Worked) → v.seat ≡ doing.Running (machine.Poll q) → q.work ≡ work.Clean c → q.answer ≡ Some (answer.Done did) → HasCleaned t.shape.min_level log k
  cleaned_when_done q c did is_running clean answered =
      let finds : PassesFind t n log inv.flow k (doing.Running (machine.Poll q)) = subst (PassesFind t n log inv.flow k) is_running (inv.passes k v is) in
      let told : PollFinds t n log k (work.Clean c) (Some (answer.Done did)) =
      subst (PollFinds t n log k (work.Clean c)) answered (subst (λ (w : Work). PollFinds t n log k w q.answer) clean finds.1) in
      (told.1.0, told.1.1, dead_unlinked t log told.1.0 IsAny inv.told told.1.2)

  -- and what was dead of the bucket of its hash as a sweep locked it, once the sweep has answered that it unlinked few slots
  pub swept_when_answered : (w : Sweeping) (many : ℕ) → v.seat ≡ doing.Running (machine.Sweep w) → w.stage ≡ sweep.Answered (answer.Swept many) → many < 256 → HasSwept t.shape.min_level log k w.asked.hash
  swept_when_answered w many is_running stage few =
      let finds : PassesFind t n log inv.flow k (doing.Running (machine.Sweep w)) = subst (PassesFind t n log inv.flow k) is_running (inv.passes k v is) in
      let told : SweptAll n log k w.along.cleaning (answer.Swept many) = subst (SweepFinds t n log inv.flow k w.along.cleaning) stage finds.1.1 in
      let at : IsAtHash w.asked.hash w.along.cleaning = subst (SweepIsAt w.asked.hash w.along.cleaning) stage finds.1.2 in
      let row : ℕ = w.along.cleaning.row in
      let bucket : ℕ = bucket_in row w.asked.hash in (
        row,
        told.0,
        subst (λ (b : ℕ). IsLast is_lock k (what.Lock row b) log told.0) at told.1,
        dead_unlinked t log told.0 (IsOfBucket n.seed row bucket) inv.told (subst (λ (b : ℕ). WereLiveSince n log told.0 (IsOfBucket n.seed row b)) at (told.2 few)),
      )

-- A STEP OF A STATE

-- a clean stays one
same_clean : (c : Clean) (w : Work) → IsSameWork (work.Clean c) w → (d : Clean) × (w ≡ work.Clean d)
same_clean c (work.Clean d) same = (d, refl)
same_clean c (work.Resize r) same = absurd same

module _ (d : Core) (core : IsCore d) (k : ℕ) (q : Polling) (c : Clean) (s : Step) (did : Worked) (at : seat_in d.seats k ≡ Some (doing.Running (machine.Poll q))) (clean : q.work ≡ work.Clean c)
    (planned : plan_of (machine.Poll q) ≡ plan.Step s) (answers : plan_of (got_of (machine.Poll q) (word_in d s)) ≡ plan.Answered (answer.Done did)) where
  -- the poll after the step
  abbrev polled : Polling
  polled = polling q.caller (next_in (state_of q) (poll_turn q.caller (state_of q)) (word_in d s))

  is_polled : got_of (machine.Poll q) (word_in d s) ≡ machine.Poll polled
  is_polled = got_is (machine.Poll q) (word_in d s)

  still : (e : Clean) × (polled.work ≡ work.Clean e)
  still = same_clean c polled.work (subst (λ (w : Work). IsSameWork w polled.work) clean
      (subst (IsSameMachine (machine.Poll q)) is_polled (same_law (machine.Poll q) (word_in d s))).1)

  answered : polled.answer ≡ Some (answer.Done did)
  answered = has_answered q.caller polled.work polled.answer (answer.Done did) (sym (plan_is (machine.Poll polled)) ∙ ap plan_of (sym is_polled) ∙ answers)

  pub cleaned_by_step : HasCleaned d.table.shape.min_level (after_step d k (machine.Poll q) s (word_in d s)).log k
  cleaned_by_step = cleaned_when_done d.table _ _ _ (running any_step_keeps any_word_fits d core k (machine.Poll q) s at planned) k _
      (moves any_step_keeps any_word_fits d core k (machine.Poll q) s at planned).own polled still.0 did (ap (λ (m : Machine). doing.Running m) is_polled) still.1 answered

-- a sweep that makes no step has answered
sweep_answered : (q : SweepAsked) (w : SweepAlong) (s : SweepStage) (a : Answer) → plan_in (sweep_turn q w s) ≡ plan.Answered a → s ≡ sweep.Answered a
sweep_answered q w (sweep.Answered b) a is = let same : b ≡ a = cc in ap (λ (x : Answer). sweep.Answered x) same
sweep_answered q w sweep.Check a is = absurd (cc)
sweep_answered q w (sweep.Find s) a is = absurd (cc)
sweep_answered q w sweep.Lock a is = absurd (cc)
sweep_answered q w (sweep.Close why) a is = absurd (cc)
sweep_answered q w (sweep.Pass s) a is = absurd (cc)
sweep_answered q w sweep.UnlockHead a is = absurd (cc)
sweep_answered q w (sweep.Grace s) a is = absurd (cc)
sweep_answered q w (sweep.Free s) a is = absurd (cc)

module _ (d : Core) (core : IsCore d) (k : ℕ) (w : Sweeping) (s : Step) (many : ℕ) (at : seat_in d.seats k ≡ Some (doing.Running (machine.Sweep w)))
    (planned : plan_of (machine.Sweep w) ≡ plan.Step s) (answers : plan_of (got_of (machine.Sweep w) (word_in d s)) ≡ plan.Answered (answer.Swept many)) (few : many < 256) where
  -- the sweep after the step
  abbrev swept : Sweeping
  swept = goes_to w.asked (next_at w.asked w.along w.stage (word_in d s))

  is_swept : got_of (machine.Sweep w) (word_in d s) ≡ machine.Sweep swept
  is_swept = got_is (machine.Sweep w) (word_in d s)

  stage : swept.stage ≡ sweep.Answered (answer.Swept many)
  stage = sweep_answered swept.asked swept.along swept.stage (answer.Swept many) (sym (plan_is (machine.Sweep swept)) ∙ ap plan_of (sym is_swept) ∙ answers)

  pub swept_by_step : HasSwept d.table.shape.min_level (after_step d k (machine.Sweep w) s (word_in d s)).log k w.asked.hash
  swept_by_step = swept_when_answered d.table _ _ _ (running any_step_keeps any_word_fits d core k (machine.Sweep w) s at planned) k _
      (moves any_step_keeps any_word_fits d core k (machine.Sweep w) s at planned).own swept many (ap (λ (m : Machine). doing.Running m) is_swept) stage few
