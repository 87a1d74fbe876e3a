-- A poll of a state that answers that a grow is done tells few graces.
use Rattle.std.proofs.Common.{◌≡◌, ℕ, ◌+◌, ◌≤◌, Option, Some, None, refl, sym, ap, subst, ◌∙◌}
use Rattle.atomic_step.specs.declared.answer.Answer.{Answer}
use Rattle.atomic_step.specs.declared.answer.Answer.TheVariants as answer
use Rattle.atomic_step.specs.declared.answer.Worked.{Worked}
use Rattle.atomic_step.specs.declared.plan.Plan.TheVariants as plan
use Rattle.atomic_step.specs.declared.step.Step.{Step}
use Rattle.atomic_step.specs.Turn.{plan_in, next_in}
use Rattle.call_machine.specs.declared.caller.Caller.{Caller}
use Rattle.call_machine.specs.declared.machine.Machine.{Machine}
use Rattle.call_machine.specs.declared.machine.Machine.TheVariants as machine
use Rattle.call_machine.specs.declared.poll.Polling.{Polling}
use Rattle.call_machine.specs.declared.resize.Direction.TheVariants.{Grow}
use Rattle.call_machine.specs.declared.resize.Resize.{Resize}
use Rattle.call_machine.specs.declared.work.Work.{Work}
use Rattle.call_machine.specs.declared.work.Work.TheVariants as work
use Rattle.call_machine.specs.Machine.{plan_of, got_of, IsSameWork, IsSameMachine}
use Rattle.call_machine.specs.Poll.{poll_turn, polling, state_of}
use Rattle.call_machine.proofs.Machines.{plan_is, got_is, same_law}
use Rattle.cht_core.specs.declared.seat.Seat.TheVariants as doing
use Rattle.cht_core.specs.Graces.{creates_in}
use Rattle.cht_core.specs.Runs.{word_in}
use Rattle.cht_core.specs.State.{Core, IsCore, seat_in, after_step}
use Rattle.cht_core.proofs.GraceBounds.{few_when_done}
use Rattle.cht_core.proofs.StateLaw.{any_step_keeps, any_word_fits}
use Rattle.cht_core.proofs.StateSteps.{running, moves}

-- a resize stays one in its direction
pub same_resize : (r : Resize) (w : Work) → IsSameWork (work.Resize r) w → (q : Resize) × (w ≡ work.Resize q) × (q.direction ≡ r.direction)
same_resize r (work.Clean c) same = absurd same
same_resize r (work.Resize q) same = (q, refl, same)

-- a poll that makes no step has answered
pub has_answered : (caller : Caller) (w : Work) (a : Option Answer) (b : Answer) → plan_in (poll_turn caller (w, a)) ≡ plan.Answered b → a ≡ Some b
has_answered caller w None b is = absurd (cc)
has_answered caller w (Some a) b is = let same : a ≡ b = cc in ap (λ (x : Answer). Some x) same

module _ (d : Core) (core : IsCore d) (k : ℕ) (q : Polling) (r : Resize) (s : Step) (did : Worked) (at : seat_in d.seats k ≡ Some (doing.Running (machine.Poll q))) (grow : q.work ≡ work.Resize r)
    (grows : r.direction ≡ Grow) (planned : plan_of (machine.Poll q) ≡ plan.Step s) (answers : plan_of (got_of (machine.Poll q) (word_in d s)) ≡ plan.Answered (answer.Done did)) where
  -- the poll after the step
  abbrev after : Polling
  after = polling q.caller (next_in (state_of q) (poll_turn q.caller (state_of q)) (word_in d s))

  is_after : got_of (machine.Poll q) (word_in d s) ≡ machine.Poll after
  is_after = got_is (machine.Poll q) (word_in d s)

  still : (x : Resize) × (after.work ≡ work.Resize x) × (x.direction ≡ r.direction)
  still = same_resize r after.work (subst (λ (w : Work). IsSameWork w after.work) grow
      (subst (IsSameMachine (machine.Poll q)) is_after (same_law (machine.Poll q) (word_in d s))).1)

  answered : after.answer ≡ Some (answer.Done did)
  answered = has_answered q.caller after.work after.answer (answer.Done did) (sym (plan_is (machine.Poll after)) ∙ ap plan_of (sym is_after) ∙ answers)

  -- few graces, by the log as it is then
  pub few_when_answered : did.graces ≤ creates_in (after_step d k (machine.Poll q) s (word_in d s)).log + 1
  few_when_answered = few_when_done d.table _ _ _ (running any_step_keeps any_word_fits d core k (machine.Poll q) s at planned) k _
      (moves any_step_keeps any_word_fits d core k (machine.Poll q) s at planned).own after still.0 did (ap (λ (m : Machine). doing.Running m) is_after) still.1 (still.2 ∙ grows) answered
