-- The first step of the poll of a work.
use Rattle.std.proofs.Common.{◌≡◌, ℕ, Option, Some, None, refl, sym, ap, subst, ◌∙◌}
use Rattle.table_shape.specs.declared.shape.Shape.{Shape}
use Rattle.atomic_step.specs.declared.answer.Answer.{Answer}
use Rattle.atomic_step.specs.declared.plan.Plan.{Plan}
use Rattle.atomic_step.specs.declared.plan.Plan.TheVariants as plan
use Rattle.atomic_step.specs.declared.step.Step.{Step}
use Rattle.atomic_step.specs.SoundStep.{IsSoundStep, CanBeFound, CanFollow}
use Rattle.call_machine.specs.declared.call.Call.{Call}
use Rattle.call_machine.specs.declared.call.Call.TheVariants as call
use Rattle.call_machine.specs.declared.clean.CleanAlong.{CleanAlong}
use Rattle.call_machine.specs.declared.clean.CleanStage.{CleanStage}
use Rattle.call_machine.specs.declared.clean.CleanStage.TheVariants as clean_at
use Rattle.call_machine.specs.declared.grace.GraceStage.TheVariants as grace
use Rattle.call_machine.specs.declared.machine.Machine.{Machine}
use Rattle.call_machine.specs.declared.machine.Machine.TheVariants as machine
use Rattle.call_machine.specs.declared.work.Work.{Work}
use Rattle.call_machine.specs.declared.work.Work.TheVariants as work
use Rattle.call_machine.specs.Clean.{clean_row}
use Rattle.call_machine.specs.Machine.{plan_of, got_of, begun_work_poll}
use Rattle.call_machine.specs.Poll.{begun_poll}
use Rattle.call_machine.specs.SoundMachine.{FitsMachine}
use Rattle.call_machine.specs.Work.{work_row, resumes, IsSoundWork}
use Rattle.cht_run.specs.declared.sight.Origin.{Origin}
use Rattle.cht_run.specs.declared.sight.Sight.{Sight}
use Rattle.cht_run.specs.declared.table.Cht.{Cht}
use Rattle.cht_run.specs.Begins.{first_of, caller_in, GoesFirst}
use Rattle.cht_run.specs.Cleans.{anew}
use Rattle.cht_run.specs.Pending.{MayPend, IsHeld}
use Rattle.cht_run.specs.Polls.{MayPoll}
use Rattle.cht_run.specs.Runs.{Ran, IsPolling}
use Rattle.cht_run.specs.Seats.{Raw, Sits}
use Rattle.cht_run.specs.Underway.{IsAt, polled}
use Rattle.cht_run.proofs.PollCalls.{unheld}
use Rattle.cht_run.proofs.Polling.{polls_ran}
use Rattle.cht_run.proofs.Starts.{ran_resumed, poll_shape}

-- counting the full passes anew leaves the step
anew_step : (shape : Shape) (w : CleanAlong) (s : CleanStage) → (clean_row shape (anew w) s).step ≡ (clean_row shape w s).step
anew_step shape w clean_at.LoadLevel = refl
anew_step shape w (clean_at.Lock s) = refl
anew_step shape w (clean_at.Pass s) = refl
anew_step shape w clean_at.UnlockHead = refl
anew_step shape w (clean_at.Grace which grace.RaiseCounter) = refl
anew_step shape w (clean_at.Grace which grace.LoadSection) = refl
anew_step shape w (clean_at.Free which s) = refl
anew_step shape w clean_at.GiveResizeLock = refl

resumed_step : (shape : Shape) (w : Work) → (work_row shape (resumes w).0).step ≡ (work_row shape w).step
resumed_step shape (work.Clean c) = anew_step shape c.along c.stage
resumed_step shape (work.Resize r) = refl

-- what the step asks
pub work_step : (shape : Shape) (w : Work) (number : ℕ) → IsSoundWork shape w → IsSoundStep shape number (work_row shape w).step
work_step shape (work.Clean c) number sound = sound.step number
work_step shape (work.Resize r) number sound = sound.step number

module _ (cht : Cht) (b : Sight) (c : Call) (raw : Raw) (state : Work) (stp : Step) (may : MayPoll cht b c raw state) (pends : MayPend state) (free : ¬ (IsHeld state)) (is : stp ≡ (work_row cht.origin.table.shape state).step) where
  abbrev shape : Shape
  shape = cht.origin.table.shape

  going : (resumes state).1 ≡ None
  going = unheld state pends free

  first : first_of raw.me.0 call.PollWork ≡ polled raw.me.0 (resumes state)
  first = ap (begun_work_poll (caller_in raw.me.0)) may.unfinished

  of_shape : raw.me.0.origin.table.shape ≡ shape
  of_shape = ap (λ (o : Origin). o.table.shape) may.sits.origin

  plan_there : (v : Sight) (w : Work) (a : Option Answer) → a ≡ None → plan_of (polled v (w, a)) ≡ plan.Step (work_row v.origin.table.shape w).step
  plan_there v w None none = refl
  plan_there v w (Some a) none = absurd (cc)

  got_there : (v : Sight) (w : Work) (a : Option Answer) (word : ℕ) → a ≡ None → got_of (polled v (w, a)) word ≡ polled v ((work_row v.origin.table.shape w).next word)
  got_there v w None word none = refl
  got_there v w (Some a) word none = absurd (cc)

  pub first_planned : plan_of (first_of raw.me.0 call.PollWork) ≡ plan.Step stp
  first_planned = ap plan_of first ∙ plan_there raw.me.0 (resumes state).0 (resumes state).1 going
      ∙ ap plan.Step (ap (λ (x : Shape). (work_row x (resumes state).0).step) of_shape ∙ resumed_step shape state ∙ sym is)

  module _ (raw' : Raw) (word : ℕ) (sits : Sits cht raw') (told : GoesFirst call.PollWork raw.me.0 word raw'.me.0) where
    machine_is : got_of (first_of raw.me.0 call.PollWork) word ≡ polled b ((work_row shape (resumes state).0).next word)
    machine_is = ap (λ (m : Machine). got_of m word) first ∙ got_there raw.me.0 (resumes state).0 (resumes state).1 word going
        ∙ ap (λ (x : Shape). polled raw.me.0 ((work_row x (resumes state).0).next word)) of_shape ∙ ap (λ (v : Sight). polled v ((work_row shape (resumes state).0).next word)) (sym may.same)

    ran : Ran b call.PollWork raw'.me.0 (polled b ((work_row shape (resumes state).0).next word))
    ran = ran_resumed cht raw.me.0 raw'.me.0 b call.PollWork stp word (first_of raw.me.0 call.PollWork) may.sits.origin may.may tt refl first_planned told (polled b ((work_row shape (resumes state).0).next word)) cht.sound cht.seeded may.same (sym machine_is)

    pub poll_at : IsAt cht b c raw' (polled b ((work_row shape (resumes state).0).next word))
    poll_at = record { sits = sits; ran = subst (λ (k : Call). Ran b k raw'.me.0 (polled b ((work_row shape (resumes state).0).next word))) (sym may.asks) ran; of = tt }

    pub poll_polls : IsPolling shape (polled b ((work_row shape (resumes state).0).next word))
    poll_polls =
        let begun : first_of b call.PollWork ≡ machine.Poll (begun_poll (caller_in b) state) =
        subst (λ (v : Sight). first_of v call.PollWork ≡ machine.Poll (begun_poll (caller_in v) state)) (sym may.same) first in
        subst (λ (o : Origin). IsPolling o.table.shape (polled b ((work_row shape (resumes state).0).next word))) (ap (λ (v : Sight). v.origin) may.same ∙ may.sits.origin)
        (polls_ran b call.PollWork raw'.me.0 (polled b ((work_row shape (resumes state).0).next word)) (begun_poll (caller_in b) state) ran begun (poll_shape b call.PollWork tt))

    pub poll_fits : CanBeFound shape (work_row shape state).step word
    poll_fits =
        let fits : FitsMachine (first_of raw.me.0 call.PollWork) word = (told stp first_planned).told.found.fits in
        let m = first_of raw.me.0 call.PollWork in
        subst (λ (x : Step). CanBeFound shape x word) is (subst (λ (p : Plan). CanFollow shape p word) first_planned (subst (λ (x : Shape). CanFollow x (plan_of m) word) (poll_shape raw.me.0 call.PollWork tt ∙ of_shape) fits))
