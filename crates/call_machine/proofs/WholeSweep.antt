-- What is seen of a sweep follows its events from its beginning to its end.
use Rattle.std.proofs.Common.{◌≡◌, ◌∙◌, ◌⊎◌, inl, inr, ◌≤◌, ◌+◌, ◌^◌, ℕ, false, Option, Some, None, [], refl, sym, ap, subst}
use Rattle.std.specs.Prelude.{nat_lt}
use Rattle.std.proofs.lemmas.Bool.{ltb-false}
use Rattle.intern_log.specs.declared.event.What.{What}
use Rattle.intern_log.specs.declared.event.What.TheVariants as what
use Rattle.atomic_step.specs.declared.answer.Answer.{Answer}
use Rattle.atomic_step.specs.declared.plan.Plan.TheVariants as plan
use Rattle.atomic_step.specs.Monitor.{after_one, section}
use Rattle.atomic_step.specs.Run.{Machine, after_words}
use Rattle.atomic_step.proofs.Choices.{where_it_is}
use Rattle.atomic_step.proofs.Runs.{keeps, follows}
use Rattle.call_machine.specs.declared.pass.PassStage.TheVariants.{LoadCount, LoadLink, Unlink}
use Rattle.call_machine.specs.declared.sweep.SweepAlong.{SweepAlong}
use Rattle.call_machine.specs.declared.sweep.SweepAsked.{SweepAsked}
use Rattle.call_machine.specs.declared.sweep.SweepStage.{SweepStage}
use Rattle.call_machine.specs.declared.sweep.SweepStage.TheVariants.{Pass, Answered}
use Rattle.call_machine.specs.declared.sweep.Sweeping.{Sweeping}
use Rattle.call_machine.specs.SoundSweep.{IsSoundSweep}
use Rattle.call_machine.specs.Sweep.{plan_at, begun_sweep, sweep_plan, sweep_event}
use Rattle.call_machine.specs.WholeSweep.{sweeps, due_sweeps, is_inside_at, locked_at, unlinked_at, still_waiting, is_inside, has_locked, unlinked, waiting_slots, due_event, Follows, EndsWith, IsToldOf, TellsItsUnlinks, IsLastGeneration}
use Rattle.call_machine.specs.WorkMonitor as monitor
use Rattle.call_machine.proofs.SoundSweep.{sweep_law, begins_sweep}
use Rattle.call_machine.proofs.SweepFollows.{follow_step}
use Rattle.call_machine.proofs.SweepTold.{IsTold, tells_step}

-- a sweep between its steps
abbrev Keeps : Sweeping → Type 0
Keeps s = IsSoundSweep s × IsTold s.along.cleaning s.stage

abbrev with_event : (Sweeping → ℕ → Option What) → Machine Sweeping
with_event event = record sweeps { event = event }

got_keeps : (s : Sweeping) (word : ℕ) → Keeps s → sweeps.Fits s word → Keeps (sweeps.got s word)
got_keeps s word so fits = (sweep_law s word fits.0 so.0 fits.1, tells_step s.asked s.along s.stage word fits.1)

follows_run : {F : Type 0} (m : F → What → Option F) (seen : Sweeping → F) (event : Sweeping → ℕ → Option What)
    → ((s : Sweeping) (word : ℕ) → Keeps s → sweeps.Fits s word → after_one m (seen s) (event s word) ≡ Some (seen (sweeps.got s word))) → Follows (with_event event) m seen
follows_run m seen event step caller hash words sound fits = follows (with_event event) m seen Keeps got_keeps step (begun_sweep caller hash) words (begins_sweep caller hash sound, tt) fits

pub sections_law : Follows sweeps section is_inside
sections_law = follows_run section is_inside sweeps.event (λ s word so fits. (follow_step s.asked s.along s.stage word so.0.at fits.1).0)

pub locks_law : Follows sweeps monitor.locked has_locked
locks_law = follows_run monitor.locked has_locked sweeps.event (λ s word so fits. (follow_step s.asked s.along s.stage word so.0.at fits.1).1)

pub unlinks_law : Follows sweeps monitor.unlinks unlinked
unlinks_law = follows_run monitor.unlinks unlinked sweeps.event (λ s word so fits. (follow_step s.asked s.along s.stage word so.0.at fits.1).2)

pub queue_law : Follows due_sweeps monitor.queue waiting_slots
queue_law = follows_run monitor.queue waiting_slots due_event (λ s word so fits. (follow_step s.asked s.along s.stage word so.0.at fits.1).3)

-- at the end
answered : (q : SweepAsked) (w : SweepAlong) (s : SweepStage) (a : Answer) → plan_at q w s ≡ plan.Answered a → s ≡ Answered a
answered q w (Answered b) a is = cc
answered q w _ a is = absurd (cc)

answered_at : (s : Sweeping) (a : Answer) → sweep_plan s ≡ plan.Answered a → s.stage ≡ Answered a
answered_at s a is = answered s.asked s.along s.stage a is

pub sections_end : EndsWith sweeps section false
sections_end caller hash words a sound fits is =
    let s = after_words sweeps (begun_sweep caller hash) words in
    sections_law caller hash words sound fits ∙ ap (λ t. Some (is_inside_at t)) (answered_at s a is)

pub locks_end : EndsWith sweeps monitor.locked None
locks_end caller hash words a sound fits is =
    let s = after_words sweeps (begun_sweep caller hash) words in
    locks_law caller hash words sound fits ∙ ap (λ t. Some (locked_at s.along.cleaning t)) (answered_at s a is)

pub queue_end : EndsWith due_sweeps monitor.queue []
queue_end caller hash words a sound fits is =
    let s = after_words due_sweeps (begun_sweep caller hash) words in
    queue_law caller hash words sound fits ∙ ap (λ t. Some (still_waiting s.along.cleaning t)) (answered_at s a is)

pub unlinks_end : TellsItsUnlinks
unlinks_end caller hash words a sound fits is =
    let s = after_words sweeps (begun_sweep caller hash) words in
    let end = keeps sweeps Keeps got_keeps (begun_sweep caller hash) words (begins_sweep caller hash sound, tt) fits in
    (unlinked s, unlinks_law caller hash words sound fits, told s a (answered_at s a is) end.1)
  where
    told : (s : Sweeping) (a : Answer) → s.stage ≡ Answered a → IsTold s.along.cleaning s.stage → IsToldOf (unlinked s) a
    told s a is so = subst (λ t. IsToldOf (unlinked_at s.along.cleaning t) a) (sym is) (subst (IsTold s.along.cleaning) is so)

-- which events are due
pub due_law : (s : Sweeping) (word : ℕ) → (due_event s word ≡ sweep_event s word) ⊎ IsLastGeneration s.stage
due_law s word = go s.asked s.along s.stage
  where
    go : (q : SweepAsked) (w : SweepAlong) (t : SweepStage) → let s : Sweeping = record { asked = q; along = w; stage = t } in (due_event s word ≡ sweep_event s word) ⊎ IsLastGeneration t
    go q w (Pass (LoadCount x)) = inl refl
    go q w (Pass (LoadLink x None)) = inl refl
    go q w (Pass (LoadLink x (Some g))) = inl refl
    go q w (Pass (Unlink x g next)) =
        where_it_is (λ o. (o ≡ Some (what.Unlink x)) ⊎ (2 ^ 48 ≤ g + 1)) (nat_lt (g + 1) (2 ^ 48)) (Some (what.Unlink x)) None (λ rises. inl refl) (λ last. inr (ltb-false (g + 1) (2 ^ 48) last))
    go q w _ = inl refl
