-- A call that begins a work or a grace, or polls a grace, goes on by each of its steps.
use Rattle.std.proofs.Common.{◌≡◌, ℕ, ◌^◌, ◌<◌, refl, sym, ap, subst, ◌∙◌}
use Rattle.table_shape.specs.Shape.{IsSound}
use Rattle.atomic_step.specs.declared.plan.Plan.TheVariants as plan
use Rattle.atomic_step.specs.declared.step.Step.{Step}
use Rattle.atomic_step.specs.declared.step.Step.TheVariants as step
use Rattle.atomic_step.specs.Turn.{next_in}
use Rattle.call_machine.specs.declared.begin.BeginStage.{BeginStage}
use Rattle.call_machine.specs.declared.begin.BeginStage.TheVariants as stage
use Rattle.call_machine.specs.declared.call.Call.{Call}
use Rattle.call_machine.specs.declared.call.Call.TheVariants as call
use Rattle.call_machine.specs.declared.grace.Grace.{Grace}
use Rattle.call_machine.specs.declared.grace.GraceStage.TheVariants.{LoadSection}
use Rattle.call_machine.specs.declared.grace.Gracing.{Gracing}
use Rattle.call_machine.specs.Begin.{begin_turn, graced}
use Rattle.call_machine.specs.Grace.{scanned}
use Rattle.call_machine.specs.Machine.{plan_of, got_of, begun_grace_poll}
use Rattle.call_machine.proofs.Machines.{got_is}
use Rattle.cht_run.specs.declared.sight.Origin.{Origin}
use Rattle.cht_run.specs.declared.sight.Sight.{Sight}
use Rattle.cht_run.specs.declared.table.Cht.{Cht}
use Rattle.cht_run.specs.Beginnings.{begins_at, MayBegin, MayPollGrace}
use Rattle.cht_run.specs.Begins.{caller_in, first_of, GoesOn, GoesFirst}
use Rattle.cht_run.specs.Seats.{Raw, Sits}
use Rattle.cht_run.specs.Underway.{IsAt}
use Rattle.cht_run.proofs.Runs.{of_work_on}
use Rattle.cht_run.proofs.Starts.{counts_of_work, ran_begun, ran_resumed}
use Rattle.cht_run.proofs.Underway.{goes_further}

-- THE FIRST STEP

-- the counter was loaded
pub begun_at : (cht : Cht) (b : Sight) (c : Call) (raw raw' : Raw) (word : ℕ) → IsSound cht.origin.table.shape → cht.origin.seed < 2 ^ 32 → MayBegin cht b c raw → Sits cht raw' → GoesFirst c raw.me.0 word raw'.me.0 →
    IsAt cht b c raw' (got_of (first_of b c) word)
begun_at cht b c raw raw' word shape seed begins sits told = record {
  sits = sits;
  ran = ran_begun cht b raw.me.0 raw'.me.0 c word begins.sits.origin begins.same begins.may begins.begins shape seed told;
  of = of_work_on (first_of b c) word (counts_of_work b c begins.begins);
}

-- the section of the next number was loaded
pub polled_at : (cht : Cht) (b : Sight) (c : Call) (raw raw' : Raw) (state : Grace) (word : ℕ) (came : Grace × Gracing) → IsSound cht.origin.table.shape → cht.origin.seed < 2 ^ 32 → MayPollGrace cht b c raw state → Sits cht raw' →
    GoesFirst c raw.me.0 word raw'.me.0 → scanned cht.origin.table.shape.seats state word ≡ came → IsAt cht b c raw' (begins_at b (graced LoadSection came.0 came.1))
polled_at cht b c raw raw' state word came shape seed polls sits told leads =
    subst (λ (k : Call). GoesFirst k raw.me.0 word raw'.me.0 → IsAt cht b k raw' (begins_at b (graced LoadSection came.0 came.1))) (sym polls.asks) by_poll told
  where
    first_is : begins_at raw.me.0 (stage.Grace state LoadSection) ≡ first_of raw.me.0 call.PollGrace
    first_is = ap (begun_grace_poll (caller_in raw.me.0)) (sym polls.unfinished)

    got : begins_at b (graced LoadSection came.0 came.1) ≡ got_of (begins_at raw.me.0 (stage.Grace state LoadSection)) word
    got = ap (λ (z : Sight × Grace × Gracing). begins_at z.0 (graced LoadSection z.1 z.2)) (λ i. (polls.same i, (sym leads i).0, (sym leads i).1))
        ∙ ap (λ (o : Origin). begins_at raw.me.0 (graced LoadSection (scanned o.table.shape.seats state word).0 (scanned o.table.shape.seats state word).1)) (sym polls.sits.origin)

    by_poll : GoesFirst call.PollGrace raw.me.0 word raw'.me.0 → IsAt cht b call.PollGrace raw' (begins_at b (graced LoadSection came.0 came.1))
    by_poll told = record {
      sits = sits;
      ran = ran_resumed cht raw.me.0 raw'.me.0 b call.PollGrace (step.LoadSection state.next) word (begins_at raw.me.0 (stage.Grace state LoadSection)) polls.sits.origin polls.may tt first_is refl told
          (begins_at b (graced LoadSection came.0 came.1)) shape seed polls.same got;
      of = tt;
    }

-- EACH FURTHER STEP

module _ (cht : Cht) (b : Sight) (c : Call) (raw raw' : Raw) (word : ℕ) (stp : Step) (sits : Sits cht raw') (told : GoesOn raw.me.0 word raw'.me.0) where
  pub begins_on : (s next : BeginStage) → IsAt cht b c raw (begins_at b s) → plan_of (begins_at b s) ≡ plan.Step stp → next_in s (begin_turn (caller_in b) s) word ≡ next → IsAt cht b c raw' (begins_at b next)
  begins_on s next at planned leads =
      subst (IsAt cht b c raw') (got_is (begins_at b s) word ∙ ap (begins_at b) leads) (goes_further cht b c raw (begins_at b s) at raw' stp word planned sits told).at
