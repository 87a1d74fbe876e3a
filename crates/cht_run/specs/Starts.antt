-- A call as its seat begins it: what it asks, and its first step.
use Rattle.std.specs.Prelude.{◌≡◌, ℕ, ◌^◌, ◌<◌, [], None}
use Rattle.intern_log.specs.declared.event.Handle.{Handle}
use Rattle.atomic_step.specs.declared.plan.Plan.TheVariants as plan
use Rattle.atomic_step.specs.declared.step.Step.{Step}
use Rattle.atomic_step.specs.SoundStep.{IsSoundStep}
use Rattle.call_machine.specs.declared.call.Call.{Call}
use Rattle.call_machine.specs.declared.stage.Along.{Along}
use Rattle.call_machine.specs.declared.stage.Asked.{Asked}
use Rattle.call_machine.specs.declared.stage.CallStage.{CallStage}
use Rattle.call_machine.specs.declared.stage.Goal.TheVariants.{Lookup}
use Rattle.call_machine.specs.declared.stage.Request.{Request}
use Rattle.call_machine.specs.BeginCall.{no_walk}
use Rattle.call_machine.specs.Machine.{plan_of}
use Rattle.call_machine.specs.Sought.{IsRequest, asked_of}
use Rattle.cht_core.specs.Caused.{MayCause}
use Rattle.cht_core.specs.Windows.{IsTold}
use Rattle.cht_run.specs.declared.sight.Origin.{Origin}
use Rattle.cht_run.specs.declared.sight.Sight.{Sight}
use Rattle.cht_run.specs.declared.table.Cht.{Cht}
use Rattle.cht_run.specs.Begins.{own_at, first_of, MayCall}
use Rattle.cht_run.specs.Calls.{at_stage}
use Rattle.cht_run.specs.History.{log_of}
use Rattle.cht_run.specs.Seats.{Raw, Sits}

-- what a call without a text asks, and what it takes along
abbrev pub asks : Origin → ℕ → Handle → Asked
asks o number h = record { kind = o.table.kind; shape = o.table.shape; seed = o.seed; number = number; goal = Lookup; text = []; handle = h }

abbrev pub sets_out : ℕ → Along
sets_out cursor = record { cursor = cursor; walk = no_walk; kept = None }

pub record IsAsked (o : Origin) (number : ℕ) (h : Handle) (r : Request) : Type 0 where
  pub request : IsRequest r
  pub seed : o.seed < 2 ^ 32
  pub asks : asked_of r ≡ asks o number h

-- a seat between its calls may begin a call of this request, of which this is the first stage and the first step
pub record Starts (cht : Cht) (b : Sight) (c : Call) (r : Request) (raw : Raw) (w : Along) (s : CallStage) (stp : Step) : Type 0 where
  pub sits : Sits cht raw
  pub same : raw.me.0 ≡ b
  pub request : IsRequest r
  pub seed : cht.origin.seed < 2 ^ 32
  pub may : MayCall b c
  pub causes : IsTold b.origin.table (log_of b.history) → MayCause b.origin.table b.number (log_of b.history) (own_at b.seat) c
  pub planned : plan_of (first_of b c) ≡ plan.Step stp
  pub first : (own_at b.seat).number ≡ b.number → first_of b c ≡ at_stage b (asked_of r) w s
  pub sound : IsSoundStep cht.origin.table.shape b.number stp
