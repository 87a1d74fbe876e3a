-- A call makes its first step.
use Rattle.std.proofs.Common.{◌≡◌, ℕ, ◌<◌, ◌^◌, None, [], sym, ap, subst, ◌∙◌}
use Rattle.table_shape.specs.Shape.{IsSound}
use Rattle.atomic_step.specs.declared.step.Step.{Step}
use Rattle.call_machine.specs.declared.call.Call.{Call}
use Rattle.call_machine.specs.declared.machine.Machine.{Machine}
use Rattle.call_machine.specs.declared.stage.Along.{Along}
use Rattle.call_machine.specs.declared.stage.CallStage.{CallStage}
use Rattle.call_machine.specs.declared.stage.Request.{Request}
use Rattle.call_machine.specs.Calls.{next_at}
use Rattle.call_machine.specs.Machine.{got_of}
use Rattle.call_machine.specs.Sought.{asked_of}
use Rattle.cht_core.specs.Past.{past_of, kind_of}
use Rattle.cht_core.specs.State.{drawn_in}
use Rattle.cht_core.specs.Windows.{IsTold}
use Rattle.cht_core.proofs.CauseCounts.{told_front}
use Rattle.cht_run.specs.declared.sight.Origin.{Origin}
use Rattle.cht_run.specs.declared.sight.Sight.{Sight}
use Rattle.cht_run.specs.declared.table.Cht.{Cht}
use Rattle.cht_run.specs.Begins.{first_of, begun, ToldFirst, GoesFirst}
use Rattle.cht_run.specs.Calls.{Went, at_stage, At}
use Rattle.cht_run.specs.History.{log_of}
use Rattle.cht_run.specs.Seats.{Raw, Sits}
use Rattle.cht_run.specs.Starts.{Starts}
use Rattle.cht_run.specs.Told.{Told}
use Rattle.cht_run.proofs.Goes.{got_there, went_first}
use Rattle.cht_run.proofs.Histories.{log-append}

module _ (cht : Cht) (b : Sight) (c : Call) (r : Request) (raw raw' : Raw) (w : Along) (s : CallStage) (stp : Step) (word : ℕ) (starts : Starts cht b c r raw w s stp) (first : GoesFirst c raw.me.0 word raw'.me.0) where
  told_first : ToldFirst c stp b word raw'.me.0
  told_first = subst (λ (v : Sight). GoesFirst c v word raw'.me.0) starts.same first stp starts.planned

  first_is : first_of b c ≡ at_stage b (asked_of r) w s
  first_is = starts.first told_first.number_is

  of : b.origin ≡ cht.origin
  of = ap (λ (v : Sight). v.origin) (sym starts.same) ∙ starts.sits.origin

  -- what its seat had seen is a part of a told log
  told_before : IsTold b.origin.table (log_of b.history)
  told_before = told_front (kind_of b.origin.table) (past_of b.origin.table.shape.min_level []) (log_of b.history) (log_of told_first.told.between)
      (subst (IsTold b.origin.table) (log-append b.history told_first.told.between) told_first.told.found.told)

  -- what it tells
  pub told_there : Told b.origin (at_stage b (asked_of r) w s) stp (begun b c) word raw'.me.0
  told_there = subst (λ m. Told b.origin m stp (begun b c) word raw'.me.0) first_is told_first.told

  -- and where the call stands then
  pub goes_first : (w' : Along) (s' : CallStage) → IsSound cht.origin.table.shape → drawn_in b.origin.table.shape stp word ≡ None → Sits cht raw' → next_at (asked_of r) w s word ≡ (w', s') → At cht b c r raw' w' s'
  goes_first w' s' shape none sits leads = record {
    sits = sits;
    request = starts.request;
    stands = subst (Went b c raw'.me.0) (ap (λ (m : Machine). got_of m word) first_is ∙ got_there b (asked_of r) w s word ∙ ap (λ (z : Along × CallStage). at_stage b (asked_of r) z.0 z.1) leads)
        (went_first b c raw'.me.0 stp word (subst (λ (o : Origin). IsSound o.table.shape) (sym of) shape) (subst (λ (o : Origin). o.seed < 2 ^ 32) (sym of) starts.seed) starts.may (starts.causes told_before) starts.planned none told_first);
  }
