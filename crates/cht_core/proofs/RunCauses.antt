-- Each answer of a call in a run has its cause.
use Rattle.std.proofs.Common.{◌≡◌, ℕ, List, ◌++◌, subst}
use Rattle.atomic_step.specs.declared.answer.Answer.{Answer}
use Rattle.atomic_step.specs.declared.plan.Plan.TheVariants as plan
use Rattle.atomic_step.specs.declared.step.Step.{Step as AtomicStep}
use Rattle.call_machine.specs.declared.call.Call.{Call}
use Rattle.call_machine.specs.declared.machine.Machine.{Machine}
use Rattle.call_machine.specs.declared.machine.Own.{Own}
use Rattle.call_machine.specs.Machine.{plan_of, got_of, event_of}
use Rattle.cht_core.specs.declared.table.Table.{Table}
use Rattle.cht_core.specs.Caused.{way_of, Cause}
use Rattle.cht_core.specs.Invariant.{events_of}
use Rattle.cht_core.specs.Runs.{Move, IsUnderWay, word_in, HasCause}
use Rattle.cht_core.specs.State.{Core, IsCore}
use Rattle.cht_core.proofs.CauseAnswers.{cause_answered}
use Rattle.cht_core.proofs.RunCarries.{carried}
use Rattle.cht_core.proofs.RunFollows.{Following, own_caused, own_log}
use Rattle.cht_core.proofs.RunMoves.{tables_stay}
use Rattle.cht_core.proofs.StateLaw.{any_step_keeps, any_word_fits}
use Rattle.cht_core.proofs.StateSteps.{got_sound}

pub caused_in_run : (c d : Core) (k : ℕ) (own : Own) (asked : Call) (moves : List Move) (m : Machine) (s : AtomicStep) (a : Answer) → IsCore c → IsUnderWay c k own asked moves d m →
    plan_of m ≡ plan.Step s → plan_of (got_of m (word_in d s)) ≡ plan.Answered a → HasCause c k asked d m (word_in d s) a
caused_in_run c d k own asked moves m s a core under planned answers =
    let follows : Following k (way_of asked) c.log d m = (carried c d core k own asked moves m under (λ n x. Unit {0}) tt (λ n b x s is planned so. tt)).0 in
    let word : ℕ = word_in d s in
    let same : d.table ≡ c.table = tables_stay _ d moves under.leads in (
      follows.window ++ events_of k (event_of m word),
      own_log k (way_of asked) c.log d m follows s planned,
      subst (λ (t : Table). Cause t k (way_of asked) c.log (follows.window ++ events_of k (event_of m word)) (got_of m word) a) same
          (cause_answered d.table k (way_of asked) c.log (follows.window ++ events_of k (event_of m word)) _ (got_of m word) a
          (got_sound any_step_keeps any_word_fits d follows.core k m s follows.at planned) answers (own_caused k (way_of asked) c.log d m follows s planned)),
    )
