-- What a walk that has answered has passed, where its seat was alone.
use Rattle.std.proofs.Common.{◌≡◌, ℕ, List, [], None, ap, subst, ◌∙◌}
use Rattle.intern_log.specs.Own.{is_among}
use Rattle.atomic_step.specs.declared.answer.Answer.{Answer}
use Rattle.atomic_step.specs.declared.answer.Answer.TheVariants as answer
use Rattle.call_machine.specs.declared.call.Call.{Call}
use Rattle.call_machine.specs.declared.machine.Machine.TheVariants as machine
use Rattle.call_machine.specs.declared.stage.Along.{Along}
use Rattle.call_machine.specs.declared.stage.Asked.{Asked}
use Rattle.call_machine.specs.declared.stage.CallStage.TheVariants as stage
use Rattle.call_machine.specs.declared.stage.Goal.{Goal}
use Rattle.call_machine.specs.declared.stage.Request.{Request}
use Rattle.call_machine.specs.Sought.{asked_of}
use Rattle.cht_core.specs.declared.table.Table.{Table}
use Rattle.cht_run.specs.declared.seat.Seat.{Seat}
use Rattle.cht_run.specs.declared.sight.Origin.{Origin}
use Rattle.cht_run.specs.declared.table.Cht.{Cht}
use Rattle.cht_run.specs.Calls.{At}
use Rattle.cht_run.specs.ChainLengths.{chain_length}
use Rattle.cht_run.specs.Covers.{AnswerPassed, MachinePassed}
use Rattle.cht_run.specs.Ends.{IsAlone}
use Rattle.cht_run.specs.PassedChains.{PassedChain, WalkPasses}
use Rattle.cht_run.specs.Retries.{AreOfTries}
use Rattle.cht_run.specs.Ended.{Ended, Always, KeepsWork}
use Rattle.cht_run.specs.Seats.{Raw, sight, seen, work_of, grace_of, IsOf}
use Rattle.cht_run.specs.Walked.{asked_for}
use Rattle.cht_run.proofs.ChainLengths.{ended_stays}

by_answer : (t : Table) (old : Seat) (text : List ℕ) (passed : ℕ) (a : Answer) → (IsAlone old → work_of old ≡ None → AnswerPassed (chain_length t (seen old) text) passed a) → WalkPasses t old passed text a
by_answer t old text passed answer.Miss exact = exact
by_answer t old text passed (answer.Created h) exact = exact
by_answer t old text passed answer.NoSlot exact = exact
by_answer t old text passed _ exact = tt

pub walk_passes : (cht : Cht) (g : Goal) (text : List ℕ) (c : Call) (old : Seat) (r : Request) (raw : Raw) (w : Along) (a : Answer) → asked_of r ≡ asked_for cht old g text → IsOf cht old → At cht (sight old) c r raw w (stage.Answered a) →
    WalkPasses cht.origin.table old w.walk.passed text a
walk_passes cht g text c old r raw w a asked of at = by_answer cht.origin.table old text w.walk.passed a exact
  where
    exact : IsAlone old → work_of old ≡ None → AnswerPassed (chain_length cht.origin.table (seen old) text) w.walk.passed a
    exact alone none =
        subst (λ (o : Origin). AnswerPassed (chain_length o.table (seen old) text) w.walk.passed a) of.origin
        (subst (λ (q : Asked). AnswerPassed (chain_length (sight old).origin.table (seen old) q.text) w.walk.passed a) asked
        (subst (λ k. MachinePassed (sight old).origin.table (seen old) (machine.Call (record { asked = asked_of r; along = w; stage = stage.Answered a }) k (grace_of old))) none
        (at.stands.exact alone.kids alone.root)))

-- and so after tries that callers see nothing of
pub tries_pass : (t : Table) (old mid : Seat) (passed : ℕ) (text : List ℕ) → Ended t old mid (AreOfTries []) Always → KeepsWork old mid → PassedChain t mid passed text → PassedChain t old passed text
tries_pass t old mid passed text before works exact alone none =
    exact (record { root = ap (λ n. is_among n 0) before.keeps.numbers ∙ alone.root; kids = before.keeps.kids ∙ alone.kids }) (works.work ∙ none)
    ∙ ended_stays t old mid (AreOfTries []) Always text before before.did.calls before.did.shown alone
