-- A sweep goes on by each of its steps.
use Rattle.std.proofs.Common.{◌≡◌, ◌≢◌, ℕ, Bool, true, false, cond, Option, Some, sym, ap, subst, ◌∙◌}
use Rattle.std.proofs.lemmas.Bool.{eq-eqb, ne_eqb}
use Rattle.marked_word.specs.Head.{first_of}
use Rattle.atomic_step.specs.declared.plan.Plan.TheVariants as plan
use Rattle.atomic_step.specs.declared.step.Step.{Step}
use Rattle.call_machine.specs.declared.call.Call.{Call}
use Rattle.call_machine.specs.declared.sweep.SweepAlong.{SweepAlong}
use Rattle.call_machine.specs.declared.sweep.SweepAsked.{SweepAsked}
use Rattle.call_machine.specs.declared.sweep.SweepStage.{SweepStage}
use Rattle.call_machine.specs.Machine.{plan_of}
use Rattle.call_machine.specs.declared.find.FindStage.{FindStage}
use Rattle.call_machine.specs.declared.find.Walk.{Walk}
use Rattle.call_machine.specs.declared.lock.Locking.TheVariants as locking
use Rattle.call_machine.specs.declared.pass.Cleaning.{Cleaning}
use Rattle.call_machine.specs.declared.sweep.SweepStage.TheVariants as stage
use Rattle.call_machine.specs.declared.grace.Grace.{Grace}
use Rattle.call_machine.specs.declared.grace.GraceStage.TheVariants.{LoadSection}
use Rattle.call_machine.specs.declared.grace.Gracing.{Gracing}
use Rattle.call_machine.specs.declared.grace.Gracing.TheVariants as gracing
use Rattle.call_machine.specs.declared.machine.Machine.{Machine}
use Rattle.call_machine.specs.declared.pass.PassStage.{PassStage}
use Rattle.call_machine.specs.declared.pass.PassStage.TheVariants as pass
use Rattle.call_machine.specs.Pass.{no_cleaning, begins_pass, passes_on}
use Rattle.call_machine.specs.Sweep.{next_at, locks_on, cleans_on, graces_on}
use Rattle.call_machine.proofs.Machines.{got_is}
use Rattle.cht_run.specs.declared.sight.Sight.{Sight}
use Rattle.cht_run.specs.declared.table.Cht.{Cht}
use Rattle.cht_run.specs.Begins.{GoesOn}
use Rattle.cht_run.specs.Seats.{Raw, Sits}
use Rattle.cht_run.specs.SweepSteps.{sweeps_at, passes_in, scans_in, closing_of}
use Rattle.cht_run.specs.Underway.{IsAt, scanned_to}
use Rattle.cht_run.proofs.Underway.{goes_further}

module _ (cht : Cht) (b : Sight) (c : Call) (raw raw' : Raw) (word : ℕ) (stp : Step) (sits : Sits cht raw') (told : GoesOn raw.me.0 word raw'.me.0) where
  pub sweeps_on : (q : SweepAsked) (w next_w : SweepAlong) (s next : SweepStage) → IsAt cht b c raw (sweeps_at q w s) → plan_of (sweeps_at q w s) ≡ plan.Step stp → next_at q w s word ≡ (next_w, next) →
      IsAt cht b c raw' (sweeps_at q next_w next)
  sweeps_on q w next_w s next at planned leads =
      subst (IsAt cht b c raw') (got_is (sweeps_at q w s) word ∙ ap (λ (z : SweepAlong × SweepStage). sweeps_at q z.0 z.1) leads) (goes_further cht b c raw (sweeps_at q w s) at raw' stp word planned sits told).at

-- WHERE A WORD LEADS

abbrev Leads : SweepAlong × SweepStage → SweepAlong × SweepStage → Type 0
Leads x y = x ≡ y

-- the walk has turned
pub turns_to : (w : SweepAlong) (walk walk' : Walk) (s : FindStage) → walk' ≡ walk → Leads (record w { walk = walk }, stage.Find s) (record w { walk = walk' }, stage.Find s)
turns_to w walk walk' s is = ap (λ x. (record w { walk = x }, stage.Find s)) (sym is)

-- the head was locked, or another was faster
pub locked_so : (q : SweepAsked) (w : SweepAlong) (word : ℕ) (cleaning : Cleaning) → word ≡ w.walk.head → cleaning ≡ begins_pass (no_cleaning w.walk.row w.walk.bucket) (first_of w.walk.head) →
    Leads (next_at q w stage.Lock word) (record w { cleaning = cleaning }, stage.Close (closing_of true))
locked_so q w word cleaning same is =
    ap (λ b. locks_on w (cond b (locking.Locked (first_of word)) locking.Waits)) (eq-eqb word w.walk.head same) ∙ ap (λ n. locks_on w (locking.Locked (first_of n))) same
    ∙ ap (λ c. (record w { cleaning = c }, stage.Close (closing_of true))) (sym is)

pub lost_so : (q : SweepAsked) (w : SweepAlong) (word : ℕ) → word ≢ w.walk.head → Leads (next_at q w stage.Lock word) (w, stage.Close (closing_of false))
lost_so q w word differ = ap (λ b. locks_on w (cond b (locking.Locked (first_of word)) locking.Waits)) (ne_eqb word w.walk.head differ)

-- IN LOOPS

module _ (cht : Cht) (b : Sight) (c : Call) (raw : Raw) (q : SweepAsked) (w first : SweepAlong) where
  -- the next node is looked at, and was
  module _ (passes : Cleaning → Option PassStage → Machine) (is : passes ≡ passes_in q first) (within : passes_in q w ≡ passes_in q first) where
    pub passes_at : (next : Option ℕ) (slot : ℕ) → next ≡ Some slot → IsAt cht b c raw (sweeps_at q w (cleans_on (passes_on next))) → IsAt cht b c raw (passes w.cleaning (Some (pass.LoadCount slot)))
    passes_at next slot same at =
        subst (λ p. IsAt cht b c raw (p w.cleaning (Some (pass.LoadCount slot)))) (within ∙ sym is) (subst (λ n. IsAt cht b c raw (sweeps_at q w (cleans_on (passes_on n)))) same at)

    pub passed_at : (k : Cleaning) (next : Option ℕ) → IsAt cht b c raw (passes k (passes_on next)) → IsAt cht b c raw (sweeps_at q (record w { cleaning = k }) (cleans_on (passes_on next)))
    passed_at k next at = subst (λ p. IsAt cht b c raw (p k (passes_on next))) (is ∙ sym within) at

  -- the sections are looked at, and were
  module _ (scans : Grace → Gracing → Machine) (is : scans ≡ scans_in q first) (within : scans_in q w ≡ scans_in q first) where
    pub scans_at : IsAt cht b c raw (sweeps_at q w (stage.Grace LoadSection)) → IsAt cht b c raw (scans w.grace gracing.Goes)
    scans_at at = subst (λ s. IsAt cht b c raw (s w.grace gracing.Goes)) (within ∙ sym is) at

    pub scanned_at : (g : Grace) (over is_over : Bool) → over ≡ is_over → IsAt cht b c raw (scans g (scanned_to over)) → IsAt cht b c raw (sweeps_at q (record w { grace = g }) (graces_on (scanned_to is_over)))
    scanned_at g over is_over same at =
        subst (λ v. IsAt cht b c raw (sweeps_at q (record w { grace = g }) (graces_on (scanned_to v)))) same (subst (λ s. IsAt cht b c raw (s g (scanned_to over))) (is ∙ sym within) at)
