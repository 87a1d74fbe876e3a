-- A work, a grace or a sweep goes on by each of its steps.
use Rattle.std.proofs.Common.{◌≡◌, ◌≢◌, ℕ, ◌+◌, ◌<◌, min, cond, [], length, Option, Some, None, refl, sym, ap, subst, ◌∙◌, arith, rules}
use Rattle.atomic_step.specs.declared.plan.Plan.TheVariants as plan
use Rattle.std.proofs.lemmas.Bool.{eq-eqb, ne_eqb}
use Rattle.table_shape.specs.declared.shape.Shape.{Shape}
use Rattle.atomic_step.specs.declared.step.Step.{Step}
use Rattle.atomic_step.specs.declared.step.Step.TheVariants as step
use Rattle.call_machine.specs.declared.call.Call.{Call}
use Rattle.call_machine.specs.declared.grace.Grace.{Grace}
use Rattle.call_machine.specs.declared.grace.Gracing.{Gracing}
use Rattle.call_machine.specs.declared.grace.Gracing.TheVariants as gracing
use Rattle.call_machine.specs.declared.machine.Machine.{Machine}
use Rattle.call_machine.specs.declared.pass.Cleaning.{Cleaning}
use Rattle.call_machine.specs.declared.pass.FreeStage.{FreeStage}
use Rattle.call_machine.specs.declared.pass.FreeStage.TheVariants as free
use Rattle.call_machine.specs.declared.pass.PassStage.{PassStage}
use Rattle.call_machine.specs.declared.pass.PassStage.TheVariants as pass
use Rattle.call_machine.specs.Grace.{scanned}
use Rattle.call_machine.specs.Machine.{plan_of, got_of}
use Rattle.call_machine.specs.Pass.{pass_row, free_row, passes_on, dead_of, looks_at, unlinks, after_unlink, all_freed}
use Rattle.call_machine.specs.SoundMachine.{FitsMachine}
use Rattle.cht_run.specs.declared.sight.Sight.{Sight}
use Rattle.cht_run.specs.declared.table.Cht.{Cht}
use Rattle.cht_run.specs.Begins.{GoesOn, SoundIn, next_in}
use Rattle.cht_run.specs.Seats.{Raw, Sits}
use Rattle.cht_run.specs.Underway.{IsAt, HasLess, HasNoMore, Further, Onward, IsPassing, IsFreeing, IsScanning, frees_on}
use Rattle.cht_run.proofs.Polling.{polls_on, poll_falls, ran_few}
use Rattle.cht_run.specs.Told.{Told}
use Rattle.cht_run.proofs.Runs.{next_step, sound_here, ran_further, of_work_on}

-- ONE STEP

module _ (cht : Cht) (b : Sight) (c : Call) (raw : Raw) (m : Machine) (at : IsAt cht b c raw m) where
  -- what the step asks
  pub next_at : (s : Step) → plan_of m ≡ plan.Step s → next_in raw.me.0.seat ≡ Some s
  next_at s planned = next_step raw.me.0 m s at.ran.went.is planned

  pub sound_at : SoundIn cht.origin raw.me.0.number raw.me.0.seat
  sound_at = sound_here cht b c raw m at.sits at.ran.went

  module _ (raw' : Raw) (s : Step) (word : ℕ) (planned : plan_of m ≡ plan.Step s) (sits : Sits cht raw') (told : GoesOn raw.me.0 word raw'.me.0) where
    abbrev was_told : Told raw.me.0.origin m s raw.me.0 word raw'.me.0
    was_told = told m s (record { seat = at.sits.seat; running = at.ran.went.is; plan = planned })

    pub fits_next : FitsMachine m word
    fits_next = was_told.found.fits

    at_next : IsAt cht b c raw' (got_of m word)
    at_next = record { sits = sits; ran = ran_further cht b c raw m at.sits raw' s word at.ran at.of planned told; of = of_work_on m word at.of }

    pub goes_further : Further cht b c raw' m (got_of m word)
    goes_further = record {
      at = at_next;
      less = λ polls.
          let next = polls_on cht.origin.table.shape m (got_of m word) word polls refl in (
            next,
            poll_falls cht.origin.table.shape m (got_of m word) word polls refl at.ran.went.sound.sound was_told.found.small was_told.found.fits (ran_few cht b c raw' (got_of m word) sits at_next.ran next),
          );
    }

-- SEVERAL STEPS

pub less_then : (shape : Shape) (k m n : Machine) → HasLess shape k m → HasLess shape m n → HasLess shape k n
less_then shape k m n first next polls = let (on, less) = first polls in let (still, least) = next on in (still, omega (arith, less, least))

pub further_then : (cht : Cht) (b : Sight) (c : Call) (raw raw' : Raw) (k m n : Machine) → Further cht b c raw k m → Further cht b c raw' m n → Further cht b c raw' k n
further_then cht b c raw raw' k m n first next = record { at = next.at; less = less_then cht.origin.table.shape k m n first.less next.less }

-- ONWARD

pub onward_none : (cht : Cht) (b : Sight) (c : Call) (raw : Raw) (m : Machine) → IsAt cht b c raw m → Onward cht b c raw m m
onward_none cht b c raw m at = record { at = at; no_more = λ polls. (polls, search rules) }

pub onward_so : (cht : Cht) (b : Sight) (c : Call) (raw : Raw) (m n : Machine) → Further cht b c raw m n → Onward cht b c raw m n
onward_so cht b c raw m n on = record { at = on.at; no_more = λ polls. (let (still, less) = on.less polls in (still, omega (arith, less))) }

pub onward_then : (cht : Cht) (b : Sight) (c : Call) (raw raw' : Raw) (k m n : Machine) → Onward cht b c raw k m → Onward cht b c raw' m n → Onward cht b c raw' k n
onward_then cht b c raw raw' k m n first next = record {
  at = next.at;
  no_more = λ polls. (let (on, less) = first.no_more polls in let (still, least) = next.no_more on in (still, omega (arith, less, least)));
}

-- A BUCKET THAT IS CLEANED

module _ (cht : Cht) (b : Sight) (c : Call) (raw raw' : Raw) (word : ℕ) (stp : Step) (sits : Sits cht raw') (told : GoesOn raw.me.0 word raw'.me.0) where
  pub passes_further : (passes : Cleaning → Option PassStage → Machine) (k : Cleaning) (s : PassStage) (next : Cleaning × Option PassStage) → IsPassing passes → IsAt cht b c raw (passes k (Some s)) → (pass_row k s).step ≡ stp →
      (pass_row k s).next word ≡ next → Further cht b c raw' (passes k (Some s)) (passes next.0 next.1)
  passes_further passes k s next is at does leads =
      subst (Further cht b c raw' (passes k (Some s))) (is.got k s word ∙ ap (λ (z : Cleaning × Option PassStage). passes z.0 z.1) leads)
      (goes_further cht b c raw (passes k (Some s)) at raw' stp word (is.plan k s ∙ ap plan.Step does) sits told)

  pub frees_further : (frees : Cleaning → Option FreeStage → Machine) (k : Cleaning) (s : FreeStage) (next : Cleaning × Option FreeStage) → IsFreeing frees → IsAt cht b c raw (frees k (Some s)) → (free_row k s).step ≡ stp →
      (free_row k s).next word ≡ next → Further cht b c raw' (frees k (Some s)) (frees next.0 next.1)
  frees_further frees k s next is at does leads =
      subst (Further cht b c raw' (frees k (Some s))) (is.got k s word ∙ ap (λ (z : Cleaning × Option FreeStage). frees z.0 z.1) leads)
      (goes_further cht b c raw (frees k (Some s)) at raw' stp word (is.plan k s ∙ ap plan.Step does) sits told)

  pub scans_further : (seats : ℕ) (scans : Grace → Gracing → Machine) (g : Grace) (next : Grace × Gracing) → IsScanning seats scans → IsAt cht b c raw (scans g gracing.Goes) → step.LoadSection g.next ≡ stp →
      scanned seats g word ≡ next → Further cht b c raw' (scans g gracing.Goes) (scans next.0 next.1)
  scans_further seats scans g next is at does leads =
      subst (Further cht b c raw' (scans g gracing.Goes)) (is.got g word ∙ ap (λ (z : Grace × Gracing). scans z.0 z.1) leads)
      (goes_further cht b c raw (scans g gracing.Goes) at raw' stp word (is.plan g ∙ ap plan.Step does) sits told)

-- IN LOOPS

pub none_less : (shape : Shape) (m : Machine) → HasNoMore shape m m
none_less shape m polls = (polls, search rules)

pub no_more_then : (shape : Shape) (k m n : Machine) → HasNoMore shape k m → HasLess shape m n → HasLess shape k n
no_more_then shape k m n first next polls = let (on, less) = first polls in let (still, least) = next on in (still, omega (arith, less, least))

pub then_no_more : (shape : Shape) (k m n : Machine) → HasLess shape k m → HasNoMore shape m n → HasLess shape k n
then_no_more shape k m n first next polls = let (on, less) = first polls in let (still, least) = next on in (still, omega (arith, less, least))

pub no_more_so : (shape : Shape) (m n : Machine) → HasLess shape m n → HasNoMore shape m n
no_more_so shape m n less polls = let (on, few) = less polls in (on, omega (arith, few))

pub no_more_both : (shape : Shape) (k m n : Machine) → HasNoMore shape k m → HasNoMore shape m n → HasNoMore shape k n
no_more_both shape k m n first next polls = let (on, less) = first polls in let (still, least) = next on in (still, omega (arith, less, least))

-- WHERE A WORD LEADS

abbrev Passes : Cleaning × Option PassStage → Cleaning × Option PassStage → Type 0
Passes x y = x ≡ y

abbrev Frees : Cleaning × Option FreeStage → Cleaning × Option FreeStage → Type 0
Frees x y = x ≡ y

-- a dead node was unlinked: the pass ends where 256 slots wait
pub unlink_full : (k k' : Cleaning) (slot generation : ℕ) (next : Option ℕ) → k' ≡ unlinks k slot generation next → length k'.waiting.items ≡ 256 →
    Passes (unlinks k slot generation next, after_unlink (unlinks k slot generation next) next) (k', passes_on None)
unlink_full k k' slot generation next is full =
    ap (λ (x : Cleaning). (x, after_unlink x next)) (sym is) ∙ ap (λ b. (k', cond b None (passes_on next))) (eq-eqb (length k'.waiting.items) 256 full)

pub unlink_more : (k k' : Cleaning) (slot generation : ℕ) (next : Option ℕ) → k' ≡ unlinks k slot generation next → length k'.waiting.items ≢ 256 →
    Passes (unlinks k slot generation next, after_unlink (unlinks k slot generation next) next) (k', passes_on next)
unlink_more k k' slot generation next is few =
    ap (λ (x : Cleaning). (x, after_unlink x next)) (sym is) ∙ ap (λ b. (k', cond b None (passes_on next))) (ne_eqb (length k'.waiting.items) 256 few)

-- a slot was freed: another one waits, or none does
pub free_more : (k : Cleaning) (at : ℕ) → at + 1 < length k.waiting.items → (word : ℕ) → Frees ((free_row k (free.FreeSlot at)).next word) (k, frees_on (Some (at + 1)))
free_more k at more word = ap (λ b. cond b (all_freed k, None) (k, Some (free.PutNextGeneration (at + 1)))) (ne_eqb (at + 1) (length k.waiting.items) (λ same. omega (arith, same, more)))

pub free_last : (k : Cleaning) (at : ℕ) → at + 1 ≡ length k.waiting.items → (word : ℕ) → Frees ((free_row k (free.FreeSlot at)).next word) (all_freed k, frees_on None)
free_last k at last word = ap (λ b. cond b (all_freed k, None) (k, Some (free.PutNextGeneration (at + 1)))) (eq-eqb (at + 1) (length k.waiting.items) last)

-- a node was looked at
pub dead_leads : (k : Cleaning) (slot word passed : ℕ) (dead : Option ℕ) → passed ≡ min (k.passed + 1) 4294967295 → dead ≡ dead_of word →
    Passes (looks_at k, Some (pass.LoadLink slot (dead_of word))) (record k { passed = passed }, Some (pass.LoadLink slot dead))
dead_leads k slot word passed dead is same = λ i. (record k { passed = sym is i }, Some (pass.LoadLink slot (sym same i)))

-- the slots that wait are none
pub freed_leads : (k k' : Cleaning) → k'.waiting.items ≡ [] → Frees (all_freed k, None) (record k { waiting = k'.waiting; pass_waiting = 0 }, None)
freed_leads k k' none = λ i. (record k { waiting = record { items = sym none i }; pass_waiting = 0 }, None)
