-- The poll of a clean goes on by each of its steps.
use Rattle.std.proofs.Common.{◌≡◌, ℕ, ◌^◌, ◌/◌, ◌<◌, ◌≤◌, ◌==◌, Bool, true, false, cond, Option, Some, None, refl, sym, ap, subst, ◌∙◌}
use Rattle.std.proofs.lemmas.Bool.{eqb-true, le-leb, lt-leb, le-ltb, lt-ltb}
use Rattle.marked_word.specs.Head.{first_of, is_locked}
use Rattle.atomic_step.specs.declared.answer.Answer.{Answer}
use Rattle.atomic_step.specs.declared.answer.Answer.TheVariants as answer
use Rattle.call_machine.specs.declared.lock.Locking.TheVariants as locking
use Rattle.call_machine.specs.declared.lock.LockStage.TheVariants as lock
use Rattle.table_shape.specs.declared.shape.Shape.{Shape}
use Rattle.atomic_step.specs.declared.plan.Plan.TheVariants as plan
use Rattle.atomic_step.specs.declared.step.Step.{Step}
use Rattle.call_machine.specs.declared.call.Call.{Call}
use Rattle.call_machine.specs.declared.clean.CleanAlong.{CleanAlong}
use Rattle.call_machine.specs.declared.clean.CleanStage.{CleanStage}
use Rattle.call_machine.specs.declared.clean.CleanStage.TheVariants as stage
use Rattle.call_machine.specs.declared.clean.Freeing.{Freeing}
use Rattle.call_machine.specs.declared.clean.Freeing.TheVariants as freeing_at
use Rattle.call_machine.specs.declared.grace.GraceStage.{GraceStage}
use Rattle.call_machine.specs.declared.grace.GraceStage.TheVariants.{RaiseCounter, LoadSection}
use Rattle.call_machine.specs.declared.machine.Machine.{Machine}
use Rattle.call_machine.specs.declared.pass.Cleaning.{Cleaning}
use Rattle.call_machine.specs.declared.pass.PassStage.{PassStage}
use Rattle.call_machine.specs.declared.pass.PassStage.TheVariants as pass
use Rattle.call_machine.specs.Machine.{plan_of}
use Rattle.call_machine.specs.Pass.{passes_on, begins_pass}
use Rattle.cht_core.specs.PollMeasure.{poll_left}
use Rattle.cht_run.specs.Pending.{IsCleanHeld}
use Rattle.cht_run.specs.Runs.{IsPolling}
use Rattle.call_machine.specs.Clean.{Went, goes, cleans_on, clean_row, frees_on, locks_on, waits_at, raises}
use Rattle.call_machine.specs.Grace.{held_back}
use Rattle.call_machine.specs.SoundClean.{IsSoundClean}
use Rattle.cht_run.specs.declared.sight.Origin.{Origin}
use Rattle.cht_run.specs.declared.sight.Sight.{Sight}
use Rattle.cht_run.specs.declared.table.Cht.{Cht}
use Rattle.cht_run.specs.Begins.{GoesOn}
use Rattle.cht_run.specs.Cleans.{cleaned, passes_in, frees_in, scans_in}
use Rattle.cht_run.specs.Seats.{Raw, Sits}
use Rattle.cht_run.specs.Underway.{IsAt, HasNoMore, Further, Onward, IsPassing, IsFreeing, IsScanning, looked_at, tried_lock}
use Rattle.cht_run.proofs.Underway.{goes_further, no_more_then, no_more_so, onward_so}

-- the table of the seat is the table
pub shape_is : (cht : Cht) (b : Sight) (c : Call) (raw : Raw) (x : Went) → IsAt cht b c raw (cleaned b x) → b.origin.table.shape ≡ cht.origin.table.shape
shape_is cht b c raw x at = ap (λ (o : Origin). o.table.shape) (sym at.ran.went.stays.origin ∙ at.sits.origin)

module _ (cht : Cht) (b : Sight) (c : Call) (raw raw' : Raw) (word : ℕ) (stp : Step) (sits : Sits cht raw') (told : GoesOn raw.me.0 word raw'.me.0) where
  pub clean_further : (w : CleanAlong) (s : CleanStage) (came : Went) → IsAt cht b c raw (cleaned b (goes w s)) → (clean_row cht.origin.table.shape w s).step ≡ stp → (clean_row cht.origin.table.shape w s).next word ≡ came →
      Further cht b c raw' (cleaned b (goes w s)) (cleaned b came)
  clean_further w s came at does leads =
      let shape : cht.origin.table.shape ≡ b.origin.table.shape = sym (shape_is cht b c raw (goes w s) at) in
      let planned : plan_of (cleaned b (goes w s)) ≡ plan.Step stp = ap plan.Step (subst (λ (x : Shape). (clean_row x w s).step ≡ stp) shape does) in
      subst (Further cht b c raw' (cleaned b (goes w s))) (ap (cleaned b) (subst (λ (x : Shape). (clean_row x w s).next word ≡ came) shape leads))
      (goes_further cht b c raw (cleaned b (goes w s)) at raw' stp word planned sits told)

-- what a clean is that is under way
pub clean_sound : (cht : Cht) (b : Sight) (c : Call) (raw : Raw) (w : CleanAlong) (s : CleanStage) (a : Option Answer) → IsAt cht b c raw (cleaned b (w, s, a)) → IsSoundClean cht.origin.table.shape w s
clean_sound cht b c raw w s a at = subst (λ (shape : Shape). IsSoundClean shape w s) (shape_is cht b c raw (w, s, a) at) at.ran.went.sound.sound.work

-- ITS PARTS

pub clean_passes : (b : Sight) (w : CleanAlong) → IsPassing (passes_in b w)
clean_passes b w = record {
  of = λ k p. tt;
  plan = λ k s. refl;
  got = λ k s word. refl;
  sound = λ k s sound. ((b.origin.table.shape, sound.work.cleaning), sound.work.at);
}

pub clean_frees : (b : Sight) (w : CleanAlong) (freeing : Freeing) → IsFreeing (frees_in b w freeing)
clean_frees b w freeing = record {
  of = λ k p. tt;
  plan = λ k s. refl;
  got = λ k s word. refl;
  sound = λ k s sound. ((b.origin.table.shape, sound.work.cleaning), sound.work.at);
}

pub clean_scans : (b : Sight) (w : CleanAlong) (freeing : Freeing) → IsScanning b.origin.table.shape.seats (scans_in b w freeing)
clean_scans b w freeing = record {
  of = λ g s. tt;
  plan = λ g. refl;
  got = λ g word. refl;
  inside = λ g sound. (sound.work.step 0).0;
}

-- WHERE A WORD LEADS

pub lock_leads : (w : CleanAlong) (head word : ℕ) → locks_on w (cond (word == head) (locking.Locked (first_of word)) locking.Waits) ≡ locks_on w (tried_lock head (word == head))
lock_leads w head word = by_test (word == head) refl
  where
    by_test : (b : Bool) → (word == head) ≡ b → locks_on w (cond b (locking.Locked (first_of word)) locking.Waits) ≡ locks_on w (tried_lock head b)
    by_test true is = ap (λ n. locks_on w (locking.Locked (first_of n))) (eqb-true word head is)
    by_test false is = refl

-- A PASS

-- one more node was looked at
pub record PassedOn (cht : Cht) (b : Sight) (c : Call) (raw : Raw) (w₀ w : CleanAlong) (first next : Option ℕ) (k : Cleaning) (then_at : Option ℕ) : Type 0 where
  pub at : IsAt cht b c raw (cleaned b (goes (record w { cleaning = k }) (cleans_on (passes_on then_at))))
  pub no_more : HasNoMore cht.origin.table.shape (cleaned b (goes w₀ (cleans_on (passes_on first)))) (cleaned b (goes (record w { cleaning = k }) (cleans_on (passes_on then_at))))
  pub polls : IsPolling cht.origin.table.shape (cleaned b (goes (record w { cleaning = k }) (cleans_on (passes_on then_at))))
  pub falls : poll_left cht.origin.table.shape (cleaned b (goes (record w { cleaning = k }) (cleans_on (passes_on then_at)))) < poll_left cht.origin.table.shape (cleaned b (goes w (cleans_on (passes_on next))))

pub chain_further : (cht : Cht) (b : Sight) (c : Call) (raw : Raw) (passes : Cleaning → Option PassStage → Machine) (w₀ w : CleanAlong) (first next : Option ℕ) (slot : ℕ) (k : Cleaning) (then_at : Option ℕ) → passes ≡ passes_in b w₀ →
    passes_in b w ≡ passes_in b w₀ → next ≡ Some slot → HasNoMore cht.origin.table.shape (cleaned b (goes w₀ (cleans_on (passes_on first)))) (cleaned b (goes w (cleans_on (passes_on next)))) →
    IsPolling cht.origin.table.shape (cleaned b (goes w (cleans_on (passes_on next)))) → Further cht b c raw (passes w.cleaning (Some (pass.LoadCount slot))) (passes k (passes_on then_at)) → PassedOn cht b c raw w₀ w first next k then_at
chain_further cht b c raw passes w₀ w first next slot k then_at within still is no_more polls on =
    let shape = cht.origin.table.shape in
    let from = cleaned b (goes w₀ (cleans_on (passes_on first))) in
    let m = cleaned b (goes w (cleans_on (passes_on next))) in
    let n = cleaned b (goes (record w { cleaning = k }) (cleans_on (passes_on then_at))) in
    let here : Further cht b c raw (cleaned b (goes w (cleans_on (passes_on (Some slot))))) n =
    subst (λ (p : Cleaning → Option PassStage → Machine). Further cht b c raw (p w.cleaning (Some (pass.LoadCount slot))) (p k (passes_on then_at))) (within ∙ sym still) on in
    let step : Further cht b c raw m n = subst (λ (x : Option ℕ). Further cht b c raw (cleaned b (goes w (cleans_on (passes_on x)))) n) (sym is) here in
    let less = step.less polls in
    record { at = step.at; no_more = no_more_so shape from n (no_more_then shape from m n no_more step.less); polls = less.0; falls = less.1 }

-- A BUCKET

pub looked_locked : (w : CleanAlong) (head : ℕ) → is_locked head ≡ true → locks_on w (looked_at head) ≡ waits_at w
looked_locked w head is = ap (λ b. locks_on w (cond b locking.Waits (locking.Goes (lock.LockHead head)))) is

pub looked_free : (w : CleanAlong) (head : ℕ) → is_locked head ≡ false → locks_on w (looked_at head) ≡ goes w (stage.Lock (lock.LockHead head))
looked_free w head is = ap (λ b. locks_on w (cond b locking.Waits (locking.Goes (lock.LockHead head)))) is

module _ (cht : Cht) (b : Sight) (c : Call) (raw : Raw) (w : CleanAlong) (head : ℕ) (locked : Bool) (free : is_locked head ≡ false)
    (on : Further cht b c raw (cleaned b (goes w (stage.Lock (lock.LockHead head)))) (cleaned b (locks_on w (tried_lock head locked)))) where
  from_look : Further cht b c raw (cleaned b (locks_on w (looked_at head))) (cleaned b (locks_on w (tried_lock head locked)))
  from_look = subst (λ (x : Went). Further cht b c raw (cleaned b x) (cleaned b (locks_on w (tried_lock head locked)))) (sym (looked_free w head free)) on

  -- another was faster
  pub lock_lost : locked ≡ false → Onward cht b c raw (cleaned b (locks_on w (looked_at head))) (cleaned b (waits_at w))
  lock_lost lost = onward_so cht b c raw (cleaned b (locks_on w (looked_at head))) (cleaned b (waits_at w))
      (subst (λ x. Further cht b c raw (cleaned b (locks_on w (looked_at head))) (cleaned b (locks_on w (tried_lock head x)))) lost from_look)

  -- the bucket is locked
  pub lock_won : (first : Option ℕ) (k : Cleaning) → locked ≡ true → first ≡ first_of head → k ≡ begins_pass w.cleaning first →
      Further cht b c raw (cleaned b (locks_on w (looked_at head))) (cleaned b (goes (record w { cleaning = k }) (cleans_on (passes_on first))))
  lock_won first k won is begun =
      let here : Further cht b c raw (cleaned b (locks_on w (looked_at head))) (cleaned b (locks_on w (locking.Locked (first_of head)))) =
      subst (λ x. Further cht b c raw (cleaned b (locks_on w (looked_at head))) (cleaned b (locks_on w (tried_lock head x)))) won from_look in
      let there : Further cht b c raw (cleaned b (locks_on w (looked_at head))) (cleaned b (goes (record w { cleaning = begins_pass w.cleaning first }) (cleans_on (passes_on first)))) =
      subst (λ x. Further cht b c raw (cleaned b (locks_on w (looked_at head))) (cleaned b (locks_on w (locking.Locked x)))) (sym is) here in
      subst (λ x. Further cht b c raw (cleaned b (locks_on w (looked_at head))) (cleaned b (goes (record w { cleaning = x }) (cleans_on (passes_on first))))) (sym begun) there

-- A GRACE

-- none may begin any more
pub held_so : (raised : ℕ) → 2 ^ 63 ≤ raised → held_back raised ≡ Some (answer.PendingSeat 0)
held_so raised high = ap (λ b. cond b (Some (answer.PendingSeat 0)) None) (le-leb (2 ^ 63) raised high)

pub raises_held : (w : CleanAlong) (freeing : Freeing) → 2 ^ 63 ≤ w.grace.raised → raises w freeing ≡ (w, stage.Grace freeing RaiseCounter, Some (answer.PendingSeat 0))
raises_held w freeing high = ap (λ (a : Option Answer). (w, stage.Grace freeing RaiseCounter, a)) (held_so w.grace.raised high)

pub raises_free : (w : CleanAlong) (freeing : Freeing) → w.grace.raised < 2 ^ 63 → raises w freeing ≡ goes w (stage.Grace freeing RaiseCounter)
raises_free w freeing low = ap (λ (a : Option Answer). (w, stage.Grace freeing RaiseCounter, a)) (ap (λ b. cond b (Some (answer.PendingSeat 0)) None) (lt-leb (2 ^ 63) w.grace.raised low))

-- the slots are freed
pub freed_again : (shape : Shape) (w : CleanAlong) → w.full_passes ≤ shape.slots / 256 → frees_on shape w freeing_at.Again None ≡ goes w (stage.Lock lock.LoadHead)
freed_again shape w few = ap (λ b. cond b (waits_at w) (goes w (stage.Lock lock.LoadHead))) (le-ltb (shape.slots / 256) w.full_passes few)

pub freed_full : (shape : Shape) (w : CleanAlong) → shape.slots / 256 < w.full_passes → frees_on shape w freeing_at.Again None ≡ waits_at w
freed_full shape w full = ap (λ b. cond b (waits_at w) (goes w (stage.Lock lock.LoadHead))) (lt-ltb (shape.slots / 256) w.full_passes full)

-- the number whose section is looked at is one of the table
pub next_inside : (shape : Shape) (w : CleanAlong) (s : CleanStage) (freeing : Freeing) (x : GraceStage) → s ≡ stage.Grace freeing x → ¬ (IsCleanHeld s) → IsSoundClean shape w s → w.grace.next < shape.seats
next_inside shape w s freeing RaiseCounter is free sound = absurd (free (subst IsCleanHeld (sym is) tt))
next_inside shape w s freeing LoadSection is free sound = ((subst (IsSoundClean shape w) is sound).step 0).0
