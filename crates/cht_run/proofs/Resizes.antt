-- The poll of a grow or a shrink goes on by each of its steps.
use Rattle.std.proofs.Common.{◌≡◌, ℕ, ◌+◌, ◌^◌, ◌<◌, ◌≤◌, ◌==◌, Bool, true, false, cond, Option, Some, refl, sym, ap, subst, ◌∙◌, arith}
use Rattle.std.specs.Prelude.{min}
use Rattle.std.proofs.lemmas.Bool.{eqb-true}
use Rattle.section_core.specs.Words.{waits_for}
use Rattle.marked_word.specs.Head.{is_locked, first_of}
use Rattle.table_shape.specs.declared.shape.Shape.{Shape}
use Rattle.table_shape.specs.Shape.{IsSound}
use Rattle.atomic_step.specs.declared.answer.Answer.{Answer}
use Rattle.atomic_step.specs.declared.step.Step.{Step}
use Rattle.atomic_step.specs.SoundStep.{CanBeFound, IsHeadWord}
use Rattle.call_machine.specs.declared.call.Call.{Call}
use Rattle.call_machine.specs.declared.grace.Grace.{Grace}
use Rattle.call_machine.specs.declared.grace.Gracing.{Gracing}
use Rattle.call_machine.specs.declared.grace.Gracing.TheVariants as gracing
use Rattle.call_machine.specs.declared.lock.Locking.TheVariants as locking
use Rattle.call_machine.specs.declared.lock.LockStage.TheVariants.{LockHead}
use Rattle.call_machine.specs.declared.machine.Machine.{Machine}
use Rattle.call_machine.specs.declared.resize.AfterGrace.{AfterGrace}
use Rattle.call_machine.specs.declared.resize.Direction.{Direction}
use Rattle.call_machine.specs.declared.resize.ResizeAlong.{ResizeAlong}
use Rattle.call_machine.specs.declared.resize.ResizeStage.{ResizeStage}
use Rattle.call_machine.specs.declared.resize.ResizeStage.TheVariants as stage
use Rattle.call_machine.specs.declared.resize.Side.{Side}
use Rattle.call_machine.specs.Grace.{scanned}
use Rattle.call_machine.specs.Resize.{Went, goes, graces_on, looks_at, resize_row}
use Rattle.call_machine.specs.SoundResize.{IsSoundResize, IsSoundResizing, LeadsToLevel}
use Rattle.call_machine.proofs.Nodes.{few_slots}
use Rattle.call_machine.proofs.SoundResize.{level_small}
use Rattle.cht_run.specs.declared.sight.Origin.{Origin}
use Rattle.cht_run.specs.declared.sight.Sight.{Sight}
use Rattle.cht_run.specs.declared.table.Cht.{Cht}
use Rattle.cht_run.specs.Begins.{GoesOn, next_in}
use Rattle.cht_run.specs.Resizes.{resized, scans_in}
use Rattle.cht_run.specs.Seats.{Raw, Sits}
use Rattle.cht_run.specs.Underway.{IsAt, Further, IsScanning, tried_lock}
use Rattle.cht_run.proofs.Underway.{goes_further, fits_next, next_at}

-- WHERE IT STANDS

-- the table of the seat is the table
pub table_is : {cht : Cht} {b : Sight} {c : Call} {raw : Raw} {m : Machine} → IsAt cht b c raw m → b.origin.table.shape ≡ cht.origin.table.shape
table_is at = ap (λ (o : Origin). o.table.shape) (sym at.ran.went.stays.origin ∙ at.sits.origin)

-- what a resize is that is under way
module _ {cht : Cht} {b : Sight} {c : Call} {raw : Raw} {d : Direction} {w : ResizeAlong} {s : ResizeStage} {a : Option Answer} (at : IsAt cht b c raw (resized b d (w, s, a))) where
  pub resize_sound : IsSoundResize cht.origin.table.shape d w s
  resize_sound = subst (λ (shape : Shape). IsSoundResize shape d w s) (table_is at) at.ran.went.sound.sound.work

  pub resizing_at : (shape : Shape) × IsSound shape × IsSoundResizing shape d w
  resizing_at = (cht.origin.table.shape, cht.sound, resize_sound.along)

  pub level_at : (shape : Shape) × IsSound shape × LeadsToLevel shape d w.level
  level_at = (cht.origin.table.shape, cht.sound, resize_sound.along.level)

  pub low_level : w.level ≤ 20
  low_level = level_small cht.origin.table.shape d w.level cht.sound resize_sound.along.level

-- the head that it is to lock has no lock, and leads to a node of the table
pub open_head : {cht : Cht} {b : Sight} {c : Call} {raw : Raw} {d : Direction} {w : ResizeAlong} {side : Side} {head : ℕ} →
    IsAt cht b c raw (resized b d (goes w (stage.Lock side (LockHead head)))) → (is_locked head ≡ false) × IsHeadWord cht.origin.table.shape head
open_head at = let sound = (resize_sound at).step 0 in (sound.1, sound.2)

-- A STEP

module _ {cht : Cht} {b : Sight} {c : Call} {raw : Raw} {d : Direction} {w : ResizeAlong} {s : ResizeStage} where
  -- what it asks
  pub resize_next : {stp : Step} → IsAt cht b c raw (resized b d (goes w s)) → (resize_row cht.origin.table.shape d w s).step ≡ stp → next_in raw.me.0.seat ≡ Some stp
  resize_next at does = next_at cht b c raw (resized b d (goes w s)) at _ refl ∙ ap (λ (shape : Shape). Some (resize_row shape d w s).step) (table_is at) ∙ ap Some does

  module _ {raw' : Raw} (word : ℕ) where
    -- where the word leads that it found
    pub resize_further : (came : Went) → IsAt cht b c raw (resized b d (goes w s)) → Sits cht raw' → GoesOn raw.me.0 word raw'.me.0 → (resize_row cht.origin.table.shape d w s).next word ≡ came →
        Further cht b c raw' (resized b d (goes w s)) (resized b d came)
    resize_further came at sits told leads =
        subst (λ (z : Went). Further cht b c raw' (resized b d (goes w s)) (resized b d z)) (ap (λ (shape : Shape). (resize_row shape d w s).next word) (table_is at) ∙ leads)
        (goes_further cht b c raw (resized b d (goes w s)) at raw' _ word refl sits told)

    -- it can stand there
    pub resize_fits : IsAt cht b c raw (resized b d (goes w s)) → Sits cht raw' → GoesOn raw.me.0 word raw'.me.0 → CanBeFound cht.origin.table.shape (resize_row cht.origin.table.shape d w s).step word
    resize_fits at sits told = subst (λ (shape : Shape). CanBeFound shape (resize_row shape d w s).step word) (table_is at) (fits_next cht b c raw (resized b d (goes w s)) at raw' _ word refl sits told)

pub small_link : (cht : Cht) (word : ℕ) → word ≤ cht.origin.table.shape.slots → word ≤ 2 ^ 32
small_link cht word few = omega (arith, few, few_slots cht.origin.table.shape cht.sound)

-- ITS GRACES

sections : (b : Sight) (d : Direction) (w : ResizeAlong) (then_do : AfterGrace) → IsScanning b.origin.table.shape.seats (scans_in b d w then_do)
sections b d w then_do = record {
  of = λ g s. tt;
  plan = λ g. refl;
  got = λ g word. refl;
  inside = λ g sound. (sound.work.step 0).0;
}

-- what comes of the section word of the next number, by whether it is waited for and whether it is the last one
abbrev came_of : Grace → Bool → Bool → Grace × Gracing
came_of g waits over = cond waits (g, gracing.Waits) (cond over (g, gracing.Over) (record g { next = g.next + 1 }, gracing.Goes))

module _ {cht : Cht} {b : Sight} {c : Call} {raw : Raw} {d : Direction} where
  pub resize_scans : {m : Machine} (w : ResizeAlong) (then_do : AfterGrace) → IsAt cht b c raw m → IsScanning cht.origin.table.shape.seats (scans_in b d w then_do)
  resize_scans w then_do at = subst (λ (shape : Shape). IsScanning shape.seats (scans_in b d w then_do)) (table_is at) (sections b d w then_do)

  -- a grace whose next section was looked at had one to look at
  pub next_inside : (w : ResizeAlong) (then_do : AfterGrace) (word : ℕ) → IsAt cht b c raw (resized b d (let came = scanned cht.origin.table.shape.seats w.grace word in graces_on (record w { grace = came.0 }) then_do came.1)) →
      w.grace.next < cht.origin.table.shape.seats
  next_inside w then_do word at = by_test (waits_for w.grace.raised word) (w.grace.next + 1 == cht.origin.table.shape.seats) refl at
    where
      by_test : (waits over : Bool) → (w.grace.next + 1 == cht.origin.table.shape.seats) ≡ over → IsAt cht b c raw (resized b d (let came = came_of w.grace waits over in graces_on (record w { grace = came.0 }) then_do came.1)) →
          w.grace.next < cht.origin.table.shape.seats
      by_test true over is at = ((resize_sound at).step 0).0
      by_test false true is at = let last = eqb-true (w.grace.next + 1) cht.origin.table.shape.seats is in omega (arith, last)
      by_test false false is at = let more = ((resize_sound at).step 0).0 in omega (arith, more)

-- WHERE A WORD LEADS

-- one more node was looked at, and one more grace begun
pub looked_leads : (w : ResizeAlong) (s : ResizeStage) (passed : ℕ) → passed ≡ min (w.passed + 1) 4294967295 → goes (looks_at w) s ≡ goes (record w { passed = passed }) s
looked_leads w s passed is = ap (λ n. goes (record w { passed = n }) s) (sym is)

pub raised_leads : (w : ResizeAlong) (s : ResizeStage) (g : Grace) (graces : ℕ) → graces ≡ min (w.graces + 1) 18446744073709551615 →
    goes (record w { grace = g; graces = min (w.graces + 1) 18446744073709551615 }) s ≡ goes (record w { grace = g; graces = graces }) s
raised_leads w s g graces is = ap (λ n. goes (record w { grace = g; graces = n }) s) (sym is)

-- the exchange that locks a head was made, or another was faster
pub lock_came : (head word : ℕ) → cond (word == head) (locking.Locked (first_of word)) locking.Waits ≡ tried_lock head (word == head)
lock_came head word = by_test (word == head) refl
  where
    by_test : (t : Bool) → (word == head) ≡ t → cond t (locking.Locked (first_of word)) locking.Waits ≡ tried_lock head t
    by_test true is = ap (λ n. locking.Locked (first_of n)) (eqb-true word head is)
    by_test false is = refl
