-- What a poll of a clean has found out of its window as it begins, and where it goes on to the next stage, bucket or pass.
use Rattle.std.proofs.Common.{◌≡◌, ℕ, ◌+◌, ◌/◌, ◌^◌, ◌<◌, ◌≤◌, ◌==◌, min, nat_le, nat_lt, Bool, true, false, if◌then◌else◌, List, [], ◌∷◌, length, Option, Some, None}
use Rattle.std.proofs.Common.{is_some, refl, sym, ap, ◌∙◌, inr, arith}
use Rattle.std.proofs.lemmas.Bool.Decides.{nat_tests}
use Rattle.marked_word.specs.Head.{is_locked}
use Rattle.intern_log.specs.declared.event.Event.{Event}
use Rattle.atomic_step.specs.declared.answer.Answer.TheVariants as answer
use Rattle.atomic_step.proofs.Choices.{where_it_is, either_way, found_equal}
use Rattle.call_machine.specs.declared.clean.CleanAlong.{CleanAlong}
use Rattle.call_machine.specs.declared.clean.CleanStage.{CleanStage}
use Rattle.call_machine.specs.declared.clean.CleanStage.TheVariants as clean
use Rattle.call_machine.specs.declared.clean.Freeing.{Freeing}
use Rattle.call_machine.specs.declared.clean.Freeing.TheVariants as freeing
use Rattle.call_machine.specs.declared.grace.GraceStage.TheVariants as grace
use Rattle.call_machine.specs.declared.lock.LockStage.TheVariants as lock
use Rattle.call_machine.specs.declared.pass.FreeStage.{FreeStage}
use Rattle.call_machine.specs.declared.pass.PassStage.{PassStage}
use Rattle.call_machine.specs.declared.pass.Waiting.{Waiting}
use Rattle.call_machine.specs.Clean.{Went, goes, waits_at, raises, begins_poll, cleans_on, counts_pass, ends, next_bucket, frees_on}
use Rattle.cht_core.specs.declared.table.Table.{Table}
use Rattle.cht_core.specs.Causes.{now_in, IsLockedByOther, IsOnBucket, KeepsResizeLock, own_unlinks, HasMade, CleanCaused, IsRestingAt}
use Rattle.cht_core.specs.Windows.{Another}
use Rattle.cht_core.proofs.CauseSteps.{at_least}

less_than : (a b : ℕ) → nat_lt a b ≡ true → a + 1 ≤ b
less_than a b is = grind (arith, nat_tests)

some_of : (o : Option ℕ) → is_some o ≡ true → (k : ℕ) × (o ≡ Some k)
some_of None is = absurd (cc)
some_of (Some k) is = (k, refl)

-- a bucket to which callers come, whose head says that it is locked, is locked by another seat
pub locked_by_other : (t : Table) (i row bucket word : ℕ) (log : List Event) → is_locked word ≡ is_some ((now_in t log).lock row bucket) → ¬ ((now_in t log).lock row bucket ≡ Some i) →
    is_locked word ≡ true →
    IsLockedByOther t i row bucket log
locked_by_other t i row bucket word log says not_mine locked =
    let owner = some_of ((now_in t log).lock row bucket) (sym says ∙ locked) in
    (owner.0, owner.1, λ same. not_mine (owner.1 ∙ ap (λ k. Some k) same))

-- A FULL PASS

-- one more full pass is counted where it unlinked 256 slots
counted_full : (t : Table) (i : ℕ) (seen window : List Event) (w : CleanAlong) → HasMade t i seen window w w.cleaning.pass_waiting → w.cleaning.pass_waiting ≡ 256 →
    HasMade t i seen window (record w { full_passes = min (w.full_passes + 1) 4294967295 }) 0
counted_full t i seen window w made is = grind arith

-- after `slots / 256 + 1` full passes more slots were unlinked than the table has
pub too_many : (t : Table) (i : ℕ) (seen window : List Event) (w : CleanAlong) → HasMade t i seen window w 0 → nat_lt (t.shape.slots / 256) w.full_passes ≡ true →
    t.shape.slots < own_unlinks t i w.cleaning.row w.cleaning.bucket seen window
too_many t i seen window w made passes = let more : t.shape.slots / 256 + 1 ≤ w.full_passes = less_than (t.shape.slots / 256) w.full_passes passes in omega (arith, more, made)

module _ (t : Table) (i : ℕ) (seen window : List Event) (load : ℕ) (keeps : KeepsResizeLock t i seen window) where
  -- what came of a step
  abbrev Came : Went → Type 0
  Came at = CleanCaused t i seen window load at.0 at.1 at.2

  abbrev Made : CleanAlong → ℕ → Type 0
  Made w beside = HasMade t i seen window w beside

  held : (w : CleanAlong) (s : CleanStage) (b : Bool) → nat_le (2 ^ 63) w.grace.raised ≡ b → CleanCaused t i seen window load w s None →
      CleanCaused t i seen window load w s (if b then Some (answer.PendingSeat 0) else None)
  held w s true great h = inr (refl, at_least (2 ^ 63) w.grace.raised great)
  held w s false small h = h

  raised_on : (w : CleanAlong) (which : Freeing) → Made w 0 → Came (raises w which)
  raised_on w which made = held w (clean.Grace which grace.RaiseCounter) (nat_le (2 ^ 63) w.grace.raised) refl (keeps, made, tt)

  -- a poll begins with a work that rests
  none_yet : (w : CleanAlong) → Made (record w { full_passes = 0 }) 0
  none_yet w = omega arith

  pub clean_begins : (w : CleanAlong) (s : CleanStage) → IsRestingAt s → Came (begins_poll w s)
  clean_begins w clean.LoadLevel rests = (keeps, refl, tt)
  clean_begins w (clean.Lock lock.LoadHead) rests = (keeps, none_yet w, tt)
  clean_begins w (clean.Lock (lock.LockHead head)) rests = absurd rests
  clean_begins w (clean.Pass s) rests = absurd rests
  clean_begins w clean.UnlockHead rests = absurd rests
  clean_begins w (clean.Grace which grace.RaiseCounter) rests =
      held (record w { full_passes = 0 }) (clean.Grace which grace.RaiseCounter) (nat_le (2 ^ 63) w.grace.raised) refl (keeps, none_yet w, tt)
  clean_begins w (clean.Grace which grace.LoadSection) rests = (keeps, none_yet w, tt)
  clean_begins w (clean.Free which s) rests = (keeps, none_yet w, tt)
  clean_begins w clean.GiveResizeLock rests = (keeps, none_yet w, tt)

  pub on_pass : (w : CleanAlong) (s : Option PassStage) → Made w w.cleaning.pass_waiting → Came (goes w (cleans_on s))
  on_pass w None made = (keeps, made, tt)
  on_pass w (Some s) made = (keeps, made, tt)

  ended : (w : CleanAlong) (xs : List Waiting) → Made w 0 → Came (ends w xs)
  ended w [] made = (keeps, made, tt)
  ended w (x ∷ xs) made = raised_on w freeing.Last made

  pub next_on : (w : CleanAlong) → Made w w.cleaning.pass_waiting → Came (next_bucket w)
  next_on w made =
      let few : Made w 0 = omega (arith, made) in
      either_way Came (length w.cleaning.waiting.items == 256) (raises (counts_pass w) freeing.Again)
      (if nat_lt (w.cleaning.bucket + 1) (2 ^ w.cleaning.row) then goes (record w { cleaning = record w.cleaning { bucket = w.cleaning.bucket + 1 }; full_passes = 0 })
      (clean.Lock lock.LoadHead) else ends w w.cleaning.waiting.items)
      (raised_on (counts_pass w) freeing.Again
      (where_it_is (λ (v : CleanAlong). Made v 0) (w.cleaning.pass_waiting == 256) (record w { full_passes = min (w.full_passes + 1) 4294967295 }) w
      (λ full. counted_full t i seen window w made (found_equal w.cleaning.pass_waiting 256 full)) (λ less. few)))
      (either_way Came (nat_lt (w.cleaning.bucket + 1) (2 ^ w.cleaning.row))
      (goes (record w { cleaning = record w.cleaning { bucket = w.cleaning.bucket + 1 }; full_passes = 0 }) (clean.Lock lock.LoadHead))
      (ends w w.cleaning.waiting.items) (keeps, none_yet (record w { cleaning = record w.cleaning { bucket = w.cleaning.bucket + 1 } }), tt) (ended w w.cleaning.waiting.items few))

  pub freed : (w : CleanAlong) (which : Freeing) (s : Option FreeStage) → Made w 0 →
      (nat_lt (t.shape.slots / 256) w.full_passes ≡ true → Another i (IsOnBucket t w.cleaning.row w.cleaning.bucket) seen window) → Came (frees_on t.shape w which s)
  freed w freeing.Again None made created =
      where_it_is Came (nat_lt (t.shape.slots / 256) w.full_passes) (waits_at w) (goes w (clean.Lock lock.LoadHead)) (λ passes. inr (created passes)) (λ few. (keeps, made, tt))
  freed w freeing.Last None made created = (keeps, made, tt)
  freed w freeing.Again (Some s) made created = (keeps, made, tt)
  freed w freeing.Last (Some s) made created = (keeps, made, tt)
