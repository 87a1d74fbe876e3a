-- What a poll of a grow or a shrink has found out of its window, as it begins and by each word that it finds.
use Rattle.std.proofs.Common.{ℕ, ◌+◌, ◌^◌, ◌==◌, nat_le, if◌then◌else◌, List, [], ◌++◌, Option, Some, None, refl, sym, subst, inl, inr}
use Rattle.marked_word.specs.Head.{is_locked, first_of}
use Rattle.section_core.specs.Words.{waits_for}
use Rattle.intern_log.specs.declared.event.Event.{Event}
use Rattle.intern_log.proofs.OneMore.{place_is}
use Rattle.atomic_step.specs.declared.answer.Answer.{Answer}
use Rattle.atomic_step.specs.declared.answer.Answer.TheVariants as answer
use Rattle.atomic_step.specs.declared.plan.Plan.TheVariants as plan
use Rattle.atomic_step.specs.Event.{event_of}
use Rattle.atomic_step.proofs.Choices.{where_it_is, either_way, not_equal}
use Rattle.call_machine.specs.declared.grace.Grace.{Grace}
use Rattle.call_machine.specs.declared.grace.GraceStage.TheVariants as grace
use Rattle.call_machine.specs.declared.grace.Gracing.{Gracing}
use Rattle.call_machine.specs.declared.grace.Gracing.TheVariants as gracing
use Rattle.call_machine.specs.declared.lock.Locking.{Locking}
use Rattle.call_machine.specs.declared.lock.Locking.TheVariants as locking
use Rattle.call_machine.specs.declared.lock.LockStage.TheVariants as lock
use Rattle.call_machine.specs.declared.resize.Direction.{Direction}
use Rattle.call_machine.specs.declared.resize.ResizeAlong.{ResizeAlong}
use Rattle.call_machine.specs.declared.resize.ResizeStage.{ResizeStage}
use Rattle.call_machine.specs.declared.resize.ResizeStage.TheVariants as resize
use Rattle.call_machine.specs.Grace.{held_back, counts_grace}
use Rattle.call_machine.specs.Resize.{Went, bucket_at, has_locked, locks_on, graces_on, resize_row, resumed}
use Rattle.cht_core.specs.declared.table.Table.{Table}
use Rattle.cht_core.specs.Flow.{Flow}
use Rattle.cht_core.specs.Past.{Past, past_of}
use Rattle.cht_core.specs.Causes.{IsLockedByOther, IsOnBucket, loaded_at, OldHeadLoaded, ResizeCaused, ResizeHears, IsAwayAt}
use Rattle.cht_core.specs.WordSays.{WordSays}
use Rattle.cht_core.specs.Invariant.{events_of}
use Rattle.cht_core.proofs.CauseSteps.{at_least, open_below}
use Rattle.cht_core.proofs.CauseWaits.{work_ends_on}
use Rattle.cht_core.proofs.CauseWorks.{locked_by_other}
use Rattle.cht_core.proofs.ResizeTurns.{GoesOn, IsPlain, locked_on, grace_over, plain_on}
use Rattle.cht_core.proofs.Windows.{at_end, another_since, seen_before}

module _ (t : Table) (i : ℕ) (seen window : List Event) (load : ℕ) where
  abbrev Came : Went → Type 0
  Came at = ResizeCaused t i seen window load at.0 at.1 at.2

  -- a resize that is not about to exchange a head needs none that it loaded
  away : (s : ResizeStage) → IsAwayAt s → OldHeadLoaded seen load s
  away resize.PutNewLevel is = tt
  away (resize.Lock side lock.LoadHead) is = tt
  away (resize.Lock side (lock.LockHead head)) is = absurd is
  away (resize.PutHead side) is = tt
  away (resize.RedirectHead side) is = tt
  away (resize.Unzip s) is = tt
  away (resize.Join s) is = tt
  away (resize.UnlockHead side) is = tt
  away (resize.Grace x s) is = tt
  away resize.StoreLevel is = tt
  away resize.ClearNewLevel is = tt
  away resize.GiveResizeLock is = tt

  -- it answers where no further grace may begin
  held : (w : ResizeAlong) (s : ResizeStage) → IsAwayAt s → ResizeCaused t i seen window load w s (held_back w.grace.raised)
  held w s is =
      where_it_is (λ (a : Option Answer). ResizeCaused t i seen window load w s a) (nat_le (2 ^ 63) w.grace.raised) (Some (answer.PendingSeat 0)) None
      (λ great. inr (refl, at_least (2 ^ 63) w.grace.raised great)) (λ small. away s is)

  pub came_on : (at : Went) → GoesOn at → Came at
  came_on at on = elim on.1 [
    | inl none ↦ subst (λ (a : Option Answer). ResizeCaused t i seen window load at.0 at.1 a) (sym none) (away at.1 on.0)
    | inr back ↦ subst (λ (a : Option Answer). ResizeCaused t i seen window load at.0 at.1 a) (sym back) (held at.0 at.1 on.0)
  ]

  -- a poll begins with a work that rests
  pub resize_begins : (w : ResizeAlong) (s : ResizeStage) → IsAwayAt s → ResizeCaused t i seen window load w s (resumed w s)
  resize_begins w (resize.Grace x grace.RaiseCounter) is = held w (resize.Grace x grace.RaiseCounter) is
  resize_begins w (resize.Grace x grace.LoadSection) is = tt
  resize_begins w resize.PutNewLevel is = tt
  resize_begins w (resize.Lock side lock.LoadHead) is = tt
  resize_begins w (resize.Lock side (lock.LockHead head)) is = absurd is
  resize_begins w (resize.PutHead side) is = tt
  resize_begins w (resize.RedirectHead side) is = tt
  resize_begins w (resize.Unzip s) is = tt
  resize_begins w (resize.Join s) is = tt
  resize_begins w (resize.UnlockHead side) is = tt
  resize_begins w resize.StoreLevel is = tt
  resize_begins w resize.ClearNewLevel is = tt
  resize_begins w resize.GiveResizeLock is = tt

module _ (t : Table) (i : ℕ) (seen window : List Event) (load : ℕ) (f : Flow) (d : Direction) (w : ResizeAlong) where
  abbrev Now' : Past
  Now' = past_of t.shape.min_level (seen ++ window)

  -- the window after the step that found a word
  abbrev After : ResizeStage → ℕ → List Event
  After s word = window ++ events_of i (event_of [] (resize_row t.shape d w s).step word)

  abbrev Comes : ResizeStage → ℕ → ℕ → Went → Type 0
  Comes s word at came = ResizeCaused t i seen (After s word) at came.0 came.1 came.2

  -- a step that only goes on
  plain : (s : ResizeStage) (word : ℕ) → IsPlain s → Comes s word (loaded_at (plan.Step (resize_row t.shape d w s).step) Now'.now.place load) ((resize_row t.shape d w s).next word)
  plain s word is =
      came_on t i seen (After s word) (loaded_at (plan.Step (resize_row t.shape d w s).step) Now'.now.place load) ((resize_row t.shape d w s).next word) (plain_on t.shape d w s word is)

  -- a resize by a word that is found
  pub resize_found : (s : ResizeStage) (word : ℕ) → OldHeadLoaded seen load s → WordSays t Now' f (resize_row t.shape d w s).step word →
      ResizeHears t Now' f i load (seen ++ window) d w s word →
      Comes s word (loaded_at (plan.Step (resize_row t.shape d w s).step) Now'.now.place load) ((resize_row t.shape d w s).next word)
  resize_found (resize.Lock side lock.LoadHead) word h says hears =
      let bucket : ℕ = bucket_at d w side in
      where_it_is (λ (at : Locking). Comes (resize.Lock side lock.LoadHead) word Now'.now.place (locks_on d w side at)) (is_locked word) locking.Waits (locking.Goes (lock.LockHead word))
      (λ locked. work_ends_on t i seen window [] w.grace.raised (answer.PendingBucket w.level bucket) (inl (at_end seen window (IsLockedByOther t i w.level bucket)
      (locked_by_other t i w.level bucket word (seen ++ window) (says hears.0) hears.1 locked))))
      (λ free. seen_before seen window Now'.now.place (place_is t.shape.min_level (seen ++ window)))
  resize_found (resize.Lock side (lock.LockHead head)) word h says hears =
      let bucket : ℕ = bucket_at d w side in
      where_it_is (λ (at : Locking). Comes (resize.Lock side (lock.LockHead head)) word load (locks_on d w side at)) (word == head) (locking.Locked (first_of word)) locking.Waits
      (λ same. came_on t i seen (After (resize.Lock side (lock.LockHead head)) word) load (has_locked d w side (first_of word)) (locked_on d w side (first_of word)))
      (λ other. work_ends_on t i seen window (events_of i (event_of [] (resize_row t.shape d w (resize.Lock side (lock.LockHead head))).step word)) w.grace.raised
      (answer.PendingBucket w.level bucket) (inr (elim hears [
        | inl same ↦ absurd (not_equal word head other same)
        | inr moved ↦ another_since i load (IsOnBucket t w.level bucket) seen window h moved
      ])))
  resize_found (resize.Grace x grace.LoadSection) word h says hears =
      let on : Grace × Gracing → Went = λ at. graces_on (record w { grace = at.0; graces = counts_grace grace.LoadSection w.graces }) x at.1 in
      where_it_is (λ (at : Grace × Gracing). Comes (resize.Grace x grace.LoadSection) word load (graces_on (record w { grace = at.0; graces = counts_grace grace.LoadSection w.graces }) x at.1))
      (waits_for w.grace.raised word)
      (w.grace, gracing.Waits) (if w.grace.next + 1 == t.shape.seats then (w.grace, gracing.Over) else (record w.grace { next = w.grace.next + 1 }, gracing.Goes))
      (λ waits. work_ends_on t i seen window [] w.grace.raised (answer.PendingSeat w.grace.next) (inl (open_below t i seen window w.grace word says waits)))
      (λ goes. either_way (λ (at : Grace × Gracing). Comes (resize.Grace x grace.LoadSection) word load (graces_on (record w { grace = at.0; graces = counts_grace grace.LoadSection w.graces }) x at.1))
      (w.grace.next + 1 == t.shape.seats) (w.grace, gracing.Over) (record w.grace { next = w.grace.next + 1 }, gracing.Goes)
      (came_on t i seen (After (resize.Grace x grace.LoadSection) word) load (on (w.grace, gracing.Over)) (grace_over (record w { graces = counts_grace grace.LoadSection w.graces }) x)) tt)
  resize_found (resize.Grace x grace.RaiseCounter) word h says hears = plain (resize.Grace x grace.RaiseCounter) word tt
  resize_found resize.PutNewLevel word h says hears = plain resize.PutNewLevel word tt
  resize_found (resize.PutHead side) word h says hears = plain (resize.PutHead side) word tt
  resize_found (resize.RedirectHead side) word h says hears = plain (resize.RedirectHead side) word tt
  resize_found (resize.Unzip s) word h says hears = plain (resize.Unzip s) word tt
  resize_found (resize.Join s) word h says hears = plain (resize.Join s) word tt
  resize_found (resize.UnlockHead side) word h says hears = plain (resize.UnlockHead side) word tt
  resize_found resize.StoreLevel word h says hears = plain resize.StoreLevel word tt
  resize_found resize.ClearNewLevel word h says hears = plain resize.ClearNewLevel word tt
  resize_found resize.GiveResizeLock word h says hears = tt
