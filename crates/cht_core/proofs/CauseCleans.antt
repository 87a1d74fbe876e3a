-- What a poll of a clean has found out of its window, by each word that it finds.
use Rattle.std.proofs.Common.{◌≡◌, ℕ, ◌+◌, ◌/◌, ◌^◌, ◌==◌, min, nat_lt, true, if◌then◌else◌, List, [], ◌∷◌, ◌++◌, length, Option, Some, None}
use Rattle.std.proofs.Common.{refl, sym, subst, inl, inr, arith}
use Rattle.std.specs.List.{filter}
use Rattle.marked_word.specs.Head.{is_locked, first_of}
use Rattle.marked_word.specs.Link.{node_of}
use Rattle.section_core.specs.Words.{waits_for}
use Rattle.table_shape.specs.declared.shape.Shape.{Shape}
use Rattle.intern_log.specs.declared.event.Event.{Event}
use Rattle.intern_log.specs.declared.event.What.{What}
use Rattle.intern_log.specs.declared.event.What.TheVariants as what
use Rattle.intern_log.specs.Now.{owner_of}
use Rattle.intern_log.proofs.OneMore.{place_is}
use Rattle.atomic_step.specs.declared.answer.Answer.{Answer}
use Rattle.atomic_step.specs.declared.answer.Answer.TheVariants as answer
use Rattle.atomic_step.specs.Event.{event_of}
use Rattle.atomic_step.specs.Turn.{plan_in, next_in, event_by}
use Rattle.atomic_step.specs.declared.plan.Plan.TheVariants as plan
use Rattle.atomic_step.proofs.Choices.{where_it_is, either_way, not_equal}
use Rattle.call_machine.specs.declared.caller.Caller.{Caller}
use Rattle.call_machine.specs.declared.clean.CleanAlong.{CleanAlong}
use Rattle.call_machine.specs.declared.clean.CleanStage.{CleanStage}
use Rattle.call_machine.specs.declared.clean.CleanStage.TheVariants as clean
use Rattle.call_machine.specs.declared.grace.Grace.{Grace}
use Rattle.call_machine.specs.declared.grace.GraceStage.TheVariants as grace
use Rattle.call_machine.specs.declared.grace.Gracing.{Gracing}
use Rattle.call_machine.specs.declared.grace.Gracing.TheVariants as gracing
use Rattle.call_machine.specs.declared.lock.Locking.{Locking}
use Rattle.call_machine.specs.declared.lock.Locking.TheVariants as locking
use Rattle.call_machine.specs.declared.lock.LockStage.TheVariants as lock
use Rattle.call_machine.specs.declared.pass.Cleaning.{Cleaning}
use Rattle.call_machine.specs.declared.pass.FreeStage.{FreeStage}
use Rattle.call_machine.specs.declared.pass.FreeStage.TheVariants as free
use Rattle.call_machine.specs.declared.pass.PassStage.{PassStage}
use Rattle.call_machine.specs.declared.pass.PassStage.TheVariants as pass
use Rattle.call_machine.specs.declared.work.Work.{Work}
use Rattle.call_machine.specs.declared.work.Work.TheVariants as work
use Rattle.call_machine.specs.Clean.{Went, goes, cleans_on, locks_on, graces_on, frees_on, clean_row}
use Rattle.call_machine.specs.Grace.{counts_grace}
use Rattle.call_machine.specs.Pass.{passes_on, begins_pass, pass_row, looks_at, dead_of, unlinks, after_unlink, first_behind, waiting_at, all_freed}
use Rattle.call_machine.specs.Poll.{poll_turn}
use Rattle.call_machine.specs.Resize.{resize_row}
use Rattle.call_machine.specs.SoundClean.{IsSoundClean}
use Rattle.call_machine.specs.Work.{resumes, IsSoundWork}
use Rattle.cht_core.specs.declared.table.Table.{Table}
use Rattle.cht_core.specs.Flow.{Flow}
use Rattle.cht_core.specs.Past.{Past, past_of}
use Rattle.cht_core.specs.Causes.{now_in, PlanSays, IsUnseen, IsLockedByOther, IsOnBucket, loaded_at, KeepsResizeLock, HasMade, CleanCaused, ResizeCaused, PollCaused, CleanHears, PollHears, IsResting}
use Rattle.cht_core.specs.WordSays.{WordSays}
use Rattle.cht_core.specs.Invariant.{events_of}
use Rattle.cht_core.specs.Unlinks.{is_given}
use Rattle.cht_core.specs.Windows.{Another, IsTold}
use Rattle.cht_core.proofs.CausePasses.{unlink_counts, unlinked_on, keeps_steps}
use Rattle.cht_core.proofs.CauseResizes.{resize_begins, resize_found}
use Rattle.cht_core.proofs.CauseUnlinks.{created_beside}
use Rattle.cht_core.proofs.CauseWaits.{work_ends_on}
use Rattle.cht_core.proofs.Windows.{at_end, another_since, another_on, seen_before, whats_of}
use Rattle.cht_core.proofs.CauseSteps.{open_below}
use Rattle.cht_core.proofs.CauseWorks.{locked_by_other, too_many, clean_begins, on_pass, next_on, freed}

module _ (t : Table) (i : ℕ) (seen window : List Event) (load : ℕ) (f : Flow) where
  abbrev Now' : Past
  Now' = past_of t.shape.min_level (seen ++ window)

  -- the window after the step of a clean that found a word
  abbrev After : CleanAlong → CleanStage → ℕ → List Event
  After w s word = window ++ events_of i (event_of [] (clean_row t.shape w s).step word)

  abbrev Comes : CleanAlong → CleanStage → ℕ → ℕ → Went → Type 0
  Comes w s word at came = CleanCaused t i seen (After w s word) at came.0 came.1 came.2

  -- only the last step gives the resize lock back
  abbrev IsBeforeEnd : CleanStage → Type 0
  IsBeforeEnd clean.GiveResizeLock = ⊥
  IsBeforeEnd s = Unit {0}

  gives_none : (w : CleanAlong) (s : CleanStage) (word : ℕ) → IsBeforeEnd s → filter is_given (whats_of (event_of [] (clean_row t.shape w s).step word)) ≡ []
  gives_none w clean.LoadLevel word is = refl
  gives_none w (clean.Lock lock.LoadHead) word is = refl
  gives_none w (clean.Lock (lock.LockHead head)) word is =
      either_way (λ (e : Option What). filter is_given (whats_of e) ≡ []) (word == head) (Some (what.Lock w.cleaning.row w.cleaning.bucket)) None refl refl
  gives_none w (clean.Pass (pass.LoadCount s)) word is = refl
  gives_none w (clean.Pass (pass.LoadLink s None)) word is = refl
  gives_none w (clean.Pass (pass.LoadLink s (Some g))) word is = refl
  gives_none w (clean.Pass (pass.Unlink s g next)) word is = refl
  gives_none w clean.UnlockHead word is = refl
  gives_none w (clean.Grace which grace.RaiseCounter) word is = refl
  gives_none w (clean.Grace which grace.LoadSection) word is = refl
  gives_none w (clean.Free which (free.PutNextGeneration at)) word is = refl
  gives_none w (clean.Free which (free.FreeSlot at)) word is = refl
  gives_none w clean.GiveResizeLock word is = absurd is

  module _ (told : IsTold t (seen ++ window)) (unseen : IsUnseen i window) where
    -- after its full passes another seat's Create on the bucket stands in the window
    created : (w : CleanAlong) (more : List Event) → KeepsResizeLock t i seen window →
        HasMade t i seen window w 0 → nat_lt (t.shape.slots / 256) w.full_passes ≡ true →
        Another i (IsOnBucket t w.cleaning.row w.cleaning.bucket) seen (window ++ more)
    created w more keeps made passes =
        let came = created_beside t i w.cleaning.row w.cleaning.bucket seen window told keeps unseen
        (too_many t i seen window w made passes) in
        another_on seen window i (IsOnBucket t w.cleaning.row w.cleaning.bucket) more (came.0, came.1, came.2, came.3, came.4, inl came.5)

    -- a pass by a word
    passed : (w : CleanAlong) (s : PassStage) (word : ℕ) → IsSoundClean t.shape w (clean.Pass s) → CleanCaused t i seen window load w (clean.Pass s) None →
        CleanHears t Now' f i load (seen ++ window) w (clean.Pass s) word →
        Comes w (clean.Pass s) word (loaded_at (plan.Step (pass_row w.cleaning s).step) Now'.now.place load)
        (goes (record w { cleaning = ((pass_row w.cleaning s).next word).0 }) (cleans_on ((pass_row w.cleaning s).next word).1))
    passed w (pass.LoadCount s) word sound h hears =
        on_pass t i seen (After w (clean.Pass (pass.LoadCount s)) word) load (keeps_steps t i seen window None refl h.0) (record w { cleaning = looks_at w.cleaning }) (Some (pass.LoadLink s (dead_of word)))
        (unlinked_on t i seen window w (clean.Pass (pass.LoadCount s)) [] h.1)
    passed w (pass.LoadLink s None) word sound h hears =
        on_pass t i seen (After w (clean.Pass (pass.LoadLink s None)) word) load (keeps_steps t i seen window None refl h.0) (record w { cleaning = record w.cleaning { last = Some s } }) (passes_on (node_of word))
        (unlinked_on t i seen window w (clean.Pass (pass.LoadLink s None)) [] h.1)
    passed w (pass.LoadLink s (Some g)) word sound h hears =
        on_pass t i seen (After w (clean.Pass (pass.LoadLink s (Some g))) word) load (keeps_steps t i seen window None refl h.0) w (Some (pass.Unlink s g (node_of word)))
        (unlinked_on t i seen window w (clean.Pass (pass.LoadLink s (Some g))) [] h.1)
    passed w (pass.Unlink s g next) word sound h hears =
        let counted = unlink_counts t i seen window w.cleaning.row w.cleaning.bucket s hears (sound.step 0).2.0 in
        let were = h.1 in
        on_pass t i seen (After w (clean.Pass (pass.Unlink s g next)) word) load (keeps_steps t i seen window (Some (what.Unlink s)) refl h.0)
        (record w { cleaning = unlinks w.cleaning s g next }) (after_unlink (unlinks w.cleaning s g next) next)
        (either_way (λ (c : Cleaning). HasMade t i seen (After w (clean.Pass (pass.Unlink s g next)) word) (record w { cleaning = c }) c.pass_waiting) (nat_lt (g + 1) (2 ^ 48))
        (let c : Cleaning = record w.cleaning { first = first_behind w.cleaning.last w.cleaning.first next; unlinked = min (w.cleaning.unlinked + 1) 18446744073709551615 } in
        record c { waiting = record { items = c.waiting.items ++ record { slot = s; generation = g } ∷ [] }; pass_waiting = c.pass_waiting + 1 })
        (record w.cleaning { first = first_behind w.cleaning.last w.cleaning.first next; unlinked = min (w.cleaning.unlinked + 1) 18446744073709551615 })
        (omega (arith, counted, were)) (omega (arith, counted, were)))

    -- a clean by a word that is found
    pub clean_found : (w : CleanAlong) (s : CleanStage) (word : ℕ) → IsSoundClean t.shape w s → CleanCaused t i seen window load w s None → WordSays t Now' f (clean_row t.shape w s).step word →
        CleanHears t Now' f i load (seen ++ window) w s word → Comes w s word (loaded_at (plan.Step (clean_row t.shape w s).step) Now'.now.place load) ((clean_row t.shape w s).next word)
    clean_found w clean.LoadLevel word sound h says hears =
        let none : w.full_passes ≡ 0 = h.1 in
        (keeps_steps t i seen window None refl h.0, omega (arith, none), tt)
    clean_found w (clean.Lock lock.LoadHead) word sound h says hears =
        where_it_is (λ (at : Locking). Comes w (clean.Lock lock.LoadHead) word Now'.now.place (locks_on w at)) (is_locked word) locking.Waits (locking.Goes (lock.LockHead word))
        (λ locked. work_ends_on t i seen window [] w.grace.raised (answer.PendingBucket w.cleaning.row w.cleaning.bucket) (inl (at_end seen window (IsLockedByOther t i w.cleaning.row w.cleaning.bucket)
        (locked_by_other t i w.cleaning.row w.cleaning.bucket word (seen ++ window) (says hears.0) hears.1 locked))))
        (λ free. (
          keeps_steps t i seen window None refl h.0,
          unlinked_on t i seen window w (clean.Lock lock.LoadHead) [] h.1,
          seen_before seen window Now'.now.place (place_is t.shape.min_level (seen ++ window)),
        ))
    clean_found w (clean.Lock (lock.LockHead head)) word sound h says hears =
        let e = event_of [] (clean_row t.shape w (clean.Lock (lock.LockHead head))).step word in
        where_it_is (λ (at : Locking). Comes w (clean.Lock (lock.LockHead head)) word load (locks_on w at)) (word == head) (locking.Locked (first_of word)) locking.Waits
        (λ same. on_pass t i seen (window ++ events_of i e) load (keeps_steps t i seen window e (gives_none w (clean.Lock (lock.LockHead head)) word tt) h.0)
        (record w { cleaning = begins_pass w.cleaning (first_of word) }) (passes_on (first_of word)) (unlinked_on t i seen window w (clean.Lock (lock.LockHead head)) (events_of i e) h.1))
        (λ other. work_ends_on t i seen window (events_of i e) w.grace.raised (answer.PendingBucket w.cleaning.row w.cleaning.bucket) (inr (elim hears [
          | inl same ↦ absurd (not_equal word head other same)
          | inr moved ↦ another_since i load (IsOnBucket t w.cleaning.row w.cleaning.bucket) seen window h.2 moved
        ])))
    clean_found w (clean.Pass s) word sound h says hears = passed w s word sound h hears
    clean_found w clean.UnlockHead word sound h says hears =
        next_on t i seen (After w clean.UnlockHead word) load (keeps_steps t i seen window (Some (what.Unlock w.cleaning.row w.cleaning.bucket)) refl h.0) w
        (unlinked_on t i seen window w clean.UnlockHead (events_of i (Some (what.Unlock w.cleaning.row w.cleaning.bucket))) h.1)
    clean_found w (clean.Grace which grace.RaiseCounter) word sound h says hears = (
      keeps_steps t i seen window (Some what.Grace) refl h.0,
      unlinked_on t i seen window w (clean.Grace which grace.RaiseCounter) (events_of i (Some what.Grace)) h.1,
      tt,
    )
    clean_found w (clean.Grace which grace.LoadSection) word sound h says hears =
        let keeps = keeps_steps t i seen window None refl h.0 in
        let made = unlinked_on t i seen window w (clean.Grace which grace.LoadSection) [] h.1 in
        where_it_is (λ (at : Grace × Gracing). Comes w (clean.Grace which grace.LoadSection) word load
        (graces_on (record w { grace = at.0; graces = counts_grace grace.LoadSection w.graces }) which at.1)) (waits_for w.grace.raised word)
        (w.grace, gracing.Waits) (if w.grace.next + 1 == t.shape.seats then (w.grace, gracing.Over) else (record w.grace { next = w.grace.next + 1 }, gracing.Goes))
        (λ waits. work_ends_on t i seen window [] w.grace.raised (answer.PendingSeat w.grace.next) (inl (open_below t i seen window w.grace word says waits)))
        (λ goes. either_way (λ (at : Grace × Gracing). Comes w (clean.Grace which grace.LoadSection) word load
        (graces_on (record w { grace = at.0; graces = counts_grace grace.LoadSection w.graces }) which at.1))
        (w.grace.next + 1 == t.shape.seats)
        (w.grace, gracing.Over) (record w.grace { next = w.grace.next + 1 }, gracing.Goes) (keeps, made, tt) (keeps, made, tt))
    clean_found w (clean.Free which (free.PutNextGeneration at)) word sound h says hears =
        freed t i seen (After w (clean.Free which (free.PutNextGeneration at)) word) load (keeps_steps t i seen window None refl h.0) w which (Some (free.FreeSlot at))
        (unlinked_on t i seen window w (clean.Free which (free.PutNextGeneration at)) [] h.1) (created w [] h.0 h.1)
    clean_found w (clean.Free which (free.FreeSlot at)) word sound h says hears =
        let slot = (waiting_at w.cleaning at).slot in
        let keeps = keeps_steps t i seen window (Some (what.Free slot)) refl h.0 in
        let made = unlinked_on t i seen window w (clean.Free which (free.FreeSlot at)) (events_of i (Some (what.Free slot))) h.1 in
        let created = created w (events_of i (Some (what.Free slot))) h.0 h.1 in
        either_way (λ (came : Cleaning × Option FreeStage). Comes w (clean.Free which (free.FreeSlot at)) word load (frees_on t.shape (record w { cleaning = came.0 }) which came.1))
        (at + 1 == length w.cleaning.waiting.items) (all_freed w.cleaning, None) (w.cleaning, Some (free.PutNextGeneration (at + 1)))
        (freed t i seen (After w (clean.Free which (free.FreeSlot at)) word) load keeps (record w { cleaning = all_freed w.cleaning }) which None made created)
        (freed t i seen (After w (clean.Free which (free.FreeSlot at)) word) load keeps w which (Some (free.PutNextGeneration (at + 1))) made created)
    clean_found w clean.GiveResizeLock word sound h says hears = tt

    -- a poll of a work by a word that is found
    pub poll_found : (caller : Caller) (w : Work) (a : Option Answer) (word : ℕ) → caller.shape ≡ t.shape → IsSoundWork caller.shape w → PollCaused t i seen window load w a →
        PlanSays t Now' f (plan_in (poll_turn caller (w, a))) word → PollHears t Now' f i load (seen ++ window) w a word →
        PollCaused t i seen (window ++ events_of i (event_by [] (plan_in (poll_turn caller (w, a))) word)) (loaded_at (plan_in (poll_turn caller (w, a))) Now'.now.place load)
        (next_in (w, a) (poll_turn caller (w, a)) word).0 (next_in (w, a) (poll_turn caller (w, a)) word).1
    poll_found caller (work.Clean c) None word shape sound h says hears = subst By (sym shape) (λ sound says hears. clean_found c.along c.stage word sound h says hears) sound says hears
      where
        By : Shape → Type 0
        By shape = IsSoundClean shape c.along c.stage → WordSays t Now' f (clean_row shape c.along c.stage).step word → CleanHears t Now' f i load (seen ++ window) c.along c.stage word →
            (let came = (clean_row shape c.along c.stage).next word in
            CleanCaused t i seen (window ++ events_of i (event_of [] (clean_row shape c.along c.stage).step word))
            (loaded_at (plan.Step (clean_row shape c.along c.stage).step) Now'.now.place load) came.0 came.1 came.2)
    poll_found caller (work.Clean c) (Some a) word shape sound h says hears = work_ends_on t i seen window [] c.along.grace.raised a h
    poll_found caller (work.Resize r) None word shape sound h says hears = subst By (sym shape) (λ says. resize_found t i seen window load f r.direction r.along r.stage word h says hears) says
      where
        By : Shape → Type 0
        By shape = WordSays t Now' f (resize_row shape r.direction r.along r.stage).step word →
            (let came = (resize_row shape r.direction r.along r.stage).next word in
            ResizeCaused t i seen (window ++ events_of i (event_of [] (resize_row shape r.direction r.along r.stage).step word))
            (loaded_at (plan.Step (resize_row shape r.direction r.along r.stage).step) Now'.now.place load) came.0 came.1 came.2)
    poll_found caller (work.Resize r) (Some a) word shape sound h says hears = work_ends_on t i seen window [] r.along.grace.raised a h

-- a poll of a work that rests, by a seat that has the resize lock, begins
pub poll_begins : (t : Table) (i : ℕ) (seen : List Event) (load : ℕ) (w : Work) → IsResting w → owner_of (now_in t seen).resizing ≡ Some i →
    PollCaused t i seen [] load (resumes w).0 (resumes w).1
poll_begins t i seen load (work.Clean c) rests owner = clean_begins t i seen [] load (owner, refl) c.along c.stage rests
poll_begins t i seen load (work.Resize r) rests owner = resize_begins t i seen [] load r.along r.stage rests
