-- What is seen of a clean follows the events of its steps: the bucket that it has locked, what it counts, its end, and the slots that wait.
use Rattle.std.proofs.Common.{◌≡◌, ◌∙◌, ◌<◌, ◌+◌, ◌/◌, ◌^◌, ◌==◌, ◌&&◌, ℕ, zero, suc, Bool, true, false, cond, Option, Some, None, List, [], ◌∷◌, ◌++◌, length, refl, sym, ap}
use native.Mathlib.Omega.{arith}
use Rattle.std.specs.Prelude.{drop, min, nat_le, nat_lt, slice_index_or}
use Rattle.std.proofs.lemmas.List.{drop_all, map-append}
use Rattle.std.proofs.lemmas.Bool.{eq-eqb}
use Rattle.section_core.specs.Words.{waits_for}
use Rattle.marked_word.specs.Head.{is_locked, first_of}
use Rattle.marked_word.specs.Link.{node_of}
use Rattle.intern_log.specs.declared.event.What.{What}
use Rattle.intern_log.specs.declared.event.What.TheVariants as what
use Rattle.table_shape.specs.declared.shape.Shape.{Shape}
use Rattle.atomic_step.specs.declared.answer.Answer.TheVariants as answer
use Rattle.atomic_step.specs.Event.{event_of}
use Rattle.atomic_step.specs.Monitor.{after_one}
use Rattle.atomic_step.proofs.Choices.{where_it_is, either_way, found_equal}
use Rattle.call_machine.specs.declared.clean.CleanAlong.{CleanAlong}
use Rattle.call_machine.specs.declared.clean.CleanStage.{CleanStage}
use Rattle.call_machine.specs.declared.clean.CleanStage.TheVariants.{LoadLevel, Lock, Pass, UnlockHead, Grace, Free, GiveResizeLock}
use Rattle.call_machine.specs.declared.clean.Freeing.{Freeing}
use Rattle.call_machine.specs.declared.clean.Freeing.TheVariants.{Again, Last}
use Rattle.call_machine.specs.declared.grace.Grace as grace
use Rattle.call_machine.specs.declared.grace.GraceStage.TheVariants.{RaiseCounter, LoadSection}
use Rattle.call_machine.specs.declared.grace.Gracing.{Gracing}
use Rattle.call_machine.specs.declared.lock.LockStage.TheVariants.{LoadHead, LockHead}
use Rattle.call_machine.specs.declared.lock.Locking.TheVariants as locking
use Rattle.call_machine.specs.declared.pass.Cleaning.{Cleaning}
use Rattle.call_machine.specs.declared.pass.FreeStage.{FreeStage}
use Rattle.call_machine.specs.declared.pass.FreeStage.TheVariants.{PutNextGeneration, FreeSlot}
use Rattle.call_machine.specs.declared.pass.PassStage.{PassStage}
use Rattle.call_machine.specs.declared.pass.PassStage.TheVariants.{LoadCount, LoadLink, Unlink}
use Rattle.call_machine.specs.declared.pass.Waiting.{Waiting}
use Rattle.call_machine.specs.Clean.{Went, goes, waits_at, raises, cleans_on, locks_on, ends, next_bucket, graces_on, frees_on, clean_row}
use Rattle.call_machine.specs.Grace.{held_back}
use Rattle.call_machine.specs.Pass.{begins_pass, passes_on, first_behind, after_unlink, all_freed, waiting_at}
use Rattle.call_machine.specs.SoundClean.{IsSoundAt}
use Rattle.call_machine.specs.WholeClean.{IsCleanEvent, locked_at, to_come, slots_of, still_waiting, due_at}
use Rattle.call_machine.specs.WorkMonitor as monitor

-- by two tests that are the same
pub both_ways : {A B : Type 0} (P : A → B → Type 0) (b : Bool) (x y : A) (u v : B) → P x u → P y v → P (cond b x y) (cond b u v)
both_ways P true x y u v p q = p
both_ways P false x y u v p q = q

-- what is seen follows an event, and the one that is due
abbrev pub StepFollows : CleanAlong → CleanStage → Option What → Option What → Went → Type 0
StepFollows w s e due went =
    (after_one monitor.locked (locked_at w.cleaning s) e ≡ Some (locked_at went.0.cleaning went.1))
    × (after_one monitor.counts (w.cleaning.unlinked, w.graces) e ≡ Some (went.0.cleaning.unlinked, went.0.graces))
    × (after_one monitor.ends (what.ResizeGiven ∷ []) e ≡ Some (to_come went.2))
    × (after_one monitor.queue (still_waiting w.cleaning s) due ≡ Some (still_waiting went.0.cleaning went.1))

abbrev Quiet : CleanAlong → CleanStage → Went → Type 0
Quiet w s went = StepFollows w s None None went

-- the bucket stays locked wherever a pass goes on
on_pass : (w v : CleanAlong) (s : CleanStage) (e due : Option What) (next : Option PassStage) → StepFollows w s e due (goes v UnlockHead) → StepFollows w s e due (goes v (cleans_on next))
on_pass w v s e due None so = so
on_pass w v s e due (Some t) so = so

-- the next slot that waits
first_dropped : (n : ℕ) (xs : List Waiting) (d : Waiting) → n < length xs → slots_of (drop n xs) ≡ (slice_index_or xs n d).slot ∷ slots_of (drop (suc n) xs)
first_dropped zero [] d below = absurd (omega (arith, below))
first_dropped zero (x ∷ xs) d below = refl
first_dropped (suc n) [] d below = absurd (omega (arith, below))
first_dropped (suc n) (x ∷ xs) d below = first_dropped n xs d (omega (arith, below))

freed : (slot : ℕ) (slots rest : List ℕ) → slots ≡ slot ∷ rest → monitor.frees slot slots ≡ Some rest
freed slot slots rest is = ap (monitor.frees slot) is ∙ ap (λ b. cond b (Some rest) None) (eq-eqb slot slot refl)

pub frees_first : (c : Cleaning) (at : ℕ) → at < length c.waiting.items → monitor.frees (waiting_at c at).slot (slots_of (drop at c.waiting.items)) ≡ Some (slots_of (drop (at + 1) c.waiting.items))
frees_first c at below =
    let same : suc at ≡ at + 1 = omega arith in
    freed (waiting_at c at).slot _ _ (first_dropped at c.waiting.items (record { slot = 0; generation = 0 }) below) ∙ ap (λ n. Some (slots_of (drop n c.waiting.items))) same

pub none_left : (c : Cleaning) (at : ℕ) → at + 1 ≡ length c.waiting.items → slots_of (drop (at + 1) c.waiting.items) ≡ []
none_left c at last = ap slots_of (drop_all (at + 1) c.waiting.items (omega (arith, last)))

pub slots_more : (items : List Waiting) (x g : ℕ) → slots_of items ++ x ∷ [] ≡ slots_of (items ++ record { slot = x; generation = g } ∷ [])
slots_more items x g = sym (map-append (λ (y : Waiting). y.slot) items (record { slot = x; generation = g } ∷ []))

pub unlocks_own : (row bucket : ℕ) → monitor.unlocks row bucket (Some (row, bucket)) ≡ Some None
unlocks_own row bucket = ap (λ b. cond (b && (bucket == bucket)) (Some None) None) (eq-eqb row row refl) ∙ ap (λ b. cond b (Some None) None) (eq-eqb bucket bucket refl)

-- the end is still to come where a poll is held back
pub held : (raised : ℕ) → to_come (held_back raised) ≡ what.ResizeGiven ∷ []
held raised = either_way (λ a. to_come a ≡ what.ResizeGiven ∷ []) (nat_le (2 ^ 63) raised) (Some (answer.PendingSeat 0)) None refl refl

-- a bucket is unlocked
unlocked : (w : CleanAlong) → let e = Some (what.Unlock w.cleaning.row w.cleaning.bucket) in StepFollows w UnlockHead e e (next_bucket w)
unlocked w =
    let e : Option What = Some (what.Unlock w.cleaning.row w.cleaning.bucket) in
    let own = unlocks_own w.cleaning.row w.cleaning.bucket in
    let P : Went → Type 0 = StepFollows w UnlockHead e e in
    either_way P (length w.cleaning.waiting.items == 256) _ _
    (either_way (λ v. P (raises v Again)) (w.cleaning.pass_waiting == 256) (record w { full_passes = min (w.full_passes + 1) 4294967295 }) w
    (own, refl, sym (ap Some (held w.grace.raised)), refl) (own, refl, sym (ap Some (held w.grace.raised)), refl))
    (either_way P (nat_lt (w.cleaning.bucket + 1) (2 ^ w.cleaning.row)) _ _ (own, refl, refl, refl) (ended own w.cleaning.waiting.items))
  where
    ended : monitor.unlocks w.cleaning.row w.cleaning.bucket (Some (w.cleaning.row, w.cleaning.bucket)) ≡ Some None → (items : List Waiting)
        → let e = Some (what.Unlock w.cleaning.row w.cleaning.bucket) in StepFollows w UnlockHead e e (ends w items)
    ended own [] = (own, refl, refl, refl)
    ended own (x ∷ xs) = (own, refl, sym (ap Some (held w.grace.raised)), refl)

-- a slot is unlinked
unlinked : (w : CleanAlong) (x g : ℕ) (next : Option ℕ) (word : ℕ) (shape : Shape) → let s = Pass (Unlink x g next) in
    StepFollows w s (Some (what.Unlink x)) (due_at shape w s word) ((clean_row shape w s).next word)
unlinked w x g next word shape =
    let s : CleanStage = Pass (Unlink x g next) in
    let c : Cleaning = record w.cleaning { first = first_behind w.cleaning.last w.cleaning.first next; unlinked = min (w.cleaning.unlinked + 1) 18446744073709551615 } in
    let more : Cleaning = record c { waiting = record { items = c.waiting.items ++ record { slot = x; generation = g } ∷ [] }; pass_waiting = c.pass_waiting + 1 } in
    let e : Option What = Some (what.Unlink x) in
    both_ways (λ due d. StepFollows w s e due (goes (record w { cleaning = d }) (cleans_on (after_unlink d next)))) (nat_lt (g + 1) (2 ^ 48)) e None more c
    (on_pass w (record w { cleaning = more }) s e e (after_unlink more next) (refl, refl, refl, ap Some (slots_more w.cleaning.waiting.items x g)))
    (on_pass w (record w { cleaning = c }) s e None (after_unlink c next) (refl, refl, refl, refl))

-- a slot is freed
slot_freed : (w : CleanAlong) (shape : Shape) (freeing : Freeing) (at word : ℕ) → at < length w.cleaning.waiting.items → let s = Free freeing (FreeSlot at) in
    let e = Some (what.Free (waiting_at w.cleaning at).slot) in StepFollows w s e e ((clean_row shape w s).next word)
slot_freed w shape freeing at word below =
    let s : CleanStage = Free freeing (FreeSlot at) in
    let e : Option What = Some (what.Free (waiting_at w.cleaning at).slot) in
    let first = frees_first w.cleaning at below in
    where_it_is (λ (came : Cleaning × Option FreeStage). StepFollows w s e e (frees_on shape (record w { cleaning = came.0 }) freeing came.1)) (at + 1 == length w.cleaning.waiting.items) _ _
    (λ last. over freeing (first ∙ ap Some (none_left w.cleaning at (found_equal (at + 1) (length w.cleaning.waiting.items) last))))
    (λ more. (refl, refl, refl, first))
  where
    over : (f : Freeing) → monitor.frees (waiting_at w.cleaning at).slot (slots_of (drop at w.cleaning.waiting.items)) ≡ Some []
        → let e = Some (what.Free (waiting_at w.cleaning at).slot) in StepFollows w (Free freeing (FreeSlot at)) e e (frees_on shape (record w { cleaning = all_freed w.cleaning }) f None)
    over Last none = (refl, refl, refl, none)
    over Again none =
        let e : Option What = Some (what.Free (waiting_at w.cleaning at).slot) in let v : CleanAlong = record w { cleaning = all_freed w.cleaning } in
        either_way (StepFollows w (Free freeing (FreeSlot at)) e e) (nat_lt (shape.slots / 256) v.full_passes) (waits_at v) (goes v (Lock LoadHead)) (refl, refl, refl, none) (refl, refl, refl, none)

pub follow_step : (shape : Shape) (w : CleanAlong) (s : CleanStage) (word : ℕ) → IsSoundAt w.cleaning s
    → StepFollows w s (event_of [] (clean_row shape w s).step word) (due_at shape w s word) ((clean_row shape w s).next word)
follow_step shape w LoadLevel word at = (refl, refl, refl, refl)
follow_step shape w (Lock LoadHead) word at =
    either_way (λ came. Quiet w (Lock LoadHead) (locks_on w came)) (is_locked word) locking.Waits (locking.Goes (LockHead word)) (refl, refl, refl, refl) (refl, refl, refl, refl)
follow_step shape w (Lock (LockHead head)) word at =
    let e : Option What = Some (what.Lock w.cleaning.row w.cleaning.bucket) in
    both_ways (λ e came. StepFollows w (Lock (LockHead head)) e e (locks_on w came)) (word == head) e None (locking.Locked (first_of word)) locking.Waits
    (on_pass w (record w { cleaning = begins_pass w.cleaning (first_of word) }) (Lock (LockHead head)) e e (passes_on (first_of word)) (refl, refl, refl, refl)) (refl, refl, refl, refl)
follow_step shape w (Pass (LoadCount x)) word at = (refl, refl, refl, refl)
follow_step shape w (Pass (LoadLink x None)) word at = on_pass w (record w { cleaning = record w.cleaning { last = Some x } }) (Pass (LoadLink x None)) None None (passes_on (node_of word)) (refl, refl, refl, refl)
follow_step shape w (Pass (LoadLink x (Some g))) word at = (refl, refl, refl, refl)
follow_step shape w (Pass (Unlink x g next)) word at = unlinked w x g next word shape
follow_step shape w UnlockHead word at = unlocked w
follow_step shape w (Grace freeing RaiseCounter) word at = (refl, refl, refl, refl)
follow_step shape w (Grace freeing LoadSection) word at =
    let P : grace.Grace × Gracing → Type 0 = λ came. Quiet w (Grace freeing LoadSection) (graces_on (record w { grace = came.0 }) freeing came.1) in
    either_way P (waits_for w.grace.raised word) _ _ (refl, refl, refl, refl) (either_way P (w.grace.next + 1 == shape.seats) _ _ (refl, refl, refl, refl) (refl, refl, refl, refl))
follow_step shape w (Free freeing (PutNextGeneration n)) word at = (refl, refl, refl, refl)
follow_step shape w (Free freeing (FreeSlot n)) word at = slot_freed w shape freeing n word at
follow_step shape w GiveResizeLock word at = (refl, refl, refl, refl)

-- the events of a clean
pub events_law : (shape : Shape) (w : CleanAlong) (s : CleanStage) (word : ℕ) → IsCleanEvent (event_of [] (clean_row shape w s).step word)
events_law shape w LoadLevel word = tt
events_law shape w (Lock LoadHead) word = tt
events_law shape w (Lock (LockHead head)) word = either_way IsCleanEvent (word == head) (Some (what.Lock w.cleaning.row w.cleaning.bucket)) None tt tt
events_law shape w (Pass (LoadCount x)) word = tt
events_law shape w (Pass (LoadLink x None)) word = tt
events_law shape w (Pass (LoadLink x (Some g))) word = tt
events_law shape w (Pass (Unlink x g next)) word = tt
events_law shape w UnlockHead word = tt
events_law shape w (Grace freeing RaiseCounter) word = tt
events_law shape w (Grace freeing LoadSection) word = tt
events_law shape w (Free freeing (PutNextGeneration n)) word = tt
events_law shape w (Free freeing (FreeSlot n)) word = tt
events_law shape w GiveResizeLock word = tt
