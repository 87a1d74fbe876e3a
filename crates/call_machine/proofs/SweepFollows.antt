-- What is seen of a sweep follows the events of its steps: whether it is inside its section, the bucket that it has locked, how many
-- slots it has unlinked, and which still wait.
use Rattle.std.proofs.Common.{◌≡◌, ◌∙◌, ◌<◌, ◌+◌, ◌^◌, ◌==◌, ℕ, true, Option, Some, None, List, [], ◌∷◌, ◌++◌, length, refl, ap}
use Rattle.std.specs.Prelude.{map, min, nat_le, nat_lt}
use Rattle.section_core.specs.Words.{waits_for}
use Rattle.marked_word.specs.Head.{is_locked, is_redirected, first_of}
use Rattle.marked_word.specs.Link.{node_of}
use Rattle.intern_log.specs.declared.event.What.{What}
use Rattle.intern_log.specs.declared.event.What.TheVariants as what
use Rattle.atomic_step.specs.declared.answer.Answer.TheVariants as answer
use Rattle.atomic_step.specs.Monitor.{after_one, section}
use Rattle.atomic_step.specs.SoundStep.{CanFollow}
use Rattle.atomic_step.specs.Turn.{event_by}
use Rattle.atomic_step.proofs.Choices.{where_it_is, either_way, found_equal}
use Rattle.call_machine.specs.declared.enter.EnterStage.TheVariants.{LoadCounter, OpenSection}
use Rattle.call_machine.specs.declared.find.FindStage.{FindStage}
use Rattle.call_machine.specs.declared.find.FindStage.TheVariants.{Enter, LoadLevel, LoadHead, LoadNewLevel, LoadNewHead}
use Rattle.call_machine.specs.declared.grace.Grace as grace
use Rattle.call_machine.specs.declared.grace.GraceStage.TheVariants.{RaiseCounter, LoadSection}
use Rattle.call_machine.specs.declared.grace.Gracing.{Gracing}
use Rattle.call_machine.specs.declared.lock.Locking.TheVariants as locking
use Rattle.call_machine.specs.declared.pass.Cleaning.{Cleaning}
use Rattle.call_machine.specs.declared.pass.FreeStage.{FreeStage}
use Rattle.call_machine.specs.declared.pass.FreeStage.TheVariants.{PutNextGeneration, FreeSlot}
use Rattle.call_machine.specs.declared.pass.PassStage.{PassStage}
use Rattle.call_machine.specs.declared.pass.PassStage.TheVariants.{LoadCount, LoadLink, Unlink}
use Rattle.call_machine.specs.declared.pass.Waiting.{Waiting}
use Rattle.call_machine.specs.declared.sweep.Closing.TheVariants as closing
use Rattle.call_machine.specs.declared.sweep.SweepAlong.{SweepAlong}
use Rattle.call_machine.specs.declared.sweep.SweepAsked.{SweepAsked}
use Rattle.call_machine.specs.declared.sweep.SweepStage.{SweepStage}
use Rattle.call_machine.specs.declared.sweep.Sweeping.{Sweeping}
use Rattle.call_machine.specs.declared.sweep.SweepStage.TheVariants.{Check, Find, Lock, Close, Pass, UnlockHead, Grace, Free, Answered}
use Rattle.call_machine.specs.Pass.{passes_on, first_behind, after_unlink, waiting_at}
use Rattle.call_machine.specs.SoundSweep.{IsSoundAt}
use Rattle.call_machine.specs.Sweep.{finds_anew, finds_on, locks_on, cleans_on, unlocked, graces_on, frees_on, plan_at, next_at, sweep_event}
use Rattle.call_machine.specs.WholeSweep.{IsSweepEvent, is_inside_at, locked_at, unlinked_at, still_waiting, due_at}
use Rattle.call_machine.specs.WorkMonitor as monitor
use Rattle.call_machine.proofs.CleanFollows.{both_ways, slots_more, frees_first, none_left, unlocks_own}

-- what is seen follows an event, and the one that is due
abbrev pub StepFollows : SweepAlong → SweepStage → Option What → Option What → SweepAlong × SweepStage → Type 0
StepFollows w s e due went =
    (after_one section (is_inside_at s) e ≡ Some (is_inside_at went.1))
    × (after_one monitor.locked (locked_at w.cleaning s) e ≡ Some (locked_at went.0.cleaning went.1))
    × (after_one monitor.unlinks (unlinked_at w.cleaning s) e ≡ Some (unlinked_at went.0.cleaning went.1))
    × (after_one monitor.queue (still_waiting w.cleaning s) due ≡ Some (still_waiting went.0.cleaning went.1))

abbrev Quiet : SweepAlong → SweepStage → SweepAlong × SweepStage → Type 0
Quiet w s went = StepFollows w s None None went

-- the bucket stays locked wherever a pass goes on
on_pass : (w v : SweepAlong) (s : SweepStage) (e due : Option What) (next : Option PassStage) → StepFollows w s e due (v, UnlockHead) → StepFollows w s e due (v, cleans_on next)
on_pass w v s e due None so = so
on_pass w v s e due (Some t) so = so

head_found : (w v : SweepAlong) (s : FindStage) (head : ℕ) → is_inside_at (Find s) ≡ true → Quiet w (Find s) (v, finds_on head None)
head_found w v s head inside = either_way (λ t. Quiet w (Find s) (v, t)) (is_locked head) (Close closing.Again) Lock (ap Some inside, refl, refl, refl) (ap Some inside, refl, refl, refl)

unlinked : (q : SweepAsked) (w : SweepAlong) (x g : ℕ) (next : Option ℕ) (word : ℕ) → let s = Pass (Unlink x g next) in
    StepFollows w s (Some (what.Unlink x)) (due_at s (Some (what.Unlink x))) (next_at q w s word)
unlinked q w x g next word =
    let s : SweepStage = Pass (Unlink x g next) in
    let c : Cleaning = record w.cleaning { first = first_behind w.cleaning.last w.cleaning.first next; unlinked = min (w.cleaning.unlinked + 1) 18446744073709551615 } in
    let more : Cleaning = record c { waiting = record { items = c.waiting.items ++ record { slot = x; generation = g } ∷ [] }; pass_waiting = c.pass_waiting + 1 } in
    let e : Option What = Some (what.Unlink x) in
    both_ways (λ due d. StepFollows w s e due (record w { cleaning = d }, cleans_on (after_unlink d next))) (nat_lt (g + 1) (2 ^ 48)) e None more c
    (on_pass w (record w { cleaning = more }) s e e (after_unlink more next) (refl, refl, refl, ap Some (slots_more w.cleaning.waiting.items x g)))
    (on_pass w (record w { cleaning = c }) s e None (after_unlink c next) (refl, refl, refl, refl))

unlocks : (w : SweepAlong) (items : List Waiting) → w.cleaning.waiting.items ≡ items → let e = Some (what.Unlock w.cleaning.row w.cleaning.bucket) in StepFollows w UnlockHead e e (w, unlocked w.cleaning items)
unlocks w [] none = (refl, unlocks_own w.cleaning.row w.cleaning.bucket, refl, ap (λ items. Some (map (λ (x : Waiting). x.slot) items)) none)
unlocks w (x ∷ xs) some = (refl, unlocks_own w.cleaning.row w.cleaning.bucket, refl, refl)

slot_freed : (q : SweepAsked) (w : SweepAlong) (at word : ℕ) → at < length w.cleaning.waiting.items → let s = Free (FreeSlot at) in
    let e = Some (what.Free (waiting_at w.cleaning at).slot) in StepFollows w s e e (next_at q w s word)
slot_freed q w at word below =
    let s : SweepStage = Free (FreeSlot at) in
    let e : Option What = Some (what.Free (waiting_at w.cleaning at).slot) in
    let first = frees_first w.cleaning at below in
    where_it_is (λ (came : Cleaning × Option FreeStage). StepFollows w s e e (record w { cleaning = came.0 }, frees_on came.0 came.1)) (at + 1 == length w.cleaning.waiting.items) _ _
    (λ last. (refl, refl, refl, first ∙ ap Some (none_left w.cleaning at (found_equal (at + 1) (length w.cleaning.waiting.items) last))))
    (λ more. (refl, refl, refl, first))

pub follow_step : (q : SweepAsked) (w : SweepAlong) (s : SweepStage) (word : ℕ) → IsSoundAt w.cleaning s → CanFollow q.caller.shape (plan_at q w s) word
    → StepFollows w s (event_by [] (plan_at q w s) word) (due_at s (event_by [] (plan_at q w s) word)) (next_at q w s word)
follow_step q w (Answered a) word at fits = absurd fits
follow_step q w Check word at fits = either_way (λ s. Quiet w Check (w, s)) (nat_le (2 ^ 48) word) (Answered (answer.Spent word)) finds_anew (refl, refl, refl, refl) (refl, refl, refl, refl)
follow_step q w (Find (Enter LoadCounter)) word at fits = (refl, refl, refl, refl)
follow_step q w (Find (Enter (OpenSection counter))) word at fits = (refl, refl, refl, refl)
follow_step q w (Find LoadLevel) word at fits = (refl, refl, refl, refl)
follow_step q w (Find LoadHead) word at fits =
    let v : SweepAlong = record w { walk = record w.walk { head = word } } in
    either_way (λ next. Quiet w (Find LoadHead) (v, finds_on word next)) (is_redirected word) (Some LoadNewLevel) None (refl, refl, refl, refl) (head_found w v LoadHead word refl)
follow_step q w (Find LoadNewLevel) word at fits = (refl, refl, refl, refl)
follow_step q w (Find LoadNewHead) word at fits = head_found w (record w { walk = record w.walk { head = word } }) LoadNewHead word refl
follow_step q w Lock word at fits =
    both_ways (λ e came. StepFollows w Lock e e (locks_on w came)) (word == w.walk.head) (Some (what.Lock w.walk.row w.walk.bucket)) None (locking.Locked (first_of word)) locking.Waits (refl, refl, refl, refl) (refl, refl, refl, refl)
follow_step q w (Close closing.Again) word at fits = (refl, refl, refl, refl)
follow_step q w (Close closing.Clean) word at fits = on_pass w w (Close closing.Clean) (Some what.Close) (Some what.Close) (passes_on w.cleaning.first) (refl, refl, refl, refl)
follow_step q w (Pass (LoadCount x)) word at fits = (refl, refl, refl, refl)
follow_step q w (Pass (LoadLink x None)) word at fits = on_pass w (record w { cleaning = record w.cleaning { last = Some x } }) (Pass (LoadLink x None)) None None (passes_on (node_of word)) (refl, refl, refl, refl)
follow_step q w (Pass (LoadLink x (Some g))) word at fits = (refl, refl, refl, refl)
follow_step q w (Pass (Unlink x g next)) word at fits = unlinked q w x g next word
follow_step q w UnlockHead word at fits = unlocks w w.cleaning.waiting.items refl
follow_step q w (Grace RaiseCounter) word at fits = (refl, refl, refl, refl)
follow_step q w (Grace LoadSection) word at fits =
    let P : grace.Grace × Gracing → Type 0 = λ came. Quiet w (Grace LoadSection) (record w { grace = came.0 }, graces_on came.1) in
    either_way P (waits_for w.grace.raised word) _ _ (refl, refl, refl, refl) (either_way P (w.grace.next + 1 == q.caller.shape.seats) _ _ (refl, refl, refl, refl) (refl, refl, refl, refl))
follow_step q w (Free (PutNextGeneration n)) word at fits = (refl, refl, refl, refl)
follow_step q w (Free (FreeSlot n)) word at fits = slot_freed q w n word at

-- the events of a sweep
events_at : (q : SweepAsked) (w : SweepAlong) (s : SweepStage) (word : ℕ) → IsSweepEvent (event_by [] (plan_at q w s) word)
events_at q w (Answered a) word = tt
events_at q w Check word = tt
events_at q w (Find (Enter LoadCounter)) word = tt
events_at q w (Find (Enter (OpenSection counter))) word = tt
events_at q w (Find LoadLevel) word = tt
events_at q w (Find LoadHead) word = tt
events_at q w (Find LoadNewLevel) word = tt
events_at q w (Find LoadNewHead) word = tt
events_at q w Lock word = either_way IsSweepEvent (word == w.walk.head) (Some (what.Lock w.walk.row w.walk.bucket)) None tt tt
events_at q w (Close why) word = tt
events_at q w (Pass (LoadCount x)) word = tt
events_at q w (Pass (LoadLink x None)) word = tt
events_at q w (Pass (LoadLink x (Some g))) word = tt
events_at q w (Pass (Unlink x g next)) word = tt
events_at q w UnlockHead word = tt
events_at q w (Grace RaiseCounter) word = tt
events_at q w (Grace LoadSection) word = tt
events_at q w (Free (PutNextGeneration n)) word = tt
events_at q w (Free (FreeSlot n)) word = tt

pub events_law : (s : Sweeping) (word : ℕ) → IsSweepEvent (sweep_event s word)
events_law s word = events_at s.asked s.along s.stage word
