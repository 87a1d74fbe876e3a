-- What is seen of a clean follows its events over all its polls.
use Rattle.std.proofs.Common.{◌≡◌, ◌∙◌, ◌⊎◌, inl, inr, ◌≤◌, ◌+◌, ◌^◌, ℕ, Option, Some, None, List, [], ◌∷◌, refl, sym, ap, subst}
use Rattle.std.specs.Prelude.{nat_lt}
use Rattle.std.proofs.lemmas.Bool.{ltb-false}
use Rattle.intern_log.specs.declared.event.What.{What}
use Rattle.intern_log.specs.declared.event.What.TheVariants as what
use Rattle.table_shape.specs.declared.shape.Shape.{Shape}
use Rattle.table_shape.specs.Shape.{IsSound}
use Rattle.atomic_step.specs.declared.answer.Answer.{Answer}
use Rattle.atomic_step.specs.declared.answer.Answer.TheVariants as answer
use Rattle.atomic_step.specs.declared.answer.Worked.{Worked}
use Rattle.atomic_step.specs.Event.{event_of}
use Rattle.atomic_step.specs.Monitor.{after_one, after_all}
use Rattle.atomic_step.specs.Run.{Machine, AreFitting, after_words, events_of_words}
use Rattle.atomic_step.specs.SoundStep.{IsLevel, IsSoundStep}
use Rattle.atomic_step.proofs.Choices.{where_it_is}
use Rattle.atomic_step.proofs.Runs.{keeps, follows}
use Rattle.call_machine.specs.declared.clean.CleanAlong.{CleanAlong}
use Rattle.call_machine.specs.declared.clean.CleanStage.{CleanStage}
use Rattle.call_machine.specs.declared.clean.CleanStage.TheVariants.{LoadLevel, Pass, Grace, GiveResizeLock}
use Rattle.call_machine.specs.declared.grace.GraceStage.TheVariants.{RaiseCounter}
use Rattle.call_machine.specs.declared.pass.Cleaning.{Cleaning}
use Rattle.call_machine.specs.declared.pass.PassStage.TheVariants.{LoadCount, LoadLink, Unlink}
use Rattle.call_machine.specs.Clean.{Went, resumed, begins_poll, worked, clean_row}
use Rattle.call_machine.specs.SoundClean.{IsSoundClean, IsSoundAt}
use Rattle.call_machine.specs.WholeClean.{polled_on, FitsClean, cleans, due_cleans, due_at, begun, to_come, slots_of, locked_at, still_waiting, has_locked, counted, end_to_come, waiting_slots, Follows, EndsWith, IsLastGeneration}
use Rattle.call_machine.specs.WorkMonitor as monitor
use Rattle.call_machine.proofs.CleanFollows.{held, follow_step}
use Rattle.call_machine.proofs.SoundClean.{IsTold, held_told, clean_soundly, begins_clean}

-- a clean between its steps
abbrev pub Keeps : Shape → Went → Type 0
Keeps shape c = IsSoundClean shape c.0 c.1 × IsTold c.0 c.1 c.2

resumed_told : (w : CleanAlong) (s : CleanStage) → IsTold (record w { full_passes = 0 }) s (resumed w s)
resumed_told w (Grace freeing RaiseCounter) = held_told (record w { full_passes = 0 }) (Grace freeing RaiseCounter) w.grace.raised
resumed_told w _ = tt

-- the step is that of before
same_step : (shape : Shape) (w : CleanAlong) (s : CleanStage) → (clean_row shape (record w { full_passes = 0 }) s).step ≡ (clean_row shape w s).step
same_step shape w LoadLevel = refl
same_step shape w _ = refl

poll_begins : (shape : Shape) (w : CleanAlong) (s : CleanStage) → IsSoundClean shape w s → Keeps shape (begins_poll w s)
poll_begins shape w s sound = (record { cleaning = sound.cleaning; at = sound.at; step = λ seat. subst (IsSoundStep shape seat) (sym (same_step shape w s)) (sound.step seat) }, resumed_told w s)

polled_soundly : (shape : Shape) (w : CleanAlong) (s : CleanStage) (a : Option Answer) → IsSoundClean shape w s → IsTold w s a → Keeps shape (polled_on w s a)
polled_soundly shape w s None sound told = (sound, told)
polled_soundly shape w s (Some (answer.PendingSeat seat)) sound told = poll_begins shape w s sound
polled_soundly shape w s (Some (answer.PendingBucket row bucket)) sound told = poll_begins shape w s sound
polled_soundly shape w s (Some _) sound told = (sound, told)

pub got_keeps : (shape : Shape) → IsSound shape → (c : Went) (word : ℕ) → Keeps shape c → FitsClean shape c word → Keeps shape ((cleans shape).got c word)
got_keeps shape table c word so fits = go c.0 c.1 c.2 so fits
  where
    go : (w : CleanAlong) (s : CleanStage) (a : Option Answer) → Keeps shape (w, s, a) → FitsClean shape (w, s, a) word → Keeps shape ((cleans shape).got (w, s, a) word)
    go w s None so fits = let next = clean_soundly shape w s word fits.0 table so.0 fits.1 in polled_soundly shape _ _ _ next.0 next.1
    go w s (Some a) so fits = absurd fits.1

-- what is seen of each step is seen of a run
abbrev with_event : Shape → (Went → ℕ → Option What) → Machine Went
with_event shape event = record (cleans shape) { event = event }

follows_run : {F : Type 0} (m : F → What → Option F) (seen : Went → F) (shape : Shape) (event : Went → ℕ → Option What) → IsSound shape → ((w : CleanAlong) (s : CleanStage) (a : Option Answer) → seen (polled_on w s a) ≡ seen (w, s, a))
    → ((w : CleanAlong) (s : CleanStage) (word : ℕ) → IsSoundAt w.cleaning s → after_one m (seen (w, s, None)) (event (w, s, None) word) ≡ Some (seen ((clean_row shape w s).next word)))
    → (c : Went) (words : List ℕ) → Keeps shape c → AreFitting (with_event shape event) c words
    → after_all m (Some (seen c)) (events_of_words (with_event shape event) c words) ≡ Some (seen (after_words (with_event shape event) c words))
follows_run m seen shape event table polls step = follows (with_event shape event) m seen (Keeps shape) (got_keeps shape table) (λ c word so fits. go c.0 c.1 c.2 word so fits)
  where
    go : (w : CleanAlong) (s : CleanStage) (a : Option Answer) (word : ℕ) → Keeps shape (w, s, a) → FitsClean shape (w, s, a) word
        → after_one m (seen (w, s, a)) (event (w, s, a) word) ≡ Some (seen ((cleans shape).got (w, s, a) word))
    go w s None word so fits = let next = (clean_row shape w s).next word in step w s word so.0.at ∙ ap Some (sym (polls next.0 next.1 next.2))
    go w s (Some a) word so fits = absurd fits.1

pub begins : (shape : Shape) (level : ℕ) → IsLevel shape level → Keeps shape (begun level)
begins shape level is = (begins_clean shape level is, tt)

-- a new poll changes nothing of what is seen
pub same_polled : {F : Type 0} (f : Cleaning → ℕ → CleanStage → F) (w : CleanAlong) (s : CleanStage) (a : Option Answer) → f (polled_on w s a).0.cleaning (polled_on w s a).0.graces (polled_on w s a).1 ≡ f w.cleaning w.graces s
same_polled f w s None = refl
same_polled f w s (Some (answer.PendingSeat seat)) = refl
same_polled f w s (Some (answer.PendingBucket row bucket)) = refl
same_polled f w s (Some _) = refl

resumed_to_come : (w : CleanAlong) (s : CleanStage) → to_come (resumed w s) ≡ what.ResizeGiven ∷ []
resumed_to_come w (Grace freeing RaiseCounter) = held w.grace.raised
resumed_to_come w _ = refl

same_to_come : (w : CleanAlong) (s : CleanStage) (a : Option Answer) → to_come (polled_on w s a).2 ≡ to_come a
same_to_come w s None = refl
same_to_come w s (Some (answer.PendingSeat seat)) = resumed_to_come w s
same_to_come w s (Some (answer.PendingBucket row bucket)) = resumed_to_come w s
same_to_come w s (Some _) = refl

pub locks_law : Follows cleans monitor.locked has_locked
locks_law shape level words table is fits =
    follows_run monitor.locked has_locked shape (cleans shape).event table (same_polled (λ c n s. locked_at c s)) (λ w s word at. (follow_step shape w s word at).0) (begun level) words (begins shape level is) fits

pub counts_law : Follows cleans monitor.counts counted
counts_law shape level words table is fits =
    follows_run monitor.counts counted shape (cleans shape).event table (same_polled (λ c n s. (c.unlinked, n))) (λ w s word at. (follow_step shape w s word at).1) (begun level) words (begins shape level is) fits

pub ends_law : Follows cleans monitor.ends end_to_come
ends_law shape level words table is fits =
    follows_run monitor.ends end_to_come shape (cleans shape).event table same_to_come (λ w s word at. (follow_step shape w s word at).2) (begun level) words (begins shape level is) fits

pub queue_law : Follows due_cleans monitor.queue waiting_slots
queue_law shape level words table is fits =
    follows_run monitor.queue waiting_slots shape (due_cleans shape).event table (same_polled (λ c n s. still_waiting c s)) (λ w s word at. (follow_step shape w s word at).3) (begun level) words (begins shape level is) fits

-- at the end
pub ended : (shape : Shape) (level : ℕ) (words : List ℕ) (did : Worked) → IsSound shape → IsLevel shape level → AreFitting (cleans shape) (begun level) words → let c = after_words (cleans shape) (begun level) words in
    c.2 ≡ Some (answer.Done did) → IsSoundClean shape c.0 c.1 × (c.1 ≡ GiveResizeLock) × (did ≡ worked c.0)
ended shape level words did table is fits done =
    let end = keeps (cleans shape) (Keeps shape) (got_keeps shape table) (begun level) words (begins shape level is) fits in
    let c = after_words (cleans shape) (begun level) words in
    let told = subst (IsTold c.0 c.1) done end.1 in
    (end.0, told.0, told.1)

pub told_law : (shape : Shape) (level : ℕ) (words : List ℕ) (did : Worked) → IsSound shape → IsLevel shape level → AreFitting (cleans shape) (begun level) words →
    (after_words (cleans shape) (begun level) words).2 ≡ Some (answer.Done did) → did ≡ worked (after_words (cleans shape) (begun level) words).0
told_law shape level words did table is fits done = (ended shape level words did table is fits done).2

pub locks_end : EndsWith cleans monitor.locked None (λ did. None)
locks_end shape level words did table is fits done =
    let c = after_words (cleans shape) (begun level) words in
    locks_law shape level words table is fits ∙ ap (λ s. Some (locked_at c.0.cleaning s)) (ended shape level words did table is fits done).1

pub counts_end : EndsWith cleans monitor.counts (0, 0) (λ did. (did.unlinked, did.graces))
counts_end shape level words did table is fits done = counts_law shape level words table is fits ∙ ap (λ (d : Worked). Some (d.unlinked, d.graces)) (sym (ended shape level words did table is fits done).2)

pub ends_end : EndsWith cleans monitor.ends (what.ResizeGiven ∷ []) (λ did. [])
ends_end shape level words did table is fits done = ends_law shape level words table is fits ∙ ap (λ a. Some (to_come a)) done

-- the run is the same by other events
as_cleans : (shape : Shape) (event : Went → ℕ → Option What) (c : Went) (words : List ℕ) → AreFitting (with_event shape event) c words
    → AreFitting (cleans shape) c words × (after_words (with_event shape event) c words ≡ after_words (cleans shape) c words)
as_cleans shape event c [] fits = (tt, refl)
as_cleans shape event c (word ∷ words) fits = let more = as_cleans shape event ((cleans shape).got c word) words fits.1 in ((fits.0, more.0), more.1)

pub queue_end : EndsWith due_cleans monitor.queue [] (λ did. [])
queue_end shape level words did table is fits done =
    let c = after_words (cleans shape) (begun level) words in
    let run = as_cleans shape (due_cleans shape).event (begun level) words fits in
    let end = ended shape level words did table is run.0 (ap (λ (c : Went). c.2) (sym run.1) ∙ done) in
    queue_law shape level words table is fits ∙ ap (λ c. Some (waiting_slots c)) run.1 ∙ ap (λ s. Some (still_waiting c.0.cleaning s)) end.1 ∙ ap (λ items. Some (slots_of items)) (subst (IsSoundAt c.0.cleaning) end.1 end.0.at)

-- which events are due
pub due_law : (shape : Shape) (w : CleanAlong) (s : CleanStage) (word : ℕ) → (due_at shape w s word ≡ event_of [] (clean_row shape w s).step word) ⊎ IsLastGeneration s
due_law shape w (Pass (LoadCount x)) word = inl refl
due_law shape w (Pass (LoadLink x None)) word = inl refl
due_law shape w (Pass (LoadLink x (Some g))) word = inl refl
due_law shape w (Pass (Unlink x g next)) word =
    where_it_is (λ o. (o ≡ Some (what.Unlink x)) ⊎ (2 ^ 48 ≤ g + 1)) (nat_lt (g + 1) (2 ^ 48)) (Some (what.Unlink x)) None (λ rises. inl refl) (λ last. inr (ltb-false (g + 1) (2 ^ 48) last))
due_law shape w _ word = inl refl
