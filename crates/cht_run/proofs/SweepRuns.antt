-- A sweep that has answered, by the words that it found.
use Rattle.std.proofs.Common.{◌≡◌, ℕ, ◌^◌, ◌<◌, Bool, true, false, List, [], ◌∷◌, ◌++◌, Option, Some, None, refl, sym, ap, subst, ◌∙◌, arith}
use Rattle.std.specs.Option.{option_to_list}
use Rattle.std.specs.Prelude.{nat_le, if◌then◌else◌}
use Rattle.std.proofs.lemmas.Bool.Decides.{nat_tests}
use Rattle.text_words.specs.Hash.{hash_of}
use Rattle.intern_log.specs.declared.event.Event.{Event}
use Rattle.atomic_step.specs.declared.answer.Answer.{Answer}
use Rattle.atomic_step.specs.declared.answer.Answer.TheVariants as answer
use Rattle.atomic_step.specs.declared.plan.Plan.TheVariants as plan
use Rattle.atomic_step.specs.Run.{AreFitting, after_words, events_of_words}
use Rattle.std.specs.Borrow.{Bor}
use Rattle.atomic_step.proofs.Choices.{either_way}
use Rattle.atomic_step.specs.SoundStep.{CanFollow}
use Rattle.marked_word.specs.Head.{is_locked, is_redirected}
use Rattle.call_machine.specs.declared.enter.EnterStage.TheVariants.{LoadCounter, OpenSection}
use Rattle.call_machine.specs.declared.find.FindStage.TheVariants.{Enter, LoadLevel, LoadHead, LoadNewLevel, LoadNewHead}
use Rattle.call_machine.specs.declared.grace.Gracing.{Gracing}
use Rattle.call_machine.specs.declared.grace.Gracing.TheVariants as gracing
use Rattle.call_machine.specs.declared.lock.Locking.{Locking}
use Rattle.call_machine.specs.declared.lock.Locking.TheVariants as locking
use Rattle.call_machine.specs.declared.lock.LockStage.TheVariants.{LockHead}
use Rattle.call_machine.specs.declared.pass.Cleaning.{Cleaning}
use Rattle.call_machine.specs.declared.pass.FreeStage.{FreeStage}
use Rattle.call_machine.specs.declared.pass.PassStage.{PassStage}
use Rattle.call_machine.specs.declared.pass.Waiting.{Waiting}
use Rattle.call_machine.specs.declared.sweep.Closing.TheVariants as closing
use Rattle.call_machine.specs.declared.sweep.SweepAlong.{SweepAlong}
use Rattle.call_machine.specs.declared.sweep.SweepStage.{SweepStage}
use Rattle.call_machine.specs.declared.sweep.SweepStage.TheVariants.{Check, Find, Lock, Close, Pass, UnlockHead, Grace, Free, Answered}
use Rattle.call_machine.specs.Grace.{grace_row}
use Rattle.call_machine.specs.Lock.{lock_row}
use Rattle.call_machine.specs.Pass.{passes_on, pass_row, free_row}
use Rattle.call_machine.specs.declared.call.Call.TheVariants as call
use Rattle.call_machine.specs.declared.machine.Machine.{Machine}
use Rattle.call_machine.specs.declared.machine.Machine.TheVariants as machine
use Rattle.call_machine.specs.declared.machine.Own.{Own}
use Rattle.call_machine.specs.declared.sweep.Sweeping.{Sweeping}
use Rattle.call_machine.specs.declared.sweep.SweepAsked.{SweepAsked}
use Rattle.call_machine.specs.Caller.{IsSoundCaller}
use Rattle.call_machine.specs.Machine.{plan_of, got_of, event_of, own_of}
use Rattle.call_machine.specs.SoundMachine.{IsSoundMachine}
use Rattle.call_machine.specs.Sweep.{begun_sweep, finds_anew, finds_on, locks_on, cleans_on, unlocked, graces_on, frees_on, plan_at, next_at, goes_to, sweep_plan, sweep_got}
use Rattle.call_machine.specs.WholeMachine.{machines}
use Rattle.call_machine.specs.WholeSweep.{sweeps}
use Rattle.call_machine.proofs.Machines.{got_is, event_is, plan_is, fits_part}
use Rattle.call_machine.proofs.WholeSweep.{sections_end, locks_end, unlinks_end}
use Rattle.cht_core.specs.declared.table.Table.{Table}
use Rattle.cht_core.specs.Causes.{IsSpent}
use Rattle.cht_core.specs.Passes.{HasSwept, IsAtHash}
use Rattle.cht_core.specs.Stage.{bucket_in}
use Rattle.cht_core.specs.Windows.{Somewhere, whats_by}
use Rattle.cht_run.specs.declared.seat.Seat.{Seat}
use Rattle.cht_run.specs.declared.sight.Origin.{Origin}
use Rattle.cht_run.specs.declared.sweeps.Swept.{Swept}
use Rattle.cht_run.specs.declared.sweeps.Swept.TheVariants as swept
use Rattle.cht_run.specs.declared.table.Cht.{Cht}
use Rattle.cht_run.specs.Begins.{first_of, caller_in}
use Rattle.cht_run.specs.Ended.{Only}
use Rattle.cht_run.specs.Ends.{HasNothing}
use Rattle.cht_run.specs.Graces.{counter_in, IsUnspent}
use Rattle.cht_run.specs.History.{log_of}
use Rattle.cht_run.specs.Runs.{Finds, Ran}
use Rattle.cht_run.specs.Seats.{sight, seen, IsOf}
use Rattle.cht_run.specs.SweepSteps.{asks, sweeps_at, ended}
use Rattle.cht_run.specs.Sweeps.{HasSweptAll, Sweeps}
use Rattle.cht_run.specs.Told.{SweepFound, WorkFound}
use Rattle.cht_run.specs.Unlinks.{HasFreed, HasNoLock, UnlinksOn}
use Rattle.cht_run.proofs.Ended.{went_ended}
use Rattle.cht_run.proofs.GraceCalls.{own_left}
use Rattle.cht_run.proofs.SweepGraces.{one_grace}
use Rattle.cht_run.proofs.SweepUnlinks.{had_locked, its_bucket, lock_law, unlinks_on}
use Rattle.cht_run.proofs.WorkRuns.{finds_own}

-- a sweep runs as a machine as it does by itself
record SweepRan (s : Sweeping) (words : List ℕ) : Type 0 where
  leads : after_words machines (machine.Sweep s) words ≡ machine.Sweep (after_words sweeps s words)
  fitting : AreFitting sweeps s words
  made : events_of_words sweeps s words ≡ events_of_words machines (machine.Sweep s) words

sweep_ran : (s : Sweeping) (words : List ℕ) → AreFitting machines (machine.Sweep s) words → SweepRan s words
sweep_ran s [] fitting = record { leads = refl; fitting = tt; made = refl }
sweep_ran s (word ∷ words) fitting =
    let s' = sweep_got s word in
    let got : got_of (machine.Sweep s) word ≡ machine.Sweep s' = got_is (machine.Sweep s) word in
    let ran = sweep_ran s' words (subst (λ m. AreFitting machines m words) got fitting.1) in
    record {
      leads = ap (λ m. after_words machines m words) got ∙ ran.leads;
      fitting = ((fitting.0.0, fits_part (machine.Sweep s) word fitting.0.1), ran.fitting);
      made = ap (λ e. option_to_list e ++ events_of_words sweeps s' words) (sym (event_is (machine.Sweep s) word))
          ∙ ap (λ l. option_to_list (event_of (machine.Sweep s) word) ++ l) (ran.made ∙ ap (λ m. events_of_words machines m words) (sym got));
    }

-- who asks for it stays
asked_still : (s : Sweeping) (words : List ℕ) → (after_words sweeps s words).asked ≡ s.asked
asked_still s [] = refl
asked_still s (word ∷ words) = asked_still (sweep_got s word) words

-- PAST THE CHECK OF THE COUNTER

-- a sweep that goes on behind its check answers with what it unlinked
abbrev IsPast : SweepStage → Type 0
IsPast Check = ⊥
IsPast (Answered (answer.Swept unlinked)) = Unit {0}
IsPast (Answered a) = ⊥
IsPast _ = Unit {0}

on_pass : (next : Option PassStage) → IsPast (cleans_on next)
on_pass None = tt
on_pass (Some s) = tt

found : (head : ℕ) → IsPast (finds_on head None)
found head = either_way IsPast (is_locked head) (Close closing.Again) Lock tt tt

ends : (c : Cleaning) (items : List Waiting) → IsPast (unlocked c items)
ends c [] = tt
ends c (x ∷ xs) = tt

frees : (c : Cleaning) (next : Option FreeStage) → IsPast (frees_on c next)
frees c None = tt
frees c (Some s) = tt

locks : (w : SweepAlong) (came : Locking) → IsPast (locks_on w came).1
locks w (locking.Locked first) = tt
locks w _ = tt

scans : (gracing : Gracing) → IsPast (graces_on gracing)
scans gracing.Over = tt
scans _ = tt

past_step : (q : SweepAsked) (w : SweepAlong) (s : SweepStage) (word : ℕ) → IsPast s → CanFollow q.caller.shape (plan_at q w s) word → IsPast (next_at q w s word).1
past_step q w (Answered a) word past fits = absurd fits
past_step q w Check word past fits = absurd past
past_step q w (Find (Enter LoadCounter)) word past fits = tt
past_step q w (Find (Enter (OpenSection counter))) word past fits = tt
past_step q w (Find LoadLevel) word past fits = tt
past_step q w (Find LoadHead) word past fits = either_way (λ next. IsPast (finds_on word next)) (is_redirected word) (Some LoadNewLevel) None tt (found word)
past_step q w (Find LoadNewLevel) word past fits = tt
past_step q w (Find LoadNewHead) word past fits = found word
past_step q w Lock word past fits = locks w ((lock_row w.walk.row w.walk.bucket (LockHead w.walk.head)).next word)
past_step q w (Close closing.Again) word past fits = tt
past_step q w (Close closing.Clean) word past fits = on_pass (passes_on w.cleaning.first)
past_step q w (Pass s) word past fits = on_pass ((pass_row w.cleaning s).next word).1
past_step q w UnlockHead word past fits = ends w.cleaning w.cleaning.waiting.items
past_step q w (Grace s) word past fits = scans ((grace_row q.caller.shape.seats w.grace s).next word).1
past_step q w (Free s) word past fits = frees ((free_row w.cleaning s).next word).0 ((free_row w.cleaning s).next word).1

past_still : (s : Sweeping) (words : List ℕ) → IsPast s.stage → AreFitting sweeps s words → IsPast (after_words sweeps s words).stage
past_still s [] past fitting = past
past_still s (word ∷ words) past fitting = past_still (sweep_got s word) words (past_step s.asked s.along s.stage word past fitting.0.1) fitting.1

answered_so : (q : SweepAsked) (w : SweepAlong) (s : SweepStage) (a : Answer) → plan_at q w s ≡ plan.Answered a → s ≡ Answered a
answered_so q w (Answered b) a is = let same : b ≡ a = cc in ap Answered same
answered_so q w Check a is = absurd (cc)
answered_so q w (Find s) a is = absurd (cc)
answered_so q w Lock a is = absurd (cc)
answered_so q w (Close why) a is = absurd (cc)
answered_so q w (Pass s) a is = absurd (cc)
answered_so q w UnlockHead a is = absurd (cc)
answered_so q w (Grace s) a is = absurd (cc)
answered_so q w (Free s) a is = absurd (cc)

-- THE CHECK

-- the stage behind it
abbrev checked_at : Sweeping → ℕ → Bool → Sweeping
checked_at s word b = goes_to s.asked (s.along, if b then Answered (answer.Spent word) else finds_anew)

-- a sweep that began tells either that the counter is too great, and has made that one step; or what it unlinked, and the counter was small
abbrev IsSo : ℕ → List ℕ → Answer → Type 0
IsSo word words (answer.Spent counter) = (words ≡ []) × (counter ≡ word)
IsSo word words (answer.Swept unlinked) = word < 2 ^ 48
IsSo word words _ = ⊥

no_more : (s : Sweeping) (word : ℕ) (words : List ℕ) (a : Answer) → AreFitting sweeps (checked_at s word true) words → sweep_plan (after_words sweeps (checked_at s word true) words) ≡ plan.Answered a → IsSo word words a
no_more s word [] a fitting is = subst (IsSo word []) (let same : answer.Spent word ≡ a = cc in same) (refl, refl)
no_more s word (next ∷ words) a fitting is = absurd fitting.0.1

goes_past : (word : ℕ) (words : List ℕ) (t : SweepStage) (a : Answer) → t ≡ Answered a → IsPast t → word < 2 ^ 48 → IsSo word words a
goes_past word words t a is past low = go a (subst IsPast is past)
  where
    go : (a : Answer) → IsPast (Answered a) → IsSo word words a
    go (answer.Swept unlinked) past = low
    go _ past = absurd past

checked_so : (s : Sweeping) (word : ℕ) (words : List ℕ) (a : Answer) → s.stage ≡ Check → AreFitting sweeps s (word ∷ words) → sweep_plan (after_words sweeps s (word ∷ words)) ≡ plan.Answered a → IsSo word words a
checked_so s word words a at fitting is = go (nat_le (2 ^ 48) word) refl (subst (λ (t : Sweeping). AreFitting sweeps t words) next fitting.1) (ap (λ (t : Sweeping). sweep_plan (after_words sweeps t words)) (sym next) ∙ is)
  where
    next : sweep_got s word ≡ checked_at s word (nat_le (2 ^ 48) word)
    next = ap (λ t. goes_to s.asked (next_at s.asked s.along t word)) at

    go : (b : Bool) → nat_le (2 ^ 48) word ≡ b → AreFitting sweeps (checked_at s word b) words → sweep_plan (after_words sweeps (checked_at s word b) words) ≡ plan.Answered a → IsSo word words a
    go true high fitting is = no_more s word words a fitting is
    go false low fitting is =
        let end = after_words sweeps (checked_at s word false) words in
        goes_past word words end.stage a (answered_so end.asked end.along end.stage a is) (past_still (checked_at s word false) words tt fitting) (grind (arith, nat_tests))

-- A SWEEP OF A SEAT

module _ (cht : Cht) (old new : Seat) (m : Machine) (text : Bor (List ℕ)) (of : IsOf cht old) (ran : Ran (sight old) (call.Sweep text) (sight new) m) where
  abbrev t : Table
  t = cht.origin.table

  abbrev window : List Event
  window = log_of ran.went.window

  abbrev s : Sweeping
  s = begun_sweep (caller_in (sight old)) (hash_of (sight old).origin.seed text.now)

  came : SweepRan s ran.words
  came = sweep_ran s ran.words ran.fitting

  last : Sweeping
  last = after_words sweeps s ran.words

  machine_is : m ≡ machine.Sweep (after_words sweeps s ran.words)
  machine_is = sym ran.leads ∙ came.leads

  sound : IsSoundCaller (caller_in (sight old))
  sound = subst (λ (q : SweepAsked). IsSoundCaller q.caller) (asked_still s ran.words) (sound_in (subst IsSoundMachine machine_is ran.went.sound.sound))
    where
      sound_in : IsSoundMachine (machine.Sweep (after_words sweeps s ran.words)) → IsSoundCaller (after_words sweeps s ran.words).asked.caller
      sound_in is = is.caller

  planned : (a : Answer) → plan_of m ≡ plan.Answered a → sweep_plan (after_words sweeps s ran.words) ≡ plan.Answered a
  planned a answered = sym (plan_is (machine.Sweep (after_words sweeps s ran.words))) ∙ ap plan_of (sym machine_is) ∙ answered

  did_is : whats_by old.number window ≡ events_of_words sweeps s ran.words
  did_is = ap (λ i. whats_by i window) old.named ∙ finds_own (sight old).origin.table (sight old).number (first_of (sight old) (call.Sweep text)) ran.words (seen old) window ran.finds ∙ sym came.made

  nothing : HasNothing new
  nothing =
      let left = own_left cht old new (call.Sweep text) m of ran ∙ ap own_of machine_is in
      record { work = ap (λ (o : Own). o.work) left; grace = ap (λ (o : Own). o.grace) left }

  -- its first word
  so : (a : Answer) (words : List ℕ) → ran.words ≡ words → sweep_plan (after_words sweeps s words) ≡ plan.Answered a → AreFitting sweeps s words → Finds (sight old).origin.table (sight old).number (machine.Sweep s) words (seen old) window →
      (word : ℕ) × (rest : List ℕ) × (words ≡ word ∷ rest) × IsSo word rest a × Somewhere (λ log. word ≡ counter_in (sight old).origin.table log) (seen old) window
  so a [] is answered fitting finds = absurd (cc)
  so a (word ∷ words) is answered fitting (between, later, at, none, says, finds) = (word, words, refl, checked_so s word words a refl fitting answered, (between, _, at, says.1))

  begun : (a : Answer) → plan_of m ≡ plan.Answered a → (word : ℕ) × (rest : List ℕ) × (ran.words ≡ word ∷ rest) × IsSo word rest a × Somewhere (λ log. word ≡ counter_in t log) (seen old) window
  begun a answered =
      let (word, rest, is, so_far, was) = so a ran.words refl (planned a answered) came.fitting ran.finds in
      (word, rest, is, so_far, subst (λ (o : Origin). Somewhere (λ log. word ≡ counter_in o.table log) (seen old) window) of.origin was)

  -- where it answers that it has swept its bucket
  module _ (unlinked : ℕ) (answered : plan_of m ≡ plan.Answered (answer.Swept unlinked)) where
    abbrev end : Sweeping
    end = after_words sweeps s ran.words

    end_is : end.stage ≡ Answered (answer.Swept unlinked)
    end_is = answered_so end.asked end.along end.stage (answer.Swept unlinked) (planned (answer.Swept unlinked) answered)

    -- what it has found out
    found_out : SweepFound (sight old).origin.table (seen new) (sight old).number (hash_of (sight old).origin.seed text.now) end.along.cleaning (Answered (answer.Swept unlinked))
    found_out =
        let found : SweepFound (sight old).origin.table (seen new) (sight old).number end.asked.hash end.along.cleaning end.stage = subst (WorkFound (sight old).origin.table (seen new) (sight old).number) machine_is ran.went.found_out in
        let told = subst (λ (x : SweepStage). SweepFound (sight old).origin.table (seen new) (sight old).number end.asked.hash end.along.cleaning x) end_is found in
        subst (λ (q : SweepAsked). SweepFound (sight old).origin.table (seen new) (sight old).number q.hash end.along.cleaning (Answered (answer.Swept unlinked))) (asked_still s ran.words) told

    swept_all : HasSweptAll cht.origin text.now new unlinked
    swept_all = subst (λ (z : Origin × ℕ). unlinked < 256 → HasSwept z.0.table.shape.min_level (seen new) z.1 (hash_of z.0.seed text.now)) (λ i. (of.origin i, (sym ran.went.stays.number ∙ sym new.named) i)) found_out.0

    freed : HasFreed t (seen new) new.number
    freed = subst (λ (z : Origin × ℕ). HasFreed z.0.table (seen new) z.1) (λ i. (of.origin i, (sym ran.went.stays.number ∙ sym new.named) i)) found_out.1

    no_lock : HasNoLock t (seen new) new.number
    no_lock = subst (λ (z : Origin × ℕ). HasNoLock z.0.table (seen new) z.1) (λ i. (of.origin i, (sym ran.went.stays.number ∙ sym new.named) i)) found_out.3

    -- its bucket is that of the text
    bucket_is : its_bucket end ≡ Some (end.along.cleaning.row, bucket_in end.along.cleaning.row (hash_of cht.origin.seed text.now))
    bucket_is = ap (had_locked end.along.cleaning) end_is ∙ ap (λ b. Some (end.along.cleaning.row, b)) home
      where
        home : end.along.cleaning.bucket ≡ bucket_in end.along.cleaning.row (hash_of cht.origin.seed text.now)
        home = subst (λ (o : Origin). IsAtHash (hash_of o.seed text.now) end.along.cleaning) of.origin found_out.2

    unlinks : UnlinksOn t old.number end.along.cleaning.row (bucket_in end.along.cleaning.row (hash_of cht.origin.seed text.now)) (seen old) window
    unlinks = subst (λ (z : Table × ℕ). UnlinksOn z.0 z.1 end.along.cleaning.row (bucket_in end.along.cleaning.row (hash_of cht.origin.seed text.now)) (seen old) window) (λ i. ((ap (λ (o : Origin). o.table) of.origin) i, sym old.named i))
        (unlinks_on (sight old).origin.table (sight old).number _ _ s ran.words (seen old) window came.fitting bucket_is ran.finds)

  sweep_done : (unlinked : ℕ) → plan_of m ≡ plan.Answered (answer.Swept unlinked) → Sweeps cht.origin text.now old new (swept.Done unlinked)
  sweep_done unlinked answered =
      let (word, rest, is, low, (before, later, at, was)) = begun (answer.Swept unlinked) answered in
      let caller = caller_in (sight old) in
      let hash = hash_of (sight old).origin.seed text.now in
      let told = unlinks_end caller hash ran.words (answer.Swept unlinked) sound came.fitting (planned (answer.Swept unlinked) answered) in
      record {
        nothing = nothing;
        did = events_of_words sweeps s ran.words;
        row = (end unlinked answered).along.cleaning.row;
        count = told.0;
        did_so = record {
          lock = lock_law s ran.words came.fitting ∙ ap (λ b. Some b) (bucket_is unlinked answered);
          graces = one_grace caller hash ran.words came.fitting;
          counts = told.1;
          sections = sections_end caller hash ran.words (answer.Swept unlinked) sound came.fitting (planned (answer.Swept unlinked) answered);
          locks = locks_end caller hash ran.words (answer.Swept unlinked) sound came.fitting (planned (answer.Swept unlinked) answered);
        };
        tells = told.2;
        swept_all = swept_all unlinked answered;
        freed = freed unlinked answered;
        no_lock = no_lock unlinked answered;
        ended = went_ended cht old new (call.Sweep text) m ran.went of.origin (Only (events_of_words sweeps s ran.words)) (λ seen window. IsUnspent t seen window × UnlinksOn t old.number _ _ seen window) did_is
            ((before, later, at, subst (λ n. n < 2 ^ 48) was low), unlinks unlinked answered);
      }

  sweep_spent : (counter : ℕ) → plan_of m ≡ plan.Answered (answer.Spent counter) → Sweeps cht.origin text.now old new (swept.Spent counter)
  sweep_spent counter answered =
      let (word, rest, is, (none, same), was) = begun (answer.Spent counter) answered in
      let told = unlinks_end (caller_in (sight old)) (hash_of (sight old).origin.seed text.now) ran.words (answer.Spent counter) sound came.fitting (planned (answer.Spent counter) answered) in
      let one : ran.words ≡ word ∷ [] = is ∙ ap (λ l. word ∷ l) none in (
        nothing,
        went_ended cht old new (call.Sweep text) m ran.went of.origin (Only []) (λ seen window. IsSpent t seen window counter) (did_is ∙ ap (events_of_words sweeps s) one)
            (subst (λ n. Somewhere (λ log. n ≡ counter_in t log) (seen old) window) (sym same) was, told.2.0),
      )

-- it has ended so
pub swept_so : (cht : Cht) (old new : Seat) (text : Bor (List ℕ)) (along : SweepAlong) (r : Swept) → IsOf cht old → Ran (sight old) (call.Sweep text) (sight new) (sweeps_at (asks (sight old) text.now) along (ended r)) →
    Sweeps cht.origin text.now old new r
swept_so cht old new text along (swept.Done unlinked) of ran = sweep_done cht old new (sweeps_at (asks (sight old) text.now) along (ended (swept.Done unlinked))) text of ran unlinked refl
swept_so cht old new text along (swept.Spent counter) of ran = sweep_spent cht old new (sweeps_at (asks (sight old) text.now) along (ended (swept.Spent counter))) text of ran counter refl
