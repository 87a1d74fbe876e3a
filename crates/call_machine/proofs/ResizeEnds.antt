-- What a grow or a shrink counts and tells, and how it ends.
use Rattle.std.proofs.Common.{◌≡◌, ◌∙◌, sym, ap, subst, ◌^◌, ◌+◌, ◌-◌, ℕ, Bool, true, false, Option, Some, None, refl, cond, ◌==◌, List, [], ◌∷◌, ◌++◌}
use Rattle.std.specs.Prelude.{min}
use Rattle.std.specs.Option.{option_to_list}
use native.Mathlib.Omega.{arith}
use Rattle.marked_word.specs.Head.{is_locked, first_of}
use Rattle.marked_word.specs.Link.{node_of}
use Rattle.intern_log.specs.declared.event.What.{What}
use Rattle.intern_log.specs.declared.event.What.TheVariants as what
use Rattle.table_shape.specs.declared.shape.Shape.{Shape}
use Rattle.table_shape.specs.Shape.{IsSound}
use Rattle.atomic_step.specs.declared.answer.Answer.{Answer}
use Rattle.atomic_step.specs.declared.answer.Answer.TheVariants as answer
use Rattle.atomic_step.specs.declared.answer.Worked.{Worked}
use Rattle.atomic_step.specs.declared.step.Step.{Step}
use Rattle.atomic_step.specs.declared.step.Step.TheVariants as step
use Rattle.atomic_step.specs.Event.{event_of}
use Rattle.atomic_step.specs.Monitor.{after_one, after_all}
use Rattle.atomic_step.specs.Run.{AreFitting, after_words, events_of_words, cost_of_words}
use Rattle.atomic_step.specs.declared.plan.Plan.TheVariants as plan
use Rattle.atomic_step.specs.Turn.{plan_in}
use Rattle.atomic_step.specs.SoundStep.{CanBeFound}
use Rattle.atomic_step.proofs.Choices.{either_way}
use Rattle.atomic_step.proofs.Runs.{keeps}
use Rattle.call_machine.specs.declared.grace.Grace.{Grace}
use Rattle.call_machine.specs.declared.grace.GraceStage.TheVariants.{RaiseCounter, LoadSection}
use Rattle.call_machine.specs.declared.grace.Gracing.{Gracing}
use Rattle.call_machine.specs.declared.lock.LockStage.TheVariants.{LoadHead, LockHead}
use Rattle.call_machine.specs.declared.lock.Locking.TheVariants as locking
use Rattle.call_machine.specs.declared.resize.AfterGrace.{AfterGrace}
use Rattle.call_machine.specs.declared.resize.AfterGrace.TheVariants as after
use Rattle.call_machine.specs.declared.resize.Direction.{Direction}
use Rattle.call_machine.specs.declared.resize.Direction.TheVariants.{Grow, Shrink}
use Rattle.call_machine.specs.declared.resize.JoinStage.TheVariants as join
use Rattle.call_machine.specs.declared.resize.ResizeAlong.{ResizeAlong}
use Rattle.call_machine.specs.declared.resize.ResizeStage.{ResizeStage}
use Rattle.call_machine.specs.declared.resize.ResizeStage.TheVariants.{PutNewLevel, Lock, PutHead, RedirectHead, Unzip, Join, UnlockHead, StoreLevel, ClearNewLevel, GiveResizeLock}
use Rattle.call_machine.specs.declared.resize.ResizeStage.TheVariants as stage
use Rattle.call_machine.specs.declared.resize.Side.{Side}
use Rattle.call_machine.specs.declared.resize.Side.TheVariants.{Even, Odd}
use Rattle.call_machine.specs.declared.resize.UnzipStage.TheVariants as unzip
use Rattle.call_machine.specs.Polls.{polled_on, turn_by}
use Rattle.call_machine.specs.Resize.{end_level, half, bucket_at, new_first, worked, chain_at, Went, goes, looks_at, has_locked, locks_on, joins_from, after_put, unzips_on, joins_at, after_grace, graces_on, resize_row}
use Rattle.call_machine.specs.ResizeRuns.{Being, being, rows, resizes, begun, IsRun, ends_at, events_of_run, is_done, ending_at, end_to_come, moves_by, moves_of_run}
use Rattle.call_machine.specs.WorkMonitor.{ends}
use Rattle.atomic_step.specs.Monitor as monitor
use Rattle.call_machine.specs.SoundResize.{IsAtLast, IsSoundAfter, IsSoundAt, IsSoundResize}
use Rattle.call_machine.proofs.SoundResize.{begins_soundly, on_pairs, on_sections}
use Rattle.call_machine.proofs.ResizeRuns.{IsKept, anew, equal, lock_either, resumed_on, runs_on, same_polled, stays, waits_on}

abbrev is_end : ResizeStage → Bool
is_end GiveResizeLock = true
is_end _ = false

-- the graces that are owed beside those of the moves to come: while a pair is worked at, and once its buckets are unlocked
abbrev due : Direction → ℕ → ℕ → ℕ
due Grow level bucket = 1
due Shrink level bucket = half Shrink level - bucket + 1

abbrev rest_due : Direction → ℕ → ℕ → ℕ
rest_due Grow level bucket = 1
rest_due Shrink level bucket = half Shrink level - bucket

abbrev owed_before : Direction → ResizeAlong → AfterGrace → ℕ
owed_before d w after.Unzip = due d w.level w.bucket + 1
owed_before d w after.UnlockHead = due d w.level w.bucket
owed_before d w after.ClearNewLevel = 1

abbrev owed_within : Direction → ResizeAlong → AfterGrace → ℕ
owed_within d w after.Unzip = due d w.level w.bucket
owed_within d w after.UnlockHead = rest_due d w.level w.bucket
owed_within d w after.ClearNewLevel = 0

abbrev owed : Direction → ResizeAlong → ResizeStage → ℕ
owed d w (UnlockHead side) = rest_due d w.level w.bucket
owed d w (stage.Grace then_do RaiseCounter) = owed_before d w then_do
owed d w (stage.Grace then_do LoadSection) = owed_within d w then_do
owed d w StoreLevel = 1
owed d w ClearNewLevel = 0
owed d w GiveResizeLock = 0
owed d w _ = due d w.level w.bucket

abbrev with_move : Step → ℕ → ℕ
with_move (step.MoveEdge edge next) n = n + 1
with_move _ n = n

-- a Grace pays one that is owed, and raises by one how many were begun
abbrev IsPaid : Option What → ℕ → ℕ → Type 0
IsPaid (Some what.Grace) before after = before ≡ after + 1
IsPaid _ before after = before ≡ after

abbrev counted : Option What → ℕ → ℕ
counted (Some what.Grace) graces = min (graces + 1) 18446744073709551615
counted _ graces = graces

-- what is so of each step: whether it is the last, the ending, the graces that are owed, those that are counted, and the level
abbrev Tallies : Direction → ResizeAlong → ResizeStage → Step → Option What → Went → Type 0
Tallies d w s by e went =
    (is_done went.2 ≡ is_end s)
    × (after_one ends (ending_at d w s) e ≡ Some (end_to_come d went.0 went.1 (is_end s)))
    × IsPaid e (with_move by (owed d w s)) (owed d went.0 went.1)
    × (went.0.graces ≡ counted e w.graces)
    × (went.0.level ≡ w.level)

locked : (d : Direction) (w : ResizeAlong) (side : Side) (head row_of bucket : ℕ) (first : Option ℕ) → Tallies d w (Lock side (LockHead head)) (step.LockHead row_of bucket head) (Some (what.Lock row_of bucket)) (has_locked d w side first)
locked Grow w side head row_of bucket first = (refl, refl, refl, refl, refl)
locked Shrink w Even head row_of bucket first = (refl, refl, refl, refl, refl)
locked Shrink w Odd head row_of bucket first = (refl, refl, refl, refl, refl)

joins : (d : Direction) (w : ResizeAlong) (side : Side) (row_of bucket : ℕ) (first even : Option ℕ) → Tallies d w (PutHead side) (step.PutHead row_of bucket first) (Some (what.Lock row_of bucket)) (goes w (joins_from even))
joins d w side row_of bucket first None = (refl, refl, refl, refl, refl)
joins d w side row_of bucket first (Some x) = (refl, refl, refl, refl, refl)

put : (d : Direction) (w : ResizeAlong) (side : Side) (row_of bucket : ℕ) (first : Option ℕ) → Tallies d w (PutHead side) (step.PutHead row_of bucket first) (Some (what.Lock row_of bucket)) (goes w (after_put d w.chains side))
put Grow w Even row_of bucket first = (refl, refl, refl, refl, refl)
put Grow w Odd row_of bucket first = (refl, refl, refl, refl, refl)
put Shrink w side row_of bucket first = joins Shrink w side row_of bucket first w.chains.even.first

unzips : (w : ResizeAlong) (side : Side) (row_of bucket : ℕ) (first next : Option ℕ) → Tallies Grow w (RedirectHead side) (step.RedirectHead row_of bucket first) None (goes w (unzips_on next))
unzips w side row_of bucket first None = (refl, refl, refl, refl, refl)
unzips w side row_of bucket first (Some x) = (refl, refl, refl, refl, refl)

unzips_again : (w : ResizeAlong) (number : ℕ) (next : Option ℕ) → Tallies Grow w (stage.Grace after.Unzip LoadSection) (step.LoadSection number) None (goes w (unzips_on next))
unzips_again w number None = (refl, refl, refl, refl, refl)
unzips_again w number (Some x) = (refl, refl, refl, refl, refl)

pub tally : (shape : Shape) (d : Direction) (w : ResizeAlong) (s : ResizeStage) (word : ℕ) → IsSoundResize shape d w s
    → let does = resize_row shape d w s in Tallies d w s does.step (event_of [] does.step word) (does.next word)
tally shape d w PutNewLevel word sound = (refl, refl, refl, refl, refl)
tally shape d w (Lock side LoadHead) word sound = either_way (λ came. Tallies d w (Lock side LoadHead) (step.LoadHead w.level (bucket_at d w side)) None (locks_on d w side came)) (is_locked word) locking.Waits (locking.Goes (LockHead word))
    (refl, refl, refl, refl, refl) (refl, refl, refl, refl, refl)
tally shape d w (Lock side (LockHead head)) word sound =
    lock_either (Tallies d w (Lock side (LockHead head)) (step.LockHead w.level (bucket_at d w side) head)) (locks_on d w side) (word == head) (what.Lock w.level (bucket_at d w side)) (locking.Locked (first_of word)) locking.Waits
    (locked d w side head w.level (bucket_at d w side) (first_of word)) (refl, refl, refl, refl, refl)
tally shape d w (PutHead side) word sound = put d w side (end_level d w.level) (bucket_at d w side) (new_first d w.chains side)
tally shape Grow w (RedirectHead side) word sound = unzips w side w.level (bucket_at Grow w side) (chain_at w.chains side).first w.chains.even.first
tally shape Shrink w (RedirectHead Even) word sound = (refl, refl, refl, refl, refl)
tally shape Shrink w (RedirectHead Odd) word sound = (waits_on w.grace.raised, refl, refl, refl, refl)
tally shape d w (Unzip (unzip.LoadMeta x)) word sound = (refl, refl, refl, refl, refl)
tally shape d w (Unzip (unzip.LoadLink x side)) word sound = (refl, refl, refl, refl, refl)
tally shape d w (Unzip (unzip.MoveEdge x side next)) word sound = (waits_on w.grace.raised, refl, refl, refl, refl)
tally shape d w (Join (join.LoadLink x)) word sound = go (node_of word)
  where
    go : (next : Option ℕ) → Tallies d w (Join (join.LoadLink x)) (step.LoadLink x) None (goes (looks_at w) (joins_at x next))
    go None = (refl, refl, refl, refl, refl)
    go (Some y) = (refl, refl, refl, refl, refl)
tally shape d w (Join (join.JoinChains x)) word sound = (refl, refl, refl, refl, refl)
tally shape Grow w (UnlockHead Even) word sound = (refl, refl, refl, refl, refl)
tally shape Grow w (UnlockHead Odd) word sound = on_pairs (Tallies Grow w (UnlockHead Odd) (resize_row shape Grow w (UnlockHead Odd)).step (event_of [] (resize_row shape Grow w (UnlockHead Odd)).step word)) shape Grow w sound.along
    (λ more. (refl, refl, refl, refl, refl)) (λ last. (refl, refl, refl, refl, refl))
tally shape Shrink w (UnlockHead side) word sound = on_pairs (Tallies Shrink w (UnlockHead side) (resize_row shape Shrink w (UnlockHead side)).step (event_of [] (resize_row shape Shrink w (UnlockHead side)).step word)) shape Shrink w sound.along
    (λ more. (refl, refl, omega (arith, more), refl, refl)) (λ last. (refl, refl, omega (arith, last), refl, refl))
tally shape d w (stage.Grace after.Unzip RaiseCounter) word sound = (refl, refl, refl, refl, refl)
tally shape Shrink w (stage.Grace after.UnlockHead RaiseCounter) word sound = (refl, refl, refl, refl, refl)
tally shape Grow w (stage.Grace after.UnlockHead RaiseCounter) word sound = absurd sound.at
tally shape d w (stage.Grace after.ClearNewLevel RaiseCounter) word sound = (refl, refl, refl, refl, refl)
tally shape d w (stage.Grace then_do LoadSection) word sound =
    on_sections (λ (came : Grace × Gracing). Tallies d w (stage.Grace then_do LoadSection) (step.LoadSection w.grace.next) None (graces_on (record w { grace = came.0; graces = w.graces }) then_do came.1)) shape.seats w.grace word
    (refl, refl, refl, refl, refl) (over d then_do sound.at) (λ more. (refl, refl, refl, refl, refl))
  where
    over : (d : Direction) (then_do : AfterGrace) → IsSoundAfter d w then_do → Tallies d w (stage.Grace then_do LoadSection) (step.LoadSection w.grace.next) None (goes (record w { grace = w.grace; graces = w.graces }) (after_grace w then_do))
    over Grow after.Unzip at = unzips_again w w.grace.next w.rest
    over Shrink after.Unzip at = absurd at
    over d after.UnlockHead at = (refl, refl, refl, refl, refl)
    over d after.ClearNewLevel at = (refl, refl, refl, refl, refl)
tally shape d w StoreLevel word sound =
    (waits_on w.grace.raised, ap (λ b. cond b (Some (what.ResizeGiven ∷ [])) None) (equal (end_level d w.level)), refl, refl, refl)
tally shape d w ClearNewLevel word sound = (refl, refl, refl, refl, refl)
tally shape d w GiveResizeLock word sound = (refl, refl, refl, refl, refl)

-- what a resize tells once it is done
abbrev IsTold : Direction → ResizeAlong → ResizeStage → Option Answer → Type 0
IsTold d w s (Some (answer.Done did)) = (s ≡ GiveResizeLock) × (did ≡ worked d w)
IsTold d w s _ = Unit {0}

untold : (d : Direction) (w : ResizeAlong) (s : ResizeStage) (a : Option Answer) → is_done a ≡ false → IsTold d w s a
untold d w s None pending = tt
untold d w s (Some (answer.Done did)) pending = absurd (cc)
untold d w s (Some _) pending = tt

told : (shape : Shape) (d : Direction) (w : ResizeAlong) (s : ResizeStage) (word : ℕ) → IsSoundResize shape d w s → let next = (resize_row shape d w s).next word in IsTold d next.0 next.1 next.2
told shape d w GiveResizeLock word sound = (refl, refl)
told shape d w s word sound = let next = (resize_row shape d w s).next word in untold d next.0 next.1 next.2 (tally shape d w s word sound).0

polled_told : (d : Direction) (at : ResizeAlong × ResizeStage) (a : Option Answer) → IsTold d at.0 at.1 a → let next = polled_on anew (at, a) in IsTold d next.0.0 next.0.1 next.1
polled_told d at None is = tt
polled_told d at (Some (answer.PendingSeat seat)) is = untold d at.0 at.1 _ (resumed_on at.0 at.1)
polled_told d at (Some (answer.PendingBucket row bucket)) is = untold d at.0 at.1 _ (resumed_on at.0 at.1)
polled_told d at (Some _) is = is

-- what a run keeps
record IsRunning (shape : Shape) (d : Direction) (level : ℕ) (at : Being) : Type 0 where
  sound : IsKept shape d at
  same : at.0.0.level ≡ level
  answer : IsTold d at.0.0 at.0.1 at.1

runs : (shape : Shape) (d : Direction) (level : ℕ) → IsSound shape → (at : Being) (word : ℕ) → IsRunning shape d level at → (resizes shape d).Fits at word → IsRunning shape d level ((resizes shape d).got at word)
runs shape d level table (at, Some a) word is fits = absurd fits
runs shape d level table (at, None) word is fits =
    let next = being ((resize_row shape d at.0 at.1).next word) in
    record {
      sound = stays shape d table (at, None) word is.sound fits;
      same = same_polled (λ w s done. w.level) next.0 next.1 ∙ (tally shape d at.0 at.1 word is.sound).4 ∙ is.same;
      answer = polled_told d next.0 next.1 (told shape d at.0 at.1 word is.sound);
    }

ran : (shape : Shape) (d : Direction) (level : ℕ) (words : List ℕ) → IsRun shape d level words → IsRunning shape d level (ends_at shape d level words)
ran shape d level words run = keeps (resizes shape d) (IsRunning shape d level) (runs shape d level run.0) (begun level) words (record { sound = begins_soundly shape d level run.1; same = refl; answer = tt }) run.2

-- the ending
pub endings_law : (shape : Shape) (d : Direction) (level : ℕ) (words : List ℕ) → IsRun shape d level words
    → let end = ends_at shape d level words in after_all ends (Some (what.Level (end_level d level) ∷ what.ResizeGiven ∷ [])) (events_of_run shape d level words) ≡ Some (end_to_come d end.0.0 end.0.1 (is_done end.1))
endings_law shape d level words run = runs_on shape d ends (end_to_come d) run.0 step (begun level) words (begins_soundly shape d level run.1) run.2
  where
    step : (w : ResizeAlong) (s : ResizeStage) (word : ℕ) → IsSoundResize shape d w s → CanBeFound shape (resize_row shape d w s).step word
        → let next = (resize_row shape d w s).next word in after_one ends (end_to_come d w s false) (event_of [] (resize_row shape d w s).step word) ≡ Some (end_to_come d next.0 next.1 (is_done next.2))
    step w s word sound fits =
        let next = (resize_row shape d w s).next word in
        let is = tally shape d w s word sound in
        is.1 ∙ ap (λ b. Some (end_to_come d next.0 next.1 b)) (sym is.0)

pub ending_law : (shape : Shape) (d : Direction) (level : ℕ) (words : List ℕ) → IsRun shape d level words → is_done (ends_at shape d level words).1 ≡ true
    → after_all ends (Some (what.Level (end_level d level) ∷ what.ResizeGiven ∷ [])) (events_of_run shape d level words) ≡ Some []
ending_law shape d level words run done = let end = ends_at shape d level words in endings_law shape d level words run ∙ ap (λ b. Some (end_to_come d end.0.0 end.0.1 b)) done

-- how many graces are among events: so many the monitor counts
abbrev graces_in : List What → ℕ
graces_in [] = 0
graces_in (what.Grace ∷ events) = graces_in events + 1
graces_in (_ ∷ events) = graces_in events

counts_all : (n : ℕ) (events : List What) → after_all monitor.graces (Some n) events ≡ Some (n + graces_in events)
counts_all n [] = ap Some (omega arith)
counts_all n (what.Grace ∷ events) = counts_all (n + 1) events ∙ ap Some (omega arith)
counts_all n (_ ∷ events) = counts_all n events

counts_from : (n : ℕ) (events : List What) → graces_in events ≡ n → after_all monitor.graces (Some 0) events ≡ Some n
counts_from n events is = counts_all 0 events ∙ ap Some (omega (arith, is))

-- the graces that are begun pay those that are owed, and are counted
abbrev one : Option What → ℕ
one (Some what.Grace) = 1
one _ = 0

graces_more : (e : Option What) (events : List What) → graces_in (option_to_list e ++ events) ≡ one e + graces_in events
graces_more None events = omega arith
graces_more (Some what.Grace) events = omega arith
graces_more (Some _) events = omega arith

paid : (e : Option What) (before later : ℕ) → IsPaid e before later → before ≡ one e + later
paid None before later is = omega (arith, is)
paid (Some what.Grace) before later is = omega (arith, is)
paid (Some _) before later is = omega (arith, is)

moved_by : (by : Step) (n : ℕ) → with_move by n ≡ moves_by (plan.Step by) + n
moved_by (step.MoveEdge edge next) n = omega arith
moved_by _ n = omega arith

counts_one : (e : Option What) (n k : ℕ) → n ≡ min k 18446744073709551615 → counted e n ≡ min (k + one e) 18446744073709551615
counts_one None n k is = omega (arith, is)
counts_one (Some what.Grace) n k is = omega (arith, is)
counts_one (Some _) n k is = omega (arith, is)

abbrev owed_at : Direction → Being → ℕ
owed_at d at = owed d at.0.0 at.0.1

abbrev cost : Shape → Direction → Being → ℕ → ℕ
cost shape d at word = moves_by (plan_in (turn_by (rows shape d) at))

graces : (shape : Shape) (d : Direction) → IsSound shape → (at : Being) (words : List ℕ) (k : ℕ) → IsKept shape d at → AreFitting (resizes shape d) at words → at.0.0.graces ≡ min k 18446744073709551615
    → let end = after_words (resizes shape d) at words in let events = events_of_words (resizes shape d) at words in
    (graces_in events + owed_at d end ≡ cost_of_words (resizes shape d) (cost shape d) at words + owed_at d at) × (end.0.0.graces ≡ min (k + graces_in events) 18446744073709551615)
graces shape d table at [] k sound fits is = (refl, omega (arith, is))
graces shape d table (at, Some a) (word ∷ words) k sound fits is = absurd fits.0
graces shape d table (at, None) (word ∷ words) k sound fits is =
    let does = resize_row shape d at.0 at.1 in
    let went = does.next word in
    let next = (resizes shape d).got (at, None) word in
    let e = event_of [] does.step word in
    let events = events_of_words (resizes shape d) next words in
    let here = tally shape d at.0 at.1 word sound in
    let counts : next.0.0.graces ≡ min (k + one e) 18446744073709551615 = same_polled (λ w s done. w.graces) (being went).0 went.2 ∙ here.3 ∙ counts_one e at.0.graces k is in
    let rest = graces shape d table next words (k + one e) (stays shape d table (at, None) word sound fits.0) fits.1 counts in
    let owes : owed_at d next ≡ owed d went.0 went.1 = same_polled (λ w s done. owed d w s) (being went).0 went.2 in
    let pays = paid e (with_move does.step (owed d at.0 at.1)) (owed d went.0 went.1) here.2 in
    let moves = moved_by does.step (owed d at.0 at.1) in
    let more = graces_more e events in
    let first = rest.0 in
    let second = rest.1 in
    (omega (arith, first, owes, pays, moves, more), omega (arith, second, more))

done_at : (d : Direction) (w : ResizeAlong) (s : ResizeStage) (a : Option Answer) → is_done a ≡ true → IsTold d w s a → s ≡ GiveResizeLock
done_at d w s None done is = absurd (cc)
done_at d w s (Some (answer.Done did)) done is = is.0
done_at d w s (Some _) done is = absurd (cc)

all_graces : (shape : Shape) (d : Direction) (level : ℕ) (words : List ℕ) → IsRun shape d level words → is_done (ends_at shape d level words).1 ≡ true
    → graces_in (events_of_run shape d level words) ≡ moves_of_run shape d level words + due d level 0
all_graces shape d level words run done =
    let end = ends_at shape d level words in
    let both = graces shape d run.0 (begun level) words 0 (begins_soundly shape d level run.1) run.2 refl in
    let first = both.0 in
    let nothing : owed_at d end ≡ 0 = ap (owed d end.0.0) (done_at d end.0.0 end.0.1 end.1 done (ran shape d level words run).answer) in
    omega (arith, first, nothing)

pub grow_graces_law : (shape : Shape) (level : ℕ) (words : List ℕ) → IsRun shape Grow level words → is_done (ends_at shape Grow level words).1 ≡ true
    → after_all monitor.graces (Some 0) (events_of_run shape Grow level words) ≡ Some (moves_of_run shape Grow level words + 1)
grow_graces_law shape level words run done = counts_from (moves_of_run shape Grow level words + 1) (events_of_run shape Grow level words) (all_graces shape Grow level words run done)

-- a shrink moves no node
still : (shape : Shape) (w : ResizeAlong) (s : ResizeStage) → IsSoundResize shape Shrink w s → moves_by (plan.Step (resize_row shape Shrink w s).step) ≡ 0
still shape w (Lock side LoadHead) sound = refl
still shape w (Lock side (LockHead head)) sound = refl
still shape w (Unzip s) sound = absurd sound.at.0
still shape w (Join (join.LoadLink x)) sound = refl
still shape w (Join (join.JoinChains x)) sound = refl
still shape w (stage.Grace then_do RaiseCounter) sound = refl
still shape w (stage.Grace then_do LoadSection) sound = refl
still shape w _ sound = refl

no_moves : (shape : Shape) → IsSound shape → (at : Being) (words : List ℕ) → IsKept shape Shrink at → AreFitting (resizes shape Shrink) at words → cost_of_words (resizes shape Shrink) (cost shape Shrink) at words ≡ 0
no_moves shape table at [] sound fits = refl
no_moves shape table (at, Some a) (word ∷ words) sound fits = absurd fits.0
no_moves shape table (at, None) (word ∷ words) sound fits =
    let first = still shape at.0 at.1 sound in
    let rest = no_moves shape table ((resizes shape Shrink).got (at, None) word) words (stays shape Shrink table (at, None) word sound fits.0) fits.1 in
    omega (arith, first, rest)

pub shrink_graces_law : (shape : Shape) (level : ℕ) (words : List ℕ) → IsRun shape Shrink level words → is_done (ends_at shape Shrink level words).1 ≡ true
    → after_all monitor.graces (Some 0) (events_of_run shape Shrink level words) ≡ Some (2 ^ (level - 1) + 1)
shrink_graces_law shape level words run done =
    let all = all_graces shape Shrink level words run done in
    let none = no_moves shape run.0 (begun level) words (begins_soundly shape Shrink level run.1) run.2 in
    counts_from (2 ^ (level - 1) + 1) (events_of_run shape Shrink level words) (omega (arith, all, none))

-- what is told at the end
pub told_law : (shape : Shape) (d : Direction) (level : ℕ) (words : List ℕ) (did : Worked) (begun : ℕ) → IsRun shape d level words → (ends_at shape d level words).1 ≡ Some (answer.Done did)
    → after_all monitor.graces (Some 0) (events_of_run shape d level words) ≡ Some begun → (did.unlinked ≡ 0) × (did.graces ≡ min begun 18446744073709551615) × (did.level ≡ end_level d level)
told_law shape d level words did n run is count =
    let end = ends_at shape d level words in
    let events = events_of_run shape d level words in
    let kept = ran shape d level words run in
    let tells = subst (IsTold d end.0.0 end.0.1) is kept.answer in
    let counts = (graces shape d run.0 (begun level) words 0 (begins_soundly shape d level run.1) run.2 refl).1 in
    let all = counts_all 0 events in
    let same : 0 + graces_in events ≡ n = cc in
    (ap (λ (x : Worked). x.unlinked) tells.1, ap (λ (x : Worked). x.graces) tells.1 ∙ counts ∙ ap (λ k. min k 18446744073709551615) same, ap (λ (x : Worked). x.level) tells.1 ∙ ap (end_level d) kept.same)

-- where a run is at its end
pub ran_level : (shape : Shape) (d : Direction) (level : ℕ) (words : List ℕ) → IsRun shape d level words → (ends_at shape d level words).0.0.level ≡ level
ran_level shape d level words run = (ran shape d level words run).same

pub at_the_end : (shape : Shape) (d : Direction) (level : ℕ) (words : List ℕ) → IsRun shape d level words → is_done (ends_at shape d level words).1 ≡ true
    → let end = ends_at shape d level words in (end.0.1 ≡ GiveResizeLock) × IsAtLast d end.0.0
at_the_end shape d level words run done =
    let end = ends_at shape d level words in
    let kept = ran shape d level words run in
    let last = done_at d end.0.0 end.0.1 end.1 done kept.answer in
    (last, subst (IsSoundAt shape d end.0.0) last kept.sound.at)
