-- What a clean has found after each of its steps.
use Rattle.std.proofs.Common.{◌≡◌, ◌≢◌, ◌⊎◌, ◌==◌, Bool, true, false, cond, ℕ, ◌+◌, ◌^◌, ◌<◌, ◌≤◌, min, nat_lt, inl, inr, List, [], ◌∷◌, ◌++◌, length, Option, Some, None, IfSome, refl, sym, subst, arith}
use Rattle.std.specs.Prelude.{◌/◌, nat_le}
use Rattle.std.proofs.lemmas.Bool.{cases_lt, eqb-false, ltb-false}
use Rattle.std.proofs.lemmas.List.{append-nil}
use Rattle.table_shape.specs.declared.place.Place.TheVariants as place
use Rattle.table_shape.specs.declared.shape.Shape.{Shape}
use Rattle.text_words.specs.Hash.{hash_of}
use Rattle.intern_log.specs.declared.event.Event.{Event}
use Rattle.intern_log.specs.declared.event.What.{What}
use Rattle.intern_log.specs.declared.event.What.TheVariants as what
use Rattle.intern_log.specs.Now.{Now}
use Rattle.atomic_step.specs.declared.answer.Answer.{Answer}
use Rattle.atomic_step.specs.declared.answer.Answer.TheVariants as answer
use Rattle.atomic_step.specs.Event.{event_of}
use Rattle.atomic_step.proofs.Choices.{either_way}
use Rattle.call_machine.specs.declared.clean.Clean.{Clean}
use Rattle.call_machine.specs.declared.clean.CleanAlong.{CleanAlong}
use Rattle.call_machine.specs.declared.clean.CleanStage.{CleanStage}
use Rattle.call_machine.specs.declared.clean.CleanStage.TheVariants as clean
use Rattle.call_machine.specs.declared.clean.Freeing.{Freeing}
use Rattle.call_machine.specs.declared.clean.Freeing.TheVariants as freeing
use Rattle.call_machine.specs.declared.grace.Gracing.{Gracing}
use Rattle.call_machine.specs.declared.grace.Gracing.TheVariants as gracing
use Rattle.call_machine.specs.declared.lock.LockStage.TheVariants as lock
use Rattle.call_machine.specs.declared.lock.Locking.{Locking}
use Rattle.call_machine.specs.declared.lock.Locking.TheVariants as locking
use Rattle.call_machine.specs.declared.pass.Cleaning.{Cleaning}
use Rattle.call_machine.specs.declared.pass.FreeStage.{FreeStage}
use Rattle.call_machine.specs.declared.pass.FreeStage.TheVariants as free
use Rattle.call_machine.specs.declared.pass.PassStage.{PassStage}
use Rattle.call_machine.specs.declared.pass.Waiting.{Waiting}
use Rattle.call_machine.specs.declared.work.Work.TheVariants as work
use Rattle.call_machine.specs.Clean.{Went, goes, clean_row, locks_on, cleans_on, counts_pass, waits_at, next_bucket, ends, raises, graces_on, frees_on}
use Rattle.call_machine.specs.Grace.{grace_row, held_back, counts_grace}
use Rattle.call_machine.specs.Lock.{lock_row}
use Rattle.call_machine.specs.Pass.{all_freed, begins_pass, free_row, pass_row, passes_on}
use Rattle.call_machine.specs.Poll.{work_left}
use Rattle.call_machine.specs.SoundClean.{IsSoundClean}
use Rattle.call_machine.specs.WholeClean.{IsCleanEvent}
use Rattle.call_machine.proofs.CleanFollows.{events_law}
use Rattle.cht_core.specs.declared.table.Table.{Table}
use Rattle.cht_core.specs.Backs.{Goes}
use Rattle.cht_core.specs.Flow.{Flow}
use Rattle.cht_core.specs.Invariant.{events_of}
use Rattle.cht_core.specs.KnowsResize.{Resizing, NoHead}
use Rattle.cht_core.specs.KnowsWork.{KnowsCleaning, Locked}
use Rattle.cht_core.specs.Memory.{Memory, IsMade, found}
use Rattle.cht_core.specs.Passes.{WereLiveSince, IsAny, IsBelowBucket, IsOfBucket, AreDone, IsDoneToo, FreesAfter, SinceLast, SinceTaken, CleanFinds, LooksAtFew, PassFinds, PollFinds, WorkFinds, is_taken}
use Rattle.cht_core.specs.Past.{Past, past_of, told}
use Rattle.cht_core.specs.Stage.{Quiet, bucket_in}
use Rattle.cht_core.specs.TableState.{IsTable}
use Rattle.cht_core.proofs.CleanStages.{cleans_on_with}
use Rattle.cht_core.proofs.LiveSince.{last_early, last_told, owner_took, since_goes, were_live_fewer, were_live_told}
use Rattle.cht_core.proofs.PassBacks.{KnowsCame}
use Rattle.cht_core.proofs.PassFound.{PassCame, bucket_live, pass_begun, pass_found, pass_looks}
use Rattle.cht_core.proofs.PassStages.{pass_same_bucket}
use Rattle.cht_core.proofs.Stages.{bucket_below}
use Rattle.cht_core.proofs.Turns.{past_by, flow_of}

-- what a clean has answered
abbrev pub AnswerFinds : Now → List Event → ℕ → Option Answer → Type 0
AnswerFinds n log i (Some (answer.Done did)) = SinceTaken i log (λ at. WereLiveSince n log at IsAny)
AnswerFinds n log i _ = Unit {0}

-- what came of a step
abbrev pub CleanCame : Table → Now → List Event → Flow → ℕ → Went → Type 0
CleanCame t n log f i came = LooksAtFew t came.0.cleaning × CleanFinds t n log f i came.0.cleaning came.1 × AnswerFinds n log i came.2

-- the work that is left, and what was answered
pub left_finds : (t : Table) (n : Now) (log : List Event) (f : Flow) (i : ℕ) (c : Clean) (o : Option Answer) → WorkFinds t n log f i (work.Clean c) → AnswerFinds n log i o
    → IfSome (work_left (work.Clean c) o) (WorkFinds t n log f i) × PollFinds t n log i (work.Clean c) o
left_finds t n log f i c None finds answered = (finds, tt)
left_finds t n log f i c (Some (answer.Done did)) finds answered = (tt, (finds.0, answered))
left_finds t n log f i c (Some _) finds answered = (finds, tt)

-- where a grace may not begin nothing is told
pub held_finds : (n : Now) (log : List Event) (i raised : ℕ) → AnswerFinds n log i (held_back raised)
held_finds n log i raised = either_way (AnswerFinds n log i) (nat_le (2 ^ 63) raised) (Some (answer.PendingSeat 0)) None tt tt

-- a clean takes no resize lock
not_taken : (e : Option What) → IsCleanEvent e → IfSome e (λ w. is_taken w ≡ false)
not_taken None is = tt
not_taken (Some (what.Lock row bucket)) is = refl
not_taken (Some (what.Unlock row bucket)) is = refl
not_taken (Some (what.Unlink slot)) is = refl
not_taken (Some (what.Free slot)) is = refl
not_taken (Some what.Grace) is = refl
not_taken (Some what.ResizeGiven) is = refl
not_taken (Some _) is = absurd is

-- slots that are freed leave the bucket as it is
pub free_same : (c : Cleaning) (s : FreeStage) (word : ℕ) → let d = ((free_row c s).next word).0 in (d.row ≡ c.row) × (d.bucket ≡ c.bucket) × (d.passed ≡ c.passed) × (d.unlinked ≡ c.unlinked)
free_same c (free.PutNextGeneration at) word = (refl, refl, refl, refl)
free_same c (free.FreeSlot at) word = either (at + 1 == length c.waiting.items)
  where
    either : (b : Bool) → let d = (cond {A = Cleaning × Option FreeStage} b (all_freed c, None) (c, Some (free.PutNextGeneration (at + 1)))).0 in (d.row ≡ c.row) × (d.bucket ≡ c.bucket) × (d.passed ≡ c.passed) × (d.unlinked ≡ c.unlinked)
    either true = (refl, refl, refl, refl)
    either false = (refl, refl, refl, refl)

-- the buckets below one, by other names
pub below_same : (seed seed' row row' bucket bucket' s : ℕ) (text : List ℕ) → seed' ≡ seed → row' ≡ row → bucket' ≡ bucket → IsBelowBucket seed' row' bucket' s text → IsBelowBucket seed row bucket s text
below_same seed seed' row row' bucket bucket' s text seeds rows buckets below =
    subst (λ (x : ℕ). IsBelowBucket x row bucket s text) seeds (subst (λ (x : ℕ). IsBelowBucket seed' x bucket s text) rows (subst (λ (x : ℕ). IsBelowBucket seed' row' x s text) buckets below))

pub of_same : (seed seed' row row' bucket bucket' s : ℕ) (text : List ℕ) → seed' ≡ seed → row' ≡ row → bucket' ≡ bucket → IsOfBucket seed' row' bucket' s text → IsOfBucket seed row bucket s text
of_same seed seed' row row' bucket bucket' s text seeds rows buckets home =
    subst (λ (x : ℕ). IsOfBucket x row bucket s text) seeds (subst (λ (x : ℕ). IsOfBucket seed' x bucket s text) rows (subst (λ (x : ℕ). IsOfBucket seed' row' x s text) buckets home))

-- WHAT STAYS BY AN EVENT

module _ (min_level : ℕ) (log : List Event) (j : ℕ) (e : Option What) where
  abbrev old : Past
  old = past_of min_level log

  abbrev new : Past
  new = told old j e

  abbrev longer : List Event
  longer = log ++ events_of j e

  module _ (seed : new.now.seed ≡ old.now.seed) (c d : Cleaning) (row : d.row ≡ c.row) (bucket : d.bucket ≡ c.bucket) (at : ℕ) (early : at ≤ length log) where
    pub done_told : AreDone old.now log c at → AreDone new.now longer d at
    done_told done = were_live_fewer new.now longer at (IsBelowBucket old.now.seed c.row c.bucket) (IsBelowBucket new.now.seed d.row d.bucket)
        (λ s text h born linked below. below_same old.now.seed new.now.seed c.row d.row c.bucket d.bucket s text seed row bucket below)
        (were_live_told min_level log j e at (IsBelowBucket old.now.seed c.row c.bucket) early done)

    pub bucket_told : WereLiveSince old.now log at (IsOfBucket old.now.seed c.row c.bucket) → WereLiveSince new.now longer at (IsOfBucket new.now.seed d.row d.bucket)
    bucket_told were = were_live_fewer new.now longer at (IsOfBucket old.now.seed c.row c.bucket) (IsOfBucket new.now.seed d.row d.bucket)
        (λ s text h born linked home. of_same old.now.seed new.now.seed c.row d.row c.bucket d.bucket s text seed row bucket home)
        (were_live_told min_level log j e at (IsOfBucket old.now.seed c.row c.bucket) early were)

    pub frees_told : (freeing : Freeing) → FreesAfter old.now log c freeing at → FreesAfter new.now longer d freeing at
    frees_told freeing.Again done = done_told done
    frees_told freeing.Last done = were_live_told min_level log j e at IsAny early done

  -- what holds since a seat's last event
  pub since_told : (passes : What → Bool) (i : ℕ) (last : What) (Holds Holds' : ℕ → Type 0) → (j ≢ i) ⊎ IfSome e (λ w. passes w ≡ false) → ((at : ℕ) → at ≤ length log → Holds at → Holds' at)
      → SinceLast passes i last log Holds → SinceLast passes i last longer Holds'
  since_told passes i last Holds Holds' other over since =
      since_goes passes i last log longer Holds Holds' (λ at is. last_told passes i last log at is j e other) (λ at early holds. over at (omega (arith, early)) holds) since

-- A STEP

module _ (t : Table) (n : Now) (log : List Event) (f : Flow) (i : ℕ) where
  -- a grace comes next
  raises_found : (w : CleanAlong) (freeing : Freeing) → LooksAtFew t w.cleaning → SinceTaken i log (FreesAfter n log w.cleaning freeing) → CleanCame t n log f i (raises w freeing)
  raises_found w freeing few finds = (few, finds, held_finds n log i w.grace.raised)

  -- the bucket was passed: it is cleaned again, or the next one comes, or the clean ends
  again_found : (w : CleanAlong) → LooksAtFew t w.cleaning → SinceTaken i log (AreDone n log w.cleaning) → CleanCame t n log f i (raises (counts_pass w) freeing.Again)
  again_found w few finds = go (w.cleaning.pass_waiting == 256)
    where
      go : (b : Bool) → CleanCame t n log f i (raises (cond b (record w { full_passes = min (w.full_passes + 1) 4294967295 }) w) freeing.Again)
      go true = raises_found (record w { full_passes = min (w.full_passes + 1) 4294967295 }) freeing.Again few finds
      go false = raises_found w freeing.Again few finds

  ends_found : (w : CleanAlong) (xs : List Waiting) → LooksAtFew t w.cleaning → SinceTaken i log (λ at. WereLiveSince n log at IsAny) → CleanCame t n log f i (ends w xs)
  ends_found w [] few finds = (few, finds, tt)
  ends_found w (x ∷ xs) few finds = raises_found w freeing.Last few finds

  -- the next bucket is one of which all below are done
  next_done : (c : Cleaning) (at : ℕ) → AreDone n log c at → WereLiveSince n log at (IsOfBucket n.seed c.row c.bucket) → AreDone n log (record c { bucket = c.bucket + 1 }) at
  next_done c at done here s text h born linked below = elim (cases_lt (bucket_in c.row (hash_of n.seed text)) c.bucket) [
    | inl less ↦ done s text h born linked less
    | inr more ↦ here s text h born linked (let before : bucket_in c.row (hash_of n.seed text) < c.bucket + 1 = below in omega (arith, before, more))
  ]

  -- behind the last bucket all are done
  all_done : (c : Cleaning) (at : ℕ) → 2 ^ c.row ≤ c.bucket + 1 → AreDone n log c at → WereLiveSince n log at (IsOfBucket n.seed c.row c.bucket) → WereLiveSince n log at IsAny
  all_done c at last done here s text h born linked any =
      next_done c at done here s text h born linked (let below = bucket_below c.row (hash_of n.seed text) in omega (arith, below, last))

  next_found : (w : CleanAlong) → LooksAtFew t w.cleaning → SinceTaken i log (IsDoneToo n log w.cleaning) → CleanCame t n log f i (next_bucket w)
  next_found w few finds = by_tests (length w.cleaning.waiting.items == 256) (nat_lt (w.cleaning.bucket + 1) (2 ^ w.cleaning.row)) refl refl
    where
      c : Cleaning
      c = w.cleaning

      passed : (length c.waiting.items == 256) ≡ false → WereLiveSince n log finds.0 (IsOfBucket n.seed c.row c.bucket)
      passed is = finds.2.1 (eqb-false (length c.waiting.items) 256 is)

      by_tests : (many more : Bool) → (length c.waiting.items == 256) ≡ many → nat_lt (c.bucket + 1) (2 ^ c.row) ≡ more → CleanCame t n log f i (cond many (raises (counts_pass w) freeing.Again)
          (cond more (goes (record w { cleaning = record c { bucket = c.bucket + 1 }; full_passes = 0 }) (clean.Lock lock.LoadHead)) (ends w c.waiting.items)))
      by_tests true more full others = again_found w few (finds.0, finds.1, finds.2.0)
      by_tests false true full others = (few, (finds.0, finds.1, next_done c finds.0 finds.2.0 (passed full)), tt)
      by_tests false false full others =
          ends_found w c.waiting.items few (finds.0, finds.1, all_done c finds.0 (ltb-false (c.bucket + 1) (2 ^ c.row) others) finds.2.0 (passed full))

  -- what came of a step of a grace
  graced_found : (w : CleanAlong) (freeing : Freeing) (came : Gracing) → LooksAtFew t w.cleaning → SinceTaken i log (FreesAfter n log w.cleaning freeing) → CleanCame t n log f i (graces_on w freeing came)
  graced_found w freeing gracing.Goes few finds = (few, finds, tt)
  graced_found w freeing gracing.Waits few finds = (few, finds, tt)
  graced_found w freeing gracing.Over few finds = (few, finds, tt)

  -- what came of a slot that was freed
  freed_found : (shape : Shape) (w : CleanAlong) (freeing : Freeing) (next : Option FreeStage) → LooksAtFew t w.cleaning → SinceTaken i log (FreesAfter n log w.cleaning freeing)
      → CleanCame t n log f i (frees_on shape w freeing next)
  freed_found shape w freeing (Some s) few finds = (few, finds, tt)
  freed_found shape w freeing.Last None few finds = (few, finds, tt)
  freed_found shape w freeing.Again None few finds = by_test (nat_lt (shape.slots / 256) w.full_passes)
    where
      by_test : (many : Bool) → CleanCame t n log f i (cond many (waits_at w) (goes w (clean.Lock lock.LoadHead)))
      by_test true = (few, finds, tt)
      by_test false = (few, finds, tt)

-- the locked bucket of a pass that comes next, or is over
pub came_locked : (m : Memory) (n : Now) (f : Flow) (i : ℕ) (c : Cleaning) (next : Option ℕ) → KnowsCame m n f i c (passes_on next) → Locked m n f i c.row c.bucket c.first
came_locked m n f i c None known = known
came_locked m n f i c (Some s) known = known.0

-- what a clean knows where it passes a bucket
cleaning_came : (m : Memory) (p : Past) (f : Flow) (i : ℕ) (w : CleanAlong) (next : Option PassStage) → KnowsCleaning m p f i w (cleans_on next) → KnowsCame m p.now f i w.cleaning next
cleaning_came m p f i w None known = known.1
cleaning_came m p f i w (Some s) known = known.1

-- a pass goes on or is over
passed_found : (t : Table) (m : Memory) (p : Past) (log : List Event) (f : Flow) (i at : ℕ) (w : CleanAlong) (next : Option PassStage) → IsTable t m p f → KnowsCame m p.now f i w.cleaning next
    → AreDone p.now log w.cleaning at → PassCame t p.now log f at w.cleaning next → SinceTaken i log (λ a. a ≡ at) → LooksAtFew t w.cleaning → CleanCame t p.now log f i (goes w (cleans_on next))
passed_found t m p log f i at w None table known done came last few = (
  few,
  (
    last.0,
    last.1,
    subst (IsDoneToo p.now log w.cleaning) (sym last.2) (
      done,
      λ other. elim came [
        | inl full ↦ absurd (other full)
        | inr live ↦ bucket_live t m p f log i w.cleaning.row w.cleaning.bucket at w.cleaning.first table known live
      ],
    ),
  ),
  tt,
)
passed_found t m p log f i at w (Some s) table known done came last few =
    (few, (last.0, last.1, subst (λ a. AreDone p.now log w.cleaning a × PassFinds t p.now log f a w.cleaning s) (sym last.2) (done, came)), tt)

module _ (t : Table) (m m' : Memory) (log : List Event) (f : Flow) (i : ℕ) (table : IsTable t m (past_of t.shape.min_level log) f) where
  abbrev p : Past
  p = past_of t.shape.min_level log

  -- what is found after a step of a clean
  abbrev CleanAfter : CleanAlong → CleanStage → Type 0
  CleanAfter w s =
      let does = clean_row t.shape w s in
      CleanCame t (past_by p i [] does.step m).now (log ++ events_of i (event_of [] does.step (found does.step m))) (flow_of p f i [] does.step m) i (does.next (found does.step m))

  module _ (w : CleanAlong) (few : LooksAtFew t w.cleaning) (owner : Resizing p.now f i p.now.level Quiet NoHead) where
    -- what the next stage knows
    next_knows : (s : CleanStage) → IsSoundClean t.shape w s → IsMade (clean_row t.shape w s).step m m' → Goes t m p f i [] (clean_row t.shape w s).step m' → KnowsCleaning m p f i w s → s ≢ clean.GiveResizeLock
        → let does = clean_row t.shape w s in let came = does.next (found does.step m) in KnowsCleaning m' (past_by p i [] does.step m) (flow_of p f i [] does.step m) i came.0 came.1
    next_knows s sound made goes known other = cleans_on_with t m m' p f i [] w s table sound owner made goes other known

    since_found : (s : CleanStage) (Holds Holds' : ℕ → Type 0) → ((at : ℕ) → at ≤ length log → Holds at → Holds' at) → SinceTaken i log Holds
        → SinceTaken i (log ++ events_of i (event_of [] (clean_row t.shape w s).step (found (clean_row t.shape w s).step m))) Holds'
    since_found s Holds Holds' over since =
        let e : Option What = event_of [] (clean_row t.shape w s).step (found (clean_row t.shape w s).step m) in
        since_told t.shape.min_level log i e is_taken i what.ResizeTaken Holds Holds' (inr (not_taken e (events_law t.shape w s (found (clean_row t.shape w s).step m)))) over since

    -- the bucket is locked, or tried still
    locks_found : (s : CleanStage) (came : Locking) (p' : Past) (log' : List Event) (f' : Flow) → IsTable t m' p' f' → KnowsCleaning m' p' f' i (locks_on w came).0 (locks_on w came).1 → SinceTaken i log' (AreDone p'.now log' w.cleaning)
        → CleanCame t p'.now log' f' i (locks_on w came)
    locks_found s (locking.Goes next) p' log' f' table' known finds = (few, finds, tt)
    locks_found s locking.Waits p' log' f' table' known finds = (few, finds, tt)
    locks_found s (locking.Locked first) p' log' f' table' known finds =
        let c : Cleaning = begins_pass w.cleaning first in
        let came : KnowsCame m' p'.now f' i c (passes_on first) = cleaning_came m' p' f' i (record w { cleaning = c }) (passes_on first) known in
        passed_found t m' p' log' f' i finds.0 (record w { cleaning = c }) (passes_on first) table' came finds.2
        (pass_begun t m' p' f' log' i finds.0 c table' (came_locked m' p'.now f' i c first came) refl) (finds.0, finds.1, refl) (omega arith)

    -- any step of a clean
    pub clean_found : (s : CleanStage) → IsSoundClean t.shape w s → KnowsCleaning m p f i w s → CleanFinds t p.now log f i w.cleaning s → IsMade (clean_row t.shape w s).step m m'
        → Goes t m p f i [] (clean_row t.shape w s).step m' → CleanAfter w s
    clean_found clean.LoadLevel sound known finds made goes =
        let took = owner_took t.shape.min_level i log owner.owner in
        let none : w.cleaning.bucket ≡ 0 = sound.at.0 in (
          few,
          subst (λ (l : List Event). SinceTaken i l (AreDone p.now l (record w.cleaning { row = m place.Level }))) (sym (append-nil log))
              (took.0, took.1, λ s text h born linked below. absurd (let less : bucket_in (m place.Level) (hash_of p.now.seed text) < w.cleaning.bucket = below in omega (arith, less, none))),
          tt,
        )
    clean_found (clean.Lock s) sound known finds made goes =
        let does = lock_row w.cleaning.row w.cleaning.bucket s in
        let e : Option What = event_of [] does.step (found does.step m) in
        locks_found (clean.Lock s) (does.next (found does.step m)) (past_by p i [] does.step m) (log ++ events_of i e) (flow_of p f i [] does.step m) goes.table
        (next_knows (clean.Lock s) sound made goes known (λ same. cc))
        (since_found (clean.Lock s) (AreDone p.now log w.cleaning) (AreDone (past_by p i [] does.step m).now (log ++ events_of i e) w.cleaning)
        (λ at early done. done_told t.shape.min_level log i e goes.grows.seed w.cleaning w.cleaning refl refl at early done) finds)
    clean_found (clean.Pass s) sound known finds made goes =
        let does = pass_row w.cleaning s in
        let e : Option What = event_of [] does.step (found does.step m) in
        let came = does.next (found does.step m) in
        let p' : Past = past_by p i [] does.step m in
        let log' : List Event = log ++ events_of i e in
        let same = pass_same_bucket w.cleaning s (found does.step m) in
        let early : finds.0 ≤ length log = let before = last_early is_taken i what.ResizeTaken log finds.0 finds.1 in omega (arith, before) in
        passed_found t m' p' log' (flow_of p f i [] does.step m) i finds.0 (record w { cleaning = came.0 }) came.1 goes.table
        (cleaning_came m' p' (flow_of p f i [] does.step m) i (record w { cleaning = came.0 }) came.1 (next_knows (clean.Pass s) sound made goes known (λ same. cc)))
        (done_told t.shape.min_level log i e goes.grows.seed w.cleaning came.0 same.0 same.1 finds.0 early finds.2.0)
        (pass_found t m log f i w.cleaning finds.0 early table [] s known.1 finds.2.1)
        (since_found (clean.Pass s) (λ a. a ≡ finds.0) (λ a. a ≡ finds.0) (λ at before here. here) (finds.0, finds.1, refl))
        (pass_looks t m log f i w.cleaning finds.0 early table s (found does.step m) finds.2.1)
    clean_found clean.UnlockHead sound known finds made goes =
        let does = clean_row t.shape w clean.UnlockHead in
        let e : Option What = event_of [] does.step (found does.step m) in
        next_found t (past_by p i [] does.step m).now (log ++ events_of i e) (flow_of p f i [] does.step m) i w few
        (since_found clean.UnlockHead (IsDoneToo p.now log w.cleaning) (IsDoneToo (past_by p i [] does.step m).now (log ++ events_of i e) w.cleaning) (λ at early done. (
          done_told t.shape.min_level log i e goes.grows.seed w.cleaning w.cleaning refl refl at early done.0,
          λ other. bucket_told t.shape.min_level log i e goes.grows.seed w.cleaning w.cleaning refl refl at early (done.1 other),
        )) finds)
    clean_found (clean.Grace freeing s) sound known finds made goes =
        let does = grace_row t.shape.seats w.grace s in
        let e : Option What = event_of [] does.step (found does.step m) in
        let came = does.next (found does.step m) in
        graced_found t (past_by p i [] does.step m).now (log ++ events_of i e) (flow_of p f i [] does.step m) i (record w { grace = came.0; graces = counts_grace s w.graces }) freeing came.1 few
        (since_found (clean.Grace freeing s) (FreesAfter p.now log w.cleaning freeing) (FreesAfter (past_by p i [] does.step m).now (log ++ events_of i e) w.cleaning freeing)
        (λ at early done. frees_told t.shape.min_level log i e goes.grows.seed w.cleaning w.cleaning refl refl at early freeing done) finds)
    clean_found (clean.Free freeing s) sound known finds made goes =
        let does = free_row w.cleaning s in
        let e : Option What = event_of [] does.step (found does.step m) in
        let came = does.next (found does.step m) in
        let same = free_same w.cleaning s (found does.step m) in
        freed_found t (past_by p i [] does.step m).now (log ++ events_of i e) (flow_of p f i [] does.step m) i t.shape (record w { cleaning = came.0 }) freeing came.1
        (subst (λ (x : ℕ). x ≤ t.shape.slots) (sym same.2) few)
        (since_found (clean.Free freeing s) (FreesAfter p.now log w.cleaning freeing) (FreesAfter (past_by p i [] does.step m).now (log ++ events_of i e) came.0 freeing)
        (λ at early done. frees_told t.shape.min_level log i e goes.grows.seed w.cleaning came.0 same.0 same.1 at early freeing done) finds)
    clean_found clean.GiveResizeLock sound known finds made goes =
        let does = clean_row t.shape w clean.GiveResizeLock in
        let e : Option What = event_of [] does.step (found does.step m) in
        let all = since_found clean.GiveResizeLock (λ at. WereLiveSince p.now log at IsAny) (λ at. WereLiveSince (past_by p i [] does.step m).now (log ++ events_of i e) at IsAny)
        (λ at early done. were_live_told t.shape.min_level log i e at IsAny early done) finds in
        (few, all, all)
