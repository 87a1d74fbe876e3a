-- What a sweep has found after each of its steps.
use Rattle.std.proofs.Common.{◌≡◌, ◌==◌, Bool, true, false, cond, ℕ, ◌^◌, ◌<◌, ◌≤◌, min, inl, inr, List, [], ◌∷◌, ◌++◌, length, Option, Some, None, IfSome, refl, sym, ap, subst, ◌∙◌, arith}
use Rattle.std.specs.Prelude.{nat_le}
use Rattle.std.proofs.lemmas.Bool.Decides.{nat_tests}
use Rattle.marked_word.specs.Head.{first_of, is_locked}
use Rattle.table_shape.specs.declared.place.Place.TheVariants as place
use Rattle.intern_log.specs.declared.event.Event.{Event}
use Rattle.intern_log.specs.declared.event.What.{What}
use Rattle.intern_log.specs.declared.event.What.TheVariants as what
use Rattle.intern_log.specs.Now.{Now}
use Rattle.atomic_step.specs.declared.answer.Answer.TheVariants as answer
use Rattle.atomic_step.specs.declared.step.Step.TheVariants as step
use Rattle.atomic_step.specs.Event.{event_of}
use Rattle.atomic_step.specs.Turn.{Row}
use Rattle.call_machine.specs.declared.find.FindStage.{FindStage}
use Rattle.call_machine.specs.declared.grace.Grace.{Grace}
use Rattle.call_machine.specs.declared.grace.GraceStage.{GraceStage}
use Rattle.call_machine.specs.declared.grace.GraceStage.TheVariants as grace
use Rattle.call_machine.specs.declared.grace.Gracing.{Gracing}
use Rattle.call_machine.specs.declared.grace.Gracing.TheVariants as gracing
use Rattle.call_machine.specs.declared.lock.LockStage.TheVariants as lock
use Rattle.call_machine.specs.declared.lock.Locking.TheVariants as locking
use Rattle.call_machine.specs.declared.pass.Cleaning.{Cleaning}
use Rattle.call_machine.specs.declared.pass.FreeStage.{FreeStage}
use Rattle.call_machine.specs.declared.pass.FreeStage.TheVariants as free
use Rattle.call_machine.specs.declared.pass.PassStage.{PassStage}
use Rattle.call_machine.specs.declared.pass.PassStage.TheVariants as pass
use Rattle.call_machine.specs.declared.pass.Waiting.{Waiting}
use Rattle.call_machine.specs.declared.sweep.Closing.TheVariants as closing
use Rattle.call_machine.specs.declared.sweep.SweepAlong.{SweepAlong}
use Rattle.call_machine.specs.declared.sweep.SweepAsked.{SweepAsked}
use Rattle.call_machine.specs.declared.sweep.SweepStage.{SweepStage}
use Rattle.call_machine.specs.declared.sweep.SweepStage.TheVariants as sweep
use Rattle.call_machine.specs.Find.{find_row}
use Rattle.call_machine.specs.Grace.{grace_row}
use Rattle.call_machine.specs.Lock.{lock_row}
use Rattle.call_machine.specs.Pass.{free_row, pass_row, passes_on}
use Rattle.call_machine.specs.SoundSweep.{IsSoundSweepAt}
use Rattle.call_machine.specs.Sweep.{sweep_turn, checked, finds_anew, finds_on, locks_on, cleans_on, swept, unlocked, graces_on, frees_on}
use Rattle.cht_core.specs.declared.table.Table.{Table}
use Rattle.cht_core.specs.Backs.{Goes}
use Rattle.cht_core.specs.Flow.{Flow}
use Rattle.cht_core.specs.Invariant.{events_of}
use Rattle.cht_core.specs.KnowsWork.{KnowsSweep}
use Rattle.cht_core.specs.Memory.{Memory, IsMade, found}
use Rattle.cht_core.specs.Passes.{IsLast, WereLiveSince, IsOfBucket, SinceLocked, SweepFinds, SweepsAll, LooksAtFew, PassFinds, is_lock}
use Rattle.cht_core.specs.Past.{Past, past_of, told}
use Rattle.cht_core.specs.TableState.{IsTable}
use Rattle.cht_core.proofs.CleanFound.{bucket_told, came_locked, free_same, since_told}
use Rattle.cht_core.proofs.LiveSince.{last_early, last_new}
use Rattle.cht_core.proofs.PassBacks.{KnowsCame}
use Rattle.cht_core.proofs.PassFound.{PassCame, bucket_live, pass_begun, pass_found, pass_looks, pass_waits}
use Rattle.cht_core.proofs.PassStages.{pass_same_bucket}
use Rattle.cht_core.proofs.SweepStages.{KnowsSwept, sweep_next}
use Rattle.cht_core.proofs.Turns.{IfMakes, past_by, flow_of}

-- what came of a step
abbrev pub SweepCame : Table → Now → List Event → Flow → ℕ → SweepAlong × SweepStage → Type 0
SweepCame t n log f i came = LooksAtFew t came.0.cleaning × SweepFinds t n log f i came.0.cleaning came.1

-- EVENTS

abbrev IsNoLock : Option What → Type 0
IsNoLock e = IfSome e (λ w. is_lock w ≡ false)

pass_locks_none : (c : Cleaning) (s : PassStage) (word : ℕ) → IsNoLock (event_of [] (pass_row c s).step word)
pass_locks_none c (pass.LoadCount s) word = tt
pass_locks_none c (pass.LoadLink s None) word = tt
pass_locks_none c (pass.LoadLink s (Some g)) word = tt
pass_locks_none c (pass.Unlink s g next) word = refl

grace_locks_none : (seats : ℕ) (g : Grace) (s : GraceStage) (word : ℕ) → IsNoLock (event_of [] (grace_row seats g s).step word)
grace_locks_none seats g grace.RaiseCounter word = refl
grace_locks_none seats g grace.LoadSection word = tt

free_locks_none : (c : Cleaning) (s : FreeStage) (word : ℕ) → IsNoLock (event_of [] (free_row c s).step word)
free_locks_none c (free.PutNextGeneration at) word = tt
free_locks_none c (free.FreeSlot at) word = refl

-- STAGES

module _ (t : Table) (n : Now) (log : List Event) (f : Flow) (i : ℕ) where
  -- what is told at the end
  swept_found : (c : Cleaning) → SweepsAll n log i c c.unlinked → SweepFinds t n log f i c (swept c)
  swept_found c finds = (finds.0, finds.1, λ few. finds.2 (within c.unlinked few))
    where
      within : (k : ℕ) → min k 4294967295 < 256 → k < 256
      within k few = grind (arith, nat_tests)

  unlocked_found : (c : Cleaning) (xs : List Waiting) → SweepsAll n log i c c.unlinked → SweepFinds t n log f i c (unlocked c xs)
  unlocked_found c [] finds = swept_found c finds
  unlocked_found c (x ∷ xs) finds = finds

  graced_found : (c : Cleaning) (came : Gracing) → SweepsAll n log i c c.unlinked → SweepFinds t n log f i c (graces_on came)
  graced_found c gracing.Goes finds = finds
  graced_found c gracing.Waits finds = finds
  graced_found c gracing.Over finds = finds

  freed_found : (c : Cleaning) (next : Option FreeStage) → SweepsAll n log i c c.unlinked → SweepFinds t n log f i c (frees_on c next)
  freed_found c None finds = swept_found c finds
  freed_found c (Some s) finds = finds

  -- before its bucket is locked a sweep has found nothing
  checked_found : (c : Cleaning) (word : ℕ) → SweepFinds t n log f i c (checked word)
  checked_found c word = go (nat_le (2 ^ 48) word)
    where
      go : (b : Bool) → SweepFinds t n log f i c (cond b (sweep.Answered (answer.Spent word)) finds_anew)
      go true = tt
      go false = tt

  headed_found : (c : Cleaning) (head : ℕ) (next : Option FindStage) → SweepFinds t n log f i c (finds_on head next)
  headed_found c head (Some s) = tt
  headed_found c head None = go (is_locked head)
    where
      go : (b : Bool) → SweepFinds t n log f i c (cond b (sweep.Close closing.Again) sweep.Lock)
      go true = tt
      go false = tt

-- the bucket is locked, or another has its lock
locks_found : (t : Table) (n : Now) (log : List Event) (f : Flow) (i : ℕ) (w : SweepAlong) (word head : ℕ) (b : Bool) → LooksAtFew t w.cleaning
    → SweepCame t n (log ++ events_of i (cond b (Some (what.Lock w.walk.row w.walk.bucket)) None)) f i (locks_on w (cond b (locking.Locked (first_of word)) locking.Waits))
locks_found t n log f i w word head true few = (omega arith, (refl, (length log, last_new is_lock i (what.Lock w.walk.row w.walk.bucket) log, tt)))
locks_found t n log f i w word head false few = (few, tt)

-- a pass goes on or is over
passed_found : (t : Table) (m : Memory) (p : Past) (log : List Event) (f : Flow) (i at : ℕ) (q : SweepAsked) (w : SweepAlong) (next : Option PassStage) → IsTable t m p f → KnowsSwept m p f i q (w, cleans_on next)
    → PassCame t p.now log f at w.cleaning next → SinceLocked i w.cleaning log (λ a. a ≡ at) → length w.cleaning.waiting.items ≤ w.cleaning.unlinked → SweepFinds t p.now log f i w.cleaning (cleans_on next)
passed_found t m p log f i at q w None table known came last waits = (
  last.0,
  last.1,
  subst (λ a. w.cleaning.unlinked < 256 → WereLiveSince p.now log a (IsOfBucket p.now.seed w.cleaning.row w.cleaning.bucket)) (sym last.2) (λ few. elim came [
    | inl full ↦ absurd (omega (arith, full, few, waits))
    | inr live ↦ bucket_live t m p f log i w.cleaning.row w.cleaning.bucket at w.cleaning.first table known.1 live
  ]),
)
passed_found t m p log f i at q w (Some s) table known came last waits = (waits, (last.0, last.1, subst (λ a. PassFinds t p.now log f a w.cleaning s) (sym last.2) came))

-- the bucket that a pass begins with is locked
swept_came : (m : Memory) (p : Past) (f : Flow) (i : ℕ) (q : SweepAsked) (w : SweepAlong) (next : Option ℕ) → KnowsSwept m p f i q (w, cleans_on (passes_on next)) → KnowsCame m p.now f i w.cleaning (passes_on next)
swept_came m p f i q w None known = known.1
swept_came m p f i q w (Some s) known = known.1

module _ (t : Table) (m m' : Memory) (log : List Event) (f : Flow) (i : ℕ) (table : IsTable t m (past_of t.shape.min_level log) f) where
  abbrev p : Past
  p = past_of t.shape.min_level log

  -- since the bucket was locked
  locked_told : (e : Option What) (c d : Cleaning) (Holds Holds' : ℕ → Type 0) → d.row ≡ c.row → d.bucket ≡ c.bucket → IsNoLock e → ((at : ℕ) → at ≤ length log → Holds at → Holds' at)
      → SinceLocked i c log Holds → SinceLocked i d (log ++ events_of i e) Holds'
  locked_told e c d Holds Holds' row bucket none over since =
      let last : what.Lock c.row c.bucket ≡ what.Lock d.row d.bucket = ap (λ (r : ℕ). what.Lock r c.bucket) (sym row) ∙ ap (λ (b : ℕ). what.Lock d.row b) (sym bucket) in
      let goes = since_told t.shape.min_level log i e is_lock i (what.Lock c.row c.bucket) Holds Holds' (inr none) over since in
      (goes.0, subst (λ (w : What). IsLast is_lock i w (log ++ events_of i e) goes.0) last goes.1, goes.2)

  -- all that were found, with the bucket under another name
  all_told : (e : Option What) (c d : Cleaning) → (told p i e).now.seed ≡ p.now.seed → d.row ≡ c.row → d.bucket ≡ c.bucket → d.unlinked ≡ c.unlinked → IsNoLock e
      → SweepsAll p.now log i c c.unlinked → SweepsAll (told p i e).now (log ++ events_of i e) i d d.unlinked
  all_told e c d seed row bucket many none since =
      locked_told e c d (λ at. c.unlinked < 256 → WereLiveSince p.now log at (IsOfBucket p.now.seed c.row c.bucket))
      (λ at. d.unlinked < 256 → WereLiveSince (told p i e).now (log ++ events_of i e) at (IsOfBucket (told p i e).now.seed d.row d.bucket)) row bucket none
      (λ at early were few. bucket_told t.shape.min_level log i e seed c d row bucket at early (were (subst (λ (k : ℕ). k < 256) many few))) since

  abbrev SweepAfter : Row (SweepAlong × SweepStage) → Type 0
  SweepAfter does = IsMade does.step m m' → Goes t m p f i [] does.step m'
      → SweepCame t (past_by p i [] does.step m).now (log ++ events_of i (event_of [] does.step (found does.step m))) (flow_of p f i [] does.step m) i (does.next (found does.step m))

  module _ (q : SweepAsked) (w : SweepAlong) (shape : q.caller.shape ≡ t.shape) (number : q.caller.number ≡ i) (few : LooksAtFew t w.cleaning) where
    -- any step of a sweep
    pub sweep_found : (s : SweepStage) → IsSoundSweepAt q w s → KnowsSweep m p f i q w s → SweepFinds t p.now log f i w.cleaning s → IfMakes SweepAfter (sweep_turn q w s)
    sweep_found sweep.Check sound known finds = λ made goes. (few, checked_found t p.now (log ++ []) f i w.cleaning (m place.Counter))
    sweep_found (sweep.Find s) sound known finds = λ made goes.
        let does = find_row q.caller.number q.hash w.walk s in
        let came = does.next (found does.step m) in
        (few, headed_found t (past_by p i [] does.step m).now (log ++ events_of i (event_of [] does.step (found does.step m))) (flow_of p f i [] does.step m) i w.cleaning came.0.head came.1)
    sweep_found sweep.Lock sound known finds = λ made goes.
        let does = lock_row w.walk.row w.walk.bucket (lock.LockHead w.walk.head) in
        let word : ℕ = m (place.Head w.walk.row w.walk.bucket) in
        locks_found t (past_by p i [] does.step m).now log (flow_of p f i [] does.step m) i w word w.walk.head (word == w.walk.head) few
    sweep_found (sweep.Close closing.Again) sound known finds = λ made goes. (few, tt)
    sweep_found (sweep.Close closing.Clean) sound known finds = λ made goes.
        let e : Option What = Some what.Close in
        let p' : Past = told p i e in
        let c : Cleaning = w.cleaning in
        let next : KnowsSwept m' p' f i q (w, cleans_on (passes_on c.first)) = sweep_next t m m' p f i [] q w (sweep.Close closing.Clean) table shape number sound known made goes in
        let since = locked_told e c c (λ at. Unit {0}) (λ at. Unit {0}) refl refl refl (λ at early so. so) finds.1 in
        let none : c.waiting.items ≡ [] = sound.at in
        let waits : length c.waiting.items ≡ 0 = ap (λ (xs : List Waiting). length xs) none in (
          few,
          passed_found t m' p' (log ++ events_of i e) f i since.0 q w (passes_on c.first) goes.table next
              (pass_begun t m' p' f (log ++ events_of i e) i since.0 c goes.table (came_locked m' p'.now f i c c.first (swept_came m' p' f i q w c.first next)) finds.0)
              (since.0, since.1, refl) (omega (arith, waits)),
        )
    sweep_found (sweep.Pass s) sound known finds = λ made goes.
        let does = pass_row w.cleaning s in
        let e : Option What = event_of [] does.step (found does.step m) in
        let came = does.next (found does.step m) in
        let p' : Past = past_by p i [] does.step m in
        let f' : Flow = flow_of p f i [] does.step m in
        let same = pass_same_bucket w.cleaning s (found does.step m) in
        let at : ℕ = finds.1.0 in
        let early : at ≤ length log = let before = last_early is_lock i (what.Lock w.cleaning.row w.cleaning.bucket) log at finds.1.1 in omega (arith, before) in
        let next : KnowsSwept m' p' f' i q (record w { cleaning = came.0 }, cleans_on came.1) = sweep_next t m m' p f i [] q w (sweep.Pass s) table shape number sound known made goes in (
          pass_looks t m log f i w.cleaning at early table s (found does.step m) finds.1.2,
          passed_found t m' p' (log ++ events_of i e) f' i at q (record w { cleaning = came.0 }) came.1 goes.table next (pass_found t m log f i w.cleaning at early table [] s known.1 finds.1.2)
              (locked_told e w.cleaning came.0 (λ a. a ≡ at) (λ a. a ≡ at) same.0 same.1 (pass_locks_none w.cleaning s (found does.step m)) (λ a before here. here) (at, finds.1.1, refl))
              (pass_waits w.cleaning s (found does.step m) sound.at.0 finds.0),
        )
    sweep_found sweep.UnlockHead sound known finds = λ made goes.
        let e : Option What = Some (what.Unlock w.cleaning.row w.cleaning.bucket) in
        let f' : Flow = flow_of p f i [] (step.UnlockHead w.cleaning.row w.cleaning.bucket w.cleaning.first) m in
        (few, unlocked_found t (told p i e).now (log ++ events_of i e) f' i w.cleaning w.cleaning.waiting.items (all_told e w.cleaning w.cleaning goes.grows.seed refl refl refl refl finds))
    sweep_found (sweep.Grace s) sound known finds = λ made goes.
        let does = grace_row q.caller.shape.seats w.grace s in
        let e : Option What = event_of [] does.step (found does.step m) in
        let came = does.next (found does.step m) in (
          few,
          graced_found t (told p i e).now (log ++ events_of i e) (flow_of p f i [] does.step m) i w.cleaning came.1
              (all_told e w.cleaning w.cleaning goes.grows.seed refl refl refl (grace_locks_none q.caller.shape.seats w.grace s (found does.step m)) finds),
        )
    sweep_found (sweep.Free s) sound known finds = λ made goes.
        let does = free_row w.cleaning s in
        let e : Option What = event_of [] does.step (found does.step m) in
        let came = does.next (found does.step m) in
        let same = free_same w.cleaning s (found does.step m) in (
          subst (λ (x : ℕ). x ≤ t.shape.slots) (sym same.2) few,
          freed_found t (told p i e).now (log ++ events_of i e) (flow_of p f i [] does.step m) i came.0 came.1
              (all_told e w.cleaning came.0 goes.grows.seed same.0 same.1 same.3 (free_locks_none w.cleaning s (found does.step m)) finds),
        )
    sweep_found (sweep.Answered a) sound known finds = tt
