-- The stages of a clean: what each knows backs its step, and what is known after it.
use Rattle.std.proofs.Common.{◌≡◌, ◌≢◌, ℕ, ◌+◌, ◌^◌, ◌≤◌, ◌⊎◌, inl, inr, refl, sym, ap, subst, ◌∙◌, Bool, true, false, List, [], ◌∷◌, length, Option, Some, None, IfSome}
use Rattle.std.specs.Prelude.{◌==◌, ◌/◌, nat_lt, min, if◌then◌else◌}
use Rattle.chain_core.specs.Nodes.{On}
use Rattle.marked_word.specs.Head.{locked}
use Rattle.table_shape.specs.declared.place.Place.TheVariants as place
use Rattle.table_shape.specs.declared.shape.Shape.{Shape}
use Rattle.intern_log.specs.declared.event.What.TheVariants as what
use Rattle.atomic_step.specs.declared.answer.Answer.{Answer}
use Rattle.atomic_step.specs.declared.answer.Answer.TheVariants as answer
use Rattle.call_machine.specs.declared.clean.CleanAlong.{CleanAlong}
use Rattle.call_machine.specs.declared.clean.CleanStage.{CleanStage}
use Rattle.call_machine.specs.declared.clean.CleanStage.TheVariants as clean
use Rattle.call_machine.specs.declared.clean.Freeing.{Freeing}
use Rattle.call_machine.specs.declared.clean.Freeing.TheVariants as freeing
use Rattle.call_machine.specs.declared.grace.Grace.{Grace}
use Rattle.call_machine.specs.declared.grace.GraceStage.TheVariants as grace
use Rattle.call_machine.specs.declared.grace.Gracing.{Gracing}
use Rattle.call_machine.specs.declared.grace.Gracing.TheVariants as gracing
use Rattle.call_machine.specs.declared.lock.LockStage.TheVariants as lock
use Rattle.call_machine.specs.declared.lock.Locking.{Locking}
use Rattle.call_machine.specs.declared.lock.Locking.TheVariants as locking
use Rattle.call_machine.specs.declared.pass.Cleaning.{Cleaning}
use Rattle.call_machine.specs.declared.pass.FreeStage.{FreeStage}
use Rattle.call_machine.specs.declared.pass.FreeStage.TheVariants as free
use Rattle.call_machine.specs.declared.pass.PassStage.{PassStage}
use Rattle.call_machine.specs.declared.pass.PassStage.TheVariants as pass
use Rattle.call_machine.specs.declared.pass.Waiting.{Waiting}
use Rattle.call_machine.specs.declared.work.Work.{Work}
use Rattle.call_machine.specs.Poll.{work_left}
use Rattle.call_machine.specs.Work.{of_clean}
use Rattle.call_machine.specs.Clean.{Went, goes, clean_row, locks_on, cleans_on, waits_at, next_bucket, ends, raises, graces_on, frees_on}
use Rattle.call_machine.specs.Grace.{grace_row, counts_grace}
use Rattle.call_machine.specs.Lock.{lock_row}
use Rattle.call_machine.specs.Pass.{pass_row, free_row, passes_on, begins_pass}
use Rattle.call_machine.specs.SoundClean.{IsSoundClean}
use Rattle.call_machine.specs.WholeClean.{still_waiting}
use Rattle.cht_core.specs.declared.table.Table.{Table}
use Rattle.cht_core.specs.Backs.{Backs, Goes}
use Rattle.cht_core.specs.Flow.{Flow, IsUsed, stage_unlocked}
use Rattle.cht_core.specs.KnowsResize.{Resizing, NoHead}
use Rattle.cht_core.specs.KnowsWork.{slots_in, KnowsWaiting, KnowsCleaning, KnowsWork, Locked}
use Rattle.cht_core.specs.Memory.{Memory, IsMade, found}
use Rattle.cht_core.specs.Past.{Past, told}
use Rattle.cht_core.specs.Stage.{Stage, Quiet}
use Rattle.cht_core.specs.TableState.{IsTable}
use Rattle.cht_core.proofs.Buckets.{bucket_cases, lock_here, lock_elsewhere}
use Rattle.cht_core.proofs.FreeStages.{KnowsFreed, free_backs, free_next}
use Rattle.cht_core.proofs.GraceStages.{CanRaise, KnowsScannedFor, grace_backs, grace_knows_waited}
use Rattle.cht_core.proofs.LockStages.{IsSameBeside, KnowsLocking, lock_next, lock_waits, unlock_waits, lock_beside, pass_beside}
use Rattle.cht_core.proofs.OwesKept.{UnlinkedAtMost}
use Rattle.cht_core.proofs.PassBacks.{KnowsCame, lock_backs, pass_backs, pass_begins}
use Rattle.cht_core.proofs.PassStages.{PassKnows, pass_next, pass_same_bucket}
use Rattle.cht_core.proofs.Stages.{quiet_used, resizing_on}
use Rattle.cht_core.proofs.Turns.{past_by, flow_of}
use Rattle.cht_core.proofs.WorkBeside.{grace_beside, free_beside, clean_beside}
use Rattle.cht_core.proofs.Waits.{none_wait}

-- what the steps need
pub clean_backs : (t : Table) (m : Memory) (p : Past) (f : Flow) (i : ℕ) (text : List ℕ) (w : CleanAlong) (s : CleanStage) → IsSoundClean t.shape w s
    → Resizing p.now f i p.now.level Quiet NoHead → UnlinkedAtMost p i (still_waiting w.cleaning s) → KnowsCleaning m p f i w s → CanRaise m (clean_row t.shape w s).step → Backs t m p f i text (clean_row t.shape w s).step
clean_backs t m p f i text w clean.LoadLevel sound owner all known may = tt
clean_backs t m p f i text w (clean.Lock s) sound owner all known may = lock_backs t m p f i text w.cleaning.row w.cleaning.bucket s (sound.step i) (quiet_used p.now f w.cleaning.row w.cleaning.bucket owner.at_stage known.0 sound.cleaning.bucket)
clean_backs t m p f i text w (clean.Pass s) sound owner all known may = pass_backs t m p f i text w.cleaning s known.1
clean_backs t m p f i text w clean.UnlockHead sound owner all known may = inl known.1
clean_backs t m p f i text w (clean.Grace freeing s) sound owner all known may = grace_backs t m p f i text t.shape.seats w.grace s may
clean_backs t m p f i text w (clean.Free freeing s) sound owner all known may = free_backs t m p f i text w.cleaning s sound.at known.1
clean_backs t m p f i text w clean.GiveResizeLock sound owner all known may = (
  owner,
  λ s at is.
      let on : On s (slots_in w.cleaning.waiting.items) ⊎ (2 ^ 48 ≤ p.uses s) = all s at is in
      elim (subst (λ (xs : List Waiting). On s (slots_in xs) ⊎ (2 ^ 48 ≤ p.uses s)) known on) [ inl never ↦ absurd never | inr many ↦ many ],
)

-- what is known of a clean after a step
abbrev pub KnowsWent : Memory → Past → Flow → ℕ → Went → Type 0
KnowsWent m p f i came = KnowsCleaning m p f i came.0 came.1

-- a bucket whose head the seat has locked: its pass begins, or it is unlocked
cleans_begun : (t : Table) (m : Memory) (p : Past) (f : Flow) (i : ℕ) (w : CleanAlong) (first : Option ℕ) → IsTable t m p f → w.cleaning.row ≡ p.now.level
    → Locked m p.now f i w.cleaning.row w.cleaning.bucket first → KnowsWaiting m p i w.cleaning.waiting.items → KnowsWent m p f i (locks_on w (locking.Locked first))
cleans_begun t m p f i w first table row locked waiting =
    goes_on (passes_on first) (pass_begins t m p f i (begins_pass w.cleaning first) table locked refl)
  where
    goes_on : (next : Option PassStage) → KnowsCame m p.now f i (begins_pass w.cleaning first) next
        → KnowsCleaning m p f i (record w { cleaning = begins_pass w.cleaning first }) (cleans_on next)
    goes_on None came = (row, came, waiting)
    goes_on (Some s) came = (row, came, waiting)

-- what came of a step that locks a head
cleans_locked : (t : Table) (m : Memory) (p : Past) (f : Flow) (i : ℕ) (w : CleanAlong) (came : Locking) → IsTable t m p f → w.cleaning.row ≡ p.now.level
    → KnowsLocking m p.now f i w.cleaning.row w.cleaning.bucket came → KnowsWaiting m p i w.cleaning.waiting.items → KnowsWent m p f i (locks_on w came)
cleans_locked t m p f i w (locking.Goes s) table row came waiting = (row, waiting)
cleans_locked t m p f i w locking.Waits table row came waiting = (row, waiting)
cleans_locked t m p f i w (locking.Locked first) table row came waiting = cleans_begun t m p f i w first table row came waiting

-- the bucket was unlocked: the next one comes, or those that wait are freed, or the clean ends
cleans_ended : (m : Memory) (p : Past) (f : Flow) (i : ℕ) (w : CleanAlong) (xs : List Waiting) → w.cleaning.waiting.items ≡ xs → w.cleaning.row ≡ p.now.level
    → KnowsWaiting m p i w.cleaning.waiting.items → KnowsWent m p f i (ends w xs)
cleans_ended m p f i w [] is row waiting = is
cleans_ended m p f i w (x ∷ xs) is row waiting = (row, waiting)

cleans_next : (m : Memory) (p : Past) (f : Flow) (i : ℕ) (w : CleanAlong) → w.cleaning.row ≡ p.now.level → KnowsWaiting m p i w.cleaning.waiting.items → KnowsWent m p f i (next_bucket w)
cleans_next m p f i w row waiting = by_tests (length w.cleaning.waiting.items == 256) (nat_lt (w.cleaning.bucket + 1) (2 ^ w.cleaning.row)) (w.cleaning.pass_waiting == 256)
  where
    full : (counts : Bool) → KnowsWent m p f i (raises (if counts then record w { full_passes = min (w.full_passes + 1) 4294967295 } else w) freeing.Again)
    full true = (row, waiting)
    full false = (row, waiting)

    by_tests : (many more counts : Bool) → KnowsWent m p f i (
        if many then raises (if counts then record w { full_passes = min (w.full_passes + 1) 4294967295 } else w) freeing.Again
        else if more then goes (record w { cleaning = record w.cleaning { bucket = w.cleaning.bucket + 1 }; full_passes = 0 }) (clean.Lock lock.LoadHead)
        else ends w w.cleaning.waiting.items)
    by_tests true more counts = full counts
    by_tests false true counts = (row, waiting)
    by_tests false false counts = cleans_ended m p f i w w.cleaning.waiting.items refl row waiting

-- what came of a step of a grace
cleans_graced : (m : Memory) (p : Past) (f : Flow) (i : ℕ) (w : CleanAlong) (freeing : Freeing) (g : Grace) (graces : ℕ) (gracing : Gracing) → w.cleaning.row ≡ p.now.level
    → KnowsScannedFor m p i w.cleaning.waiting.items g gracing → KnowsWent m p f i (graces_on (record w { grace = g; graces = graces }) freeing gracing)
cleans_graced m p f i w freeing g graces gracing.Goes row came = (row, came)
cleans_graced m p f i w freeing g graces gracing.Waits row came = (row, came)
cleans_graced m p f i w freeing g graces gracing.Over row came = (row, came)

-- what came of a slot that was freed
cleans_freed : (m : Memory) (p : Past) (f : Flow) (i : ℕ) (shape : Shape) (w : CleanAlong) (freeing : Freeing) (next : Option FreeStage) → w.cleaning.row ≡ p.now.level
    → KnowsFreed m p i w.cleaning next → KnowsWent m p f i (frees_on shape w freeing next)
cleans_freed m p f i shape w freeing (Some s) row came = (row, came)
cleans_freed m p f i shape w freeing.Last None row came = came
cleans_freed m p f i shape w freeing.Again None row came = by_test (nat_lt (shape.slots / 256) w.full_passes)
  where
    by_test : (many : Bool) → KnowsWent m p f i (if many then waits_at w else goes w (clean.Lock lock.LoadHead))
    by_test true = (row, none_wait m p i w.cleaning.waiting.items came)
    by_test false = (row, none_wait m p i w.cleaning.waiting.items came)

-- what came of a step of a pass
cleans_passed : (m : Memory) (p : Past) (f : Flow) (i : ℕ) (w : CleanAlong) (c : Cleaning) (next : Option PassStage) → c.row ≡ p.now.level → PassKnows m p f i (c, next)
    → KnowsWent m p f i (goes (record w { cleaning = c }) (cleans_on next))
cleans_passed m p f i w c None row came = (row, came.0, came.1)
cleans_passed m p f i w c (Some s) row came = (row, came.0, came.1)

-- what is known after a step of the clean, but for its last
pub cleans_on_with : (t : Table) (m m' : Memory) (p : Past) (f : Flow) (i : ℕ) (text : List ℕ) (w : CleanAlong) (s : CleanStage) → IsTable t m p f → IsSoundClean t.shape w s
    → Resizing p.now f i p.now.level Quiet NoHead → IsMade (clean_row t.shape w s).step m m' → Goes t m p f i text (clean_row t.shape w s).step m' → s ≢ clean.GiveResizeLock
    → KnowsCleaning m p f i w s
    → KnowsWent m' (past_by p i text (clean_row t.shape w s).step m) (flow_of p f i text (clean_row t.shape w s).step m) i ((clean_row t.shape w s).next (found (clean_row t.shape w s).step m))
cleans_on_with t m m' p f i text w clean.LoadLevel table sound owner made goes not_last known =
    (table.heads.level, none_wait m' p i w.cleaning.waiting.items known)
cleans_on_with t m m' p f i text w (clean.Lock s) table sound owner made goes not_last known =
    let word = found (lock_row w.cleaning.row w.cleaning.bucket s).step m in
    cleans_locked t m' (past_by p i text (lock_row w.cleaning.row w.cleaning.bucket s).step m) (flow_of p f i text (lock_row w.cleaning.row w.cleaning.bucket s).step m) i w
    ((lock_row w.cleaning.row w.cleaning.bucket s).next word) goes.table (known.0 ∙ sym (lock_beside p i text w.cleaning.row w.cleaning.bucket s word).level)
    (lock_next t m m' p f i text w.cleaning.row w.cleaning.bucket s table (sound.step i)
    (lock_backs t m p f i text w.cleaning.row w.cleaning.bucket s (sound.step i) (quiet_used p.now f w.cleaning.row w.cleaning.bucket owner.at_stage known.0 sound.cleaning.bucket)) made)
    (lock_waits m m' p i text w.cleaning.row w.cleaning.bucket s word w.cleaning.waiting.items made known.1)
cleans_on_with t m m' p f i text w (clean.Pass s) table sound owner made goes not_last known =
    let word = found (pass_row w.cleaning s).step m in
    let came = (pass_row w.cleaning s).next word in
    cleans_passed m' (past_by p i text (pass_row w.cleaning s).step m) (flow_of p f i text (pass_row w.cleaning s).step m) i w came.0 came.1
    ((pass_same_bucket w.cleaning s word).0 ∙ known.0 ∙ sym (pass_beside p i text w.cleaning s word).level) (pass_next t m m' p f i text w.cleaning s table known.1 known.2 made)
cleans_on_with t m m' p f i text w clean.UnlockHead table sound owner made goes not_last known =
    cleans_next m' (told p i (Some (what.Unlock w.cleaning.row w.cleaning.bucket))) (flow_of p f i text (clean_row t.shape w clean.UnlockHead).step m) i w known.0
    (unlock_waits m m' p i w.cleaning.row w.cleaning.bucket w.cleaning.first w.cleaning.waiting.items made known.2)
cleans_on_with t m m' p f i text w (clean.Grace freeing s) table sound owner made goes not_last known =
    let word = found (grace_row t.shape.seats w.grace s).step m in
    let came = (grace_row t.shape.seats w.grace s).next word in
    cleans_graced m' (past_by p i text (grace_row t.shape.seats w.grace s).step m) (flow_of p f i text (grace_row t.shape.seats w.grace s).step m) i w freeing came.0 (counts_grace s w.graces) came.1
    (known.0 ∙ sym (grace_beside p i text t.shape.seats w.grace s word).level) (grace_knows_waited t m m' p f i text w.cleaning.waiting.items w.grace s table made known.1)
cleans_on_with t m m' p f i text w (clean.Free freeing s) table sound owner made goes not_last known =
    let word = found (free_row w.cleaning s).step m in
    let came = (free_row w.cleaning s).next word in
    let (row, freed) = free_next t m m' p i text w.cleaning s table.slots sound.at made known.1 in
    cleans_freed m' (past_by p i text (free_row w.cleaning s).step m) (flow_of p f i text (free_row w.cleaning s).step m) i t.shape (record w { cleaning = came.0 }) freeing came.1
    (row ∙ known.0 ∙ sym (free_beside p i text w.cleaning s word).level) freed
cleans_on_with t m m' p f i text w clean.GiveResizeLock table sound owner made goes not_last known = absurd (not_last refl)

-- a work that has not ended is left
pub left_knows : (m : Memory) (p : Past) (f : Flow) (i : ℕ) (w : Work) (a : Option Answer) → KnowsWork m p f i w → IfSome (work_left w a) (KnowsWork m p f i)
left_knows m p f i w None known = known
left_knows m p f i w (Some (answer.Done worked)) known = tt
left_knows m p f i w (Some a) known = known

-- what the work that is left knows after a step
abbrev pub KnowsWorkLeft : Memory → Past → Flow → ℕ → Went → Type 0
KnowsWorkLeft m p f i came = IfSome (work_left (of_clean came).0 (of_clean came).1) (KnowsWork m p f i)

-- the seat has the resize lock still, and there is no resize
cleans_resizing : (t : Table) (m : Memory) (p : Past) (f : Flow) (i : ℕ) (text : List ℕ) (w : CleanAlong) (s : CleanStage) → IsTable t m p f → IsSoundClean t.shape w s
    → Resizing p.now f i p.now.level Quiet NoHead → KnowsCleaning m p f i w s → s ≢ clean.GiveResizeLock
    → Resizing (past_by p i text (clean_row t.shape w s).step m).now (flow_of p f i text (clean_row t.shape w s).step m) i (past_by p i text (clean_row t.shape w s).step m).now.level Quiet NoHead
cleans_resizing t m p f i text w s table sound owner known not_last =
    let p' : Past = past_by p i text (clean_row t.shape w s).step m in
    let f' : Flow = flow_of p f i text (clean_row t.shape w s).step m in
    let beside : IsSameBeside p p' = clean_beside p i text t.shape w s (found (clean_row t.shape w s).step m) not_last in
    let kept = leaves_free s sound known not_last in
    subst (λ (level : ℕ). Resizing p'.now f' i level Quiet NoHead) (sym beside.level)
    (resizing_on p.now p'.now f f' i p.now.level Quiet NoHead (beside.owner ∙ owner.owner) beside.level kept.0 kept.1 owner)
  where
    exchanged : (row bucket : ℕ) → IsUsed p.now f row bucket → (b : Bool) (r c : ℕ) → ¬ (IsUsed p.now f r c) → p.now.lock r c ≡ None
        → (told p i (if b then Some (what.Lock row bucket) else None)).now.lock r c ≡ None
    exchanged row bucket used false r c unused none = none
    exchanged row bucket used true r c unused none = elim (bucket_cases row bucket r c) [
      | inl same ↦ absurd (unused (subst (λ (x : ℕ). IsUsed p.now f x c) (sym same.0) (subst (IsUsed p.now f row) (sym same.1) used)))
      | inr differ ↦ lock_elsewhere p.now.lock row bucket (Some i) r c differ ∙ none
    ]

    stays_quiet : (level row bucket : ℕ) (st : Stage) → st ≡ Quiet → stage_unlocked level row bucket st ≡ st
    stays_quiet level row bucket st quiet = ap (stage_unlocked level row bucket) quiet ∙ sym quiet

    leaves_free : (s : CleanStage) → IsSoundClean t.shape w s → KnowsCleaning m p f i w s → s ≢ clean.GiveResizeLock
        → ((flow_of p f i text (clean_row t.shape w s).step m).stage ≡ f.stage)
        × ((r c : ℕ) → ¬ (IsUsed p.now f r c) → p.now.lock r c ≡ None → (past_by p i text (clean_row t.shape w s).step m).now.lock r c ≡ None)
    leaves_free clean.LoadLevel sound known not_last = (refl, λ r c unused none. none)
    leaves_free (clean.Lock lock.LoadHead) sound known not_last = (refl, λ r c unused none. none)
    leaves_free (clean.Lock (lock.LockHead head)) sound known not_last = (
      refl,
      exchanged w.cleaning.row w.cleaning.bucket (quiet_used p.now f w.cleaning.row w.cleaning.bucket owner.at_stage known.0 sound.cleaning.bucket)
          (m (place.Head w.cleaning.row w.cleaning.bucket) == head),
    )
    leaves_free (clean.Pass (pass.LoadCount x)) sound known not_last = (refl, λ r c unused none. none)
    leaves_free (clean.Pass (pass.LoadLink x None)) sound known not_last = (refl, λ r c unused none. none)
    leaves_free (clean.Pass (pass.LoadLink x (Some g))) sound known not_last = (refl, λ r c unused none. none)
    leaves_free (clean.Pass (pass.Unlink x g next)) sound known not_last = (refl, λ r c unused none. none)
    leaves_free clean.UnlockHead sound known not_last = (
      stays_quiet p.now.level w.cleaning.row w.cleaning.bucket f.stage owner.at_stage,
      λ r c unused none. elim (bucket_cases w.cleaning.row w.cleaning.bucket r c) [
        | inl same ↦ lock_here p.now.lock w.cleaning.row w.cleaning.bucket None r c same.0 same.1
        | inr differ ↦ lock_elsewhere p.now.lock w.cleaning.row w.cleaning.bucket None r c differ ∙ none
      ],
    )
    leaves_free (clean.Grace freeing grace.RaiseCounter) sound known not_last = (refl, λ r c unused none. none)
    leaves_free (clean.Grace freeing grace.LoadSection) sound known not_last = (refl, λ r c unused none. none)
    leaves_free (clean.Free freeing (free.PutNextGeneration at)) sound known not_last = (refl, λ r c unused none. none)
    leaves_free (clean.Free freeing (free.FreeSlot at)) sound known not_last = (refl, λ r c unused none. none)
    leaves_free clean.GiveResizeLock sound known not_last = absurd (not_last refl)

cleans_goes_on : (t : Table) (m m' : Memory) (p : Past) (f : Flow) (i : ℕ) (text : List ℕ) (w : CleanAlong) (s : CleanStage) → IsTable t m p f → IsSoundClean t.shape w s → Resizing p.now f i p.now.level Quiet NoHead
    → IsMade (clean_row t.shape w s).step m m' → Goes t m p f i text (clean_row t.shape w s).step m' → KnowsCleaning m p f i w s → s ≢ clean.GiveResizeLock
    → KnowsWorkLeft m' (past_by p i text (clean_row t.shape w s).step m) (flow_of p f i text (clean_row t.shape w s).step m) i ((clean_row t.shape w s).next (found (clean_row t.shape w s).step m))
cleans_goes_on t m m' p f i text w s table sound owner made goes known not_last =
    let word = found (clean_row t.shape w s).step m in
    let came = (clean_row t.shape w s).next word in
    left_knows m' (past_by p i text (clean_row t.shape w s).step m) (flow_of p f i text (clean_row t.shape w s).step m) i (of_clean came).0 (of_clean came).1
    (cleans_resizing t m p f i text w s table sound owner known not_last, cleans_on_with t m m' p f i text w s table sound owner made goes not_last known)

-- what is known after a step: what the work that is left knows
pub clean_next : (t : Table) (m m' : Memory) (p : Past) (f : Flow) (i : ℕ) (text : List ℕ) (w : CleanAlong) (s : CleanStage) → IsTable t m p f → IsSoundClean t.shape w s → Resizing p.now f i p.now.level Quiet NoHead
    → IsMade (clean_row t.shape w s).step m m' → Goes t m p f i text (clean_row t.shape w s).step m' → KnowsCleaning m p f i w s
    → KnowsWorkLeft m' (past_by p i text (clean_row t.shape w s).step m) (flow_of p f i text (clean_row t.shape w s).step m) i ((clean_row t.shape w s).next (found (clean_row t.shape w s).step m))
clean_next t m m' p f i text w clean.LoadLevel table sound owner made goes known = cleans_goes_on t m m' p f i text w clean.LoadLevel table sound owner made goes known (λ e. cc)
clean_next t m m' p f i text w (clean.Lock s) table sound owner made goes known = cleans_goes_on t m m' p f i text w (clean.Lock s) table sound owner made goes known (λ e. cc)
clean_next t m m' p f i text w (clean.Pass s) table sound owner made goes known = cleans_goes_on t m m' p f i text w (clean.Pass s) table sound owner made goes known (λ e. cc)
clean_next t m m' p f i text w clean.UnlockHead table sound owner made goes known = cleans_goes_on t m m' p f i text w clean.UnlockHead table sound owner made goes known (λ e. cc)
clean_next t m m' p f i text w (clean.Grace freeing s) table sound owner made goes known = cleans_goes_on t m m' p f i text w (clean.Grace freeing s) table sound owner made goes known (λ e. cc)
clean_next t m m' p f i text w (clean.Free freeing s) table sound owner made goes known = cleans_goes_on t m m' p f i text w (clean.Free freeing s) table sound owner made goes known (λ e. cc)
clean_next t m m' p f i text w clean.GiveResizeLock table sound owner made goes known = tt
