-- The stages of a sweep: what each knows backs its step, and what is known after it.
use Rattle.std.proofs.Common.{◌≡◌, ℕ, ◌^◌, ◌≤◌, inl, refl, sym, ap, subst, ◌∙◌, arith, cond, Bool, true, false, List, [], ◌∷◌, Option, Some, None}
use Rattle.std.specs.Prelude.{nat_le, if◌then◌else◌}
use Rattle.marked_word.specs.Head.{is_locked, is_redirected}
use Rattle.table_shape.specs.declared.place.Place.TheVariants as place
use Rattle.table_shape.specs.declared.shape.Shape.{Shape}
use Rattle.intern_log.specs.declared.event.What.TheVariants as what
use Rattle.intern_log.specs.Now.{Now, OpenSection}
use Rattle.atomic_step.specs.declared.answer.Answer.TheVariants as answer
use Rattle.atomic_step.specs.declared.step.Step.TheVariants as step
use Rattle.atomic_step.specs.SoundStep.{IsSoundStep}
use Rattle.call_machine.specs.declared.enter.EnterStage.TheVariants as enter
use Rattle.call_machine.specs.declared.find.FindStage.{FindStage}
use Rattle.call_machine.specs.declared.find.FindStage.TheVariants as find
use Rattle.call_machine.specs.declared.find.Walk.{Walk}
use Rattle.call_machine.specs.declared.grace.Grace.{Grace}
use Rattle.call_machine.specs.declared.grace.Gracing.{Gracing}
use Rattle.call_machine.specs.declared.grace.Gracing.TheVariants as gracing
use Rattle.call_machine.specs.declared.lock.LockStage.TheVariants as lock
use Rattle.call_machine.specs.declared.lock.Locking.{Locking}
use Rattle.call_machine.specs.declared.lock.Locking.TheVariants as locking
use Rattle.call_machine.specs.declared.pass.Cleaning.{Cleaning}
use Rattle.call_machine.specs.declared.pass.FreeStage.{FreeStage}
use Rattle.call_machine.specs.declared.pass.PassStage.{PassStage}
use Rattle.call_machine.specs.declared.pass.Waiting.{Waiting}
use Rattle.call_machine.specs.declared.sweep.Closing.{Closing}
use Rattle.call_machine.specs.declared.sweep.Closing.TheVariants as closing
use Rattle.call_machine.specs.declared.sweep.SweepAlong.{SweepAlong}
use Rattle.call_machine.specs.declared.sweep.SweepAsked.{SweepAsked}
use Rattle.call_machine.specs.declared.sweep.SweepStage.{SweepStage}
use Rattle.call_machine.specs.declared.sweep.SweepStage.TheVariants as sweep
use Rattle.call_machine.specs.Find.{find_row}
use Rattle.call_machine.specs.Grace.{grace_row}
use Rattle.call_machine.specs.Lock.{lock_row}
use Rattle.call_machine.specs.Pass.{pass_row, free_row, passes_on}
use Rattle.call_machine.specs.SoundSweep.{IsSoundSweepAt}
use Rattle.call_machine.specs.Sweep.{sweep_turn, checked, finds_anew, finds_on, locks_on, closed, cleans_on, unlocked, graces_on, frees_on}
use Rattle.cht_core.specs.declared.table.Table.{Table}
use Rattle.cht_core.specs.Backs.{Backs, Goes}
use Rattle.cht_core.specs.Flow.{Flow, IsUsed}
use Rattle.cht_core.specs.KnowsCall.{KnowsFind, IsAtHead}
use Rattle.cht_core.specs.KnowsWork.{Locked, KnowsWaiting, KnowsSweep}
use Rattle.cht_core.specs.Memory.{Memory, IsMade, found}
use Rattle.cht_core.specs.Past.{Past, told}
use Rattle.cht_core.specs.Search.{IsInside, IsOutside}
use Rattle.cht_core.specs.TableState.{IsTable}
use Rattle.cht_core.proofs.Basics.{after_load, with_here}
use Rattle.cht_core.proofs.FindStages.{head_loaded, plain_used, sent_from, new_head_comes, new_level_named, new_level_at}
use Rattle.cht_core.proofs.FreeStages.{KnowsFreed, free_backs, free_next}
use Rattle.cht_core.proofs.GraceStages.{CanRaise, KnowsScannedFor, grace_backs, grace_knows_waited}
use Rattle.cht_core.proofs.LockStages.{KnowsLocking, lock_next, unlock_waits, lock_beside, pass_beside}
use Rattle.cht_core.proofs.PassBacks.{KnowsCame, pass_backs, pass_begins}
use Rattle.cht_core.proofs.PassStages.{pass_next}
use Rattle.cht_core.proofs.Turns.{IfMakes, past_by, flow_of}
use Rattle.cht_core.proofs.Waits.{none_wait}
use Rattle.cht_core.proofs.WorkBeside.{outside_beside, grace_beside, free_beside}

-- what the steps need that find the head of a hash
pub find_backs : (t : Table) (m : Memory) (p : Past) (f : Flow) (i : ℕ) (text : List ℕ) (number hash : ℕ) (walk : Walk) (s : FindStage) → IsTable t m p f
    → KnowsFind m p.now f i hash walk s → Backs t m p f i text (find_row number hash walk s).step
find_backs t m p f i text number hash walk (find.Enter enter.LoadCounter) table known = tt
find_backs t m p f i text number hash walk (find.Enter (enter.OpenSection counter)) table known = known
find_backs t m p f i text number hash walk find.LoadLevel table known = tt
find_backs t m p f i text number hash walk find.LoadHead table known = tt
find_backs t m p f i text number hash walk find.LoadNewLevel table known = new_level_named t m p f table i hash walk known
find_backs t m p f i text number hash walk find.LoadNewHead table known = tt

-- what is known of the next stage, or of the head that was found
abbrev pub KnowsFound : Memory → Now → Flow → ℕ → ℕ → Walk → Option FindStage → Type 0
KnowsFound m n f i hash walk (Some s) = KnowsFind m n f i hash walk s
KnowsFound m n f i hash walk None = IsAtHead n f i hash walk × (is_redirected walk.head ≡ false)

-- after a step that finds the head of a hash
pub find_knows : (t : Table) (m m' : Memory) (p : Past) (f : Flow) (i : ℕ) (text : List ℕ) (number hash : ℕ) (walk : Walk) (s : FindStage) → IsTable t m p f
    → IsMade (find_row number hash walk s).step m m' → KnowsFind m p.now f i hash walk s
    → let r = find_row number hash walk s in let came = r.next (found r.step m) in
    KnowsFound m' (past_by p i text r.step m).now (flow_of p f i text r.step m) i hash came.0 came.1
find_knows t m m' p f i text number hash walk (find.Enter enter.LoadCounter) table made known =
    (known, subst (λ (now : Memory). m place.Counter ≤ now place.Counter) (sym (after_load step.LoadCounter m m' refl made)) (omega arith))
find_knows t m m' p f i text number hash walk (find.Enter (enter.OpenSection counter)) table made known =
    (record { place = p.now.place; counter = counter }, with_here p.now.section i (Some (record { place = p.now.place; counter = counter })) i refl)
find_knows t m m' p f i text number hash walk find.LoadLevel table made known = (known.0, known.1, inl table.heads.level, refl)
find_knows t m m' p f i text number hash walk find.LoadHead table made known =
    by_mark (is_redirected (m (place.Head walk.row walk.bucket))) refl
  where
    by_mark : (b : Bool) → is_redirected (m (place.Head walk.row walk.bucket)) ≡ b
        → KnowsFound m' p.now f i hash (record walk { head = m (place.Head walk.row walk.bucket) }) (cond b (Some find.LoadNewLevel) None)
    by_mark true is = (known.0, known.1, sent_from t m p f table i hash walk known is)
    by_mark false is = (known, is)
find_knows t m m' p f i text number hash walk find.LoadNewLevel table made known = new_level_at t m p f table i hash walk known
find_knows t m m' p f i text number hash walk find.LoadNewHead table made known =
    ((known.0, known.1, known.2, known.3), (head_loaded t m p f table i hash walk (new_head_comes t m p f table i hash walk known) known.3).0)

-- the head that was loaded without a mark may be locked, as long as it is the same
plain_locks : (t : Table) (m : Memory) (p : Past) (f : Flow) → IsTable t m p f → (i hash : ℕ) (walk : Walk) → IsAtHead p.now f i hash walk → is_redirected walk.head ≡ false
    → m (place.Head walk.row walk.bucket) ≡ walk.head → IsUsed p.now f walk.row walk.bucket
plain_locks t m p f table i hash walk at plain met = plain_used t m p f table i hash walk at (ap is_redirected met ∙ plain)

-- what the steps of a sweep need
pub sweep_backs : (t : Table) (m : Memory) (p : Past) (f : Flow) (i : ℕ) (text : List ℕ) (q : SweepAsked) (w : SweepAlong) (s : SweepStage) → IsTable t m p f → IsSoundSweepAt q w s
    → KnowsSweep m p f i q w s → IfMakes (λ does. CanRaise m does.step → Backs t m p f i text does.step) (sweep_turn q w s)
sweep_backs t m p f i text q w sweep.Check table sound known = λ may. tt
sweep_backs t m p f i text q w (sweep.Find s) table sound known = λ may. find_backs t m p f i text q.caller.number q.hash w.walk s table known
sweep_backs t m p f i text q w sweep.Lock table sound known = λ may. (known.1, plain_locks t m p f table i q.hash w.walk known.0 known.2)
sweep_backs t m p f i text q w (sweep.Close why) table sound known = λ may. known.0
sweep_backs t m p f i text q w (sweep.Pass s) table sound known = λ may. pass_backs t m p f i text w.cleaning s known.1
sweep_backs t m p f i text q w sweep.UnlockHead table sound known = λ may. inl known.1
sweep_backs t m p f i text q w (sweep.Grace s) table sound known = grace_backs t m p f i text q.caller.shape.seats w.grace s
sweep_backs t m p f i text q w (sweep.Free s) table sound known = λ may. free_backs t m p f i text w.cleaning s sound.at known.1
sweep_backs t m p f i text q w (sweep.Answered a) table sound known = tt

-- what is known of a sweep after a step
abbrev pub KnowsSwept : Memory → Past → Flow → ℕ → SweepAsked → SweepAlong × SweepStage → Type 0
KnowsSwept m p f i q at = KnowsSweep m p f i q at.0 at.1

-- the counter was looked at
sweep_checked : (m : Memory) (p : Past) (f : Flow) (i : ℕ) (q : SweepAsked) (w : SweepAlong) (word : ℕ) → IsOutside p.now i → KnowsSwept m p f i q (w, checked word)
sweep_checked m p f i q w word outside = by_test (nat_le (2 ^ 48) word)
  where
    by_test : (spent : Bool) → KnowsSwept m p f i q (w, if spent then sweep.Answered (answer.Spent word) else finds_anew)
    by_test true = outside
    by_test false = outside

-- the head is found, or is looked for still
sweep_found : (m : Memory) (p : Past) (f : Flow) (i : ℕ) (q : SweepAsked) (w : SweepAlong) (walk : Walk) (next : Option FindStage) → KnowsFound m p.now f i q.hash walk next
    → KnowsSwept m p f i q (record w { walk = walk }, finds_on walk.head next)
sweep_found m p f i q w walk (Some s) known = known
sweep_found m p f i q w walk None known = by_test (is_locked walk.head) refl
  where
    by_test : (locked : Bool) → is_locked walk.head ≡ locked → KnowsSwept m p f i q (record w { walk = walk }, if locked then sweep.Close closing.Again else sweep.Lock)
    by_test true is = ((known.0.0, known.0.1), tt)
    by_test false is = (known.0, is, known.1)

-- the bucket is locked, or another has its lock
sweep_locked : (m : Memory) (p : Past) (f : Flow) (i : ℕ) (q : SweepAsked) (w : SweepAlong) (came : Locking) → IsInside p.now i → KnowsLocking m p.now f i w.walk.row w.walk.bucket came
    → KnowsSwept m p f i q (locks_on w came)
sweep_locked m p f i q w (locking.Goes s) inside known = (inside, tt)
sweep_locked m p f i q w locking.Waits inside known = (inside, tt)
sweep_locked m p f i q w (locking.Locked first) inside known = (inside, (known, refl))

-- at the next node of the locked bucket, or at its end
sweep_passed : (m : Memory) (p : Past) (f : Flow) (i : ℕ) (q : SweepAsked) (w : SweepAlong) (c : Cleaning) (next : Option PassStage) → IsOutside p.now i → KnowsCame m p.now f i c next
    → KnowsWaiting m p i c.waiting.items → KnowsSwept m p f i q (record w { cleaning = c }, cleans_on next)
sweep_passed m p f i q w c None outside came waiting = (outside, came, waiting)
sweep_passed m p f i q w c (Some s) outside came waiting = (outside, came, waiting)

-- the section was closed
sweep_closed : (t : Table) (m m' : Memory) (p : Past) (f : Flow) (i : ℕ) (q : SweepAsked) (w : SweepAlong) (why : Closing) → IsTable t m' (told p i (Some what.Close)) f
    → IsMade (step.CloseSection q.caller.number) m m' → w.cleaning.waiting.items ≡ [] → KnowsSweep m p f i q w (sweep.Close why)
    → KnowsSwept m' (told p i (Some what.Close)) f i q (w, closed w.cleaning why)
sweep_closed t m m' p f i q w closing.Again table made none known = with_here p.now.section i None i refl
sweep_closed t m m' p f i q w closing.Clean table made none known =
    let p' : Past = told p i (Some what.Close) in
    let locked : Locked m' p'.now f i w.cleaning.row w.cleaning.bucket w.cleaning.first =
    record { used = known.1.0.used; unpinned = known.1.0.unpinned; lock = known.1.0.lock; head = made.there (place.Head w.cleaning.row w.cleaning.bucket) (λ same. cc) ∙ known.1.0.head } in
    sweep_passed m' p' f i q w w.cleaning (passes_on w.cleaning.first) (with_here p.now.section i None i refl) (pass_begins t m' p' f i w.cleaning table locked known.1.1)
    (none_wait m' p' i w.cleaning.waiting.items none)

-- the bucket was unlocked
sweep_unlocked : (m : Memory) (p : Past) (f : Flow) (i : ℕ) (q : SweepAsked) (w : SweepAlong) (xs : List Waiting) → IsOutside p.now i → KnowsWaiting m p i w.cleaning.waiting.items
    → KnowsSwept m p f i q (w, unlocked w.cleaning xs)
sweep_unlocked m p f i q w [] outside waiting = outside
sweep_unlocked m p f i q w (x ∷ xs) outside waiting = (outside, waiting)

-- what came of a step of the grace
sweep_graced : (m : Memory) (p : Past) (f : Flow) (i : ℕ) (q : SweepAsked) (w : SweepAlong) (g : Grace) (gracing : Gracing) → IsOutside p.now i
    → KnowsScannedFor m p i w.cleaning.waiting.items g gracing → KnowsSwept m p f i q (record w { grace = g }, graces_on gracing)
sweep_graced m p f i q w g gracing.Goes outside came = (outside, came)
sweep_graced m p f i q w g gracing.Waits outside came = (outside, came)
sweep_graced m p f i q w g gracing.Over outside came = (outside, came)

-- what came of a slot that was freed
sweep_freed : (m : Memory) (p : Past) (f : Flow) (i : ℕ) (q : SweepAsked) (w : SweepAlong) (c : Cleaning) (next : Option FreeStage) → IsOutside p.now i → KnowsFreed m p i c next
    → KnowsSwept m p f i q (record w { cleaning = c }, frees_on c next)
sweep_freed m p f i q w c (Some s) outside came = (outside, came)
sweep_freed m p f i q w c None outside came = outside

-- what is known after a step
pub sweep_next : (t : Table) (m m' : Memory) (p : Past) (f : Flow) (i : ℕ) (text : List ℕ) (q : SweepAsked) (w : SweepAlong) (s : SweepStage) → IsTable t m p f → q.caller.shape ≡ t.shape
    → q.caller.number ≡ i → IsSoundSweepAt q w s → KnowsSweep m p f i q w s
    → IfMakes (λ does. IsMade does.step m m' → Goes t m p f i text does.step m' →
    KnowsSwept m' (past_by p i text does.step m) (flow_of p f i text does.step m) i q (does.next (found does.step m))) (sweep_turn q w s)
sweep_next t m m' p f i text q w sweep.Check table shape number sound known = λ made goes. sweep_checked m' p f i q w (m place.Counter) known
sweep_next t m m' p f i text q w (sweep.Find s) table shape number sound known = λ made goes.
    let r = find_row q.caller.number q.hash w.walk s in
    let came = r.next (found r.step m) in
    sweep_found m' (past_by p i text r.step m) (flow_of p f i text r.step m) i q w came.0 came.1 (find_knows t m m' p f i text q.caller.number q.hash w.walk s table made known)
sweep_next t m m' p f i text q w sweep.Lock table shape number sound known = λ made goes.
    let r = lock_row w.walk.row w.walk.bucket (lock.LockHead w.walk.head) in
    let plan : IsSoundStep t.shape i r.step = subst (λ (k : Shape). IsSoundStep k i r.step) shape (subst (λ (k : ℕ). IsSoundStep q.caller.shape k r.step) number sound.plan) in
    let inside : IsInside (past_by p i text r.step m).now i =
    (known.0.0, ap (λ (section : ℕ → Option OpenSection). section i) (lock_beside p i text w.walk.row w.walk.bucket (lock.LockHead w.walk.head) (found r.step m)).section ∙ known.0.1) in
    sweep_locked m' (past_by p i text r.step m) (flow_of p f i text r.step m) i q w (r.next (found r.step m)) inside
    (lock_next t m m' p f i text w.walk.row w.walk.bucket (lock.LockHead w.walk.head) table plan (known.1, plain_locks t m p f table i q.hash w.walk known.0 known.2) made)
sweep_next t m m' p f i text q w (sweep.Close why) table shape number sound known = λ made goes. sweep_closed t m m' p f i q w why goes.table made sound.at known
sweep_next t m m' p f i text q w (sweep.Pass s) table shape number sound known = λ made goes.
    let r = pass_row w.cleaning s in
    let came = r.next (found r.step m) in
    let passed = pass_next t m m' p f i text w.cleaning s table known.1 known.2 made in
    sweep_passed m' (past_by p i text r.step m) (flow_of p f i text r.step m) i q w came.0 came.1 (outside_beside i (pass_beside p i text w.cleaning s (found r.step m)) known.0) passed.0 passed.1
sweep_next t m m' p f i text q w sweep.UnlockHead table shape number sound known = λ made goes.
    sweep_unlocked m' (told p i (Some (what.Unlock w.cleaning.row w.cleaning.bucket)))
    (flow_of p f i text (step.UnlockHead w.cleaning.row w.cleaning.bucket w.cleaning.first) m) i q w w.cleaning.waiting.items known.0
    (unlock_waits m m' p i w.cleaning.row w.cleaning.bucket w.cleaning.first w.cleaning.waiting.items made known.2)
sweep_next t m m' p f i text q w (sweep.Grace s) table shape number sound known =
    subst (λ (k : Shape). let r = grace_row k.seats w.grace s in let came = r.next (found r.step m) in IsMade r.step m m' → Goes t m p f i text r.step m' →
    KnowsSwept m' (past_by p i text r.step m) (flow_of p f i text r.step m) i q (record w { grace = came.0 }, graces_on came.1)) (sym shape) (λ made goes.
    let r = grace_row t.shape.seats w.grace s in
    let came = r.next (found r.step m) in
    sweep_graced m' (past_by p i text r.step m) (flow_of p f i text r.step m) i q w came.0 came.1 (outside_beside i (grace_beside p i text t.shape.seats w.grace s (found r.step m)) known.0)
    (grace_knows_waited t m m' p f i text w.cleaning.waiting.items w.grace s table made known.1))
sweep_next t m m' p f i text q w (sweep.Free s) table shape number sound known = λ made goes.
    let r = free_row w.cleaning s in
    let came = r.next (found r.step m) in
    sweep_freed m' (past_by p i text r.step m) (flow_of p f i text r.step m) i q w came.0 came.1 (outside_beside i (free_beside p i text w.cleaning s (found r.step m)) known.0)
    (free_next t m m' p i text w.cleaning s table.slots sound.at made known.1).1
sweep_next t m m' p f i text q w (sweep.Answered a) table shape number sound known = tt
