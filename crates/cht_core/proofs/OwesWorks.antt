-- What a step of a clean or a sweep makes of what its seat has.
use Rattle.std.proofs.Common.{◌≡◌, ℕ, ◌+◌, ◌≤◌, ◌^◌, ◌⊎◌, inl, inr, Bool, true, false, cond, List, [], ◌∷◌, Option, Some, None, refl, sym, ap, subst, ◌∙◌, arith, rules}
use Rattle.std.specs.Option.{option_to_list}
use Rattle.std.specs.Prelude.{nat_lt, IfSome}
use Rattle.std.proofs.lemmas.Bool.{ltb-false}
use Rattle.intern_log.specs.declared.event.What.{What}
use Rattle.intern_log.specs.declared.event.What.TheVariants as what
use Rattle.table_shape.specs.declared.shape.Shape.{Shape}
use Rattle.atomic_step.specs.declared.answer.Answer.{Answer}
use Rattle.atomic_step.specs.declared.answer.Answer.TheVariants as answer
use Rattle.atomic_step.specs.declared.answer.Worked.{Worked}
use Rattle.atomic_step.specs.declared.step.Step.{Step}
use Rattle.atomic_step.specs.Event.{event_of}
use Rattle.atomic_step.specs.Monitor.{after_one}
use Rattle.atomic_step.specs.Turn.{event_by}
use Rattle.call_machine.specs.declared.caller.Caller.{Caller}
use Rattle.call_machine.specs.declared.clean.Clean.{Clean}
use Rattle.call_machine.specs.declared.clean.CleanAlong.{CleanAlong}
use Rattle.call_machine.specs.declared.clean.CleanStage.{CleanStage}
use Rattle.call_machine.specs.declared.clean.CleanStage.TheVariants as clean
use Rattle.call_machine.specs.declared.machine.Machine.TheVariants as machine
use Rattle.call_machine.specs.declared.pass.Cleaning.{Cleaning}
use Rattle.call_machine.specs.declared.pass.PassStage.{PassStage}
use Rattle.call_machine.specs.declared.pass.PassStage.TheVariants as pass
use Rattle.call_machine.specs.declared.sweep.SweepAlong.{SweepAlong}
use Rattle.call_machine.specs.declared.sweep.SweepAsked.{SweepAsked}
use Rattle.call_machine.specs.declared.sweep.Sweeping.{Sweeping}
use Rattle.call_machine.specs.declared.sweep.SweepStage.{SweepStage}
use Rattle.call_machine.specs.declared.sweep.SweepStage.TheVariants as sweep
use Rattle.call_machine.specs.declared.work.Work.{Work}
use Rattle.call_machine.specs.declared.work.Work.TheVariants as work
use Rattle.call_machine.specs.Clean.{Went, clean_row}
use Rattle.call_machine.specs.Pass.{pass_row}
use Rattle.call_machine.specs.Poll.{polling, poll_got, poll_event, work_left}
use Rattle.call_machine.specs.SoundClean.{IsSoundAt}
use Rattle.call_machine.specs.SoundPoll.{FitsPoll}
use Rattle.call_machine.specs.SoundSweep.{IsSoundSweep, FitsSweep}
use Rattle.call_machine.specs.Sweep.{plan_at, sweep_got, sweep_event}
use Rattle.call_machine.specs.WholeClean.{IsCleanEvent, locked_at, to_come, slots_of, still_waiting, due_in_pass, due_at}
use Rattle.call_machine.specs.WholeSweep as sweeps
use Rattle.call_machine.specs.Work.{of_clean, IsSoundWork}
use Rattle.call_machine.specs.WorkMonitor as monitor
use Rattle.call_machine.proofs.CleanFollows as cleans_follow
use Rattle.call_machine.proofs.Quiet.{IsAway, lock_quiet, pass_quiet, free_quiet, grace_quiet}
use Rattle.call_machine.proofs.SweepFollows as sweeps_follow
use Rattle.cht_core.specs.declared.seat.Seat.TheVariants as doing
use Rattle.cht_core.specs.declared.table.Table.{Table}
use Rattle.cht_core.specs.Flow.{Flow}
use Rattle.cht_core.specs.KnowsWork.{KnowsPass, KnowsCleaning, KnowsWork, KnowsSweep}
use Rattle.cht_core.specs.Memory.{Memory}
use Rattle.cht_core.specs.Owes.{Owes, waiting_of_work, locked_in_work}
use Rattle.cht_core.specs.Past.{Past, told}
use Rattle.cht_core.specs.Slots.{Slots}
use Rattle.cht_core.proofs.OwesCalls.{HasAtMost}
use Rattle.cht_core.proofs.OwesResize.{resize_has}
use Rattle.cht_core.proofs.OwesKept.{UnlinkedAtMost, LockedAtMost, HasNoClaim, claimed_stays, waits_after, never_waits, locked_after}

-- the event that is due is the one that was made, or none where a slot was unlinked that was used 2^48 times
abbrev pub IsDue : Past → Option What → Option What → Type 0
IsDue p e due = (due ≡ e) ⊎ ((slot : ℕ) × (e ≡ Some (what.Unlink slot)) × (due ≡ None) × (2 ^ 48 ≤ p.uses slot))

-- after an event those that the seat has unlinked wait in the queue that the due event leaves
waits_due : (p : Past) (i : ℕ) (e due : Option What) (waiting after : List ℕ) → UnlinkedAtMost p i waiting → IsDue p e due → after_one monitor.queue waiting due ≡ Some after
    → UnlinkedAtMost (told p i e) i after
waits_due p i e due waiting after had is came = elim is [
  | inl same ↦ waits_after p i e waiting after had (ap (after_one monitor.queue waiting) (sym same) ∙ came)
  | inr last ↦
      let (slot, unlinks, none, used) = last in
      let stays : Some waiting ≡ Some after = sym (ap (after_one monitor.queue waiting) none) ∙ came in
      let same : waiting ≡ after = cc in
      subst (λ (what : Option What). UnlinkedAtMost (told p i what) i after) (sym unlinks) (subst (UnlinkedAtMost (told p i (Some (what.Unlink slot))) i) same (never_waits p i slot waiting used had))
]

-- a dead node of the last generation was used 2^48 times
used_up : (generation of_handle uses bound : ℕ) → bound ≤ generation + 1 → of_handle ≡ generation → of_handle + 1 ≤ uses → bound ≤ uses
used_up generation of_handle uses bound last same used = omega (arith, last, same, used)

-- in a pass
pass_due : (t : Table) (m : Memory) (p : Past) (f : Flow) (i : ℕ) (c : Cleaning) (s : PassStage) (word : ℕ) → Slots t m p → KnowsPass m p.now f i c s
    → IsDue p (event_of [] (pass_row c s).step word) (due_in_pass s)
pass_due t m p f i c (pass.LoadCount x) word slots known = inl refl
pass_due t m p f i c (pass.LoadLink x None) word slots known = inl refl
pass_due t m p f i c (pass.LoadLink x (Some g)) word slots known = inl refl
pass_due t m p f i c (pass.Unlink x g next) word slots known =
    let (text, h, born, linked, same, gone) = known.1 in
    by_test (nat_lt (g + 1) (2 ^ 48)) refl (λ last. used_up g h.generation (p.uses x) (2 ^ 48) last same (slots.used x text h born linked))
  where
    by_test : (below : Bool) → nat_lt (g + 1) (2 ^ 48) ≡ below → (2 ^ 48 ≤ g + 1 → 2 ^ 48 ≤ p.uses x) → IsDue p (Some (what.Unlink x)) (cond below (Some (what.Unlink x)) None)
    by_test true is used = inl refl
    by_test false is used = inr (x, refl, refl, used (ltb-false (g + 1) (2 ^ 48) is))

clean_due : (t : Table) (m : Memory) (p : Past) (f : Flow) (i : ℕ) (shape : Shape) (w : CleanAlong) (s : CleanStage) (word : ℕ) → Slots t m p → KnowsCleaning m p f i w s
    → IsDue p (event_of [] (clean_row shape w s).step word) (due_at shape w s word)
clean_due t m p f i shape w (clean.Pass s) word slots known = pass_due t m p f i w.cleaning s word slots known.1
clean_due t m p f i shape w _ word slots known = inl refl

-- a clean claims no slot
clean_claims_none : (e : Option What) → IsCleanEvent e → HasNoClaim e
clean_claims_none None is = tt
clean_claims_none (Some (what.Claim s)) is = absurd is
clean_claims_none (Some _) is = tt

-- a clean leaves the resize lock alone but where it gives it back
clean_away : (shape : Shape) (w : CleanAlong) (s : CleanStage) → (s ≡ clean.GiveResizeLock → ⊥) → IsAway (clean_row shape w s).step
clean_away shape w clean.LoadLevel other = tt
clean_away shape w (clean.Lock s) other = (lock_quiet w.cleaning.row w.cleaning.bucket s).1
clean_away shape w (clean.Pass s) other = (pass_quiet w.cleaning s).1
clean_away shape w clean.UnlockHead other = tt
clean_away shape w (clean.Grace freeing s) other = (grace_quiet shape.seats w.grace s).1
clean_away shape w (clean.Free freeing s) other = (free_quiet w.cleaning s).1
clean_away shape w clean.GiveResizeLock other = absurd (other refl)

ends_stay : (s : Step) (word : ℕ) → IsAway s → after_one monitor.ends (what.ResizeGiven ∷ []) (event_of [] s word) ≡ Some (what.ResizeGiven ∷ [])
ends_stay s word is = search rules

-- a clean that is done has given the resize lock back
not_done : (shape : Shape) (w : CleanAlong) (s : CleanStage) (word : ℕ) (did : Worked) → IsSoundAt w.cleaning s → ((clean_row shape w s).next word).2 ≡ Some (answer.Done did)
    → (s ≡ clean.GiveResizeLock → ⊥) → ⊥
not_done shape w s word did at done other =
    let ends = ends_stay (clean_row shape w s).step word (clean_away shape w s other) in
    let clash : Some (what.ResizeGiven ∷ []) ≡ Some [] = sym ends ∙ (cleans_follow.follow_step shape w s word at).2 ∙ ap (λ a. Some (to_come a)) done in
    absurd (cc)

-- and so has locked no bucket, and no slot waits
abbrev NothingLeft : Went → Type 0
NothingLeft went = (still_waiting went.0.cleaning went.1 ≡ []) × (option_to_list (locked_at went.0.cleaning went.1) ≡ [])

done_leaves_nothing : (shape : Shape) (w : CleanAlong) (s : CleanStage) (word : ℕ) (did : Worked) → IsSoundAt w.cleaning s → ((clean_row shape w s).next word).2 ≡ Some (answer.Done did)
    → NothingLeft ((clean_row shape w s).next word)
done_leaves_nothing shape w clean.GiveResizeLock word did at done = (ap slots_of at, refl)
done_leaves_nothing shape w s word did at done = absurd (not_done shape w s word did at done (λ is. cc))

-- a clean that came of a step, as the work of its seat: it is no more where it is done
abbrev pub work_of_went : Went → Work
work_of_went went = (of_clean went).0

left_unlinked : (p : Past) (i : ℕ) (went : Went) → ((did : Worked) → went.2 ≡ Some (answer.Done did) → NothingLeft went) → UnlinkedAtMost p i (still_waiting went.0.cleaning went.1)
    → UnlinkedAtMost p i (waiting_of_work (work_left (work_of_went went) went.2))
left_unlinked p i (w, s, None) done has = has
left_unlinked p i (w, s, Some (answer.Done did)) done has = subst (UnlinkedAtMost p i) (done did refl).0 has
left_unlinked p i (w, s, Some _) done has = has

left_locked : (p : Past) (i : ℕ) (went : Went) → ((did : Worked) → went.2 ≡ Some (answer.Done did) → NothingLeft went) → LockedAtMost p i (option_to_list (locked_at went.0.cleaning went.1))
    → LockedAtMost p i (locked_in_work (work_left (work_of_went went) went.2))
left_locked p i (w, s, None) done has = has
left_locked p i (w, s, Some (answer.Done did)) done has = subst (LockedAtMost p i) (done did refl).1 has
left_locked p i (w, s, Some _) done has = has

-- after a step of a poll of a clean
clean_has : (t : Table) (m : Memory) (p : Past) (f : Flow) (i : ℕ) (caller : Caller) (c : Clean) (word : ℕ) → Slots t m p → IsSoundAt c.along.cleaning c.stage → KnowsCleaning m p f i c.along c.stage
    → Owes p i (doing.Running (machine.Poll (polling caller (work.Clean c, None))))
    → HasAtMost (told p i (poll_event (polling caller (work.Clean c, None)) word)) i (doing.Running (machine.Poll (poll_got (polling caller (work.Clean c, None)) word)))
clean_has t m p f i caller c word slots at known owes =
    let e : Option What = event_of [] (clean_row caller.shape c.along c.stage).step word in
    let due : Option What = due_at caller.shape c.along c.stage word in
    let went : Went = (clean_row caller.shape c.along c.stage).next word in
    let follows = cleans_follow.follow_step caller.shape c.along c.stage word at in
    let done : (did : Worked) → went.2 ≡ Some (answer.Done did) → NothingLeft went = λ did is. done_leaves_nothing caller.shape c.along c.stage word did at is in
    record {
      claimed = claimed_stays p i e None (clean_claims_none e (cleans_follow.events_law caller.shape c.along c.stage word)) owes.claimed;
      unlinked = left_unlinked (told p i e) i went done
          (waits_due p i e due (still_waiting c.along.cleaning c.stage) (still_waiting went.0.cleaning went.1) owes.unlinked (clean_due t m p f i caller.shape c.along c.stage word slots known) follows.3);
      locked = left_locked (told p i e) i went done (locked_after p i e (locked_at c.along.cleaning c.stage) (locked_at went.0.cleaning went.1) owes.locked follows.0);
    }

-- after a step of a poll; it has not answered
pub poll_has : (t : Table) (m : Memory) (p : Past) (f : Flow) (i : ℕ) (caller : Caller) (w : Work) (a : Option Answer) (word : ℕ) → Slots t m p → IsSoundWork caller.shape w
    → IfSome (work_left w a) (KnowsWork m p f i) → FitsPoll (polling caller (w, a)) word → Owes p i (doing.Running (machine.Poll (polling caller (w, a))))
    → HasAtMost (told p i (poll_event (polling caller (w, a)) word)) i (doing.Running (machine.Poll (poll_got (polling caller (w, a)) word)))
poll_has t m p f i caller w (Some a) word slots sound known fits owes = absurd fits
poll_has t m p f i caller (work.Resize r) None word slots sound known fits owes = resize_has m p f i caller r word sound known owes
poll_has t m p f i caller (work.Clean c) None word slots sound known fits owes = clean_has t m p f i caller c word slots sound.at known.1 owes

sweep_due : (t : Table) (m : Memory) (p : Past) (f : Flow) (i : ℕ) (q : SweepAsked) (w : SweepAlong) (s : SweepStage) (word : ℕ) → Slots t m p → KnowsSweep m p f i q w s
    → IsDue p (event_by [] (plan_at q w s) word) (sweeps.due_at s (event_by [] (plan_at q w s) word))
sweep_due t m p f i q w (sweep.Pass s) word slots known = pass_due t m p f i w.cleaning s word slots known.1
sweep_due t m p f i q w _ word slots known = inl refl

-- a sweep claims no slot
sweep_claims_none : (e : Option What) → sweeps.IsSweepEvent e → HasNoClaim e
sweep_claims_none None is = tt
sweep_claims_none (Some (what.Claim s)) is = absurd is
sweep_claims_none (Some _) is = tt

-- after a step of a sweep
pub sweep_has : (t : Table) (m : Memory) (p : Past) (f : Flow) (i : ℕ) (s : Sweeping) (word : ℕ) → Slots t m p → IsSoundSweep s → KnowsSweep m p f i s.asked s.along s.stage → FitsSweep s word
    → Owes p i (doing.Running (machine.Sweep s)) → HasAtMost (told p i (sweep_event s word)) i (doing.Running (machine.Sweep (sweep_got s word)))
sweep_has t m p f i s word slots sound known fits owes =
    let follows = sweeps_follow.follow_step s.asked s.along s.stage word sound.at fits in
    record {
      claimed = claimed_stays p i (sweep_event s word) None (sweep_claims_none (sweep_event s word) (sweeps_follow.events_law s word)) owes.claimed;
      unlinked = waits_due p i (sweep_event s word) (sweeps.due_event s word) (sweeps.waiting_slots s) (sweeps.waiting_slots (sweep_got s word)) owes.unlinked
          (sweep_due t m p f i s.asked s.along s.stage word slots known) follows.3;
      locked = locked_after p i (sweep_event s word) (sweeps.has_locked s) (sweeps.has_locked (sweep_got s word)) owes.locked follows.1;
    }
