-- Calls from their beginning to their answer.
use Rattle.std.proofs.Common.{◌≡◌, ◌∙◌, ◌≤◌, ◌*◌, ◌∷◌, ◌++◌, ℕ, true, false, Bool, Option, Some, None, refl, sym, ap, subst, cond, List, [], length}
use Rattle.std.specs.Prelude.{min}
use Rattle.std.specs.List.{filter}
use Rattle.std.proofs.lemmas.Bool.{ltb-false}
use Rattle.std.proofs.lemmas.List.{append-nil, append_assoc}
use native.Mathlib.Omega.{arith}
use Rattle.table_shape.specs.declared.shape.Shape.{Shape}
use Rattle.table_shape.specs.Shape.{IsSound}
use Rattle.intern_log.specs.declared.event.Handle.{Handle}
use Rattle.intern_log.specs.declared.event.Kind.{Kind}
use Rattle.intern_log.specs.declared.event.Kind.TheVariants.{Counted, Weak}
use Rattle.intern_log.specs.declared.event.What.{What}
use Rattle.intern_log.specs.Own.{is_visible}
use Rattle.atomic_step.specs.declared.answer.Answer.{Answer}
use Rattle.atomic_step.specs.declared.answer.Answer.TheVariants as answer
use Rattle.atomic_step.specs.declared.count.Change.{Change}
use Rattle.atomic_step.specs.declared.plan.Plan.TheVariants as plan
use Rattle.atomic_step.specs.declared.step.Step.{Step}
use Rattle.atomic_step.specs.Monitor.{after_one, after_all, section, slot, seen}
use Rattle.atomic_step.specs.Run.{AreFitting, after_words, events_of_words}
use Rattle.atomic_step.specs.SoundStep.{IsSoundStep, IsSoundPlan}
use Rattle.atomic_step.proofs.Choices.{where_it_is}
use Rattle.atomic_step.proofs.Runs.{keeps, follows}
use Rattle.call_machine.specs.declared.caller.Caller.{Caller}
use Rattle.call_machine.specs.declared.draw.DrawStage.TheVariants as draw
use Rattle.call_machine.specs.declared.enter.EnterStage.TheVariants.{LoadCounter}
use Rattle.call_machine.specs.declared.find.FindStage.TheVariants as find
use Rattle.call_machine.specs.declared.handle.HandleStage.TheVariants as handle
use Rattle.call_machine.specs.declared.leave.LeaveStage.TheVariants as leave
use Rattle.call_machine.specs.declared.leave.Then.TheVariants as next
use Rattle.call_machine.specs.declared.read.ReadStage.TheVariants as read
use Rattle.call_machine.specs.declared.stage.Along.{Along}
use Rattle.call_machine.specs.declared.stage.Asked.{Asked}
use Rattle.call_machine.specs.declared.stage.Calling.{Calling}
use Rattle.call_machine.specs.declared.stage.CallStage.{CallStage}
use Rattle.call_machine.specs.declared.stage.CallStage.TheVariants as stage
use Rattle.call_machine.specs.declared.stage.Goal.{Goal}
use Rattle.call_machine.specs.declared.stage.Goal.TheVariants.{Lookup, Intern, InternWait}
use Rattle.call_machine.specs.BeginCall.{begins, no_handle, too_long, begun_split, begun_change, AtEachBeginning}
use Rattle.call_machine.specs.Caller.{IsSoundCaller}
use Rattle.call_machine.specs.Calls.{plan_at, plan_of, got_of, event_of}
use Rattle.call_machine.specs.CallEvents.{stands_for, made_at, made_of}
use Rattle.call_machine.specs.CallSections.{is_inside_stage, is_inside, slot_of, slot_at, claimed_slot}
use Rattle.call_machine.specs.Read.{first_read}
use Rattle.call_machine.specs.SoundCall.{HasRoom, HasSoundStage, IsHandle, IsSoundAt, IsSoundCall, FitsCall}
use Rattle.call_machine.specs.Sought.{is_too_long}
use Rattle.call_machine.specs.WholeCall.{calls, LeadsTo, ShowsItsAnswer}
use Rattle.call_machine.proofs.CallEvents.{section_law, slot_law, made_law}
use Rattle.call_machine.proofs.SoundCall.{sound_law}

-- what holds of each first stage holds at each beginning
at_beginnings : (P : Calling → Type 0)
    → ((caller : Caller) → IsSoundCaller caller → P (begun_split caller))
    → ((caller : Caller) (goal : Goal) → IsSoundCaller caller → P (begins caller goal [] no_handle (stage.Answered (too_long goal))))
    → ((caller : Caller) (goal : Goal) (text : List ℕ) → IsSoundCaller caller → HasRoom caller.shape text → P (begins caller goal text no_handle (stage.Find (find.Enter LoadCounter))))
    → ((caller : Caller) (change : Change) (h : Handle) → IsSoundCaller caller → IsHandle caller.shape h → P (begun_change caller change h))
    → ((caller : Caller) (kind : Kind) (h : Handle) → IsSoundCaller caller → IsHandle caller.shape h → caller.kind ≡ kind → P (begins caller Lookup [] h (stage.Read (first_read kind))))
    → AtEachBeginning P
at_beginnings P split long walks changes reads caller goal text change h sound own = (
  split caller sound,
  where_it_is P (is_too_long caller.shape text) _ _ (λ e. long caller goal sound) (λ e. walks caller goal text sound (fits_room caller.shape text e)),
  changes caller change h sound own,
  reads caller caller.kind h sound own refl,
)
  where
    fits_room : (shape : Shape) (text : List ℕ) → is_too_long shape text ≡ false → HasRoom shape text
    fits_room shape text e = let small = ltb-false (min 65535 (8 * shape.text_words)) (length text) e in (omega (arith, small), omega (arith, small))

-- sound at the beginning
begins_soundly : (caller : Caller) (goal : Goal) (text : List ℕ) (h : Handle) (s : CallStage) → IsSoundCaller caller → HasRoom caller.shape text → IsHandle caller.shape h
    → IsSoundAt (begins caller goal text h s).asked (begins caller goal text h s).along s → IsSoundCall (begins caller goal text h s)
begins_soundly caller goal text h s sound room own at = record {
  asked = record { shape = sound.shape; seed = sound.seed; number = sound.number; room = room; handle = own };
  along = (sound.cursor, tt);
  at = at;
}

none_own : (shape : Shape) → IsSound shape → IsHandle shape no_handle
none_own shape sound = let some = sound.slots in (omega (arith, some), omega arith)

none_room : (shape : Shape) → HasRoom shape []
none_room shape = (omega arith, omega arith)

pub begins_law : AtEachBeginning IsSoundCall
begins_law = at_beginnings IsSoundCall
    (λ caller sound. begins_soundly caller Lookup [] no_handle (stage.Draw draw.Load) sound (none_room caller.shape) (none_own caller.shape sound.shape) ((tt, tt, tt, tt), refl))
    (λ caller goal sound. begins_soundly caller goal [] no_handle (stage.Answered (too_long goal)) sound (none_room caller.shape) (none_own caller.shape sound.shape) (tt, refl))
    (λ caller goal text sound room. begins_soundly caller goal text no_handle (stage.Find (find.Enter LoadCounter)) sound room (none_own caller.shape sound.shape) ((tt, tt, tt, tt), tt))
    (λ caller change h sound own. begins_soundly caller Lookup [] h (stage.Handle (handle.Count change)) sound (none_room caller.shape) own ((own.0, tt, tt, tt), refl))
    reads
  where
    reads : (caller : Caller) (kind : Kind) (h : Handle) → IsSoundCaller caller → IsHandle caller.shape h → caller.kind ≡ kind → IsSoundCall (begins caller Lookup [] h (stage.Read (first_read kind)))
    reads caller Counted h sound own is = begins_soundly caller Lookup [] h (stage.Read read.Meta) sound (none_room caller.shape) own ((own.0, tt, tt, tt), (refl, tt))
    reads caller Weak h sound own is = begins_soundly caller Lookup [] h (stage.Read (read.Enter LoadCounter)) sound (none_room caller.shape) own ((tt, tt, tt, tt), (refl, is))

pub sound_step_law : (c : Calling) (s : Step) → IsSoundCall c → plan_of c ≡ plan.Step s → IsSoundStep c.asked.shape c.asked.number s
sound_step_law c s sound is = subst (IsSoundPlan c.asked.shape c.asked.number) is sound.at.0

-- outside, without a slot, and with nothing shown
pub begins_outside : AtEachBeginning (λ c. is_inside c ≡ false)
begins_outside = at_beginnings (λ c. is_inside c ≡ false) (λ caller sound. refl) (λ caller goal sound. refl) (λ caller goal text sound room. refl) (λ caller change h sound own. refl) (λ caller kind h sound own is. reads caller.kind kind is)
  where
    reads : (own kind : Kind) → own ≡ kind → is_inside_stage own (stage.Read (first_read kind)) ≡ false
    reads own Counted is = ap (λ k. is_inside_stage k (stage.Read read.Meta)) is
    reads own Weak is = refl

pub begins_free : AtEachBeginning (λ c. claimed_slot c ≡ None)
begins_free = at_beginnings (λ c. claimed_slot c ≡ None) (λ caller sound. refl) (λ caller goal sound. refl) (λ caller goal text sound room. refl) (λ caller change h sound own. refl) (λ caller kind h sound own is. refl)

pub made_begins_law : AtEachBeginning (λ c. made_of c ≡ [])
made_begins_law = at_beginnings (λ c. made_of c ≡ []) (λ caller sound. refl) (λ caller goal sound. long caller goal) (λ caller goal text sound room. refl) (λ caller change h sound own. refl) (λ caller kind h sound own is. refl)
  where
    long : (caller : Caller) (g : Goal) → made_of (begins caller g [] no_handle (stage.Answered (too_long g))) ≡ []
    long caller Lookup = refl
    long caller Intern = refl
    long caller InternWait = refl

-- a call answers at its last stage alone
answered_stage : (q : Asked) (w : Along) (s : CallStage) (a : Answer) → plan_at q w s ≡ plan.Answered a → s ≡ stage.Answered a
answered_stage q w (stage.Answered b) a is = cc
answered_stage q w _ a is = absurd (cc)

answered : (c : Calling) (a : Answer) → plan_of c ≡ plan.Answered a → c.stage ≡ stage.Answered a
answered c a is = answered_stage c.asked c.along c.stage a is

pub made_answered_law : (c : Calling) (a : Answer) → plan_of c ≡ plan.Answered a → made_of c ≡ stands_for c.asked a
made_answered_law c a is = ap (made_at c.asked) (answered c a is)

-- what follows the events of each step does those of a whole call
sound_run : (c : Calling) (words : List ℕ) → IsSoundCall c → AreFitting calls c words → IsSoundCall (after_words calls c words)
sound_run c words sound fits = keeps calls IsSoundCall (λ d word so fit. sound_law d word fit.0 so fit.1) c words sound fits

leads : {F : Type 0} (m : F → What → Option F) (state : Calling → F) (from to : F)
    → ((c : Calling) (word : ℕ) → IsSoundCall c → FitsCall c word → after_one m (state c) (event_of c word) ≡ Some (state (got_of c word)))
    → ((c : Calling) (a : Answer) → IsSoundCall c → plan_of c ≡ plan.Answered a → state c ≡ to)
    → (c : Calling) → IsSoundCall c → state c ≡ from → LeadsTo m from to c
leads m state from to step end c sound begin words a does =
    ap (λ f. after_all m (Some f) (events_of_words calls c words)) (sym begin)
    ∙ follows calls m state IsSoundCall (λ d word so fit. sound_law d word fit.0 so fit.1) (λ d word so fit. step d word so fit.1) c words sound does.fits
    ∙ ap Some (end (after_words calls c words) a (sound_run c words sound does.fits) does.answered)

each : {P Q R : Calling → Type 0} → ((c : Calling) → P c → Q c → R c) → AtEachBeginning P → AtEachBeginning Q → AtEachBeginning R
each f p q caller goal text change h sound own =
    let a = p caller goal text change h sound own in
    let b = q caller goal text change h sound own in
    (f _ a.0 b.0, f _ a.1 b.1, f _ a.2 b.2, f _ a.3 b.3)

pub outside_at_end : (d : Calling) (a : Answer) → plan_of d ≡ plan.Answered a → is_inside d ≡ false
outside_at_end d a is = ap (is_inside_stage d.asked.kind) (answered d a is)

pub sections_law : AtEachBeginning (LeadsTo section false false)
sections_law = each (λ c sound begin. leads section is_inside false false section_law (λ d a so is. outside_at_end d a is) c sound begin) begins_law begins_outside

pub none_at_end : (d : Calling) (a : Answer) → IsSoundCall d → plan_of d ≡ plan.Answered a → claimed_slot d ≡ None
none_at_end d a so is = let there = answered d a is in ap (slot_at d.along.kept) there ∙ ap slot_of (subst (HasSoundStage d.asked d.along) there so.at.1)

pub slots_law : AtEachBeginning (LeadsTo slot None None)
slots_law = each (λ c sound begin. leads slot claimed_slot None None slot_law none_at_end c sound begin) begins_law begins_free

-- the events of a run that callers see
collects_one : (made : List What) (e : What) (events : List What) (b : Bool) → ((made : List What) → after_all seen (Some made) events ≡ Some (made ++ filter is_visible events))
    → after_all seen (Some (cond b (made ++ e ∷ []) made)) events ≡ Some (made ++ cond b (e ∷ filter is_visible events) (filter is_visible events))
collects_one made e events true rest = rest (made ++ e ∷ []) ∙ ap Some (append_assoc made (e ∷ []) (filter is_visible events))
collects_one made e events false rest = rest made

collects : (made events : List What) → after_all seen (Some made) events ≡ Some (made ++ filter is_visible events)
collects made [] = ap Some (sym (append-nil made))
collects made (e ∷ events) = collects_one made e events (is_visible e) (λ m. collects m events)

asked_stays : (c : Calling) (words : List ℕ) → (after_words calls c words).asked ≡ c.asked
asked_stays c [] = refl
asked_stays c (word ∷ words) = asked_stays (got_of c word) words

shows : (c : Calling) → IsSoundCall c → made_of c ≡ [] → ShowsItsAnswer c
shows c sound none words a does =
    let end = after_words calls c words in
    let all : Some (filter is_visible (events_of_words calls c words)) ≡ Some (stands_for c.asked a) =
    sym (ap (λ made. after_all seen (Some made) (events_of_words calls c words)) none ∙ collects [] (events_of_words calls c words))
    ∙ follows calls seen made_of IsSoundCall (λ d word so fit. sound_law d word fit.0 so fit.1) (λ d word so fit. made_law d word so fit.1) c words sound does.fits
    ∙ made_ends end a does.answered
    ∙ ap (λ q. Some (stands_for q a)) (asked_stays c words) in cc
  where
    made_ends : (d : Calling) (a : Answer) → plan_of d ≡ plan.Answered a → Some (made_of d) ≡ Some (stands_for d.asked a)
    made_ends d a is = ap Some (made_answered_law d a is)

pub shows_law : AtEachBeginning ShowsItsAnswer
shows_law = each shows begins_law made_begins_law

stands_for_one : (q : Asked) (a : Answer) → length (stands_for q a) ≤ 1
stands_for_one q (answer.Created h) = omega arith
stands_for_one q _ = omega arith

made_one : (q : Asked) (s : CallStage) → length (made_at q s) ≤ 1
made_one q (stage.Answered a) = stands_for_one q a
made_one q (stage.Leave (leave.UndoCount h (next.Answer a))) = stands_for_one q a
made_one q (stage.Leave (leave.UndoClaim x (next.Answer a))) = stands_for_one q a
made_one q (stage.Leave (leave.Close (next.Answer a))) = stands_for_one q a
made_one q _ = omega arith

pub made_one_law : (c : Calling) → length (made_of c) ≤ 1
made_one_law c = made_one c.asked c.stage
