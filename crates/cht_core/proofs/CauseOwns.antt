-- What a try call itself did in its window, from its beginning to its answer; and that callers see nothing of a work.
use Rattle.std.proofs.Common.{◌≡◌, ℕ, ◌+◌, ◌≤◌, ◌==◌, Bool, true, false, cond, List, [], ◌∷◌, ◌++◌, Option, Some, None, refl, sym, ap, subst, ◌∙◌, arith, append-nil}
use Rattle.std.specs.Prelude.{IfSome}
use Rattle.std.specs.List.{filter}
use Rattle.std.proofs.lemmas.List.Elements.{filter-append}
use Rattle.intern_log.specs.declared.event.Event.{Event}
use Rattle.intern_log.specs.declared.event.Handle.{Handle}
use Rattle.intern_log.specs.declared.event.Kind.TheVariants.{Counted, Weak}
use Rattle.intern_log.specs.declared.event.What.{What}
use Rattle.intern_log.specs.Own.{is_visible}
use Rattle.atomic_step.specs.declared.answer.Answer.{Answer}
use Rattle.atomic_step.specs.declared.answer.Answer.TheVariants as answer
use Rattle.atomic_step.specs.declared.count.Change.{Change}
use Rattle.atomic_step.specs.declared.count.Change.TheVariants.{Drop, Permanent, Kill}
use Rattle.atomic_step.specs.declared.plan.Plan.{Plan}
use Rattle.atomic_step.specs.declared.plan.Plan.TheVariants as plan
use Rattle.atomic_step.specs.declared.step.Step.{Step}
use Rattle.atomic_step.specs.declared.step.Step.TheVariants as step
use Rattle.atomic_step.specs.Count.{holds_of}
use Rattle.atomic_step.specs.Event.{change_of}
use Rattle.atomic_step.specs.Event.{event_of as event_at}
use Rattle.atomic_step.specs.Turn.{event_by}
use Rattle.atomic_step.proofs.Choices.{either_way}
use Rattle.atomic_step.specs.Monitor.{after_one, after_all, seen, section, slot}
use Rattle.call_machine.specs.declared.stage.Calling.{Calling}
use Rattle.call_machine.specs.declared.stage.CallStage.{CallStage}
use Rattle.call_machine.specs.declared.stage.CallStage.TheVariants as stage
use Rattle.call_machine.specs.declared.machine.Machine.{Machine}
use Rattle.call_machine.specs.BeginCall.{AtEachBeginning}
use Rattle.call_machine.specs.CallClaims.{claims_of, claims_in, may_claim, can_claim_at, one_if}
use Rattle.call_machine.specs.CallEvents.{made_of, IsOfCall}
use Rattle.call_machine.specs.CallSections.{is_inside, claimed_slot}
use Rattle.call_machine.specs.Calls.{plan_of, plan_at, got_of, event_of}
use Rattle.call_machine.specs.Machine as machines
use Rattle.call_machine.specs.SoundCall.{IsSoundCall, FitsCall}
use Rattle.call_machine.proofs.CallClaims.{uses_up_law}
use Rattle.call_machine.proofs.CallEvents.{section_law, slot_law, made_law, no_work_law}
use Rattle.call_machine.proofs.Quiet.{hidden_law}
use Rattle.call_machine.proofs.WholeCall.{begins_outside, begins_free, made_begins_law, made_answered_law, outside_at_end, none_at_end}
use Rattle.cht_core.specs.Causes.{IsUnseen}
use Rattle.cht_core.specs.CauseCalls.{IsNoRehash, AreOfCall, Owns, ClaimsNone, Did}
use Rattle.cht_core.specs.Invariant.{events_of}
use Rattle.cht_core.specs.Windows.{whats_by}
use Rattle.cht_core.proofs.Windows.{whats_of, whats_by_waits, whats_by_step}

-- MONITORS OVER TWO PIECES

after_pieces : {F : Type 0} (m : F → What → Option F) (o : Option F) (xs ys : List What) → after_all m o (xs ++ ys) ≡ after_all m (after_all m o xs) ys
after_pieces m None xs ys = refl
after_pieces m (Some f) [] ys = refl
after_pieces m (Some f) (x ∷ xs) ys = after_pieces m (m f x) xs ys

after_nothing : {F : Type 0} (m : F → What → Option F) (o : Option F) → after_all m o [] ≡ o
after_nothing m None = refl
after_nothing m (Some f) = refl

-- a monitor by one more own event
monitored : {F : Type 0} (m : F → What → Option F) (first f g : F) (events : List What) (e : Option What) → after_all m (Some first) events ≡ Some f → after_one m f e ≡ Some g →
    after_all m (Some first) (events ++ whats_of e) ≡ Some g
monitored m first f g events e was is = after_pieces m (Some first) events (whats_of e) ∙ ap (λ o. after_all m o (whats_of e)) was ∙ one e is
  where
    one : (e : Option What) → after_one m f e ≡ Some g → after_all m (Some f) (whats_of e) ≡ Some g
    one None is = is
    one (Some w) is = after_nothing m (m f w) ∙ is

shown_more : (made after : List What) (events : List What) (e : Option What) → filter is_visible events ≡ made → after_one seen made e ≡ Some after → filter is_visible (events ++ whats_of e) ≡ after
shown_more made after events e was is = filter-append is_visible events (whats_of e) ∙ ap (λ l. l ++ filter is_visible (whats_of e)) was ∙ one e is
  where
    chosen : (b : Bool) (w : What) → made ++ cond b (w ∷ []) [] ≡ cond b (made ++ w ∷ []) made
    chosen true w = refl
    chosen false w = append-nil made

    one : (e : Option What) → after_one seen made e ≡ Some after → made ++ filter is_visible (whats_of e) ≡ after
    one None is = append-nil made ∙ (let same : made ≡ after = cc in same)
    one (Some w) is = chosen (is_visible w) w ∙ (let same : cond (is_visible w) (made ++ w ∷ []) made ≡ after = cc in same)

claims_pieces : (xs ys : List What) → claims_in (xs ++ ys) ≡ claims_in xs + claims_in ys
claims_pieces [] ys = omega arith
claims_pieces (x ∷ xs) ys = let more = claims_pieces xs ys in omega (arith, more)

claims_one : (e : Option What) → claims_in (whats_of e) ≡ claims_of e
claims_one None = refl
claims_one (Some w) = omega arith

calls_more : (events : List What) (e : Option What) → AreOfCall events → IfSome e IsOfCall → IfSome e IsNoRehash → AreOfCall (events ++ whats_of e)
calls_more [] None so one none = tt
calls_more [] (Some w) so one none = ((one, none), tt)
calls_more (x ∷ events) e so one none = (so.0, calls_more events e so.1 one none)

-- no step rehashes
changes_no_seed : (change : Change) (h : Handle) → IsNoRehash (change_of change h)
changes_no_seed Drop h = tt
changes_no_seed Permanent h = tt
changes_no_seed Kill h = tt

step_no_rehash : (text : List ℕ) (s : Step) (word : ℕ) → IfSome (event_at text s word) IsNoRehash
step_no_rehash text (step.SeeEntry Weak slot) word = either_way (λ e. IfSome e IsNoRehash) (holds_of word == 0) _ _ tt tt
step_no_rehash text (step.SeeEntry Counted slot) word = tt
step_no_rehash text (step.SeeHandle Drop h) word = either_way (λ e. IfSome e IsNoRehash) (holds_of word == 65535) _ _ tt tt
step_no_rehash text (step.SeeHandle Permanent h) word = tt
step_no_rehash text (step.SeeHandle Kill h) word = tt
step_no_rehash text (step.TakeEntry slot count) word = either_way (λ e. IfSome e IsNoRehash) (word == count) _ _ tt tt
step_no_rehash text (step.ChangeEntry change h count) word = either_way (λ e. IfSome e IsNoRehash) (word == count) _ _ (changes_no_seed change h) tt
step_no_rehash text (step.ClaimSlot slot) word = either_way (λ e. IfSome e IsNoRehash) (word == 0) _ _ tt tt
step_no_rehash text (step.CreateEntry h row bucket head) word = either_way (λ e. IfSome e IsNoRehash) (word == head) _ _ tt tt
step_no_rehash text (step.LockHead row bucket head) word = either_way (λ e. IfSome e IsNoRehash) (word == head) _ _ tt tt
step_no_rehash text (step.TakeResizeLock number) word = either_way (λ e. IfSome e IsNoRehash) (word == 0) _ _ tt tt
step_no_rehash text _ word = tt

no_rehash : (text : List ℕ) (p : Plan) (word : ℕ) → IfSome (event_by text p word) IsNoRehash
no_rehash text (plan.Answered a) word = tt
no_rehash text (plan.Step s) word = step_no_rehash text s word

-- FROM THE BEGINNING TO THE ANSWER

one_at_most : (b : Bool) → one_if b ≤ 1
one_at_most true = omega arith
one_at_most false = omega arith

owns_from : (i : ℕ) (c : Calling) → made_of c ≡ [] → is_inside c ≡ false → claimed_slot c ≡ None → Owns i [] c
owns_from i c made outside free = record {
  shown = sym made;
  sections = ap (λ b. Some b) (sym outside);
  slots = ap (λ o. Some o) (sym free);
  claims = let few = one_at_most (can_claim_at c.asked.goal c.along.kept c.stage) in omega (arith, few);
  calls = tt;
}

-- a call begins with no event
pub owns_begins : (i : ℕ) → AtEachBeginning (Owns i [])
owns_begins i caller goal text change h sound fits =
    let made = made_begins_law caller goal text change h sound fits in
    let outside = begins_outside caller goal text change h sound fits in
    let free = begins_free caller goal text change h sound fits in
    (owns_from i _ made.0 outside.0 free.0, owns_from i _ made.1 outside.1 free.1, owns_from i _ made.2 outside.2 free.2, owns_from i _ made.3 outside.3 free.3)

-- others' events change nothing of it
pub owns_waits : (i : ℕ) (window more : List Event) (c : Calling) → whats_by i more ≡ [] → Owns i window c → Owns i (window ++ more) c
owns_waits i window more c none h =
    let same = sym (whats_by_waits i window more none) in
    record {
      shown = subst (λ l. filter is_visible l ≡ made_of c) same h.shown;
      sections = subst (λ l. after_all section (Some false) l ≡ Some (is_inside c)) same h.sections;
      slots = subst (λ l. after_all slot (Some None) l ≡ Some (claimed_slot c)) same h.slots;
      claims = subst (λ l. claims_in l + may_claim c ≤ 1) same h.claims;
      calls = subst AreOfCall same h.calls;
    }

-- and its own step adds its event
pub owns_steps : (i : ℕ) (window : List Event) (c : Calling) (word : ℕ) → IsSoundCall c → FitsCall c word → Owns i window c → Owns i (window ++ events_of i (event_of c word)) (got_of c word)
owns_steps i window c word sound fits h =
    let more = sym (whats_by_step i window (event_of c word)) in
    record {
      shown = subst (λ l. filter is_visible l ≡ made_of (got_of c word)) more
          (shown_more (made_of c) (made_of (got_of c word)) (whats_by i window) (event_of c word) h.shown (made_law c word sound fits));
      sections = subst (λ l. after_all section (Some false) l ≡ Some (is_inside (got_of c word))) more
          (monitored section false (is_inside c) (is_inside (got_of c word)) (whats_by i window) (event_of c word) h.sections (section_law c word sound fits));
      slots = subst (λ l. after_all slot (Some None) l ≡ Some (claimed_slot (got_of c word))) more
          (monitored slot None (claimed_slot c) (claimed_slot (got_of c word)) (whats_by i window) (event_of c word) h.slots (slot_law c word sound fits));
      claims = subst (λ l. claims_in l + may_claim (got_of c word) ≤ 1) more (
          let used = uses_up_law c word in
          let were = h.claims in
          let both = claims_pieces (whats_by i window) (whats_of (event_of c word)) in
          let one = claims_one (event_of c word) in
          omega (arith, used, were, both, one));
      calls = subst AreOfCall more (calls_more (whats_by i window) (event_of c word) h.calls (no_work_law c word) (no_rehash c.asked.text (plan_of c) word));
    }

none_claimed : (i : ℕ) (window : List Event) (c : Calling) (a : Answer) → c.stage ≡ stage.Answered a → Owns i window c → ClaimsNone a (whats_by i window)
none_claimed i window c answer.NoSlot is h =
    let were = h.claims in
    let one : may_claim c ≡ 1 = ap (λ s. one_if (can_claim_at c.asked.goal c.along.kept s)) is in
    omega (arith, were, one)
none_claimed i window c _ is h = tt

-- where a call has answered its stage says so
pub answered_at : (c : Calling) (a : Answer) → plan_of c ≡ plan.Answered a → c.stage ≡ stage.Answered a
answered_at c a is = go c.stage refl is
  where
    go : (s : CallStage) → c.stage ≡ s → plan_at c.asked c.along s ≡ plan.Answered a → s ≡ stage.Answered a
    go (stage.Answered b) at is = let same : b ≡ a = cc in ap stage.Answered same
    go (stage.Draw s) at is = absurd (cc)
    go (stage.Find s) at is = absurd (cc)
    go (stage.Node s) at is = absurd (cc)
    go (stage.Insert s) at is = absurd (cc)
    go (stage.Leave s) at is = absurd (cc)
    go (stage.Handle s) at is = absurd (cc)
    go (stage.Read s) at is = absurd (cc)

-- a call that has answered did what its answer says
pub owns_answered : (i : ℕ) (window : List Event) (c : Calling) (a : Answer) → IsSoundCall c → plan_of c ≡ plan.Answered a → Owns i window c → Did i window c.asked a
owns_answered i window c a sound is h = record {
  shown = h.shown ∙ made_answered_law c a is;
  sections = h.sections ∙ ap (λ b. Some b) (outside_at_end c a is);
  slots = h.slots ∙ ap (λ o. Some o) (none_at_end c a sound is);
  claims = let were = h.claims in omega (arith, were);
  none = none_claimed i window c a (answered_at c a is) h;
  calls = h.calls;
}

-- WORKS

-- callers see nothing of others, and nothing of a step of a work
pub unseen_waits : (i : ℕ) (window more : List Event) → whats_by i more ≡ [] → IsUnseen i window → IsUnseen i (window ++ more)
unseen_waits i window more none h = subst (λ l. filter is_visible l ≡ []) (sym (whats_by_waits i window more none)) h

pub unseen_steps : (i : ℕ) (window : List Event) (m : Machine) (word : ℕ) → machines.IsOfWork m → IsUnseen i window → IsUnseen i (window ++ events_of i (machines.event_of m word))
unseen_steps i window m word work h =
    subst (λ l. filter is_visible l ≡ []) (sym (whats_by_step i window (machines.event_of m word)))
    (filter-append is_visible (whats_by i window) (whats_of (machines.event_of m word)) ∙ ap (λ l. l ++ filter is_visible (whats_of (machines.event_of m word))) h ∙ hidden
    (machines.event_of m word) (hidden_law m word work))
  where
    hidden : (e : Option What) → IfSome e (λ w. is_visible w ≡ false) → filter is_visible (whats_of e) ≡ []
    hidden None is = refl
    hidden (Some w) is = ap (λ b. cond b (w ∷ []) []) is
