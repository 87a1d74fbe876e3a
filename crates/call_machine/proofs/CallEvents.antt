-- What each step of a call makes of its section, of its slot, and of what callers have seen.
use Rattle.std.proofs.Common.{◌≡◌, ◌∙◌, ◌∷◌, ◌||◌, ◌+◌, ℕ, Bool, true, false, Option, Some, None, refl, sym, ap, subst, cond, List, [], ◌==◌}
use Rattle.std.specs.Prelude.{nat_le, IfSome}
use Rattle.std.proofs.lemmas.Bool.{eq-eqb}
use Rattle.marked_word.specs.Head.{is_locked, is_redirected, first_of}
use Rattle.marked_word.specs.Link.{node_of}
use Rattle.marked_word.specs.Meta.{length_in}
use Rattle.intern_log.specs.declared.event.Handle.{Handle}
use Rattle.intern_log.specs.declared.event.Kind.{Kind}
use Rattle.intern_log.specs.declared.event.Kind.TheVariants.{Counted, Weak}
use Rattle.intern_log.specs.declared.event.What.{What}
use Rattle.intern_log.specs.declared.event.What.TheVariants as what
use Rattle.atomic_step.specs.declared.answer.Answer.{Answer}
use Rattle.atomic_step.specs.declared.answer.Answer.TheVariants as answer
use Rattle.atomic_step.specs.declared.count.Change.{Change}
use Rattle.atomic_step.specs.declared.count.Change.TheVariants as change
use Rattle.atomic_step.specs.declared.access.StepKind.TheVariants.{K3}
use Rattle.atomic_step.specs.declared.plan.Plan.{Plan}
use Rattle.atomic_step.specs.declared.plan.Plan.TheVariants as plan
use Rattle.atomic_step.specs.declared.step.Step.{Step}
use Rattle.atomic_step.specs.Step.{access_of}
use Rattle.atomic_step.specs.Count.{handle_at, is_live}
use Rattle.atomic_step.specs.Event.{change_of}
use Rattle.atomic_step.specs.Monitor.{after_one, section, slot, seen}
use Rattle.atomic_step.specs.Turn.{event_by}
use Rattle.atomic_step.proofs.Choices.{either_way}
use Rattle.call_machine.specs.declared.draw.DrawStage.TheVariants as draw
use Rattle.call_machine.specs.declared.enter.EnterStage.TheVariants.{LoadCounter, OpenSection}
use Rattle.call_machine.specs.declared.find.FindStage.TheVariants as find
use Rattle.call_machine.specs.declared.handle.HandleStage.TheVariants as handle
use Rattle.call_machine.specs.declared.insert.InsertStage.TheVariants as insert
use Rattle.call_machine.specs.declared.leave.LeaveStage.TheVariants as leave
use Rattle.call_machine.specs.declared.leave.Then.TheVariants as next
use Rattle.call_machine.specs.declared.node.NodeStage.TheVariants as node
use Rattle.call_machine.specs.declared.read.ReadStage.TheVariants as read
use Rattle.call_machine.specs.declared.stage.Along.{Along}
use Rattle.call_machine.specs.declared.stage.Asked.{Asked}
use Rattle.call_machine.specs.declared.stage.Calling.{Calling}
use Rattle.call_machine.specs.declared.stage.CallStage.{CallStage}
use Rattle.call_machine.specs.declared.stage.CallStage.TheVariants as stage
use Rattle.call_machine.specs.declared.stage.Goal.{Goal}
use Rattle.call_machine.specs.declared.stage.Goal.TheVariants.{Lookup, Intern, InternWait}
use Rattle.call_machine.specs.Calls.{plan_at, plan_of, next_at, got_of, event_of}
use Rattle.call_machine.specs.CallEvents.{hit_event, stands_for, made_at, made_of, IsOfCall}
use Rattle.call_machine.specs.CallSections.{is_inside_stage, is_weak, is_inside, slot_of, slot_at, claimed_slot, slot_of_place}
use Rattle.call_machine.specs.Handle.{made_answer, lost_answer}
use Rattle.call_machine.specs.Insert.{puts_from, after_link, lost_head}
use Rattle.call_machine.specs.Leave.{leaves_with}
use Rattle.call_machine.specs.Node.{met}
use Rattle.call_machine.specs.SoundCall.{HasSoundStage, IsSoundCall, FitsAt, FitsCall}
use Rattle.call_machine.specs.Sought.{has_word}
use Rattle.call_machine.proofs.Walked.{HoldsOnWalks, leaves, loses, comes, arrives, both_ways, counts, gives_up, changes, reads}

-- from a stage that is inside or not, by an event, a call comes to stages that are
abbrev pub Inside : Asked → Bool → Option What → CallStage → Type 0
Inside q before e s = after_one section before e ≡ Some (is_inside_stage q.kind s)

inside_on_walks : (q : Asked) → HoldsOnWalks q.goal (λ a. Unit {0}) (λ kept s. Inside q true None s)
inside_on_walks q = record { leaving = record { closes = λ a so. refl; undoes = λ h a so. refl; again = λ waits kept. refl }; miss = tt; locked = tt; claims = λ intern cursor. refl; puts = λ intern h. refl; meets = λ kept x. refl }

changed_outside : (way : Change) (h : Handle) → after_one section false (Some (change_of way h)) ≡ Some false
changed_outside change.Drop h = refl
changed_outside change.Permanent h = refl
changed_outside change.Kill h = refl

section_step : (q : Asked) (w : Along) (s : CallStage) (word : ℕ) → HasSoundStage q w s → FitsAt q w s word → Inside q (is_inside_stage q.kind s) (event_by q.text (plan_at q w s) word) (next_at q w s word).1
section_step q w (stage.Answered a) word at fits = absurd fits
section_step q w (stage.Draw draw.Load) word at fits = either_way (Inside q false None) (nat_le q.shape.seats word) _ _ refl refl
section_step q w (stage.Draw draw.Add) word at fits = refl
section_step q w (stage.Find find.LoadHead) word at fits = arrives q (inside_on_walks q) (λ kept. refl) w word
section_step q w (stage.Find find.LoadNewHead) word at fits = comes q (inside_on_walks q) w word (first_of word)
section_step q w (stage.Find (find.Enter LoadCounter)) word at fits = refl
section_step q w (stage.Find (find.Enter (OpenSection counter))) word at fits = refl
section_step q w (stage.Find _) word at fits = refl
section_step q w (stage.Node (node.Count x)) word at fits = counts (Inside q true) q w q.kind x word refl refl (λ is. refl) (λ is. leaves (inside_on_walks q).leaving w.kept (met Weak q.goal (handle_at x word)) tt)
section_step q w (stage.Node (node.Link x)) word at fits = comes q (inside_on_walks q) w w.walk.head (node_of word)
section_step q w (stage.Node (node.Take x count)) word at fits =
    both_ways (Inside q true) (word == count) _ _ _ _ (leaves (inside_on_walks q).leaving w.kept (met Counted q.goal (handle_at x count)) tt) (loses q.goal (inside_on_walks q).leaving w.kept answer.Again tt)
section_step q w (stage.Node _) word at fits = refl
section_step q w (stage.Insert (insert.Claim x tried)) word at fits =
    both_ways (λ e (n : Along × CallStage). Inside q true e n.1) (word == 0) _ _ _ _ refl (either_way (Inside q true None) (tried + 1 == q.shape.slots) _ _ (leaves (inside_on_walks q).leaving w.kept answer.NoSlot tt) refl)
section_step q w (stage.Insert (insert.Create h)) word at fits =
    both_ways (λ e (n : Along × CallStage). Inside q true e n.1) (word == w.walk.head) _ _ _ _ refl (gives_up (λ n. Inside q true None n.1) w q.goal h (lost_head word) refl refl)
section_step q w (stage.Insert _) word at fits = refl
section_step q w (stage.Leave (leave.Close (next.Answer a))) word at fits = refl
section_step q w (stage.Leave (leave.Close next.TryAgain)) word at fits = refl
section_step q w (stage.Leave _) word at fits = refl
section_step q w (stage.Handle (handle.Count way)) word at fits = changes (Inside q false) way q.handle word refl refl (λ way. refl)
section_step q w (stage.Handle (handle.Exchange way count)) word at fits = either_way (λ e. after_one section false e ≡ Some false) (word == count) _ _ (changed_outside way q.handle) refl
section_step q w (stage.Read (read.Enter LoadCounter)) word at fits = refl
section_step q w (stage.Read (read.Enter (OpenSection counter))) word at fits = ap (λ kind. Some (is_weak kind)) (sym at.1)
section_step q w (stage.Read read.Count) word at fits = either_way (Inside q (is_weak q.kind) None) (is_live q.handle word) _ _ refl (ap (λ kind. Some (is_weak kind)) at.1)
section_step q w (stage.Read read.Meta) word at fits = reads (λ kind s. Some (is_weak kind) ≡ Some (is_inside_stage kind s)) q.kind 0 (length_in word) (λ kind e. refl) refl refl
section_step q w (stage.Read (read.Text k len)) word at fits = reads (λ kind s. Some (is_weak kind) ≡ Some (is_inside_stage kind s)) q.kind (k + 1) len (λ kind e. refl) refl refl

pub section_law : (c : Calling) (word : ℕ) → IsSoundCall c → FitsCall c word → after_one section (is_inside c) (event_of c word) ≡ Some (is_inside (got_of c word))
section_law c word sound fits = section_step c.asked c.along c.stage word sound.at.1 fits

-- from a stage with this slot, by an event, a call comes to stages that have it
abbrev pub HasSlot : Option Handle → Option ℕ → Option What → CallStage → Type 0
HasSlot kept before e s = after_one slot before e ≡ Some (slot_at kept s)

slot_on_walks : (goal : Goal) → HoldsOnWalks goal (λ a. Unit {0}) (λ kept s. HasSlot kept (slot_of kept) None s)
slot_on_walks goal = record { leaving = record { closes = λ a so. refl; undoes = λ h a so. refl; again = λ waits kept. refl }; miss = tt; locked = tt; claims = λ intern cursor. refl; puts = λ intern h. refl; meets = λ kept x. refl }

-- an event of no slot that is claimed leaves it
found_leaves : (text : List ℕ) (h : Handle) (kept : Option ℕ) → slot kept (what.Found text h) ≡ Some kept
found_leaves text h None = refl
found_leaves text h (Some s) = refl

taken_leaves : (text : List ℕ) (h : Handle) (kept : Option ℕ) → slot kept (what.Take text h) ≡ Some kept
taken_leaves text h None = refl
taken_leaves text h (Some s) = refl

opened_leaves : (counter : ℕ) (kept : Option ℕ) → slot kept (what.Open counter) ≡ Some kept
opened_leaves counter None = refl
opened_leaves counter (Some s) = refl

closed_leaves : (kept : Option ℕ) → slot kept what.Close ≡ Some kept
closed_leaves None = refl
closed_leaves (Some s) = refl

own_slot : (s : ℕ) → cond (s == s) (Some None) None ≡ Some (slot_of None)
own_slot s = rw (eq-eqb s s refl) refl

puts_slot : (kept : Option Handle) (text : List ℕ) (h : Handle) (k : ℕ) → HasSlot kept (Some h.slot) None (stage.Insert (puts_from text h k))
puts_slot kept text h k = either_way (λ s. HasSlot kept (Some h.slot) None (stage.Insert s)) (has_word text k) _ _ refl refl

links_slot : (kept : Option Handle) (h : Handle) → HasSlot kept (Some h.slot) None (stage.Insert (after_link kept h))
links_slot None h = refl
links_slot (Some k) h = refl

-- outside its section a call keeps no slot
changed_leaves : (way : Change) (h : Handle) (kept : Option Handle) → kept ≡ None → slot (slot_of kept) (change_of way h) ≡ Some (slot_of kept)
changed_leaves change.Drop h kept none = rw none refl
changed_leaves change.Permanent h kept none = rw none refl
changed_leaves change.Kill h kept none = rw none refl

slot_step : (q : Asked) (w : Along) (s : CallStage) (word : ℕ) → HasSoundStage q w s → FitsAt q w s word
    → HasSlot (next_at q w s word).0.kept (slot_at w.kept s) (event_by q.text (plan_at q w s) word) (next_at q w s word).1
slot_step q w (stage.Answered a) word at fits = absurd fits
slot_step q w (stage.Draw draw.Load) word at fits = either_way (HasSlot w.kept (slot_of w.kept) None) (nat_le q.shape.seats word) _ _ refl refl
slot_step q w (stage.Draw draw.Add) word at fits = refl
slot_step q w (stage.Find (find.Enter (OpenSection counter))) word at fits = opened_leaves counter (slot_of w.kept)
slot_step q w (stage.Find find.LoadHead) word at fits = arrives q (slot_on_walks q.goal) (λ kept. refl) w word
slot_step q w (stage.Find find.LoadNewHead) word at fits = comes q (slot_on_walks q.goal) w word (first_of word)
slot_step q w (stage.Find (find.Enter LoadCounter)) word at fits = refl
slot_step q w (stage.Find _) word at fits = refl
slot_step q w (stage.Node (node.Count x)) word at fits =
    counts (HasSlot w.kept (slot_of w.kept)) q w q.kind x word refl refl (λ is. refl) (λ is. found_leaves q.text (handle_at x word) (slot_of w.kept) ∙ leaves (slot_on_walks q.goal).leaving w.kept (met Weak q.goal (handle_at x word)) tt)
slot_step q w (stage.Node (node.Link x)) word at fits = comes q (slot_on_walks q.goal) w w.walk.head (node_of word)
slot_step q w (stage.Node (node.Take x count)) word at fits =
    both_ways (HasSlot w.kept (slot_of w.kept)) (word == count) _ _ _ _
    (taken_leaves q.text (handle_at x count) (slot_of w.kept) ∙ leaves (slot_on_walks q.goal).leaving w.kept (met Counted q.goal (handle_at x count)) tt) (loses q.goal (slot_on_walks q.goal).leaving w.kept answer.Again tt)
slot_step q w (stage.Node _) word at fits = refl
slot_step q w (stage.Insert (insert.Claim x tried)) word at fits =
    both_ways (λ e (n : Along × CallStage). HasSlot n.0.kept (slot_of w.kept) e n.1) (word == 0) _ _ _ _ (rw at.1.0 refl)
    (either_way (HasSlot w.kept (slot_of w.kept) None) (tried + 1 == q.shape.slots) _ _ (leaves (slot_on_walks q.goal).leaving w.kept answer.NoSlot tt) refl)
slot_step q w (stage.Insert (insert.PutMeta h)) word at fits = puts_slot w.kept q.text h 0
slot_step q w (stage.Insert (insert.PutText h k)) word at fits = puts_slot w.kept q.text h (k + 1)
slot_step q w (stage.Insert (insert.PutLink h)) word at fits = links_slot w.kept h
slot_step q w (stage.Insert (insert.Create h)) word at fits =
    both_ways (λ e (n : Along × CallStage). HasSlot n.0.kept (Some h.slot) e n.1) (word == w.walk.head) _ _ _ _ (own_slot h.slot) (gives_up (λ n. HasSlot n.0.kept (Some h.slot) None n.1) w q.goal h (lost_head word) refl refl)
slot_step q w (stage.Insert _) word at fits = refl
slot_step q w (stage.Leave (leave.UndoClaim x after)) word at fits = own_slot x
slot_step q w (stage.Leave (leave.Close (next.Answer a))) word at fits = closed_leaves (slot_of w.kept)
slot_step q w (stage.Leave (leave.Close next.TryAgain)) word at fits = closed_leaves (slot_of w.kept)
slot_step q w (stage.Leave _) word at fits = refl
slot_step q w (stage.Handle (handle.Count way)) word at fits = changes (HasSlot w.kept (slot_of w.kept)) way q.handle word (changed_leaves change.Drop q.handle w.kept at) refl (λ way. refl)
slot_step q w (stage.Handle (handle.Exchange way count)) word at fits = either_way (λ e. after_one slot (slot_of w.kept) e ≡ Some (slot_of w.kept)) (word == count) _ _ (changed_leaves way q.handle w.kept at) refl
slot_step q w (stage.Read (read.Enter LoadCounter)) word at fits = refl
slot_step q w (stage.Read (read.Enter (OpenSection counter))) word at fits = opened_leaves counter (slot_of w.kept)
slot_step q w (stage.Read read.Count) word at fits = either_way (HasSlot w.kept (slot_of w.kept) None) (is_live q.handle word) _ _ refl refl
slot_step q w (stage.Read read.Meta) word at fits = reads (λ kind s. HasSlot w.kept (slot_of w.kept) None s) q.kind 0 (length_in word) (λ kind e. refl) refl refl
slot_step q w (stage.Read (read.Text k len)) word at fits = reads (λ kind s. HasSlot w.kept (slot_of w.kept) None s) q.kind (k + 1) len (λ kind e. refl) refl refl

pub slot_law : (c : Calling) (word : ℕ) → IsSoundCall c → FitsCall c word → after_one slot (claimed_slot c) (event_of c word) ≡ Some (claimed_slot (got_of c word))
slot_law c word sound fits = slot_step c.asked c.along c.stage word sound.at.1 fits

-- from a stage at which these were seen, by an event, a call comes to stages at which they were
abbrev pub Shows : Asked → List What → Option What → CallStage → Type 0
Shows q made e s = after_one seen made e ≡ Some (made_at q s)

shown_on_walks : (q : Asked) → HoldsOnWalks q.goal (λ a. stands_for q a ≡ []) (λ kept s. Shows q [] None s)
shown_on_walks q = record { leaving = record { closes = λ a so. ap Some (sym so); undoes = λ h a so. ap Some (sym so); again = λ waits kept. refl }; miss = refl; locked = refl; claims = λ intern cursor. refl; puts = λ intern h. refl; meets = λ kept x. refl }

-- an entry of the text was met
met_shows : (q : Asked) (kind : Kind) (goal : Goal) (h : Handle) (kept : Option Handle) → q.kind ≡ kind → Shows q [] (Some (hit_event kind q.text h)) (leaves_with kept (met kind goal h))
met_shows q kind goal h kept is = seen_hit kind ∙ ap Some (sym (leaves_made kept (met kind goal h) ∙ stands kind goal is))
  where
    seen_hit : (kind : Kind) → seen [] (hit_event kind q.text h) ≡ Some (hit_event kind q.text h ∷ [])
    seen_hit Counted = refl
    seen_hit Weak = refl

    leaves_made : (kept : Option Handle) (a : Answer) → made_at q (leaves_with kept a) ≡ stands_for q a
    leaves_made None a = refl
    leaves_made (Some k) a = refl

    stands : (kind : Kind) (goal : Goal) → q.kind ≡ kind → stands_for q (met kind goal h) ≡ hit_event kind q.text h ∷ []
    stands kind Lookup is = ap (λ k. hit_event k q.text h ∷ []) is
    stands Counted Intern is = refl
    stands Counted InternWait is = refl
    stands Weak Intern is = refl
    stands Weak InternWait is = refl

lost_shows : (q : Asked) (word : ℕ) → Some [] ≡ Some (stands_for q (lost_head word))
lost_shows q word = either_way (λ a. Some [] ≡ Some (stands_for q a)) (is_locked word || is_redirected word) _ _ refl refl

changed_shows : (q : Asked) (way : Change) (count : ℕ) → seen [] (change_of way q.handle) ≡ Some (stands_for q (made_answer way count))
changed_shows q change.Drop count = refl
changed_shows q change.Permanent count = refl
changed_shows q change.Kill count = refl

not_changed_shows : (q : Asked) (way : Change) → Some [] ≡ Some (stands_for q (lost_answer way))
not_changed_shows q change.Drop = refl
not_changed_shows q change.Permanent = refl
not_changed_shows q change.Kill = refl

made_step : (q : Asked) (w : Along) (s : CallStage) (word : ℕ) → HasSoundStage q w s → FitsAt q w s word → Shows q (made_at q s) (event_by q.text (plan_at q w s) word) (next_at q w s word).1
made_step q w (stage.Answered a) word at fits = absurd fits
made_step q w (stage.Draw draw.Load) word at fits = either_way (Shows q [] None) (nat_le q.shape.seats word) _ _ refl refl
made_step q w (stage.Draw draw.Add) word at fits = either_way (λ a. Shows q [] None (stage.Answered a)) (nat_le q.shape.seats word) _ _ refl refl
made_step q w (stage.Find find.LoadHead) word at fits = arrives q (shown_on_walks q) (λ kept. refl) w word
made_step q w (stage.Find find.LoadNewHead) word at fits = comes q (shown_on_walks q) w word (first_of word)
made_step q w (stage.Find (find.Enter LoadCounter)) word at fits = refl
made_step q w (stage.Find (find.Enter (OpenSection counter))) word at fits = refl
made_step q w (stage.Find _) word at fits = refl
made_step q w (stage.Node (node.Count x)) word at fits = counts (Shows q []) q w q.kind x word refl refl (λ is. refl) (λ is. met_shows q Weak q.goal (handle_at x word) w.kept is)
made_step q w (stage.Node (node.Link x)) word at fits = comes q (shown_on_walks q) w w.walk.head (node_of word)
made_step q w (stage.Node (node.Take x count)) word at fits = both_ways (Shows q []) (word == count) _ _ _ _ (met_shows q Counted q.goal (handle_at x count) w.kept at.1) (loses q.goal (shown_on_walks q).leaving w.kept answer.Again refl)
made_step q w (stage.Node _) word at fits = refl
made_step q w (stage.Insert (insert.Claim x tried)) word at fits =
    both_ways (λ e (n : Along × CallStage). Shows q [] e n.1) (word == 0) _ _ _ _ refl (either_way (Shows q [] None) (tried + 1 == q.shape.slots) _ _ (leaves (shown_on_walks q).leaving w.kept answer.NoSlot refl) refl)
made_step q w (stage.Insert (insert.Create h)) word at fits =
    both_ways (λ e (n : Along × CallStage). Shows q [] e n.1) (word == w.walk.head) _ _ _ _ refl (gives_up (λ n. Shows q [] None n.1) w q.goal h (lost_head word) refl (lost_shows q word))
made_step q w (stage.Insert _) word at fits = refl
made_step q w (stage.Leave (leave.Close (next.Answer a))) word at fits = refl
made_step q w (stage.Leave (leave.Close next.TryAgain)) word at fits = refl
made_step q w (stage.Leave _) word at fits = refl
made_step q w (stage.Handle (handle.Count way)) word at fits = changes (Shows q []) way q.handle word refl refl (λ way. refl)
made_step q w (stage.Handle (handle.Exchange way count)) word at fits = both_ways (λ e a. Shows q [] e (stage.Answered a)) (word == count) _ _ _ _ (changed_shows q way count) (not_changed_shows q way)
made_step q w (stage.Read (read.Enter LoadCounter)) word at fits = refl
made_step q w (stage.Read (read.Enter (OpenSection counter))) word at fits = refl
made_step q w (stage.Read read.Count) word at fits = either_way (Shows q [] None) (is_live q.handle word) _ _ refl refl
made_step q w (stage.Read read.Meta) word at fits = reads (λ kind s. Shows q [] None s) q.kind 0 (length_in word) (λ kind e. refl) refl refl
made_step q w (stage.Read (read.Text k len)) word at fits = reads (λ kind s. Shows q [] None s) q.kind (k + 1) len (λ kind e. refl) refl refl

pub made_law : (c : Calling) (word : ℕ) → IsSoundCall c → FitsCall c word → after_one seen (made_of c) (event_of c word) ≡ Some (made_of (got_of c word))
made_law c word sound fits = made_step c.asked c.along c.stage word sound.at.1 fits

-- no call has an event of a work
abbrev pub IsIdle : Option What → CallStage → Type 0
IsIdle e s = IfSome e IsOfCall

changes_alone : (way : Change) (h : Handle) → IsOfCall (change_of way h)
changes_alone change.Drop h = tt
changes_alone change.Permanent h = tt
changes_alone change.Kill h = tt

no_work : (q : Asked) (w : Along) (s : CallStage) (word : ℕ) → IfSome (event_by q.text (plan_at q w s) word) IsOfCall
no_work q w (stage.Draw draw.Load) word = tt
no_work q w (stage.Draw draw.Add) word = tt
no_work q w (stage.Find (find.Enter LoadCounter)) word = tt
no_work q w (stage.Find (find.Enter (OpenSection counter))) word = tt
no_work q w (stage.Find _) word = tt
no_work q w (stage.Node (node.Count x)) word = counts IsIdle q w q.kind x word refl tt (λ is. tt) (λ is. tt)
no_work q w (stage.Node (node.Take x count)) word = either_way (λ e. IfSome e IsOfCall) (word == count) _ _ tt tt
no_work q w (stage.Node _) word = tt
no_work q w (stage.Insert (insert.Claim x tried)) word = either_way (λ e. IfSome e IsOfCall) (word == 0) _ _ tt tt
no_work q w (stage.Insert (insert.Create h)) word = either_way (λ e. IfSome e IsOfCall) (word == w.walk.head) _ _ tt tt
no_work q w (stage.Insert _) word = tt
no_work q w (stage.Leave (leave.UndoCount h after)) word = tt
no_work q w (stage.Leave _) word = tt
no_work q w (stage.Handle (handle.Count way)) word = changes IsIdle way q.handle word tt tt (λ way. tt)
no_work q w (stage.Handle (handle.Exchange way count)) word = either_way (λ e. IfSome e IsOfCall) (word == count) _ _ (changes_alone way q.handle) tt
no_work q w (stage.Read (read.Enter LoadCounter)) word = tt
no_work q w (stage.Read (read.Enter (OpenSection counter))) word = tt
no_work q w (stage.Read _) word = tt
no_work q w _ word = tt

pub no_work_law : (c : Calling) (word : ℕ) → IfSome (event_of c word) IsOfCall
no_work_law c word = no_work c.asked c.along c.stage word

-- a call writes words of its slot alone
abbrev pub IsOnSlot : Option ℕ → Plan → Type 0
IsOnSlot slot (plan.Step s) = (access_of s).kind ≡ K3 → slot_of_place (access_of s).place ≡ slot
IsOnSlot slot (plan.Answered a) = Unit {0}

writes : (q : Asked) (w : Along) (s : CallStage) → IsOnSlot (slot_at w.kept s) (plan_at q w s)
writes q w (stage.Answered a) = tt
writes q w (stage.Draw draw.Load) = λ is. absurd (cc)
writes q w (stage.Draw draw.Add) = λ is. absurd (cc)
writes q w (stage.Find (find.Enter LoadCounter)) = λ is. absurd (cc)
writes q w (stage.Find (find.Enter (OpenSection counter))) = λ is. absurd (cc)
writes q w (stage.Find _) = λ is. absurd (cc)
writes q w (stage.Node (node.Meta x)) = λ is. absurd (cc)
writes q w (stage.Node _) = λ is. absurd (cc)
writes q w (stage.Insert (insert.Claim x tried)) = λ is. absurd (cc)
writes q w (stage.Insert (insert.OwnCount x)) = λ is. absurd (cc)
writes q w (stage.Insert (insert.Create h)) = λ is. absurd (cc)
writes q w (stage.Insert _) = λ is. refl
writes q w (stage.Leave (leave.UndoCount h after)) = λ is. refl
writes q w (stage.Leave _) = λ is. absurd (cc)
writes q w (stage.Handle (handle.Count way)) = λ is. absurd (cc)
writes q w (stage.Handle (handle.Exchange way count)) = λ is. absurd (cc)
writes q w (stage.Read (read.Enter LoadCounter)) = λ is. absurd (cc)
writes q w (stage.Read (read.Enter (OpenSection counter))) = λ is. absurd (cc)
writes q w (stage.Read _) = λ is. absurd (cc)

pub write_law : (c : Calling) (s : Step) → plan_of c ≡ plan.Step s → (access_of s).kind ≡ K3 → slot_of_place (access_of s).place ≡ claimed_slot c
write_law c s is = subst (IsOnSlot (claimed_slot c)) is (writes c.asked c.along c.stage)
