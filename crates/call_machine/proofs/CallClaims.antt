-- A call claims one slot at most, and none where it answers NoSlot.
use Rattle.std.proofs.Common.{◌≡◌, ◌≤◌, ◌+◌, ℕ, Bool, true, false, Option, Some, None, refl, ap, cond, List, [], ◌∷◌, ◌++◌, ◌==◌}
use native.Mathlib.Omega.{arith}
use Rattle.std.specs.Option.{option_to_list}
use Rattle.std.specs.Prelude.{nat_le, ◌||◌}
use Rattle.marked_word.specs.Head.{is_locked, is_redirected, first_of}
use Rattle.marked_word.specs.Link.{node_of}
use Rattle.marked_word.specs.Meta.{length_in}
use Rattle.intern_log.specs.declared.event.Handle.{Handle}
use Rattle.intern_log.specs.declared.event.Kind.{Kind}
use Rattle.intern_log.specs.declared.event.Kind.TheVariants.{Counted, Weak}
use Rattle.intern_log.specs.declared.event.What.{What}
use Rattle.intern_log.specs.declared.event.What.TheVariants as what
use Rattle.atomic_step.specs.declared.answer.Answer.{Answer}
use Rattle.atomic_step.specs.declared.answer.Answer.TheVariants as answer
use Rattle.atomic_step.specs.declared.count.Change.{Change}
use Rattle.atomic_step.specs.declared.count.Change.TheVariants as change
use Rattle.atomic_step.specs.declared.plan.Plan.TheVariants as plan
use Rattle.atomic_step.specs.Count.{handle_at, is_live}
use Rattle.atomic_step.specs.Event.{change_of}
use Rattle.atomic_step.specs.Run.{after_words, events_of_words}
use Rattle.atomic_step.specs.Turn.{event_by}
use Rattle.atomic_step.proofs.Choices.{either_way}
use Rattle.call_machine.specs.declared.draw.DrawStage.TheVariants as draw
use Rattle.call_machine.specs.declared.enter.EnterStage.TheVariants as enter
use Rattle.call_machine.specs.declared.find.FindStage.TheVariants as find
use Rattle.call_machine.specs.declared.handle.HandleStage.TheVariants as handle
use Rattle.call_machine.specs.declared.insert.InsertStage.TheVariants as insert
use Rattle.call_machine.specs.declared.leave.LeaveStage.TheVariants as leave
use Rattle.call_machine.specs.declared.leave.Then.TheVariants as next
use Rattle.call_machine.specs.declared.node.NodeStage.TheVariants as node
use Rattle.call_machine.specs.declared.read.ReadStage.TheVariants as read
use Rattle.call_machine.specs.declared.stage.Along.{Along}
use Rattle.call_machine.specs.declared.stage.Asked.{Asked}
use Rattle.call_machine.specs.declared.stage.Calling.{Calling}
use Rattle.call_machine.specs.declared.stage.CallStage.{CallStage}
use Rattle.call_machine.specs.declared.stage.CallStage.TheVariants as stage
use Rattle.call_machine.specs.declared.stage.Goal.{Goal}
use Rattle.call_machine.specs.declared.stage.Goal.TheVariants.{Lookup}
use Rattle.call_machine.specs.BeginCall.{begun_split, begun_change, begun_read}
use Rattle.call_machine.specs.Calls.{next_at, plan_at, plan_of, got_of, event_of}
use Rattle.call_machine.specs.CallClaims.{claims_of, claims_in, is_intern, can_claim_walking, can_claim_answering, can_claim_at, one_if, may_claim, AtEachBeginningButInterns}
use Rattle.call_machine.specs.Handle.{made_answer, lost_answer}
use Rattle.call_machine.specs.Insert.{after_link, lost_head}
use Rattle.call_machine.specs.Leave.{leaves_with}
use Rattle.call_machine.specs.Node.{met}
use Rattle.call_machine.specs.Sought.{has_word, is_too_long}
use Rattle.call_machine.specs.WholeCall.{calls}
use Rattle.call_machine.proofs.Walked.{HoldsOnLeaving, HoldsOnWalks, leaves, loses, comes, arrives, both_ways, counts, gives_up, changes, reads}

-- a call at this stage may claim no more than this one
abbrev pub Claims : Goal → Bool → Option Handle → CallStage → Type 0
Claims goal can kept s = one_if (can_claim_at goal kept s) ≤ one_if can

-- than one that walks, where it answers otherwise than by NoSlot
abbrev pub AsWalking : Goal → Option Handle → CallStage → Type 0
AsWalking goal kept s = Claims goal (can_claim_walking goal kept) kept s

abbrev pub IsNone : Answer → Type 0
IsNone a = one_if (can_claim_answering a) ≡ 0

on_leaving : (goal : Goal) → HoldsOnLeaving goal IsNone (AsWalking goal)
on_leaving goal = record { closes = λ a none. omega (arith, none); undoes = λ h a none. omega (arith, none); again = λ waits kept. omega arith }

interns : (goal : Goal) → ¬ (goal ≡ Lookup) → 1 ≤ one_if (is_intern goal)
interns Lookup intern = absurd (intern refl)
interns _ intern = omega arith

on_walks : (goal : Goal) → HoldsOnWalks goal IsNone (AsWalking goal)
on_walks goal = record { leaving = on_leaving goal; miss = refl; locked = refl; claims = λ intern cursor. interns goal intern; puts = λ intern h. omega arith; meets = λ kept slot. omega arith }

met_none : (kind : Kind) (goal : Goal) (h : Handle) → IsNone (met kind goal h)
met_none Counted Lookup h = refl
met_none Counted _ h = refl
met_none Weak Lookup h = refl
met_none Weak _ h = refl

links : (goal : Goal) (of_call kept : Option Handle) (h : Handle) → Claims goal false of_call (stage.Insert (after_link kept h))
links goal of_call None h = omega arith
links goal of_call (Some k) h = omega arith

refused : (goal : Goal) (kept : Option Handle) → Claims goal true kept (leaves_with kept answer.NoSlot)
refused goal None = omega arith
refused goal (Some h) = omega arith

-- the step uses up what its Claim takes
abbrev pub with_claims : Option What → ℕ → ℕ
with_claims (Some (what.Claim slot)) left = 1 + left
with_claims _ left = left

as_sum : (e : Option What) (left : ℕ) → claims_of e + left ≡ with_claims e left
as_sum (Some (what.Claim slot)) left = refl
as_sum _ left = omega arith

abbrev pub UsesUp : Goal → Bool → Option What → Along × CallStage → Type 0
UsesUp goal can e n = with_claims e (one_if (can_claim_at goal n.0.kept n.1)) ≤ one_if can

exchanged : (goal : Goal) (w : Along) (way : Change) (h : Handle) (b : Bool) (count : ℕ) → UsesUp goal false (cond b (Some (change_of way h)) None) (w, stage.Answered (cond b (made_answer way count) (lost_answer way)))
exchanged goal w change.Drop h b count = both_ways (λ e a. UsesUp goal false e (w, stage.Answered a)) b _ _ _ _ (omega arith) (omega arith)
exchanged goal w change.Permanent h b count = both_ways (λ e a. UsesUp goal false e (w, stage.Answered a)) b _ _ _ _ (omega arith) (omega arith)
exchanged goal w change.Kill h b count = both_ways (λ e a. UsesUp goal false e (w, stage.Answered a)) b _ _ _ _ (omega arith) (omega arith)

uses_up : (q : Asked) (w : Along) (s : CallStage) (word : ℕ) → UsesUp q.goal (can_claim_at q.goal w.kept s) (event_by q.text (plan_at q w s) word) (next_at q w s word)
uses_up q w (stage.Draw draw.Load) word = either_way (Claims q.goal false w.kept) (nat_le q.shape.seats word) _ _ (omega arith) (omega arith)
uses_up q w (stage.Draw draw.Add) word = either_way (λ a. one_if (can_claim_answering a) ≤ 0) (nat_le q.shape.seats word) _ _ (omega arith) (omega arith)
uses_up q w (stage.Find (find.Enter enter.LoadCounter)) word = omega arith
uses_up q w (stage.Find find.LoadHead) word = arrives q (on_walks q.goal) (λ kept. omega arith) w word
uses_up q w (stage.Find find.LoadNewHead) word = comes q (on_walks q.goal) w word (first_of word)
uses_up q w (stage.Node (node.Count x)) word =
    counts (λ e s. UsesUp q.goal (can_claim_walking q.goal w.kept) e (w, s)) q w q.kind x word refl (omega arith) (λ is. omega arith)
    (λ is. leaves (on_leaving q.goal) w.kept (met Weak q.goal (handle_at x word)) (met_none Weak q.goal (handle_at x word)))
uses_up q w (stage.Node (node.Link x)) word = comes q (on_walks q.goal) w w.walk.head (node_of word)
uses_up q w (stage.Node (node.Take x count)) word =
    both_ways (λ e s. UsesUp q.goal (can_claim_walking q.goal w.kept) e (w, s)) (word == count) _ _ _ _
    (leaves (on_leaving q.goal) w.kept (met Counted q.goal (handle_at x count)) (met_none Counted q.goal (handle_at x count))) (loses q.goal (on_leaving q.goal) w.kept answer.Again refl)
uses_up q w (stage.Insert (insert.Claim slot tried)) word =
    both_ways (UsesUp q.goal true) (word == 0) _ _ _ _ (omega arith) (either_way (Claims q.goal true w.kept) (tried + 1 == q.shape.slots) _ _ (refused q.goal w.kept) (omega arith))
uses_up q w (stage.Insert (insert.PutMeta h)) word = either_way (λ s. Claims q.goal false w.kept (stage.Insert s)) (has_word q.text 0) _ _ (omega arith) (omega arith)
uses_up q w (stage.Insert (insert.PutText h k)) word = either_way (λ s. Claims q.goal false w.kept (stage.Insert s)) (has_word q.text (k + 1)) _ _ (omega arith) (omega arith)
uses_up q w (stage.Insert (insert.PutLink h)) word = links q.goal w.kept w.kept h
uses_up q w (stage.Insert (insert.Create h)) word =
    both_ways (UsesUp q.goal false) (word == w.walk.head) _ _ _ _ (omega arith)
    (gives_up (UsesUp q.goal false None) w q.goal h (lost_head word) (omega arith) (either_way (λ a. one_if (can_claim_answering a) ≤ 0) (is_locked word || is_redirected word) _ _ (omega arith) (omega arith)))
uses_up q w (stage.Leave (leave.Close (next.Answer a))) word = omega arith
uses_up q w (stage.Handle (handle.Count way)) word = changes (λ e s. UsesUp q.goal false e (w, s)) way q.handle word (omega arith) (omega arith) (λ way. omega arith)
uses_up q w (stage.Handle (handle.Exchange way count)) word = exchanged q.goal w way q.handle (word == count) count
uses_up q w (stage.Read (read.Enter enter.LoadCounter)) word = omega arith
uses_up q w (stage.Read read.Count) word = either_way (Claims q.goal false w.kept) (is_live q.handle word) _ _ (omega arith) (omega arith)
uses_up q w (stage.Read read.Meta) word = reads (λ kind s. Claims q.goal false w.kept s) q.kind 0 (length_in word) (λ kind more. omega arith) (omega arith) (omega arith)
uses_up q w (stage.Read (read.Text k len)) word = reads (λ kind s. Claims q.goal false w.kept s) q.kind (k + 1) len (λ kind more. omega arith) (omega arith) (omega arith)
uses_up q w _ word = omega arith

pub uses_up_law : (c : Calling) (word : ℕ) → claims_of (event_of c word) + may_claim (got_of c word) ≤ may_claim c
uses_up_law c word = omega (arith, as_sum (event_of c word) (may_claim (got_of c word)), uses_up c.asked c.along c.stage word)

-- a run
claims_more : (e : Option What) (events : List What) → claims_in (option_to_list e ++ events) ≡ claims_of e + claims_in events
claims_more None events = omega arith
claims_more (Some e) events = refl

claims_run : (c : Calling) (words : List ℕ) → claims_in (events_of_words calls c words) + may_claim (after_words calls c words) ≤ may_claim c
claims_run c [] = omega arith
claims_run c (word ∷ words) = omega (arith, claims_more (event_of c word) (events_of_words calls (got_of c word) words), uses_up_law c word, claims_run (got_of c word) words)

one : (can : Bool) → one_if can ≤ 1
one true = omega arith
one false = omega arith

pub claims_once_law : (c : Calling) (words : List ℕ) → claims_in (events_of_words calls c words) ≤ 1
claims_once_law c words = omega (arith, claims_run c words, one (can_claim_at c.asked.goal c.along.kept c.stage))

answers_one : (q : Asked) (w : Along) (s : CallStage) → plan_at q w s ≡ plan.Answered answer.NoSlot → one_if (can_claim_at q.goal w.kept s) ≡ 1
answers_one q w (stage.Answered a) is = let so : a ≡ answer.NoSlot = cc in ap (λ a. one_if (can_claim_answering a)) so
answers_one q w _ is = absurd (cc)

pub no_slot_law : (c : Calling) (words : List ℕ) → plan_of (after_words calls c words) ≡ plan.Answered answer.NoSlot → claims_in (events_of_words calls c words) ≡ 0
no_slot_law c words is =
    let last = after_words calls c words in
    omega (arith, claims_run c words, one (can_claim_at c.asked.goal c.along.kept c.stage), answers_one last.asked last.along last.stage is)

abbrev pub NeverClaims : Calling → Type 0
NeverClaims c = (words : List ℕ) → claims_in (events_of_words calls c words) ≡ 0

never : (c : Calling) → can_claim_at c.asked.goal c.along.kept c.stage ≡ false → NeverClaims c
never c is words = let none = ap one_if is in omega (arith, claims_run c words, none)

pub only_interns_law : AtEachBeginningButInterns NeverClaims
only_interns_law caller text way h = (
  never (begun_split caller) refl,
  either_way NeverClaims (is_too_long caller.shape text) _ _ (never _ refl) (never _ refl),
  never (begun_change caller way h) refl,
  never (begun_read caller h) refl,
)
