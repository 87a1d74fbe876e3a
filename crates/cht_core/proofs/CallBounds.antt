-- How many numbers a call may draw after each of its steps.
use Rattle.std.proofs.Common.{◌≡◌, ◌≢◌, ℕ, ◌+◌, ◌^◌, Bool, true, false, Option, Some, None, inl, inr, refl, arith}
use Rattle.std.specs.Prelude.{◌==◌, ◌%◌, nat_le, nat_lt, if◌then◌else◌}
use Rattle.std.proofs.lemmas.Bool.Decides.{nat_tests}
use Rattle.text_words.specs.Hash.{hash_of}
use Rattle.text_words.specs.Words.{words_of}
use Rattle.marked_word.specs.Head.{is_locked, first_of}
use Rattle.marked_word.specs.Link.{node_of}
use Rattle.table_shape.specs.declared.place.Place.TheVariants as place
use Rattle.intern_log.specs.declared.event.Handle.{Handle}
use Rattle.intern_log.specs.declared.event.Kind.{Kind}
use Rattle.intern_log.specs.declared.event.Kind.TheVariants.{Counted, Weak}
use Rattle.atomic_step.specs.declared.answer.Answer.{Answer}
use Rattle.atomic_step.specs.declared.answer.Answer.TheVariants as answer
use Rattle.atomic_step.specs.declared.count.Change.{Change}
use Rattle.atomic_step.specs.declared.count.Change.TheVariants.{Drop, Permanent, Kill}
use Rattle.atomic_step.specs.declared.step.Step.TheVariants as step
use Rattle.atomic_step.specs.Count.{holds_of, is_live}
use Rattle.atomic_step.specs.Turn.{Row, map_row}
use Rattle.atomic_step.proofs.Choices.{either_way}
use Rattle.call_machine.specs.declared.draw.DrawStage.TheVariants as draw
use Rattle.call_machine.specs.declared.enter.EnterStage.TheVariants as enter
use Rattle.call_machine.specs.declared.find.FindStage.{FindStage}
use Rattle.call_machine.specs.declared.grace.Grace.{Grace}
use Rattle.call_machine.specs.declared.handle.HandleStage.{HandleStage}
use Rattle.call_machine.specs.declared.handle.HandleStage.TheVariants as handle
use Rattle.call_machine.specs.declared.insert.InsertStage.{InsertStage}
use Rattle.call_machine.specs.declared.insert.InsertStage.TheVariants as insert
use Rattle.call_machine.specs.declared.leave.LeaveStage.{LeaveStage}
use Rattle.call_machine.specs.declared.leave.LeaveStage.TheVariants as leave
use Rattle.call_machine.specs.declared.leave.Then.{Then}
use Rattle.call_machine.specs.declared.leave.Then.TheVariants as next
use Rattle.call_machine.specs.declared.machine.Machine.TheVariants as machine
use Rattle.call_machine.specs.declared.node.NodeStage.{NodeStage}
use Rattle.call_machine.specs.declared.node.NodeStage.TheVariants as node
use Rattle.call_machine.specs.declared.read.ReadStage.{ReadStage}
use Rattle.call_machine.specs.declared.read.ReadStage.TheVariants as read
use Rattle.call_machine.specs.declared.stage.Along.{Along}
use Rattle.call_machine.specs.declared.stage.Asked.{Asked}
use Rattle.call_machine.specs.declared.stage.CallStage.{CallStage}
use Rattle.call_machine.specs.declared.stage.CallStage.TheVariants as stage
use Rattle.call_machine.specs.declared.stage.Goal.{Goal}
use Rattle.call_machine.specs.declared.stage.Goal.TheVariants.{Lookup, Intern, InternWait}
use Rattle.call_machine.specs.declared.work.Work.{Work}
use Rattle.call_machine.specs.Calls.{finds, found as found_by, goes_to, turn_at}
use Rattle.call_machine.specs.Find.{find_row}
use Rattle.call_machine.specs.Handle.{handle_row, count_found}
use Rattle.call_machine.specs.Insert.{insert_row, not_claimed, not_created, next_slot}
use Rattle.call_machine.specs.Leave.{leave_row, left_for, leaves_with, loses_with}
use Rattle.call_machine.specs.Node.{node_row, end_of, comes_to, matches}
use Rattle.call_machine.specs.Read.{read_row, read_all, reads_from}
use Rattle.cht_core.specs.declared.seat.Seat.{Seat}
use Rattle.cht_core.specs.declared.seat.Seat.TheVariants as doing
use Rattle.cht_core.specs.Bounds.{draws_at}
use Rattle.cht_core.specs.Memory.{Memory, IsMade, found}
use Rattle.cht_core.proofs.BoundSteps.{draws_stay, find_plain}
use Rattle.cht_core.proofs.Turns.{IfMakes}
use Rattle.cht_core.proofs.WorkBounds.{DrawsBy}

-- a stage at which no number is drawn
abbrev DrawsNone : CallStage → Type 0
DrawsNone s = draws_at s ≡ 0

leaves_none : (kept : Option Handle) (a : Answer) → DrawsNone (leaves_with kept a)
leaves_none None a = refl
leaves_none (Some h) a = refl

loses_none : (goal : Goal) (kept : Option Handle) (a : Answer) → DrawsNone (loses_with goal kept a)
loses_none InternWait kept a = refl
loses_none Intern kept a = leaves_none kept a
loses_none Lookup kept a = leaves_none kept a

ends_none : (kept : Option Handle) (cursor head : ℕ) (goal : Goal) → DrawsNone (end_of kept cursor head goal)
ends_none kept cursor head Lookup = leaves_none kept answer.Miss
ends_none kept cursor head Intern = either_way DrawsNone (is_locked head) _ _ (leaves_none kept answer.Locked) refl
ends_none kept cursor head InternWait = either_way DrawsNone (is_locked head) _ _ refl refl

comes_none : (q : Asked) (w : Along) (head : ℕ) (node : Option ℕ) → DrawsNone (comes_to q w head node)
comes_none q w head None = ends_none w.kept w.cursor head q.goal
comes_none q w head (Some x) = refl

matches_none : (q : Asked) (w : Along) (kind : Kind) (x word : ℕ) → DrawsNone (matches q w kind x word)
matches_none q w Counted x word = refl
matches_none q w Weak x word = leaves_none w.kept _

finds_none : (q : Asked) (w : Along) (head : ℕ) (s : Option FindStage) → DrawsNone (finds q w head s)
finds_none q w head (Some s) = refl
finds_none q w head None = comes_none q w head (first_of head)

left_none : (w : Along) (after : Then) → DrawsNone (left_for w after).1
left_none w (next.Answer a) = refl
left_none w next.TryAgain = refl

created_none : (w : Along) (goal : Goal) (h : Handle) (a : Answer) → DrawsNone (not_created w goal h a).1
created_none w InternWait h a = refl
created_none w Intern h a = refl
created_none w Lookup h a = refl

read_none : (kind : Kind) (a : Answer) → DrawsNone (read_all kind a)
read_none Counted a = refl
read_none Weak a = leaves_none None a

reads_none : (kind : Kind) (at len : ℕ) → DrawsNone (reads_from kind at len)
reads_none kind at len = either_way DrawsNone (nat_lt at (words_of len)) _ _ refl (read_none kind (answer.Text len))

count_none : (change : Change) (h : Handle) (word : ℕ) → DrawsNone (count_found change h word)
count_none Drop h word = either_way DrawsNone (holds_of word == 65535) _ _ refl refl
count_none Permanent h word = refl
count_none Kill h word = either_way DrawsNone (is_live h word) _ _ refl refl

-- a row whose step draws nothing, and after which none is drawn
abbrev pub IsNoDraw : Row (Along × CallStage) → Type 0
IsNoDraw does = (does.step ≢ step.Draw) × ((word : ℕ) → DrawsNone (does.next word).1)

pub node_none : (q : Asked) (w : Along) (s : NodeStage) → IsNoDraw (node_row q w s)
node_none q w (node.Meta x) = ((λ e. cc), (λ word. refl))
node_none q w (node.Text x at) = ((λ e. cc), (λ word. refl))
node_none q w (node.Count x) = ((λ e. cc), (λ word. either_way DrawsNone (holds_of word == 0) _ _ refl (matches_none q w q.kind x word)))
node_none q w (node.Link x) = ((λ e. cc), (λ word. comes_none q w w.walk.head (node_of word)))
node_none q w (node.Take x count) = ((λ e. cc), (λ word. either_way DrawsNone (word == count) _ _ (leaves_none w.kept _) (loses_none q.goal w.kept answer.Again)))

abbrev DrawsNoneAt : Along × CallStage → Type 0
DrawsNoneAt at = DrawsNone at.1

pub insert_none : (q : Asked) (w : Along) (s : InsertStage) → IsNoDraw (insert_row q w s)
insert_none q w (insert.Claim slot tried) = (
  (λ e. cc),
  (λ word. either_way DrawsNoneAt (word == 0) (record w { cursor = next_slot q.shape.slots slot }, stage.Insert (insert.OwnCount slot)) (w, not_claimed q w slot tried) refl
      (either_way DrawsNone (tried + 1 == q.shape.slots) _ _ (leaves_none w.kept answer.NoSlot) refl)),
)
insert_none q w (insert.OwnCount slot) = ((λ e. cc), (λ word. refl))
insert_none q w (insert.PutMeta h) = ((λ e. cc), (λ word. refl))
insert_none q w (insert.PutText h at) = ((λ e. cc), (λ word. refl))
insert_none q w (insert.PutLink h) = ((λ e. cc), (λ word. refl))
insert_none q w (insert.PutCount h) = ((λ e. cc), (λ word. refl))
insert_none q w (insert.Create h) = (
  (λ e. cc),
  (λ word. either_way DrawsNoneAt (word == w.walk.head) (record w { kept = None }, leaves_with None (answer.Created h)) _ refl (created_none w q.goal h _)),
)

pub leave_none : (q : Asked) (w : Along) (s : LeaveStage) → IsNoDraw (leave_row q w s)
leave_none q w (leave.UndoCount h after) = ((λ e. cc), (λ word. refl))
leave_none q w (leave.UndoClaim slot after) = ((λ e. cc), (λ word. refl))
leave_none q w (leave.Close after) = ((λ e. cc), (λ word. left_none w after))

pub handle_none : (q : Asked) (w : Along) (s : HandleStage) → IsNoDraw (handle_row q w s)
handle_none q w (handle.Count change) = ((λ e. cc), (λ word. count_none change q.handle word))
handle_none q w (handle.Exchange change count) = ((λ e. cc), (λ word. refl))

pub read_row_none : (q : Asked) (w : Along) (s : ReadStage) → IsNoDraw (read_row q w s)
read_row_none q w (read.Enter enter.LoadCounter) = ((λ e. cc), (λ word. refl))
read_row_none q w (read.Enter (enter.OpenSection counter)) = ((λ e. cc), (λ word. refl))
read_row_none q w read.Count = ((λ e. cc), (λ word. either_way DrawsNone (is_live q.handle word) _ _ refl (leaves_none None answer.Stale)))
read_row_none q w read.Meta = ((λ e. cc), (λ word. reads_none q.kind 0 _))
read_row_none q w (read.Text at len) = ((λ e. cc), (λ word. reads_none q.kind (at + 1) len))

pub find_row_none : (q : Asked) (w : Along) (s : FindStage) → IsNoDraw (map_row (found_by q w) (find_row q.number (hash_of q.seed q.text) w.walk s))
find_row_none q w s = (
  (find_plain q.number (hash_of q.seed q.text) w.walk s).1,
  λ word. let came = (find_row q.number (hash_of q.seed q.text) w.walk s).next word in finds_none q w came.0.head came.1,
)

-- a seat that calls, at a stage
abbrev calls_at : Asked → Option Work → Option Grace → Along × CallStage → Seat
calls_at q k g at = doing.Running (machine.Call (goes_to q at) k g)

none_draws : (m m' : Memory) (q : Asked) (k : Option Work) (g : Option Grace) (w : Along) (s : CallStage) (does : Row (Along × CallStage)) → IsNoDraw does → IsMade does.step m m'
    → DrawsBy q.shape.seats (m place.Draws) (m' place.Draws) (calls_at q k g (w, s)) (calls_at q k g (does.next (found does.step m)))
none_draws m m' q k g w s does none made =
    let same : m' place.Draws ≡ m place.Draws = draws_stay m m' does.step made none.0 in
    let zero : draws_at (does.next (found does.step m)).1 ≡ 0 = none.1 (found does.step m) in
    inl (omega (arith, same, zero))

-- each step of a call
pub call_draws : (m m' : Memory) (q : Asked) (k : Option Work) (g : Option Grace) (w : Along) (s : CallStage)
    → IfMakes (λ does. IsMade does.step m m' → DrawsBy q.shape.seats (m place.Draws) (m' place.Draws) (calls_at q k g (w, s)) (calls_at q k g (does.next (found does.step m)))) (turn_at q w s)
call_draws m m' q k g w (stage.Answered a) = tt
call_draws m m' q k g w (stage.Draw draw.Load) = λ made.
    let same : m' place.Draws ≡ m place.Draws = draws_stay m m' step.LoadDraws made (λ e. cc) in
    by_test same (nat_le q.shape.seats (m place.Draws)) refl
  where
    by_test : m' place.Draws ≡ m place.Draws → (spent : Bool) → nat_le q.shape.seats (m place.Draws) ≡ spent
        → DrawsBy q.shape.seats (m place.Draws) (m' place.Draws) (calls_at q k g (w, stage.Draw draw.Load))
        (calls_at q k g (w, if spent then stage.Answered answer.SeatsSpent else stage.Draw draw.Add))
    by_test same true is = inl (omega (arith, same))
    by_test same false is = inr (same, grind (arith, nat_tests))
call_draws m m' q k g w (stage.Draw draw.Add) = λ made.
    let more : m' place.Draws ≡ (m place.Draws + 1) % 2 ^ 64 = made.here in
    inl (omega (arith, more))
call_draws m m' q k g w (stage.Find s) = none_draws m m' q k g w (stage.Find s) (map_row (found_by q w) (find_row q.number (hash_of q.seed q.text) w.walk s)) (find_row_none q w s)
call_draws m m' q k g w (stage.Node s) = none_draws m m' q k g w (stage.Node s) (node_row q w s) (node_none q w s)
call_draws m m' q k g w (stage.Insert s) = none_draws m m' q k g w (stage.Insert s) (insert_row q w s) (insert_none q w s)
call_draws m m' q k g w (stage.Leave s) = none_draws m m' q k g w (stage.Leave s) (leave_row q w s) (leave_none q w s)
call_draws m m' q k g w (stage.Handle s) = none_draws m m' q k g w (stage.Handle s) (handle_row q w s) (handle_none q w s)
call_draws m m' q k g w (stage.Read s) = none_draws m m' q k g w (stage.Read s) (read_row q w s) (read_row_none q w s)
