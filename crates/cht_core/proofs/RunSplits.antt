-- A split brings a new seat, and answers with its number.
use Rattle.std.proofs.Common.{◌≡◌, ◌≢◌, ℕ, ◌<◌, Bool, true, false, cond, nat_le, List, length, set, Some, None, ◌⊎◌, inl, inr, refl, sym, ap, subst, ◌∙◌, arith}
use Rattle.std.proofs.lemmas.Bool.{leb-false, lt-ltb}
use Rattle.std.proofs.lemmas.Bool.Decides.{nat_tests}
use Rattle.std.proofs.lemmas.List.{length-set}
use Rattle.text_words.specs.Hash.{hash_of}
use Rattle.table_shape.specs.declared.shape.Shape.{Shape}
use Rattle.atomic_step.specs.declared.answer.Answer.TheVariants as answer
use Rattle.atomic_step.specs.declared.plan.Plan.TheVariants as plan
use Rattle.atomic_step.specs.declared.step.Step.{Step as AtomicStep}
use Rattle.atomic_step.specs.declared.step.Step.TheVariants as step
use Rattle.atomic_step.specs.Turn.{Row, map_row, Turn, Answered, Makes, plan_in}
use Rattle.atomic_step.proofs.Choices.{either_way}
use Rattle.call_machine.specs.declared.call.Call.{Call}
use Rattle.call_machine.specs.declared.call.Call.TheVariants as call
use Rattle.call_machine.specs.declared.draw.DrawStage.TheVariants as draw
use Rattle.call_machine.specs.declared.machine.Machine.{Machine}
use Rattle.call_machine.specs.declared.machine.Machine.TheVariants as machine
use Rattle.call_machine.specs.declared.machine.Own.{Own}
use Rattle.call_machine.specs.declared.stage.Along.{Along}
use Rattle.call_machine.specs.declared.stage.Asked.{Asked}
use Rattle.call_machine.specs.declared.stage.CallStage.{CallStage}
use Rattle.call_machine.specs.declared.stage.CallStage.TheVariants as stage
use Rattle.call_machine.specs.Begin.{begin_turn}
use Rattle.call_machine.specs.Poll.{poll_turn}
use Rattle.call_machine.specs.Sweep.{sweep_turn}
use Rattle.call_machine.specs.Calls.{found as found_by, next_at, plan_at}
use Rattle.call_machine.specs.Find.{find_row}
use Rattle.call_machine.specs.Handle.{handle_row}
use Rattle.call_machine.specs.Insert.{insert_row}
use Rattle.call_machine.specs.Leave.{leave_row}
use Rattle.call_machine.specs.Node.{node_row}
use Rattle.call_machine.specs.Read.{read_row}
use Rattle.call_machine.specs.Machine.{caller_of, started, plan_of, got_of, shape_of}
use Rattle.call_machine.proofs.Machines.{got_part, plan_is, got_is}
use Rattle.cht_core.specs.declared.seat.Seat.TheVariants as doing
use Rattle.cht_core.specs.Begins.{first_own}
use Rattle.cht_core.specs.Caused.{way_of}
use Rattle.cht_core.specs.Flow.{Flow}
use Rattle.cht_core.specs.Memory.{Memory, memory_of}
use Rattle.cht_core.specs.Past.{Past, past_of}
use Rattle.cht_core.specs.Runs.{Move, IsUnderWay, BringsSeat, word_in}
use Rattle.cht_core.specs.State.{Core, IsCore, seat_in, seat_after, with_drawn}
use Rattle.cht_core.specs.View.{IsOfSeat, KnowsMachine}
use Rattle.cht_core.specs.Causes.{now_in}
use Rattle.cht_core.proofs.CallBounds.{IsNoDraw, node_none, insert_none, leave_none, handle_none, read_row_none, find_row_none}
use Rattle.cht_core.proofs.MachineBounds.{begin_draws_not, poll_draws_not, sweep_draws_not}
use Rattle.cht_core.proofs.RunAnswers.{NeverSplits, never_on, never_ends, never_begins}
use Rattle.cht_core.proofs.RunCarries.{carried}
use Rattle.cht_core.proofs.RunFollows.{Following}
use Rattle.cht_core.proofs.Turns.{IfMakes}
use Rattle.cht_core.proofs.StateStarts.{seat_same, view_at, view_is}
use Rattle.cht_core.proofs.StateSteps.{none_is}

-- THE MACHINE OF A SPLIT

abbrev IsDrawStage : CallStage → Type 0
IsDrawStage (stage.Draw s) = Unit {0}
IsDrawStage (stage.Answered a) = Unit {0}
IsDrawStage _ = ⊥

-- it is about to load or to draw the first word, or it has answered
abbrev IsDrawing : Machine → Type 0
IsDrawing (machine.Call c w g) = IsDrawStage c.stage
IsDrawing _ = ⊥

draws_on : (q : Asked) (w : Along) (s : CallStage) (word : ℕ) → IsDrawStage s → IsDrawStage (next_at q w s word).1
draws_on q w (stage.Draw draw.Load) word h = either_way IsDrawStage (nat_le q.shape.seats word) (stage.Answered answer.SeatsSpent) (stage.Draw draw.Add) tt tt
draws_on q w (stage.Draw draw.Add) word h = tt
draws_on q w (stage.Answered a) word h = tt
draws_on q w (stage.Find s) word h = absurd h
draws_on q w (stage.Node s) word h = absurd h
draws_on q w (stage.Insert s) word h = absurd h
draws_on q w (stage.Leave s) word h = absurd h
draws_on q w (stage.Handle s) word h = absurd h
draws_on q w (stage.Read s) word h = absurd h

drawing_on : (m : Machine) (word : ℕ) → IsDrawing m → IsDrawing (got_of m word)
drawing_on (machine.Call c w g) word h = subst IsDrawing (sym (got_is (machine.Call c w g) word)) (draws_on c.asked c.along c.stage word h)
drawing_on (machine.Begin b) word h = absurd h
drawing_on (machine.Poll p) word h = absurd h
drawing_on (machine.Sweep s) word h = absurd h

-- what it answers by a word
draw_said : (b : Bool) (word number : ℕ) → plan.Answered (cond b answer.SeatsSpent (answer.Split word)) ≡ plan.Answered (answer.Split number) → (b ≡ false) × (word ≡ number)
draw_said true word number is = absurd (cc)
draw_said false word number is = (refl, let same : answer.Split word ≡ answer.Split number = cc in cc)

load_said : (q : Asked) (w : Along) (b : Bool) (number : ℕ) → plan_at q w (cond b (stage.Answered answer.SeatsSpent) (stage.Draw draw.Add)) ≡ plan.Answered (answer.Split number) → ⊥
load_said q w true number is = absurd (cc)
load_said q w false number is = absurd (cc)

stage_said : (q : Asked) (w : Along) (s : CallStage) (word number : ℕ) (x : AtomicStep) → IsDrawStage s → plan_at q w s ≡ plan.Step x → plan_at q (next_at q w s word).0 (next_at q w s word).1 ≡ plan.Answered (answer.Split number) →
    (x ≡ step.Draw) × (word ≡ number) × (number < q.shape.seats)
stage_said q w (stage.Draw draw.Load) word number x h goes is = absurd (load_said q w (nat_le q.shape.seats word) number is)
stage_said q w (stage.Draw draw.Add) word number x h goes is =
    let said = draw_said (nat_le q.shape.seats word) word number is in
    let few = leb-false q.shape.seats word said.0 in
    let same = said.1 in
    (cc, same, omega (arith, few, same))
stage_said q w (stage.Answered a) word number x h goes is = absurd (cc)
stage_said q w (stage.Find s) word number x h goes is = absurd h
stage_said q w (stage.Node s) word number x h goes is = absurd h
stage_said q w (stage.Insert s) word number x h goes is = absurd h
stage_said q w (stage.Leave s) word number x h goes is = absurd h
stage_said q w (stage.Handle s) word number x h goes is = absurd h
stage_said q w (stage.Read s) word number x h goes is = absurd h

machine_said : (m : Machine) (word number : ℕ) (x : AtomicStep) → IsDrawing m → plan_of m ≡ plan.Step x → plan_of (got_of m word) ≡ plan.Answered (answer.Split number) →
    (x ≡ step.Draw) × (word ≡ number) × (number < (shape_of m).seats)
machine_said (machine.Call c w g) word number x h goes is =
    stage_said c.asked c.along c.stage word number x h (sym (plan_is (machine.Call c w g)) ∙ goes)
    (sym (plan_is (got_part (machine.Call c w g) word)) ∙ ap plan_of (sym (got_is (machine.Call c w g) word)) ∙ is)
machine_said (machine.Begin b) word number x h goes is = absurd h
machine_said (machine.Poll p) word number x h goes is = absurd h
machine_said (machine.Sweep s) word number x h goes is = absurd h

-- A DRAW OF ANY MACHINE

no_draw : (does : Row (Along × CallStage)) → IsNoDraw does → plan.Step does.step ≡ plan.Step step.Draw → ⊥
no_draw does none is = none.0 (let same : does.step ≡ step.Draw = cc in same)

makes_not : {S : Type 0} (t : Turn S) → IfMakes (λ does. does.step ≢ step.Draw) t → plan_in t ≡ plan.Step step.Draw → ⊥
makes_not (Answered a) not is = absurd (cc)
makes_not (Makes does) not is = not (let same : does.step ≡ step.Draw = cc in same)

-- only a split draws, and where a number is left it answers with it
stage_draws : (q : Asked) (w : Along) (s : CallStage) (word : ℕ) → plan_at q w s ≡ plan.Step step.Draw → word < q.shape.seats →
    plan_at q (next_at q w s word).0 (next_at q w s word).1 ≡ plan.Answered (answer.Split word)
stage_draws q w (stage.Draw draw.Load) word is few = absurd (cc)
stage_draws q w (stage.Draw draw.Add) word is few = ap (λ b. plan.Answered (cond b answer.SeatsSpent (answer.Split word))) (not_le q.shape.seats word few)
  where
    not_le : (seats word : ℕ) → word < seats → nat_le seats word ≡ false
    not_le seats word few = grind (arith, nat_tests)
stage_draws q w (stage.Answered a) word is few = absurd (cc)
stage_draws q w (stage.Find s) word is few = absurd (no_draw (map_row (found_by q w) (find_row q.number (hash_of q.seed q.text) w.walk s)) (find_row_none q w s) is)
stage_draws q w (stage.Node s) word is few = absurd (no_draw (node_row q w s) (node_none q w s) is)
stage_draws q w (stage.Insert s) word is few = absurd (no_draw (insert_row q w s) (insert_none q w s) is)
stage_draws q w (stage.Leave s) word is few = absurd (no_draw (leave_row q w s) (leave_none q w s) is)
stage_draws q w (stage.Handle s) word is few = absurd (no_draw (handle_row q w s) (handle_none q w s) is)
stage_draws q w (stage.Read s) word is few = absurd (no_draw (read_row q w s) (read_row_none q w s) is)

machine_draws : (mem : Memory) (p : Past) (f : Flow) (i load : ℕ) (passed : List ℕ) (m : Machine) (word : ℕ) → KnowsMachine mem p f i load passed m → plan_of m ≡ plan.Step step.Draw →
    word < (shape_of m).seats → plan_of (got_of m word) ≡ plan.Answered (answer.Split word)
machine_draws mem p f i load passed (machine.Call c w g) word knows is few =
    ap plan_of (got_is (machine.Call c w g) word) ∙ plan_is (got_part (machine.Call c w g) word) ∙ stage_draws c.asked c.along c.stage word (sym (plan_is (machine.Call c w g)) ∙ is) few
machine_draws mem p f i load passed (machine.Begin b) word knows is few =
    absurd (makes_not (begin_turn b.caller b.stage) (begin_draws_not b.caller b.stage) (sym (plan_is (machine.Begin b)) ∙ is))
machine_draws mem p f i load passed (machine.Poll q) word knows is few =
    absurd (makes_not (poll_turn q.caller (q.work, q.answer)) (poll_draws_not mem p f i q.caller q.work q.answer knows.1) (sym (plan_is (machine.Poll q)) ∙ is))
machine_draws mem p f i load passed (machine.Sweep x) word knows is few =
    absurd (makes_not (sweep_turn x.asked x.along x.stage) (sweep_draws_not x.asked x.along x.stage) (sym (plan_is (machine.Sweep x)) ∙ is))

-- IN A STATE

-- a draw that finds a number of the table answers with it
pub draw_answers : (d : Core) (k : ℕ) (m : Machine) → IsCore d → seat_in d.seats k ≡ Some (doing.Running m) → plan_of m ≡ plan.Step step.Draw → word_in d step.Draw < d.table.shape.seats →
    plan_of (got_of m (word_in d step.Draw)) ≡ plan.Answered (answer.Split (word_in d step.Draw))
draw_answers d k m core at planned few =
    let known = core.inv.knows k (view_at (core.sights k) k (doing.Running m)) (view_is core.sights d.seats k (doing.Running m) at) in
    let of : IsOfSeat d.table (now_in d.table d.log) k m = known.0 in
    machine_draws (memory_of d.table.shape d.words) (past_of d.table.shape.min_level d.log) core.inv.flow k (core.sights k).0 (core.sights k).1 m (word_in d step.Draw) known.1 planned
    (subst (λ (shape : Shape). word_in d step.Draw < shape.seats) (sym of.shape) few)

-- and brings its seat
pub draw_brings : (d : Core) (k : ℕ) (m : Machine) → IsCore d → word_in d step.Draw < d.table.shape.seats → BringsSeat d k m step.Draw (word_in d step.Draw)
draw_brings d k m core few =
    let word : ℕ = word_in d step.Draw in
    let whole = core.seats in
    let long = length-set d.seats k (Some (seat_after (got_of m word))) in
    let inside : word < length (set d.seats k (Some (seat_after (got_of m word)))) = omega (arith, whole, long, few) in
    record {
      draws = refl;
      word = refl;
      inside = few;
      nobody = none_is d.seats word (λ some. let less = (core.drawn word few).0 some in absurd (omega (arith, less)));
      new =
          ap (λ b. seat_in (with_drawn d.table.shape (cond b (Some word) None) (set d.seats k (Some (seat_after (got_of m word))))) word) (lt-ltb word d.table.shape.seats few)
          ∙ seat_same (set d.seats k (Some (seat_after (got_of m word)))) word (Some (doing.Idle (first_own d.table.shape word))) inside;
    }

-- RUNS

pub split_brings : (c d : Core) (k : ℕ) (own : Own) (moves : List Move) (m : Machine) (s : AtomicStep) (number : ℕ) → IsCore c → IsUnderWay c k own call.Split moves d m → plan_of m ≡ plan.Step s →
    plan_of (got_of m (word_in d s)) ≡ plan.Answered (answer.Split number) → BringsSeat d k m s number
split_brings c d k own moves m s number core under planned is =
    let follows : Following k (way_of call.Split) c.log d m × IsDrawing m =
    carried c d core k own call.Split moves m under (λ n x. IsDrawing x) tt (λ n b x s is planned so. drawing_on x (word_in b s) so) in
    let of : IsOfSeat d.table (now_in d.table d.log) k m =
    (follows.0.core.inv.knows k (view_at (follows.0.core.sights k) k (doing.Running m)) (view_is follows.0.core.sights d.seats k (doing.Running m) follows.0.at)).0 in
    let (draws, word, few) = machine_said m (word_in d s) number s follows.1 planned is in
    let here : word_in d step.Draw ≡ number = sym (ap (word_in d) draws) ∙ word in
    let inside : number < d.table.shape.seats = subst (λ (shape : Shape). number < shape.seats) of.shape few in
    subst (λ (x : AtomicStep). BringsSeat d k m x number) (sym draws)
    (subst (BringsSeat d k m step.Draw) here (draw_brings d k m follows.0.core (subst (λ n. n < d.table.shape.seats) (sym here) inside)))

begins_never : (c : Core) (own : Own) (asked : Call) → asked ≢ call.Split → NeverSplits (started c.table.kind c.table.shape c.seed own asked)
begins_never c own asked differ = never_begins (caller_of c.table.kind c.table.shape c.seed own) own asked differ

pub others_never : (c d : Core) (k : ℕ) (own : Own) (asked : Call) (moves : List Move) (m : Machine) (s : AtomicStep) (number : ℕ) → IsCore c → IsUnderWay c k own asked moves d m → asked ≢ call.Split →
    plan_of m ≡ plan.Step s → plan_of (got_of m (word_in d s)) ≡ plan.Answered (answer.Split number) → ⊥
others_never c d k own asked moves m s number core under differ planned is =
    let follows : Following k (way_of asked) c.log d m × NeverSplits m =
    carried c d core k own asked moves m under (λ n x. NeverSplits x) (begins_never c own asked differ) (λ n b x s is planned so. never_on x (word_in b s) so) in
    never_ends (got_of m (word_in d s)) number is (never_on m (word_in d s) follows.1)

-- no call answers so as it begins
pub none_at_once : (c : Core) → IsCore c → (k : ℕ) (own : Own) (asked : Call) (number : ℕ) → seat_in c.seats k ≡ Some (doing.Idle own) →
    plan_of (started c.table.kind c.table.shape c.seed own asked) ≡ plan.Answered (answer.Split number) → ⊥
none_at_once c core k own asked number at is = elim (split_or_not asked) [
  | inl split ↦
      let splits : plan_of (started c.table.kind c.table.shape c.seed own call.Split) ≡ plan.Answered (answer.Split number) =
      subst (λ (x : Call). plan_of (started c.table.kind c.table.shape c.seed own x) ≡ plan.Answered (answer.Split number)) split is in
      absurd (cc)
  | inr differ ↦ never_ends (started c.table.kind c.table.shape c.seed own asked) number is (begins_never c own asked differ)
]
  where
    split_or_not : (asked : Call) → (asked ≡ call.Split) ⊎ (asked ≢ call.Split)
    split_or_not call.Split = inl refl
    split_or_not _ = inr (λ e. cc)
