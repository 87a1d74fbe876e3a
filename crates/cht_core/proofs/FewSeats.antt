-- What a seat's unfinished grow has of graces goes on, as its call begins, as it has answered, and while others make steps.
use Rattle.std.specs.Prelude.{nat_le, ◌^◌}
use Rattle.std.proofs.Common.{◌≡◌, ◌≢◌, Bool, ℕ, ◌≤◌, List, Option, Some, None, IfSome, refl, subst, arith}
use Rattle.intern_log.specs.declared.event.Event.{Event}
use Rattle.intern_log.specs.declared.event.What.{What}
use Rattle.intern_log.specs.Counts.{is_create, events_in}
use Rattle.intern_log.specs.Now.{Now, owner_of}
use Rattle.atomic_step.specs.declared.answer.Answer.{Answer}
use Rattle.atomic_step.specs.declared.answer.Answer.TheVariants as answer
use Rattle.atomic_step.proofs.Choices.{either_way}
use Rattle.call_machine.specs.declared.begin.Left.{Left}
use Rattle.call_machine.specs.declared.begin.Left.TheVariants as left
use Rattle.call_machine.specs.declared.caller.Caller.{Caller}
use Rattle.call_machine.specs.declared.clean.Clean.{Clean}
use Rattle.call_machine.specs.declared.grace.Grace as graces
use Rattle.call_machine.specs.declared.grace.GraceStage.TheVariants.{RaiseCounter, LoadSection}
use Rattle.call_machine.specs.declared.call.Call.{Call}
use Rattle.call_machine.specs.declared.call.Call.TheVariants as call
use Rattle.call_machine.specs.declared.machine.Machine.{Machine}
use Rattle.call_machine.specs.declared.machine.Machine.TheVariants as machine
use Rattle.call_machine.specs.declared.machine.Own.{Own}
use Rattle.call_machine.specs.declared.resize.Direction.{Direction}
use Rattle.call_machine.specs.declared.resize.Direction.TheVariants.{Grow, Shrink}
use Rattle.call_machine.specs.declared.resize.Resize.{Resize}
use Rattle.call_machine.specs.declared.resize.ResizeAlong.{ResizeAlong}
use Rattle.call_machine.specs.declared.resize.ResizeStage.{ResizeStage}
use Rattle.call_machine.specs.declared.resize.ResizeStage.TheVariants as resize
use Rattle.call_machine.specs.declared.work.Work.{Work}
use Rattle.call_machine.specs.declared.work.Work.TheVariants as work
use Rattle.call_machine.specs.Begin.{left_of}
use Rattle.call_machine.specs.Machine.{starts, begun_work_poll, begun_grace_poll, own_of}
use Rattle.call_machine.specs.Poll.{work_left}
use Rattle.call_machine.specs.Resize as resizes
use Rattle.call_machine.specs.Work.{resumes, begun_work}
use Rattle.cht_core.specs.declared.seat.Seat.{Seat}
use Rattle.cht_core.specs.declared.seat.Seat.TheVariants as doing
use Rattle.cht_core.specs.declared.table.Table.{Table}
use Rattle.cht_core.specs.Bounds.{work_of}
use Rattle.cht_core.specs.Flow.{Flow}
use Rattle.cht_core.specs.Graces.{ResizesWithFew, WorksWithFew, WorkedWithFew, IsAnswerWithFew, AnswersWithFew, GrowsWithFew}
use Rattle.cht_core.specs.KnowsWork.{KnowsWork}
use Rattle.cht_core.specs.Memory.{Memory}
use Rattle.cht_core.specs.Past.{Past}
use Rattle.cht_core.specs.Stage.{Whole}
use Rattle.cht_core.specs.View.{View, Knows}
use Rattle.cht_core.proofs.FewGraces.{few_stays}
use Rattle.cht_core.proofs.ResizeOwner.{resize_owner}

-- what is so of what may be there goes over
pub if_some : {A : Type 0} (P Q : A → Type 0) (o : Option A) → ((a : A) → o ≡ Some a → P a → Q a) → IfSome o P → IfSome o Q
if_some P Q None over so = tt
if_some P Q (Some a) over so = over a refl so

-- OWNERS

pub work_owner : (m : Memory) (p : Past) (f : Flow) (i : ℕ) (w : Work) → KnowsWork m p f i w → owner_of p.now.resizing ≡ Some i
work_owner m p f i (work.Clean c) known = known.0.owner
work_owner m p f i (work.Resize r) known = resize_owner m p.now f i r.direction r.along r.stage known

pub of_some : {A : Type 0} (P : A → Type 0) (o : Option A) (a : A) → o ≡ Some a → IfSome o P → P a
of_some {A = A} P o a is so = subst (λ (x : Option A). IfSome x P) is so

-- a seat with an unfinished work knows it, and has the resize lock
pub known_work : (t : Table) (m : Memory) (p : Past) (f : Flow) (i : ℕ) (v : View) (w : Work) → Knows t m p f i v → work_of v.seat ≡ Some w → KnowsWork m p f i w
known_work t m p f i v w known is = go v.seat is known
  where
    go : (s : Seat) → work_of s ≡ Some w → Knows t m p f i (record v { seat = s }) → KnowsWork m p f i w
    go (doing.Idle own) is known = of_some (KnowsWork m p f i) own.work w is known.1.1
    go (doing.Running (machine.Call c o g)) is known = of_some (KnowsWork m p f i) o w is known.1.1
    go (doing.Running (machine.Begin b)) is known = absurd (cc)
    go (doing.Running (machine.Poll q)) is known = of_some (KnowsWork m p f i) (work_left q.work q.answer) w is known.1.1
    go (doing.Running (machine.Sweep s)) is known = absurd (cc)

pub seat_owner : (t : Table) (m : Memory) (p : Past) (f : Flow) (i : ℕ) (v : View) (w : Work) → Knows t m p f i v → work_of v.seat ≡ Some w → owner_of p.now.resizing ≡ Some i
seat_owner t m p f i v w known is = work_owner m p f i w (known_work t m p f i v w known is)

-- WHAT STAYS

module _ (n n' : Now) (log log' : List Event) (seed : n'.seed ≡ n.seed) (more : (test : What → Bool) → events_in test log ≤ events_in test log') where
  answer_stays : (w : Work) (a : Answer) → IsAnswerWithFew log w a → IsAnswerWithFew log' w a
  answer_stays (work.Clean c) a few = tt
  answer_stays (work.Resize r) (answer.Done did) few = by_direction r.direction few
    where
      by_direction : (d : Direction) → WorkedWithFew log d did → WorkedWithFew log' d did
      by_direction Grow few = let least = more is_create in omega (arith, few, least)
      by_direction Shrink few = tt
  answer_stays (work.Resize r) _ few = few

  pub answers_stay : (s : Seat) → AnswersWithFew log s → AnswersWithFew log' s
  answers_stay (doing.Running (machine.Poll q)) few = if_some (IsAnswerWithFew log q.work) (IsAnswerWithFew log' q.work) q.answer (λ a is few. answer_stays q.work a few) few
  answers_stay (doing.Running (machine.Call c w g)) few = tt
  answers_stay (doing.Running (machine.Begin b)) few = tt
  answers_stay (doing.Running (machine.Sweep s)) few = tt
  answers_stay (doing.Idle own) few = tt

  module _ (f f' : Flow) (parted : (s : ℕ) → f.parted s ≢ Whole → f'.parted s ≢ Whole) where
    pub work_stays : (w : Work) → WorksWithFew n log f w → WorksWithFew n' log' f' w
    work_stays (work.Clean c) few = tt
    work_stays (work.Resize r) few = by_direction r.direction few
      where
        by_direction : (d : Direction) → ResizesWithFew n log f d r.along r.stage → ResizesWithFew n' log' f' d r.along r.stage
        by_direction Grow few = few_stays n n' log log' seed more f f' parted r.along r.stage few
        by_direction Shrink few = tt

  -- as long as the slots stay parted for who has an unfinished work
  pub seat_stays : (f f' : Flow) (s : Seat) → ((w : Work) → work_of s ≡ Some w → (x : ℕ) → f.parted x ≢ Whole → f'.parted x ≢ Whole) → GrowsWithFew n log f s → GrowsWithFew n' log' f' s
  seat_stays f f' s parted few =
      (if_some (WorksWithFew n log f) (WorksWithFew n' log' f') (work_of s) (λ w is few. work_stays f f' (parted w is) w few) few.0, answers_stay s few.1)

-- CALLS

module _ (n : Now) (log : List Event) (f : Flow) where
  -- of a work that is left, and of what was answered
  abbrev pub IsLeftWithFew : Work → Option Answer → Type 0
  IsLeftWithFew w o = IfSome (work_left w o) (WorksWithFew n log f) × IfSome o (IsAnswerWithFew log w)

  pub left_few : (w : Work) (o : Option Answer) → WorksWithFew n log f w → IfSome o (IsAnswerWithFew log w) → IsLeftWithFew w o
  left_few w None few answered = (few, answered)
  left_few w (Some (answer.Done did)) few answered = (tt, answered)
  left_few w (Some _) few answered = (few, answered)

  -- a clean asks nothing
  pub clean_few : (c : Clean) (o : Option Answer) → IsLeftWithFew (work.Clean c) o
  clean_few c o = left_few (work.Clean c) o tt (go o)
    where
      go : (o : Option Answer) → IfSome o (IsAnswerWithFew log (work.Clean c))
      go None = tt
      go (Some a) = tt

  -- a work that begins has begun no grace
  begun_few : (caller : Caller) (l : Left) → IfSome (begun_work caller.shape l) (WorksWithFew n log f)
  begun_few caller left.Nothing = tt
  begun_few caller left.Clean = tt
  begun_few caller (left.Resize Grow level) = omega arith
  begun_few caller (left.Resize Shrink level) = tt
  begun_few caller (left.Grace g) = tt

  -- a seat whose call has answered
  pub rests_few : (k : Machine) → GrowsWithFew n log f (doing.Running k) → GrowsWithFew n log f (doing.Idle (own_of k))
  rests_few (machine.Call c w g) few = (few.0, tt)
  rests_few (machine.Begin b) few = (begun_few b.caller (left_of b.stage), tt)
  rests_few (machine.Poll q) few = (few.0, tt)
  rests_few (machine.Sweep s) few = (tt, tt)

  -- a new poll of a grow has answered nothing yet, or that it may begin no grace
  resumed_few : (r : Resize) → IfSome (resizes.resumed r.along r.stage) (IsAnswerWithFew log (work.Resize r))
  resumed_few r = go r.along r.stage
    where
      go : (w : ResizeAlong) (s : ResizeStage) → IfSome (resizes.resumed w s) (IsAnswerWithFew log (work.Resize r))
      go w (resize.Grace then_do RaiseCounter) = either_way (λ (o : Option Answer). IfSome o (IsAnswerWithFew log (work.Resize r))) (nat_le (2 ^ 63) w.grace.raised) (Some (answer.PendingSeat 0)) None tt tt
      go w (resize.Grace then_do LoadSection) = tt
      go w _ = tt

  poll_few : (caller : Caller) (o : Option Work) → IfSome o (WorksWithFew n log f) → GrowsWithFew n log f (doing.Running (begun_work_poll caller o))
  poll_few caller None few = (tt, tt)
  poll_few caller (Some (work.Clean c)) few = clean_few (record c { along = record c.along { full_passes = 0 } }) (resumes (work.Clean c)).1
  poll_few caller (Some (work.Resize r)) few = left_few (work.Resize r) (resizes.resumed r.along r.stage) few (resumed_few r)

  grace_few : (caller : Caller) (o : Option graces.Grace) → GrowsWithFew n log f (doing.Running (begun_grace_poll caller o))
  grace_few caller None = (tt, tt)
  grace_few caller (Some g) = (tt, tt)

  -- a call that begins
  pub starts_few : (caller : Caller) (own : Own) (c : Call) → GrowsWithFew n log f (doing.Idle own) → GrowsWithFew n log f (doing.Running (starts caller own c))
  starts_few caller own call.PollGrace few = grace_few caller own.grace
  starts_few caller own call.PollWork few = poll_few caller own.work few.0
  starts_few caller own call.Split few = (few.0, tt)
  starts_few caller own (call.Intern text) few = (few.0, tt)
  starts_few caller own (call.Lookup text) few = (few.0, tt)
  starts_few caller own (call.InternWait text) few = (few.0, tt)
  starts_few caller own (call.TextOf h) few = (few.0, tt)
  starts_few caller own (call.Drop h) few = (few.0, tt)
  starts_few caller own (call.Permanent h) few = (few.0, tt)
  starts_few caller own (call.Kill h) few = (few.0, tt)
  starts_few caller own call.BeginClean few = (tt, tt)
  starts_few caller own call.BeginGrow few = (tt, tt)
  starts_few caller own call.BeginShrink few = (tt, tt)
  starts_few caller own call.BeginGrace few = (tt, tt)
  starts_few caller own (call.Sweep text) few = (tt, tt)
