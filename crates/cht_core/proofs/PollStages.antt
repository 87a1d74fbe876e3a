-- The stages of the poll of a work, and a new poll.
use Rattle.std.proofs.Common.{◌≡◌, ℕ, refl, sym, subst, inl, inr, List, Option, Some, None, IfSome}
use Rattle.table_shape.specs.declared.shape.Shape.{Shape}
use Rattle.atomic_step.specs.declared.answer.Answer.{Answer}
use Rattle.atomic_step.specs.Turn.{Row}
use Rattle.call_machine.specs.declared.clean.CleanAlong.{CleanAlong}
use Rattle.call_machine.specs.declared.clean.CleanStage.{CleanStage}
use Rattle.call_machine.specs.declared.clean.CleanStage.TheVariants as clean
use Rattle.call_machine.specs.declared.machine.Machine.TheVariants as machine
use Rattle.call_machine.specs.declared.poll.Polling.{Polling}
use Rattle.call_machine.specs.declared.work.Work.{Work}
use Rattle.call_machine.specs.declared.work.Work.TheVariants as work
use Rattle.call_machine.specs.Polls.{turn_by}
use Rattle.call_machine.specs.Poll.{poll_turn, state_of, work_left}
use Rattle.call_machine.specs.Work.{work_row, resumes, IsSoundWork}
use Rattle.cht_core.specs.declared.seat.Seat.TheVariants as doing
use Rattle.cht_core.specs.declared.table.Table.{Table}
use Rattle.cht_core.specs.Backs.{Backs, Goes}
use Rattle.cht_core.specs.Flow.{Flow}
use Rattle.cht_core.specs.KnowsWork.{KnowsCleaning, KnowsWork}
use Rattle.cht_core.specs.Memory.{Memory, IsMade, found}
use Rattle.cht_core.specs.Owes.{Owes, waiting_of_work}
use Rattle.cht_core.specs.Past.{Past}
use Rattle.cht_core.specs.Search.{IsOutside}
use Rattle.cht_core.specs.TableState.{IsTable}
use Rattle.cht_core.proofs.CleanStages.{clean_backs, clean_next, left_knows}
use Rattle.cht_core.proofs.GraceStages.{CanRaise}
use Rattle.cht_core.proofs.OwesKept.{UnlinkedAtMost}
use Rattle.cht_core.proofs.ResizeBacks.{resize_backs}
use Rattle.cht_core.proofs.ResizeNext.{resize_next}
use Rattle.cht_core.proofs.ResizeOutside.{resize_outside}
use Rattle.cht_core.proofs.Turns.{IfMakes, past_by, flow_of}
use Rattle.cht_core.proofs.WorkBeside.{clean_outside}

-- what the steps of a work need
pub work_backs : (t : Table) (m : Memory) (p : Past) (f : Flow) (i : ℕ) (text : List ℕ) (w : Work) → IsSoundWork t.shape w → UnlinkedAtMost p i (waiting_of_work (Some w)) → KnowsWork m p f i w
    → CanRaise m (work_row t.shape w).step → Backs t m p f i text (work_row t.shape w).step
work_backs t m p f i text (work.Clean c) sound all known may = clean_backs t m p f i text c.along c.stage sound known.0 all known.1 may
work_backs t m p f i text (work.Resize r) sound all known may =
    resize_backs t m p f i text r.direction r.along r.stage sound (λ s at is. elim (all s at is) [ inl never ↦ absurd never | inr many ↦ many ]) known may

-- what the work that is left knows after a step, and that its seat is outside still
pub work_next : (t : Table) (m m' : Memory) (p : Past) (f : Flow) (i : ℕ) (text : List ℕ) (w : Work) → IsTable t m p f → IsSoundWork t.shape w → IsMade (work_row t.shape w).step m m'
    → Goes t m p f i text (work_row t.shape w).step m' → IsOutside p.now i → KnowsWork m p f i w
    → let r = work_row t.shape w in let came = r.next (found r.step m) in
    IsOutside (past_by p i text r.step m).now i × IfSome (work_left came.0 came.1) (KnowsWork m' (past_by p i text r.step m) (flow_of p f i text r.step m) i)
work_next t m m' p f i text (work.Clean c) table sound made goes outside known = (
  clean_outside p i text t.shape c.along c.stage (found (work_row t.shape (work.Clean c)).step m) outside,
  clean_next t m m' p f i text c.along c.stage table sound known.0 made goes known.1,
)
work_next t m m' p f i text (work.Resize r) table sound made goes outside known = (
  resize_outside p i text t.shape r.direction r.along r.stage (found (work_row t.shape (work.Resize r)).step m) outside,
  resize_next t m m' p f i text r table sound made known,
)

-- the same of a poll
pub poll_backs : (t : Table) (m : Memory) (p : Past) (f : Flow) (i : ℕ) (text : List ℕ) (q : Polling) → q.caller.shape ≡ t.shape → IsSoundWork q.caller.shape q.work
    → Owes p i (doing.Running (machine.Poll q)) → IfSome (work_left q.work q.answer) (KnowsWork m p f i)
    → IfMakes (λ does. CanRaise m does.step → Backs t m p f i text does.step) (poll_turn q.caller (state_of q))
poll_backs t m p f i text q shape sound owes known = by_answer q.answer refl
  where
    by_answer : (a : Option Answer) → q.answer ≡ a → IfMakes (λ does. CanRaise m does.step → Backs t m p f i text does.step) (poll_turn q.caller (q.work, a))
    by_answer (Some a) is = tt
    by_answer None is =
        let all : UnlinkedAtMost p i (waiting_of_work (Some q.work)) = subst (λ (a : Option Answer). UnlinkedAtMost p i (waiting_of_work (work_left q.work a))) is owes.unlinked in
        let knows : KnowsWork m p f i q.work = subst (λ (a : Option Answer). IfSome (work_left q.work a) (KnowsWork m p f i)) is known in
        subst (λ (s : Shape). IsSoundWork s q.work → CanRaise m (work_row s q.work).step → Backs t m p f i text (work_row s q.work).step) (sym shape)
        (λ sound. work_backs t m p f i text q.work sound all knows) sound

-- what is known after a step of a poll
abbrev pub PollsOn : Table → Memory → Memory → Past → Flow → ℕ → List ℕ → Shape → Work × Option Answer → Type 0
PollsOn t m m' p f i text shape at = IfMakes (λ (does : Row (Work × Option Answer)). IsMade does.step m m' → Goes t m p f i text does.step m' → let came = does.next (found does.step m) in
    IsOutside (past_by p i text does.step m).now i × IfSome (work_left came.0 came.1) (KnowsWork m' (past_by p i text does.step m) (flow_of p f i text does.step m) i)) (turn_by (work_row shape) at)

-- a poll leads to what is known after its step
pub poll_next : (t : Table) (m m' : Memory) (p : Past) (f : Flow) (i : ℕ) (text : List ℕ) (q : Polling) → IsTable t m p f → q.caller.shape ≡ t.shape → IsSoundWork q.caller.shape q.work
    → IsOutside p.now i → IfSome (work_left q.work q.answer) (KnowsWork m p f i) → PollsOn t m m' p f i text q.caller.shape (state_of q)
poll_next t m m' p f i text q table shape sound outside known = by_answer q.answer refl
  where
    by_answer : (a : Option Answer) → q.answer ≡ a → PollsOn t m m' p f i text q.caller.shape (q.work, a)
    by_answer (Some a) is = tt
    by_answer None is =
        let knows : KnowsWork m p f i q.work = subst (λ (a : Option Answer). IfSome (work_left q.work a) (KnowsWork m p f i)) is known in
        subst (λ (s : Shape). IsSoundWork s q.work → PollsOn t m m' p f i text s (q.work, None)) (sym shape)
        (λ sound made goes. work_next t m m' p f i text q.work table sound made goes outside knows) sound

-- how often a bucket was passed says nothing of the table
resumed_cleaning : (m : Memory) (p : Past) (f : Flow) (i : ℕ) (w : CleanAlong) (s : CleanStage) → KnowsCleaning m p f i w s → KnowsCleaning m p f i (record w { full_passes = 0 }) s
resumed_cleaning m p f i w clean.LoadLevel known = known
resumed_cleaning m p f i w (clean.Lock s) known = known
resumed_cleaning m p f i w (clean.Pass s) known = known
resumed_cleaning m p f i w clean.UnlockHead known = known
resumed_cleaning m p f i w (clean.Grace freeing s) known = known
resumed_cleaning m p f i w (clean.Free freeing s) known = known
resumed_cleaning m p f i w clean.GiveResizeLock known = known

-- a new poll knows what the work knew
pub resumed_knows : (m : Memory) (p : Past) (f : Flow) (i : ℕ) (w : Work) → KnowsWork m p f i w → IfSome (work_left (resumes w).0 (resumes w).1) (KnowsWork m p f i)
resumed_knows m p f i (work.Clean c) known =
    left_knows m p f i (resumes (work.Clean c)).0 (resumes (work.Clean c)).1 (known.0, resumed_cleaning m p f i c.along c.stage known.1)
resumed_knows m p f i (work.Resize r) known = left_knows m p f i (resumes (work.Resize r)).0 (resumes (work.Resize r)).1 known
