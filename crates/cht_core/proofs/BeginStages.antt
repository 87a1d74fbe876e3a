-- The stages of the calls that begin a clean or a grace, and of the poll of a grace.
use Rattle.std.proofs.Common.{◌≡◌, ℕ, ◌^◌, inl, inr, refl, sym, ap, subst, ◌∙◌, Bool, true, false, List, [], Option, Some, None}
use Rattle.std.specs.Prelude.{◌==◌, nat_le, if◌then◌else◌}
use Rattle.std.proofs.lemmas.Bool.{eqb-true}
use Rattle.table_shape.specs.declared.place.Place.TheVariants as place
use Rattle.table_shape.specs.declared.shape.Shape.{Shape}
use Rattle.intern_log.specs.declared.event.What.TheVariants as what
use Rattle.intern_log.specs.Now.{Now, owner_of}
use Rattle.atomic_step.specs.declared.answer.Answer.TheVariants as answer
use Rattle.atomic_step.proofs.Choices.{either_way}
use Rattle.call_machine.specs.declared.begin.BeginStage.{BeginStage}
use Rattle.call_machine.specs.declared.begin.BeginStage.TheVariants as begin
use Rattle.call_machine.specs.declared.begin.Left.TheVariants as left
use Rattle.call_machine.specs.declared.begin.Task.{Task}
use Rattle.call_machine.specs.declared.begin.Task.TheVariants as task
use Rattle.call_machine.specs.declared.caller.Caller.{Caller}
use Rattle.call_machine.specs.declared.grace.Grace.{Grace}
use Rattle.call_machine.specs.declared.grace.GraceStage.TheVariants.{RaiseCounter, LoadSection}
use Rattle.call_machine.specs.declared.grace.Gracing.{Gracing}
use Rattle.call_machine.specs.declared.resize.Direction.{Direction}
use Rattle.call_machine.specs.declared.resize.Direction.TheVariants.{Grow, Shrink}
use Rattle.call_machine.specs.declared.grace.Gracing.TheVariants.{Goes, Waits, Over}
use Rattle.call_machine.specs.Begin.{begin_turn, counted, goes_on, answers, taken, bounded, graced}
use Rattle.call_machine.specs.Grace.{scanned}
use Rattle.cht_core.specs.declared.table.Table.{Table}
use Rattle.cht_core.specs.Backs.{Backs}
use Rattle.cht_core.specs.Flow.{Flow, IsUsed, holds_after}
use Rattle.cht_core.specs.KnowsResize.{Resizing, NoHead}
use Rattle.cht_core.specs.KnowsWork.{KnowsLeft, KnowsBegin}
use Rattle.cht_core.specs.Memory.{Memory, found}
use Rattle.cht_core.specs.Past.{Past, told}
use Rattle.cht_core.specs.Search.{IsOutside}
use Rattle.cht_core.specs.Stage.{Quiet}
use Rattle.cht_core.specs.TableState.{IsTable}
use Rattle.cht_core.proofs.GraceStages.{CanRaise, KnowsGraced, grace_backs, grace_knows}
use Rattle.cht_core.proofs.LockSteps.{nobody}
use Rattle.cht_core.proofs.OwesKept.{UnlinkedAtMost}
use Rattle.cht_core.proofs.Turns.{IfMakes, past_by, flow_of}

-- what the steps need
pub begin_backs : (t : Table) (m : Memory) (p : Past) (f : Flow) (i : ℕ) (text : List ℕ) (caller : Caller) (s : BeginStage) → UnlinkedAtMost p i [] → KnowsBegin p.now f i s
    → IfMakes (λ does. CanRaise m does.step → Backs t m p f i text does.step) (begin_turn caller s)
begin_backs t m p f i text caller (begin.LoadCounter task) all known = λ may. tt
begin_backs t m p f i text caller (begin.TakeResizeLock task) all known = λ may. tt
begin_backs t m p f i text caller (begin.LoadLevel direction) all known = λ may. tt
begin_backs t m p f i text caller (begin.GiveResizeLock a) all known = λ may. (known, λ s at is. elim (all s at is) [ inl never ↦ absurd never | inr many ↦ many ])
begin_backs t m p f i text caller (begin.Grace g s) all known = grace_backs t m p f i text caller.shape.seats g s
begin_backs t m p f i text caller (begin.Answered a left) all known = tt

-- the counter was looked at
counted_knows : (n : Now) (f : Flow) (i : ℕ) (t : Option Task) (word : ℕ) → KnowsBegin n f i (counted t word)
counted_knows n f i t word = by_test (nat_le (2 ^ 48) word) t
  where
    by_test : (spent : Bool) (t : Option Task) → KnowsBegin n f i (if spent then answers (answer.Spent word) else goes_on t)
    by_test true t = tt
    by_test false (Some task) = tt
    by_test false None = tt

-- who takes the resize lock finds no resize, and no head that another resize has locked
resizing_taken : (t : Table) (m : Memory) (p : Past) (f : Flow) (i : ℕ) → IsTable t m p f → m place.ResizeLock ≡ 0
    → KnowsLeft (told p i (Some what.ResizeTaken)).now f i left.Clean
resizing_taken t m p f i table zero =
    let none : p.now.resizing ≡ None = nobody p.now.resizing (sym table.heads.owner ∙ zero) in
    record {
      owner = refl;
      at_level = refl;
      at_stage = table.idle none;
      free = λ row bucket unused other beyond. go row bucket unused none (p.now.lock row bucket) refl;
    }
  where
    go : (row bucket : ℕ) → ¬ (IsUsed p.now f row bucket) → p.now.resizing ≡ None → (lock : Option ℕ) → p.now.lock row bucket ≡ lock → lock ≡ None
    go row bucket unused none None is = refl
    go row bucket unused none (Some k) is = elim (table.heads.held row bucket k is) [
      | inl used ↦ absurd (unused used)
      | inr owner ↦ absurd (let clash : None ≡ Some k = sym (ap owner_of none) ∙ owner in cc)
    ]

-- the resize lock was taken, or found taken
has_taken : (n : Now) (f : Flow) (i : ℕ) (which : Task) → KnowsLeft n f i left.Clean → KnowsBegin n f i (taken which)
has_taken n f i task.Clean h = h
has_taken n f i task.Grow h = h
has_taken n f i task.Shrink h = h

taken_knows : (t : Table) (m : Memory) (p : Past) (f : Flow) (i : ℕ) (which : Task) → IsTable t m p f
    → KnowsBegin (told p i (if m place.ResizeLock == 0 then Some what.ResizeTaken else None)).now
    (record f { holds = holds_after i (if m place.ResizeLock == 0 then Some what.ResizeTaken else None) f.holds }) i (if m place.ResizeLock == 0 then taken which else answers answer.Busy)
taken_knows t m p f i which table = by_test (m place.ResizeLock == 0) refl
  where
    by_test : (free : Bool) → (m place.ResizeLock == 0) ≡ free
        → KnowsBegin (told p i (if free then Some what.ResizeTaken else None)).now (record f { holds = holds_after i (if free then Some what.ResizeTaken else None) f.holds }) i (if free then taken which else answers answer.Busy)
    by_test true is = has_taken (told p i (Some what.ResizeTaken)).now f i which (resizing_taken t m p f i table (eqb-true (m place.ResizeLock) 0 is))
    by_test false is = tt

-- the level was loaded: the resize begins from it, or the resize lock is given back
bounded_knows : (n : Now) (f : Flow) (i : ℕ) (shape : Shape) (d : Direction) (word : ℕ) → word ≡ n.level → KnowsLeft n f i left.Clean → KnowsBegin n f i (bounded shape d word)
bounded_knows n f i shape Grow word is h =
    either_way (KnowsBegin n f i) (word == shape.max_level) _ _ h (subst (λ (l : ℕ). Resizing n f i l Quiet NoHead) (sym is) h)
bounded_knows n f i shape Shrink word is h =
    either_way (KnowsBegin n f i) (word == shape.min_level) _ _ h (subst (λ (l : ℕ). Resizing n f i l Quiet NoHead) (sym is) h)

taken_outside : (p : Past) (i word : ℕ) → IsOutside p.now i → IsOutside (told p i (if word == 0 then Some what.ResizeTaken else None)).now i
taken_outside p i word outside = by_test (word == 0)
  where
    by_test : (free : Bool) → IsOutside (told p i (if free then Some what.ResizeTaken else None)).now i
    by_test true = outside
    by_test false = outside

-- a section word was looked at
scanned_knows : (n : Now) (f : Flow) (i : ℕ) (g : Grace) (gracing : Gracing) → KnowsGraced n g gracing → KnowsBegin n f i (graced LoadSection g gracing)
scanned_knows n f i g Goes came = came
scanned_knows n f i g Waits came = came
scanned_knows n f i g Over came = tt

-- what is known after a step
pub begin_next : (t : Table) (m : Memory) (p : Past) (f : Flow) (i : ℕ) (text : List ℕ) (caller : Caller) (s : BeginStage) → IsTable t m p f → caller.shape ≡ t.shape → IsOutside p.now i
    → KnowsBegin p.now f i s
    → IfMakes (λ does. let word = found does.step m in let now = (past_by p i text does.step m).now in IsOutside now i × KnowsBegin now (flow_of p f i text does.step m) i (does.next word)) (begin_turn caller s)
begin_next t m p f i text caller (begin.LoadCounter task) table shape outside known = (outside, counted_knows p.now f i task (m place.Counter))
begin_next t m p f i text caller (begin.TakeResizeLock task) table shape outside known = (taken_outside p i (m place.ResizeLock) outside, taken_knows t m p f i task table)
begin_next t m p f i text caller (begin.LoadLevel direction) table shape outside known = (outside, bounded_knows p.now f i caller.shape direction (m place.Level) table.heads.level known)
begin_next t m p f i text caller (begin.GiveResizeLock a) table shape outside known = (outside, tt)
begin_next t m p f i text caller (begin.Grace g RaiseCounter) table shape outside known = (outside, grace_knows t m p f i text g RaiseCounter table tt)
begin_next t m p f i text caller (begin.Grace g LoadSection) table shape outside known =
    subst (λ (k : Shape). let came = scanned k.seats g (m (place.Section g.next)) in IsOutside p.now i × KnowsBegin p.now f i (graced LoadSection came.0 came.1)) (sym shape) (
      outside,
      scanned_knows p.now f i (scanned t.shape.seats g (m (place.Section g.next))).0 (scanned t.shape.seats g (m (place.Section g.next))).1
          (grace_knows t m p f i text g LoadSection table known),
    )
begin_next t m p f i text caller (begin.Answered a left) table shape outside known = tt
