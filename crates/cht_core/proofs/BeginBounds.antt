-- How often a call that begins a work or a grace may raise the counter after each of its steps.
use Rattle.std.proofs.Common.{◌≡◌, ℕ, ◌+◌, ◌^◌, Bool, true, false, Option, inl, inr, refl, arith}
use Rattle.std.specs.Prelude.{◌==◌, nat_le, if◌then◌else◌}
use Rattle.std.proofs.lemmas.Bool.Decides.{nat_tests}
use Rattle.table_shape.specs.declared.place.Place.TheVariants as place
use Rattle.intern_log.specs.Now.{Now}
use Rattle.atomic_step.specs.declared.answer.Answer.TheVariants as answer
use Rattle.atomic_step.specs.declared.step.Step.TheVariants as step
use Rattle.call_machine.specs.declared.begin.Beginning.{Beginning}
use Rattle.call_machine.specs.declared.begin.BeginStage.{BeginStage}
use Rattle.call_machine.specs.declared.begin.BeginStage.TheVariants as begin
use Rattle.call_machine.specs.declared.begin.Task.{Task}
use Rattle.call_machine.specs.declared.grace.Grace.{Grace}
use Rattle.call_machine.specs.declared.grace.GraceStage.TheVariants.{RaiseCounter, LoadSection}
use Rattle.call_machine.specs.declared.grace.Gracing.{Gracing}
use Rattle.call_machine.specs.declared.grace.Gracing.TheVariants.{Goes, Waits, Over}
use Rattle.call_machine.specs.declared.machine.Machine.TheVariants as machine
use Rattle.call_machine.specs.Begin.{bounded, begin_turn, counted, goes_on, answers, taken, graced}
use Rattle.call_machine.specs.Grace.{scanned}
use Rattle.cht_core.specs.declared.seat.Seat.{Seat}
use Rattle.cht_core.specs.declared.seat.Seat.TheVariants as doing
use Rattle.cht_core.specs.Flow.{Flow}
use Rattle.cht_core.specs.KnowsWork.{KnowsBegin}
use Rattle.cht_core.specs.Memory.{Memory, IsMade, found}
use Rattle.cht_core.proofs.BoundSteps.{counter_stays, counter_raised}
use Rattle.cht_core.proofs.GraceStages.{CanRaise}
use Rattle.cht_core.proofs.Turns.{IfMakes}
use Rattle.cht_core.proofs.WorkBounds.{RaisesBy, raises_no_more, from_one}

-- a seat that begins a work or a grace, at a stage
abbrev begins_at : Beginning → BeginStage → Seat
begins_at b s = doing.Running (machine.Begin (record b { stage = s }))

-- the counter was looked at
counted_raises : (b : Beginning) (t : Option Task) (counter after : ℕ) → after ≡ counter → RaisesBy counter after (begins_at b (begin.LoadCounter t)) (begins_at b (counted t counter))
counted_raises b t counter after same = by_test (nat_le (2 ^ 48) counter) refl
  where
    by_test : (spent : Bool) → nat_le (2 ^ 48) counter ≡ spent
        → RaisesBy counter after (begins_at b (begin.LoadCounter t)) (begins_at b (if spent then answers (answer.Spent counter) else goes_on t))
    by_test true is = raises_no_more counter after (begins_at b (begin.LoadCounter t)) (begins_at b (answers (answer.Spent counter))) refl (omega (arith, same))
    by_test false is = inr (inl (record { same = same; low = grind (arith, nat_tests); none = refl }))

-- a section word was looked at
scanned_raises : (b : Beginning) (before after : ℕ) (g g' : Grace) (gracing : Gracing) → after ≡ before
    → RaisesBy before after (begins_at b (begin.Grace g LoadSection)) (begins_at b (graced LoadSection g' gracing))
scanned_raises b before after g g' Goes same = raises_no_more before after (begins_at b (begin.Grace g LoadSection)) (begins_at b (graced LoadSection g' Goes)) refl (omega (arith, same))
scanned_raises b before after g g' Waits same = raises_no_more before after (begins_at b (begin.Grace g LoadSection)) (begins_at b (graced LoadSection g' Waits)) refl (omega (arith, same))
scanned_raises b before after g g' Over same = raises_no_more before after (begins_at b (begin.Grace g LoadSection)) (begins_at b (graced LoadSection g' Over)) refl (omega (arith, same))

-- each step of such a call
pub begin_raises : (m m' : Memory) (n : Now) (f : Flow) (i : ℕ) (b : Beginning) (s : BeginStage) → KnowsBegin n f i s
    → IfMakes (λ does. IsMade does.step m m' → CanRaise m does.step →
    RaisesBy (m place.Counter) (m' place.Counter) (begins_at b s) (begins_at b (does.next (found does.step m)))) (begin_turn b.caller s)
begin_raises m m' n f i b (begin.LoadCounter t) known = λ made may. counted_raises b t (m place.Counter) (m' place.Counter) (counter_stays m m' step.LoadCounter made (λ e. cc))
begin_raises m m' n f i b (begin.TakeResizeLock t) known = λ made may.
    let next : BeginStage = if m place.ResizeLock == 0 then taken t else answers answer.Busy in
    raises_no_more (m place.Counter) (m' place.Counter) (begins_at b (begin.TakeResizeLock t)) (begins_at b next) refl
    (from_one (m place.Counter) (m' place.Counter) (begins_at b (begin.TakeResizeLock t)) (begins_at b next) (counter_stays m m' (step.TakeResizeLock b.caller.number) made (λ e. cc)) (omega arith))
begin_raises m m' n f i b (begin.LoadLevel d) known = λ made may.
    let next : BeginStage = bounded b.caller.shape d (m place.Level) in
    raises_no_more (m place.Counter) (m' place.Counter) (begins_at b (begin.LoadLevel d)) (begins_at b next) refl
    (from_one (m place.Counter) (m' place.Counter) (begins_at b (begin.LoadLevel d)) (begins_at b next) (counter_stays m m' step.LoadLevel made (λ e. cc)) (omega arith))
begin_raises m m' n f i b (begin.GiveResizeLock a) known = λ made may.
    let same : m' place.Counter ≡ m place.Counter = counter_stays m m' step.GiveResizeLock made (λ e. cc) in
    raises_no_more (m place.Counter) (m' place.Counter) (begins_at b (begin.GiveResizeLock a)) (begins_at b (answers a)) refl (omega (arith, same))
begin_raises m m' n f i b (begin.Grace g RaiseCounter) known = λ made may.
    let more : m' place.Counter ≡ m place.Counter + 2 = counter_raised m m' made (may refl) in
    let next : Grace = record { raised = m place.Counter + 2; next = 0 } in
    raises_no_more (m place.Counter) (m' place.Counter) (begins_at b (begin.Grace g RaiseCounter)) (begins_at b (graced RaiseCounter next Goes)) refl (omega (arith, more))
begin_raises m m' n f i b (begin.Grace g LoadSection) known = λ made may.
    let came = scanned b.caller.shape.seats g (m (place.Section g.next)) in
    scanned_raises b (m place.Counter) (m' place.Counter) g came.0 came.1 (counter_stays m m' (step.LoadSection g.next) made (λ e. cc))
begin_raises m m' n f i b (begin.Answered a left) known = tt
