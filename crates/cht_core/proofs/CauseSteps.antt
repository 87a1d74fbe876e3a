-- What a call that begins a work or a grace, or a sweep, has found out of its window, by each word that it finds.
use Rattle.std.proofs.Common.{◌≡◌, ◌≢◌, ℕ, ◌+◌, ◌-◌, ◌*◌, ◌^◌, ◌%◌, ◌<◌, ◌≤◌, ◌==◌, ◌&&◌, nat_le, nat_lt, true, if◌then◌else◌, List, ◌++◌, Option, Some, None, refl}
use Rattle.std.proofs.Common.{ap, subst, ◌∙◌, arith}
use Rattle.std.specs.Option.{option_map}
use Rattle.std.proofs.lemmas.Bool.Decides.{nat_tests}
use Rattle.marked_word.specs.Number.{section_word, owner_word}
use Rattle.section_core.specs.Words.{waits_for}
use Rattle.table_shape.specs.declared.shape.Shape.{Shape}
use Rattle.intern_log.specs.declared.event.Event.{Event}
use Rattle.intern_log.specs.Now.{OpenSection, owner_of}
use Rattle.atomic_step.specs.declared.answer.Answer.TheVariants as answer
use Rattle.atomic_step.specs.Turn.{plan_in, next_in}
use Rattle.atomic_step.proofs.Choices.{where_it_is, either_way, found_equal, not_equal}
use Rattle.call_machine.specs.declared.begin.BeginStage.{BeginStage}
use Rattle.call_machine.specs.declared.begin.BeginStage.TheVariants as begin
use Rattle.call_machine.specs.declared.begin.Left.TheVariants as left
use Rattle.call_machine.specs.declared.begin.Task.{Task}
use Rattle.call_machine.specs.declared.begin.Task.TheVariants as task
use Rattle.call_machine.specs.declared.caller.Caller.{Caller}
use Rattle.call_machine.specs.declared.grace.Grace.{Grace}
use Rattle.call_machine.specs.declared.grace.GraceStage.TheVariants as grace
use Rattle.call_machine.specs.declared.grace.Gracing.{Gracing}
use Rattle.call_machine.specs.declared.grace.Gracing.TheVariants as gracing
use Rattle.call_machine.specs.declared.resize.Direction.TheVariants.{Grow, Shrink}
use Rattle.call_machine.specs.Begin.{begin_turn, goes_on, taken, answers, graced}
use Rattle.cht_core.specs.declared.table.Table.{Table}
use Rattle.cht_core.specs.Flow.{Flow}
use Rattle.cht_core.specs.Past.{past_of}
use Rattle.cht_core.specs.Causes.{now_in, PlanSays, IsSpent, IsBusy, IsOpenBelow, IsAtLevel, BeginCaused, BeginHears}
use Rattle.cht_core.specs.Windows.{Somewhere}
use Rattle.cht_core.proofs.Windows.{at_end}

pub at_least : (a b : ℕ) → nat_le a b ≡ true → a ≤ b
at_least a b is = grind (arith, nat_tests)

-- a section word that a grace waits for is that of an open section whose counter is below the raised value
pub waited_for : (raised word : ℕ) (section : Option OpenSection) → word ≡ section_word (option_map (λ (o : OpenSection). o.counter) section) → waits_for raised word ≡ true →
    (o : OpenSection) × (section ≡ Some o) × (o.counter < raised)
waited_for raised word None says waits = absurd (let odd : (0 % 2 == 1) && nat_lt (0 - 1) raised ≡ true = subst (λ w. waits_for raised w ≡ true) says waits in cc)
waited_for raised word (Some o) says waits = (o, refl, below (o.counter + 1) refl (subst (λ w. waits_for raised w ≡ true) says waits))
  where
    below : (w : ℕ) → w ≡ o.counter + 1 → (w % 2 == 1) && nat_lt (w - 1) raised ≡ true → o.counter < raised
    below w is both = grind (arith, nat_tests)

owned : (word : ℕ) (owner : Option ℕ) → word ≡ owner_word owner → word ≢ 0 → (k : ℕ) × (owner ≡ Some k)
owned word None says taken = absurd (taken says)
owned word (Some k) says taken = (k, refl)

module _ (t : Table) (i : ℕ) (seen window : List Event) where
  -- what a grace learns of a section
  pub open_below : (g : Grace) (word : ℕ) → word ≡ section_word (option_map (λ (o : OpenSection). o.counter) ((now_in t (seen ++ window)).section g.next)) → waits_for g.raised word ≡ true →
      Somewhere (IsOpenBelow t g.next g.raised) seen window
  open_below g word says waits = at_end seen window (IsOpenBelow t g.next g.raised) (waited_for g.raised word ((now_in t (seen ++ window)).section g.next) says waits)

  -- what is learned of the counter
  pub spent_now : (word : ℕ) → word ≡ t.first_counter + 2 * (now_in t (seen ++ window)).graces → nat_le (2 ^ 48) word ≡ true → IsSpent t seen window word
  spent_now word says great = (at_end seen window (λ log. word ≡ t.first_counter + 2 * (now_in t log).graces) says, at_least (2 ^ 48) word great)

  busy : (word : ℕ) → word ≡ owner_word (owner_of (now_in t (seen ++ window)).resizing) → ¬ (owner_of (now_in t (seen ++ window)).resizing ≡ Some i) → word ≢ 0 → IsBusy t i (seen ++ window)
  busy word says not_mine taken =
      let owner = owned word (owner_of (now_in t (seen ++ window)).resizing) says taken in
      (owner.0, owner.1, λ same. not_mine (owner.1 ∙ ap (λ k. Some k) same))

  Is : BeginStage → Type 0
  Is s = BeginCaused t i seen window s

  begun : (work : Option Task) → BeginCaused t i seen window (goes_on work)
  begun None = tt
  begun (Some work) = tt

  took : (work : Task) → BeginCaused t i seen window (taken work)
  took task.Clean = tt
  took task.Grow = tt
  took task.Shrink = tt

  -- by a word that is found
  pub begin_found : (f : Flow) (caller : Caller) (s : BeginStage) (word : ℕ) → caller.shape ≡ t.shape → BeginCaused t i seen window s →
      PlanSays t (past_of t.shape.min_level (seen ++ window)) f (plan_in (begin_turn caller s)) word → BeginHears (past_of t.shape.min_level (seen ++ window)) i s →
      BeginCaused t i seen window (next_in s (begin_turn caller s) word)
  begin_found f caller (begin.LoadCounter work) word shape h says hears =
      where_it_is (λ s. BeginCaused t i seen window s) (nat_le (2 ^ 48) word) (answers (answer.Spent word)) (goes_on work) (λ great. spent_now word says great) (λ small. begun work)
  begin_found f caller (begin.TakeResizeLock work) word shape h says hears =
      where_it_is (λ s. BeginCaused t i seen window s) (word == 0) (taken work) (answers answer.Busy) (λ free. took work)
      (λ owner. at_end seen window (IsBusy t i) (busy word says hears (not_equal word 0 owner)))
  begin_found f caller (begin.LoadLevel Grow) word shape h says hears =
      where_it_is (λ s. BeginCaused t i seen window s) (word == caller.shape.max_level) (begin.GiveResizeLock (answer.AtMaximum word)) (begin.Answered answer.Begun (left.Resize Grow word))
      (λ most. (at_end seen window (IsAtLevel t word) says, found_equal word caller.shape.max_level most ∙ ap (λ (s : Shape). s.max_level) shape)) (λ below. tt)
  begin_found f caller (begin.LoadLevel Shrink) word shape h says hears =
      where_it_is (λ s. BeginCaused t i seen window s) (word == caller.shape.min_level) (begin.GiveResizeLock (answer.AtMinimum word)) (begin.Answered answer.Begun (left.Resize Shrink word))
      (λ least. (at_end seen window (IsAtLevel t word) says, found_equal word caller.shape.min_level least ∙ ap (λ (s : Shape). s.min_level) shape)) (λ above. tt)
  begin_found f caller (begin.GiveResizeLock a) word shape h says hears = h
  begin_found f caller (begin.Grace g grace.RaiseCounter) word shape h says hears = tt
  begin_found f caller (begin.Grace g grace.LoadSection) word shape h says hears =
      where_it_is (λ (at : Grace × Gracing). BeginCaused t i seen window (graced grace.LoadSection at.0 at.1)) (waits_for g.raised word)
      (g, gracing.Waits) (if g.next + 1 == caller.shape.seats then (g, gracing.Over) else (record g { next = g.next + 1 }, gracing.Goes))
      (λ waits. open_below g word says waits)
      (λ goes. either_way (λ (at : Grace × Gracing). BeginCaused t i seen window (graced grace.LoadSection at.0 at.1)) (g.next + 1 == caller.shape.seats)
      (g, gracing.Over) (record g { next = g.next + 1 }, gracing.Goes) tt tt)
  begin_found f caller (begin.Answered a l) word shape h says hears = h
