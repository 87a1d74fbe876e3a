-- The calls that begin a work or a grace stay sound, what they do with the resize lock, and after how many steps they answer.
use Rattle.std.proofs.Common.{◌≡◌, ◌∙◌, ◌-◌, ◌<◌, ◌≤◌, ◌==◌, ◌^◌, ℕ, Bool, true, false, Some, None, List, length, refl, sym, ap, subst, rules}
use Rattle.std.specs.Prelude.{nat_le}
use native.Mathlib.Omega.{arith}
use Rattle.intern_log.specs.declared.event.What.TheVariants as what
use Rattle.table_shape.specs.declared.shape.Shape.{Shape}
use Rattle.atomic_step.specs.declared.answer.Answer.{Answer}
use Rattle.atomic_step.specs.declared.answer.Answer.TheVariants as answer
use Rattle.atomic_step.specs.Monitor.{after_one, after_all, resize}
use Rattle.atomic_step.specs.Run.{AreFitting, events_of_words}
use Rattle.atomic_step.proofs.Choices.{either_way}
use Rattle.atomic_step.proofs.Runs.{keeps, follows, falls, same_way}
use Rattle.call_machine.specs.declared.begin.Beginning.{Beginning}
use Rattle.call_machine.specs.declared.begin.BeginStage.{BeginStage}
use Rattle.call_machine.specs.declared.begin.BeginStage.TheVariants as stage
use Rattle.call_machine.specs.declared.begin.Left.{Left}
use Rattle.call_machine.specs.declared.begin.Left.TheVariants as left
use Rattle.call_machine.specs.declared.begin.Task.{Task}
use Rattle.call_machine.specs.declared.begin.Task.TheVariants as task
use Rattle.call_machine.specs.declared.caller.Caller.{Caller}
use Rattle.call_machine.specs.declared.grace.GraceStage.TheVariants.{RaiseCounter, LoadSection}
use Rattle.call_machine.specs.declared.resize.Direction.{Direction}
use Rattle.call_machine.specs.declared.resize.Direction.TheVariants.{Grow, Shrink}
use Rattle.call_machine.specs.Begin.{begins, begin_got, begin_event, beginnings, AnswersBy, answers, begun, taken, bounded, is_begun, is_work}
use Rattle.call_machine.specs.SoundBegin.{IsSoundBegin, FitsBegin}

-- a call at a stage, and what comes of a word
abbrev at : Caller → BeginStage → Beginning
at caller s = record { caller = caller; stage = s }

abbrev next : Caller → BeginStage → ℕ → BeginStage
next caller s word = (begin_got (at caller s) word).stage

pub stays : (caller : Caller) (s : BeginStage) (word : ℕ) → IsSoundBegin (at caller s) → FitsBegin (at caller s) word → IsSoundBegin (at caller (next caller s word))
stays caller s word sound fits = search rules

-- a stage of a work that begins: it has the resize lock under its level, and where the work has begun
abbrev IsOfWork : BeginStage → Type 0
IsOfWork (stage.LoadCounter None) = ⊥
IsOfWork (stage.Grace g s) = ⊥
IsOfWork (stage.GiveResizeLock a) = is_begun a ≡ false
IsOfWork (stage.Answered a l) = is_work l ≡ is_begun a
IsOfWork _ = Unit {0}

abbrev has_lock : BeginStage → Bool
has_lock (stage.LoadLevel d) = true
has_lock (stage.GiveResizeLock a) = true
has_lock (stage.Answered a l) = is_begun a
has_lock _ = false

-- from a stage with or without the lock
abbrev Leads : Bool → BeginStage → Type 0
Leads has s = IsOfWork s × (Some has ≡ Some (has_lock s))

takes : (t : Task) → Leads true (taken t)
takes task.Clean = (refl, refl)
takes task.Grow = (tt, refl)
takes task.Shrink = (tt, refl)

bounds : (shape : Shape) (d : Direction) (level : ℕ) → Leads true (bounded shape d level)
bounds shape Grow level = either_way (Leads true) (level == shape.max_level) (stage.GiveResizeLock (answer.AtMaximum level)) (begun (left.Resize Grow level)) (refl, refl) (refl, refl)
bounds shape Shrink level = either_way (Leads true) (level == shape.min_level) (stage.GiveResizeLock (answer.AtMinimum level)) (begun (left.Resize Shrink level)) (refl, refl) (refl, refl)

work_step : (caller : Caller) (s : BeginStage) (word : ℕ) → IsOfWork s → FitsBegin (at caller s) word
    → IsOfWork (next caller s word) × (after_one resize (has_lock s) (begin_event (at caller s) word) ≡ Some (has_lock (next caller s word)))
work_step caller (stage.LoadCounter None) word of fits = absurd of
work_step caller (stage.LoadCounter (Some t)) word of fits = either_way (Leads false) (nat_le (2 ^ 48) word) (answers (answer.Spent word)) (stage.TakeResizeLock t) (refl, refl) (tt, refl)
work_step caller (stage.TakeResizeLock t) word of fits = (
  either_way IsOfWork (word == 0) (taken t) (answers answer.Busy) (takes t).0 refl,
  same_way (after_one resize false) (λ s. Some (has_lock s)) (word == 0) (Some what.ResizeTaken) None (taken t) (answers answer.Busy) (takes t).1 refl,
)
work_step caller (stage.LoadLevel d) word of fits = bounds caller.shape d word
work_step caller (stage.GiveResizeLock a) word of fits = (sym of, ap Some (sym of))
work_step caller (stage.Grace g s) word of fits = absurd of
work_step caller (stage.Answered a l) word of fits = absurd fits

works : (b : Beginning) (word : ℕ) → IsOfWork b.stage → FitsBegin b word → IsOfWork (begin_got b word).stage
works b word of fits = (work_step b.caller b.stage word of fits).0

pub work_law : (caller : Caller) (t : Task) (words : List ℕ) (a : Answer) (l : Left) → AnswersBy (begins caller (Some t)) words a l
    → (after_all resize (Some false) (events_of_words beginnings (begins caller (Some t)) words) ≡ Some (is_begun a)) × (is_work l ≡ is_begun a)
work_law caller t words a l by = (
  follows beginnings resize (λ b. has_lock b.stage) (λ b. IsOfWork b.stage) works (λ b word of fits. (work_step b.caller b.stage word of fits).1) (begins caller (Some t)) words tt by.0
      ∙ ap (λ s. Some (has_lock s)) by.1,
  subst IsOfWork by.1 (keeps beginnings (λ b. IsOfWork b.stage) works (begins caller (Some t)) words tt by.0),
)

-- a stage of a grace
abbrev IsOfGrace : BeginStage → Type 0
IsOfGrace (stage.LoadCounter None) = Unit {0}
IsOfGrace (stage.Grace g s) = Unit {0}
IsOfGrace (stage.Answered a l) = Unit {0}
IsOfGrace _ = ⊥

grace_step : (caller : Caller) (s : BeginStage) (word : ℕ) (has : Bool) → IsOfGrace s → FitsBegin (at caller s) word
    → IsOfGrace (next caller s word) × (after_one resize has (begin_event (at caller s) word) ≡ Some has)
grace_step caller s word has of fits = search rules

pub grace_law : (b : Beginning) (words : List ℕ) (has : Bool) → IsOfGrace b.stage → AreFitting beginnings b words → after_all resize (Some has) (events_of_words beginnings b words) ≡ Some has
grace_law b words has of fits =
    follows beginnings resize (λ b. has) (λ b. IsOfGrace b.stage) (λ b word of fits. (grace_step b.caller b.stage word has of fits).0) (λ b word of fits. (grace_step b.caller b.stage word has of fits).1) b words of fits

-- how many steps are left at most
abbrev steps_left : ℕ → BeginStage → ℕ
steps_left seats (stage.LoadCounter t) = 4
steps_left seats (stage.TakeResizeLock t) = 3
steps_left seats (stage.LoadLevel d) = 2
steps_left seats (stage.GiveResizeLock a) = 1
steps_left seats (stage.Grace g RaiseCounter) = 1
steps_left seats (stage.Grace g LoadSection) = seats - g.next
steps_left seats (stage.Answered a l) = 0

fall : (caller : Caller) (s : BeginStage) (word : ℕ) → IsSoundBegin (at caller s) → FitsBegin (at caller s) word → steps_left caller.shape.seats (next caller s word) < steps_left caller.shape.seats s
fall caller s word sound fits = search rules

pub time_law : (b : Beginning) (words : List ℕ) → IsSoundBegin b → AreFitting beginnings b words → length words ≤ steps_left b.caller.shape.seats b.stage
time_law b words sound fits =
    let most = falls beginnings (λ b. steps_left b.caller.shape.seats b.stage) IsSoundBegin (λ b word sound fits. stays b.caller b.stage word sound fits) (λ b word sound fits. fall b.caller b.stage word sound fits) b words sound fits in
    omega (arith, most)
