-- What a machine does next: a row is a step and what comes of the word that it finds.
use Rattle.std.specs.Prelude.{ℕ, Option, None, List}
use Rattle.table_shape.specs.declared.shape.Shape.{Shape}
use Rattle.intern_log.specs.declared.event.What.{What}
use Rattle.atomic_step.specs.declared.answer.Answer.{Answer}
use Rattle.atomic_step.specs.declared.plan.Plan.{Plan}
use Rattle.atomic_step.specs.declared.plan.Plan.TheVariants as plan
use Rattle.atomic_step.specs.declared.plan.Want.{Want}
use Rattle.atomic_step.specs.declared.plan.Want.TheVariants as want
use Rattle.atomic_step.specs.declared.step.Step.{Step}
use Rattle.atomic_step.specs.Event.{event_of}
use Rattle.atomic_step.specs.Step.{access_of, op_at}

pub record Row (S : Type 0) : Type 0 where
  pub step : Step
  pub next : ℕ → S

abbrev pub row : {S : Type 0} → Step → (ℕ → S) → Row S
row s next = record { step = s; next = next }

-- a row whose outcome is put into a larger whole
abbrev pub map_row : {S T : Type 0} → (S → T) → Row S → Row T
map_row f r = record { step = r.step; next = λ word. f (r.next word) }

-- a machine has answered, or makes a step
pub data Turn (S : Type 0) : Type 0 where
  Answered : (a : Answer) → Turn S
  Makes : (does : Row S) → Turn S

abbrev pub map_turn : {S T : Type 0} → (S → T) → Turn S → Turn T
map_turn f (Answered a) = Answered a
map_turn f (Makes does) = Makes (map_row f does)

-- what comes next, what comes of the word that is found, and which event that is
abbrev pub plan_in : {S : Type 0} → Turn S → Plan
plan_in (Answered a) = plan.Answered a
plan_in (Makes does) = plan.Step does.step

abbrev pub next_in : {S : Type 0} → S → Turn S → ℕ → S
next_in s (Answered a) word = s
next_in s (Makes does) word = does.next word

abbrev pub event_by : List ℕ → Plan → ℕ → Option What
event_by text (plan.Answered a) word = None
event_by text (plan.Step s) word = event_of text s word

-- what a machine wants by its plan, in a table of a shape
abbrev pub want_of : Shape → Plan → Want
want_of shape (plan.Step s) = want.Do (op_at shape (access_of s)) (access_of s).kind
want_of shape (plan.Answered a) = want.Answered a
