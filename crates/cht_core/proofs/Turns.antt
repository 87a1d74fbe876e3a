-- What is so of the row of a machine that makes a step.
use Rattle.std.proofs.Common.{◌≡◌, ℕ, refl, subst, List}
use Rattle.atomic_step.specs.declared.plan.Plan.TheVariants as plan
use Rattle.atomic_step.specs.declared.step.Step.{Step}
use Rattle.atomic_step.specs.Event.{event_of}
use Rattle.atomic_step.specs.Turn.{Row, Turn, Answered, Makes, map_turn, plan_in, next_in}
use Rattle.cht_core.specs.Flow.{Flow, flow_after}
use Rattle.cht_core.specs.Memory.{Memory, found}
use Rattle.cht_core.specs.Past.{Past, told}

-- the row, where the turn makes a step
abbrev pub IfMakes : {S : Type 0} → (Row S → Type 0) → Turn S → Type 0
IfMakes P (Answered a) = Unit {0}
IfMakes P (Makes does) = P does

-- so it is of the step that is planned, and of what comes of the word that it finds
pub if_planned : {S : Type 0} (P : Step → (ℕ → S) → Type 0) (s : S) (turn : Turn S) (made : Step)
    → IfMakes (λ (does : Row S). P does.step does.next) turn → plan_in turn ≡ plan.Step made → P made (next_in s turn)
if_planned P s (Answered a) made so is = absurd (cc)
if_planned P s (Makes does) made so is =
    let same : does.step ≡ made = cc in
    subst (λ (k : Step). P k does.next) same so

-- the past and the flow after a step of a seat
abbrev pub past_by : Past → ℕ → List ℕ → Step → Memory → Past
past_by p i text s m = told p i (event_of text s (found s m))

-- the flow after it
abbrev pub flow_of : Past → Flow → ℕ → List ℕ → Step → Memory → Flow
flow_of p f i text s m = flow_after p.now f i text s (found s m)

-- so it is where the outcome is put into a larger whole
pub if_turned : {S T : Type 0} (P : Step → (ℕ → T) → Type 0) (F : S → T) (t : T) (turn : Turn S) (made : Step)
    → IfMakes (λ (does : Row S). P does.step (λ word. F (does.next word))) turn → plan_in (map_turn F turn) ≡ plan.Step made → P made (next_in t (map_turn F turn))
if_turned P F t (Answered a) made so is = absurd (cc)
if_turned P F t (Makes does) made so is =
    let same : does.step ≡ made = cc in
    subst (λ (k : Step). P k (λ word. F (does.next word))) same so

-- the plan is the same
pub mapped_plan : {S T : Type 0} (F : S → T) (turn : Turn S) → plan_in (map_turn F turn) ≡ plan_in turn
mapped_plan F (Answered a) = refl
mapped_plan F (Makes does) = refl
