-- Each line leads from a state to one state, and prints one thing.
use Rattle.std.proofs.Common.{◌≡◌, ◌⊎◌, ℕ, zero, suc, ◌<◌, ◌≤◌, List, [], ◌∷◌, ◌++◌, map, length, Option, Some, None, inl, inr, sym, ap, subst, ◌∙◌, arith}
use Rattle.std.proofs.lemmas.Bool.{cases_eq, cases_order}
use Rattle.chain_core.proofs.Ways.{path_one}
use Rattle.table_shape.specs.Shape.{words_of}
use Rattle.atomic_step.specs.declared.access.StepKind.{StepKind}
use Rattle.cht_core.specs.Anew.{text_at}
use Rattle.cht_core.specs.State.{Core}
use Rattle.schedule_sim.specs.declared.script.Line.{Line}
use Rattle.schedule_sim.specs.declared.script.Line.TheVariants as line
use Rattle.schedule_sim.specs.PrintedLines.{Printed, Shows}
use Rattle.schedule_sim.specs.Chains.{next_at, first_at}
use Rattle.schedule_sim.specs.Turns.{Goes, GoesFor, GoesUntil, ShowsChain, Steps, Stops, Turns, IsAtFault, next_of}
use Rattle.schedule_sim.proofs.OneMove.{calls_one, calls_met, steps_one, anew_one}

-- SO MANY STEPS

goes_one : (until : Option StepKind) (k n : ℕ) (c d e : Core) (items more : List Printed) → Goes until k n c items d → Goes until k n c more e → (d ≡ e) × (items ≡ more)
goes_one until k zero c d e items more goes also = (sym goes.0 ∙ also.0, goes.1 ∙ sym also.1)
goes_one until k (suc n) c d e items more (mid, before, after, goes, on, steps, is) (there, first, last, ways, too, makes, are) =
    let (same, printed) = goes_one until k n c mid there before first goes ways in
    let (state, others) = steps_one k mid d e after last steps (subst (λ x. Steps x k e last) (sym same) makes) in
    (state, is ∙ ap (λ l. l ++ after) printed ∙ ap (λ l. first ++ l) others ∙ sym are)

-- after fewer steps the call did not stop
goes_past : (until : Option StepKind) (k m n : ℕ) (c d : Core) (items : List Printed) → m < n → Goes until k n c items d →
    (mid : Core) × (some : List Printed) × Goes until k m c some mid × ¬ (Stops until (next_of mid k))
goes_past until k m zero c d items less goes = absurd (omega (arith, less))
goes_past until k m (suc n) c d items less (mid, before, after, goes, on, steps, is) = elim (cases_eq m n) [
  | inl here ↦ (mid, before, subst (λ i. Goes until k i c before mid) (sym here) goes, on)
  | inr differ ↦ goes_past until k m n c mid before (omega (arith, less, differ)) goes
]

-- so it goes no further than to where it stops
no_further : (until : Option StepKind) (k m n : ℕ) (c d e : Core) (items more : List Printed) → Goes until k m c items d → Stops until (next_of d k) → Goes until k n c more e → ¬ (m < n)
no_further until k m n c d e items more goes stops also less =
    let (mid, some, ways, on) = goes_past until k m n c e more less also in
    let (same, printed) = goes_one until k m c d mid items some goes ways in
    on (subst (λ x. Stops until (next_of x k)) same stops)

one_count : (until : Option StepKind) (k m n : ℕ) (c d e : Core) (items more : List Printed) → Goes until k m c items d → Goes until k n c more e → ¬ (m < n) → ¬ (n < m) → (d ≡ e) × (items ≡ more)
one_count until k m n c d e items more goes also less greater = elim (cases_order m n) [
  | inl here ↦ goes_one until k n c d e items more (subst (λ i. Goes until k i c items d) here goes) also
  | inr (inl before) ↦ absurd (less before)
  | inr (inr after) ↦ absurd (greater after)
]

until_one : (until : Option StepKind) (k : ℕ) (c d e : Core) (items more : List Printed) → GoesUntil until k c items d → GoesUntil until k c more e → (d ≡ e) × (items ≡ more)
until_one until k c d e items more goes also =
    one_count until k goes.count also.count c d e items more goes.goes also.goes
    (no_further until k goes.count also.count c d e items more goes.goes goes.end also.goes)
    (no_further until k also.count goes.count c e d more items also.goes also.end goes.goes)

-- nor further than so many steps
no_more : (steps k m n : ℕ) (c d e : Core) (items more : List Printed) → Goes None k m c items d → (m ≡ steps) ⊎ Stops None (next_of d k) → n ≤ steps → Goes None k n c more e → ¬ (m < n)
no_more steps k m n c d e items more goes (inl all) most also less = absurd (omega (arith, all, most, less))
no_more steps k m n c d e items more goes (inr stops) most also less = no_further None k m n c d e items more goes stops also less

for_one : (steps k : ℕ) (c d e : Core) (items more : List Printed) → GoesFor steps k c items d → GoesFor steps k c more e → (d ≡ e) × (items ≡ more)
for_one steps k c d e items more goes also =
    one_count None k goes.count also.count c d e items more goes.goes also.goes
    (no_more steps k goes.count also.count c d e items more goes.goes goes.end also.most also.goes)
    (no_more steps k also.count goes.count c e d more items also.goes also.end goes.most goes.goes)

-- A CHAIN

shows_one : (row bucket : ℕ) (c d e : Core) (items more : List Printed) → ShowsChain row bucket c items d → ShowsChain row bucket c more e → (d ≡ e) × (items ≡ more)
shows_one row bucket c d e items more shows also =
    let (nodes, path, are) = shows.chain in
    let (others, way, too) = also.chain in
    let same : others ≡ nodes = path_one (next_at c.table.shape c.words) (first_at c.table.shape c.words row bucket) nodes others path way in
    let texts : shows.texts ≡ also.texts = are ∙ ap (map (text_at c.table.shape c.words)) (sym same) ∙ sym too in
    (shows.stays ∙ sym also.stays, shows.printed ∙ ap (λ t. Shows row bucket t ∷ []) texts ∙ sym also.printed)

-- A LINE

pub turn_one : (l : Line) (c d e : Core) (items more : List Printed) → length c.words ≡ words_of c.table.shape → Turns l c items d → Turns l c more e → (d ≡ e) × (items ≡ more)
turn_one (line.Call k asks) c d e items more sized turn also = calls_one k asks c d e items more turn also
turn_one (line.Step k steps) c d e items more sized turn also = for_one steps k c d e items more turn also
turn_one (line.Until k kind) c d e items more sized turn also = until_one (Some kind) k c d e items more turn also
turn_one (line.Run k) c d e items more sized turn also = until_one None k c d e items more turn also
turn_one (line.Chain row bucket) c d e items more sized turn also = shows_one row bucket c d e items more turn also
turn_one line.Rehash c d e items more sized turn also = anew_one c d e items more sized turn also

-- a line that has its turn is not at fault
pub turn_met : (l : Line) (c d : Core) (items : List Printed) → Turns l c items d → ¬ (IsAtFault l c)
turn_met (line.Call k asks) c d items turn fault = calls_met k asks c d items turn fault
turn_met (line.Step k steps) c d items turn fault = turn.running fault
turn_met (line.Until k kind) c d items turn fault = turn.running fault
turn_met (line.Run k) c d items turn fault = turn.running fault
turn_met (line.Chain row bucket) c d items turn fault = fault turn.present
turn_met line.Rehash c d items turn fault = fault turn.made.can
