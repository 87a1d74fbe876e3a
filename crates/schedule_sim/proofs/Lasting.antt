-- What holds after each move holds after all lines.
use Rattle.std.proofs.Common.{◌≡◌, ◌≢◌, ℕ, zero, suc, List, [], ◌∷◌, length, set, Option, Some, None, inl, inr, refl, sym, ap, subst, ◌∙◌}
use Rattle.std.proofs.lemmas.Bool.{cases_eq, cases_lt}
use Rattle.std.proofs.lemmas.List.{get_or_past, length-set}
use Rattle.table_shape.specs.declared.shape.Shape.{Shape}
use Rattle.atomic_step.specs.declared.access.StepKind.{StepKind}
use Rattle.call_machine.specs.declared.call.Call.{Call}
use Rattle.cht_core.specs.declared.rehash.Rehashing.TheVariants as rehashing
use Rattle.cht_core.specs.declared.seat.Seat.{Seat}
use Rattle.cht_core.specs.declared.seat.Seat.TheVariants as doing
use Rattle.cht_core.specs.declared.state.Started.{Started}
use Rattle.cht_core.specs.declared.state.Stepped.{Stepped}
use Rattle.cht_core.specs.State.{Core, seat_in, with_drawn, StartsAs, StepsAs, RehashesAs}
use Rattle.cht_core.proofs.StateStarts.{seat_same, seat_other}
use Rattle.schedule_sim.specs.declared.script.Line.{Line}
use Rattle.schedule_sim.specs.declared.script.Line.TheVariants as line
use Rattle.schedule_sim.specs.declared.script.Numbered.{Numbered}
use Rattle.schedule_sim.specs.PrintedLines.{Printed}
use Rattle.schedule_sim.specs.Turns.{Goes, Turns, AllTurn, AreDrawn}
use Rattle.schedule_sim.proofs.Moves.{start_kept}

-- a relation of the states before and after: no move has it, it holds after two where it holds after each, and each move has it
module _ (R : Core → Core → Type 0) (once : (c : Core) → R c c) (twice : (c d e : Core) → R c d → R d e → R c e)
    (start : (c d : Core) (k : ℕ) (asked : Call) (o : Option Seat) (said : Started) → StartsAs c k asked o said d → R c d)
    (step : (c d : Core) (k : ℕ) (o : Option Seat) (said : Stepped) → StepsAs c k o said d → R c d) (rehash : (c d : Core) → RehashesAs c rehashing.Done d → R c d) where
  goes_last : (until : Option StepKind) (k n : ℕ) (c : Core) (items : List Printed) (d : Core) → Goes until k n c items d → R c d
  goes_last until k zero c items d goes = subst (R c) goes.0 (once c)
  goes_last until k (suc n) c items d (mid, before, after, goes, on, steps, is) = twice c mid d (goes_last until k n c before mid goes) (step mid d k _ steps.said steps.made)

  pub turn_lasts : (l : Line) (c : Core) (items : List Printed) (d : Core) → Turns l c items d → R c d
  turn_lasts (line.Call k asks) c items d calls = start c d k calls.asked _ calls.said calls.starts
  turn_lasts (line.Step k steps) c items d goes = goes_last None k goes.count c items d goes.goes
  turn_lasts (line.Until k kind) c items d goes = goes_last (Some kind) k goes.count c items d goes.goes
  turn_lasts (line.Run k) c items d goes = goes_last None k goes.count c items d goes.goes
  turn_lasts (line.Chain row bucket) c items d shows = subst (R c) (sym shows.stays) (once c)
  turn_lasts line.Rehash c items d anew = rehash c d anew.made

  pub all_last : (lines : List Numbered) (c : Core) (items : List Printed) (d : Core) → AllTurn lines c items d → R c d
  all_last [] c items d all = subst (R c) all.0 (once c)
  all_last (first ∷ lines) c items d (mid, before, after, turn, others, is) = twice c mid d (turn_lasts first.line c before mid turn) (all_last lines mid after d others)

-- THE TABLE, AND HOW MANY WORDS IT HAS

abbrev pub Fits : Core → Core → Type 0
Fits c d = (d.table ≡ c.table) × (length d.words ≡ length c.words)

same_fits : (c d : Core) → d ≡ c → Fits c d
same_fits c d same = (ap (λ (e : Core). e.table) same, ap (λ (e : Core). length e.words) same)

start_fits : (c d : Core) (k : ℕ) (asked : Call) (o : Option Seat) (said : Started) → StartsAs c k asked o said d → Fits c d
start_fits c d k asked o said makes = let kept = start_kept c d k asked o said makes in (kept.table, kept.sized)

step_fits : (c d : Core) (k : ℕ) (o : Option Seat) (said : Stepped) → StepsAs c k o said d → Fits c d
step_fits c d k None said makes = same_fits c d makes.1
step_fits c d k (Some (doing.Idle own)) said makes = same_fits c d makes.1
step_fits c d k (Some (doing.Running m)) said makes = (ap (λ (e : Core). e.table) makes.state, ap (λ (e : Core). length e.words) makes.state ∙ length-set c.words _ _)

rehash_fits : (c d : Core) → RehashesAs c rehashing.Done d → Fits c d
rehash_fits c d makes = (ap (λ (e : Core). e.table) makes.state, makes.sized)

pub turn_fits : (l : Line) (c : Core) (items : List Printed) (d : Core) → Turns l c items d → Fits c d
turn_fits = turn_lasts Fits (λ c. (refl, refl)) (λ c d e one two. (two.0 ∙ one.0, two.1 ∙ one.1)) start_fits step_fits rehash_fits

-- THE SEATS THAT ARE DRAWN

abbrev StayDrawn : Core → Core → Type 0
StayDrawn c d = (k : ℕ) → seat_in c.seats k ≢ None → seat_in d.seats k ≢ None

same_drawn : (c d : Core) → d ≡ c → StayDrawn c d
same_drawn c d same = subst (StayDrawn c) (sym same) (λ k some. some)

set_drawn : (seats : List (Option Seat)) (j : ℕ) (s : Seat) (k : ℕ) → seat_in seats k ≢ None → seat_in (set seats j (Some s)) k ≢ None
set_drawn seats j s k some none = elim (cases_eq k j) [
  | inl here ↦ elim (cases_lt j (length seats)) [
    | inl below ↦ let is : seat_in (set seats j (Some s)) j ≡ Some s = seat_same seats j (Some s) below in let also : seat_in (set seats j (Some s)) j ≡ None = ap (seat_in (set seats j (Some s))) (sym here) ∙ none in cc
    | inr past ↦ some (ap (seat_in seats) here ∙ get_or_past seats j None past)
  ]
  | inr differ ↦ some (sym (seat_other seats j k (Some s) differ) ∙ none)
]

brought_drawn : (shape : Shape) (o : Option ℕ) (seats : List (Option Seat)) (k : ℕ) → seat_in seats k ≢ None → seat_in (with_drawn shape o seats) k ≢ None
brought_drawn shape None seats k some = some
brought_drawn shape (Some number) seats k some = set_drawn seats number _ k some

start_drawn : (c d : Core) (k : ℕ) (asked : Call) (o : Option Seat) (said : Started) → StartsAs c k asked o said d → StayDrawn c d
start_drawn c d k asked None said makes = same_drawn c d makes.1
start_drawn c d k asked (Some (doing.Running m)) said makes = same_drawn c d makes.1
start_drawn c d k asked (Some (doing.Idle own)) said (inl starts) = subst (StayDrawn c) (sym starts.state) (λ j some. set_drawn c.seats k _ j some)
start_drawn c d k asked (Some (doing.Idle own)) said (inr refused) = same_drawn c d refused.1

step_drawn : (c d : Core) (k : ℕ) (o : Option Seat) (said : Stepped) → StepsAs c k o said d → StayDrawn c d
step_drawn c d k None said makes = same_drawn c d makes.1
step_drawn c d k (Some (doing.Idle own)) said makes = same_drawn c d makes.1
step_drawn c d k (Some (doing.Running m)) said makes =
    subst (StayDrawn c) (sym makes.state) (λ j some. brought_drawn c.table.shape _ (set c.seats k _) j (set_drawn c.seats k _ j some))

rehash_drawn : (c d : Core) → RehashesAs c rehashing.Done d → StayDrawn c d
rehash_drawn c d makes = subst (StayDrawn c) (sym makes.state) (λ j some. some)

pub drawn_last : (lines : List Numbered) (c d : Core) (items : List Printed) (seats : ℕ) → AllTurn lines c items d → AreDrawn seats c → AreDrawn seats d
drawn_last lines c d items seats all drawn =
    λ k below. all_last StayDrawn (λ c k some. some) (λ c d e one two k some. two k (one k some)) start_drawn step_drawn rehash_drawn lines c items d all k (drawn k below)
