-- The seats of a state by their numbers, and the state after a call was started.
use Rattle.std.proofs.Common.{◌≡◌, ◌≢◌, ℕ, ◌<◌, ◌↔◌, List, [], ◌∷◌, length, get_or, set, Option, Some, None, inl, inr, refl, sym, ap, subst, ◌∙◌, arith}
use Rattle.std.proofs.lemmas.Bool.{cases_eq}
use Rattle.std.proofs.lemmas.List.{get_or-set_same, get_or-set_other, get_or_read, length-set, set-set}
use Rattle.table_shape.specs.declared.place.Place.TheVariants as place
use Rattle.table_shape.specs.declared.shape.Shape.{Shape}
use Rattle.intern_log.specs.declared.event.Event.{Event}
use Rattle.intern_log.specs.Now.{with_at}
use Rattle.atomic_step.specs.declared.access.Op.{Op}
use Rattle.atomic_step.specs.declared.access.StepKind.{StepKind}
use Rattle.atomic_step.specs.declared.answer.Answer.{Answer}
use Rattle.atomic_step.specs.declared.plan.Plan.{Plan}
use Rattle.atomic_step.specs.declared.plan.Plan.TheVariants as plan
use Rattle.atomic_step.specs.declared.plan.Want.TheVariants as want
use Rattle.atomic_step.specs.Table.{word_at}
use Rattle.atomic_step.specs.Turn as turns
use Rattle.call_machine.specs.declared.call.Call.{Call}
use Rattle.call_machine.specs.declared.machine.Machine.{Machine}
use Rattle.call_machine.specs.declared.machine.Own.{Own}
use Rattle.call_machine.specs.Machine.{started, plan_of, own_of}
use Rattle.call_machine.specs.SoundMachine.{MayStart}
use Rattle.cht_core.specs.declared.seat.Seat.{Seat}
use Rattle.cht_core.specs.declared.seat.Seat.TheVariants as doing
use Rattle.cht_core.specs.declared.state.Started.{Started}
use Rattle.cht_core.specs.declared.table.Table.{Table}
use Rattle.cht_core.specs.Begins.{MeetsLog, HasBytes}
use Rattle.cht_core.specs.Invariant.{Inv, Moves}
use Rattle.cht_core.specs.Memory.{Memory, memory_of}
use Rattle.cht_core.specs.State.{Core, IsCore, IsGoing, HasResting, seat_in, view_of, views_of, at_rest, seat_after, with_seat, StartsAs, started_as, started_by, answer_by, kind_by, kind_next}
use Rattle.cht_core.specs.View.{View, IsOwnOf}
use Rattle.cht_core.proofs.Basics.{with_here, with_other}
use Rattle.cht_core.proofs.SeatBegins.{may_begin}
use Rattle.cht_core.proofs.SeatRests.{may_rest}
use Rattle.cht_core.proofs.StateRests.{rests_begun, rests_after}

-- SEATS BY THEIR NUMBERS

-- what the seat of a number is at, as it was read
pub seat_read : (seats : List (Option Seat)) (k : ℕ) (s : Option Seat) → k < length seats → s ≡ get_or seats k s → seat_in seats k ≡ s
seat_read seats k s below read = sym (get_or_read seats k s below read None)

pub seat_same : (seats : List (Option Seat)) (k : ℕ) (s : Option Seat) → k < length seats → seat_in (set seats k s) k ≡ s
seat_same seats k s below = get_or-set_same seats k s None below

pub seat_other : (seats : List (Option Seat)) (k j : ℕ) (s : Option Seat) → j ≢ k → seat_in (set seats k s) j ≡ seat_in seats j
seat_other seats k j s differ = get_or-set_other seats k j s None differ

-- VIEWS

-- a seat as others know it
abbrev pub view_at : ℕ × List ℕ → ℕ → Seat → View
view_at sight k s = record { seat = s; load = sight.0; passed = sight.1; numbers = k ∷ [] }

pub view_is : (sights : ℕ → ℕ × List ℕ) (seats : List (Option Seat)) (k : ℕ) (s : Seat) → seat_in seats k ≡ Some s → views_of sights seats k ≡ Some (view_at (sights k) k s)
view_is sights seats k s is = ap (view_of (sights k) k) is

pub no_view : (sights : ℕ → ℕ × List ℕ) (seats : List (Option Seat)) (k : ℕ) → seat_in seats k ≡ None → views_of sights seats k ≡ None
no_view sights seats k is = ap (view_of (sights k) k) is

-- one seat is at something else
pub views_move : (sights : ℕ → ℕ × List ℕ) (seats : List (Option Seat)) (k : ℕ) (sight : ℕ × List ℕ) (s : Seat) → k < length seats
    → Moves (views_of sights seats) (views_of (with_at sights k sight) (set seats k (Some s))) k (view_at sight k s)
views_move sights seats k sight s below = record {
  own = ap (view_of (with_at sights k sight k) k) (seat_same seats k (Some s) below) ∙ ap (λ (g : ℕ × List ℕ). Some (view_at g k s)) (with_here sights k sight k refl);
  other = λ j differ. ap (λ (g : ℕ × List ℕ). view_of g j (seat_in (set seats k (Some s)) j)) (with_other sights k sight j differ) ∙ ap (view_of (sights j) j) (seat_other seats k j (Some s) differ);
}

-- and is then at something else again
views_again : (sights : ℕ → ℕ × List ℕ) (seats : List (Option Seat)) (k : ℕ) (a b : Seat) → k < length seats
    → Moves (views_of sights (set seats k (Some a))) (views_of sights (set seats k (Some b))) k (view_at (sights k) k b)
views_again sights seats k a b below = record {
  own = ap (view_of (sights k) k) (seat_same seats k (Some b) below);
  other = λ j differ. ap (view_of (sights j) j) (seat_other seats k j (Some b) differ ∙ sym (seat_other seats k j (Some a) differ));
}

-- a machine that has answered leaves its seat between its calls
pub comes_to_rest : (t : Table) (m : Memory) (log : List Event) (sights : ℕ → ℕ × List ℕ) (seats : List (Option Seat)) (k : ℕ) (machine : Machine) → k < length seats
    → Inv t m (views_of sights (set seats k (Some (doing.Running machine)))) log → Inv t m (views_of sights (set seats k (Some (seat_after machine)))) log
comes_to_rest t m log sights seats k machine below inv = go (plan_of machine) refl
  where
    go : (p : Plan) → plan_of machine ≡ p → Inv t m (views_of sights (set seats k (Some (at_rest machine p)))) log
    go (plan.Step s) is = inv
    go (plan.Answered a) is =
        may_rest t m (views_of sights (set seats k (Some (doing.Running machine)))) (views_of sights (set seats k (Some (doing.Idle (own_of machine))))) log k
        (view_at (sights k) k (doing.Running machine)) machine a
        inv (view_is sights (set seats k (Some (doing.Running machine))) k (doing.Running machine) (seat_same seats k (Some (doing.Running machine)) below)) refl is
        (views_again sights seats k (doing.Running machine) (doing.Idle (own_of machine)) below)

-- WHAT HOLDS OF EACH SEAT

pub goes_after : (machine : Machine) → IsGoing (seat_after machine)
goes_after machine = go (plan_of machine) refl
  where
    go : (p : Plan) → plan_of machine ≡ p → IsGoing (at_rest machine p)
    go (plan.Step s) is = (s, is)
    go (plan.Answered a) is = tt

pub all_are : (Is : Seat → Type 0) (seats : List (Option Seat)) (k : ℕ) (s : Seat) → k < length seats → ((j : ℕ) (u : Seat) → seat_in seats j ≡ Some u → Is u) → Is s
    → (j : ℕ) (u : Seat) → seat_in (set seats k (Some s)) j ≡ Some u → Is u
all_are Is seats k s below all here j u is = elim (cases_eq j k) [
  | inl same ↦
      let at : seat_in (set seats k (Some s)) j ≡ Some s = ap (seat_in (set seats k (Some s))) same ∙ seat_same seats k (Some s) below in
      let now : s ≡ u = cc in
      subst Is now here
  | inr differ ↦ all j u (sym (seat_other seats k j (Some s) differ) ∙ is)
]

-- the numbers below a bound are those of seats
abbrev pub AreDrawn : ℕ → List (Option Seat) → ℕ → Type 0
AreDrawn bound seats word = (k : ℕ) → k < bound → (seat_in seats k ≢ None) ↔ (k < word)

pub drawn_still : (bound : ℕ) (seats : List (Option Seat)) (word k : ℕ) (was s : Seat) → k < length seats → seat_in seats k ≡ Some was → AreDrawn bound seats word
    → AreDrawn bound (set seats k (Some s)) word
drawn_still bound seats word k was s below at drawn j inside = elim (cases_eq j k) [
  | inl here ↦
      let now : seat_in (set seats k (Some s)) j ≡ Some s = ap (seat_in (set seats k (Some s))) here ∙ seat_same seats k (Some s) below in
      let before : seat_in seats j ≡ Some was = ap (seat_in seats) here ∙ at in
      (λ some. (drawn j inside).0 (λ none. absurd (cc)), λ less none. absurd (cc))
  | inr differ ↦
      let same : seat_in (set seats k (Some s)) j ≡ seat_in seats j = seat_other seats k j (Some s) differ in
      (λ some. (drawn j inside).0 (λ none. some (same ∙ none)), λ less none. (drawn j inside).1 less (sym same ∙ none))
]

-- THE KIND OF THE NEXT STEP

kind_wanted : (shape : Shape) (p : Plan) (op : Op) (kind : StepKind) → turns.want_of shape p ≡ want.Do op kind → kind_by p ≡ Some kind
kind_wanted shape (plan.Step s) op kind is = cc
kind_wanted shape (plan.Answered a) op kind is = absurd (cc)

-- the kind of the step that a running machine wants
pub next_kind_is : (seats : List (Option Seat)) (k : ℕ) (machine : Machine) (shape : Shape) (op : Op) (kind : StepKind) → seat_in seats k ≡ Some (doing.Running machine)
    → turns.want_of shape (plan_of machine) ≡ want.Do op kind → Some kind ≡ kind_next (seat_in seats k)
next_kind_is seats k machine shape op kind at wants = sym (ap kind_next at ∙ kind_wanted shape (plan_of machine) op kind wants)

-- A CALL IS STARTED

-- a state after a start or a step of a seat, with what is left of the others
pub record IsAfter (c new : Core) (was : IsCore c) (k : ℕ) (sight : ℕ × List ℕ) (s : Seat) : Type 0 where
  pub core : IsCore new
  pub own : (core.sights k ≡ sight) × (seat_in new.seats k ≡ Some s)
  pub other : (i : ℕ) (u : Seat) → i ≢ k → seat_in c.seats i ≡ Some u → (core.sights i ≡ was.sights i) × (seat_in new.seats i ≡ Some u)

module _ (c : Core) (core : IsCore c) (k : ℕ) (own : Own) (at : seat_in c.seats k ≡ Some (doing.Idle own)) where
  known : IsOwnOf c.table k own
  known = (core.inv.knows k (view_at (core.sights k) k (doing.Idle own)) (view_is core.sights c.seats k (doing.Idle own) at)).0

  pub idle_below : k < length c.seats
  idle_below =
      let inside : k < c.table.shape.seats = (core.inv.numbers.seats k (view_at (core.sights k) k (doing.Idle own)) (view_is core.sights c.seats k (doing.Idle own) at)).0 in
      let whole = core.seats in
      omega (arith, inside, whole)

  abbrev pub begins : Call → Machine
  begins asked = started c.table.kind c.table.shape c.seed own asked

  module _ (asked : Call) (bytes : HasBytes asked) (may : MayStart c.table.kind c.table.shape own asked)
      (meets : MeetsLog c.table.kind c.log (own.number ∷ []) asked) where
    moved : Moves (views_of core.sights c.seats) (views_of (with_at core.sights k ((core.sights k).0, [])) (set c.seats k (Some (doing.Running (begins asked))))) k
        (view_at ((core.sights k).0, []) k (doing.Running (begins asked)))
    moved = views_move core.sights c.seats k ((core.sights k).0, []) (doing.Running (begins asked)) idle_below

    running : Inv c.table (memory_of c.table.shape c.words) (views_of (with_at core.sights k ((core.sights k).0, [])) (set c.seats k (Some (doing.Running (begins asked))))) c.log
    running =
        may_begin c.table (memory_of c.table.shape c.words) (views_of core.sights c.seats) (views_of (with_at core.sights k ((core.sights k).0, []))
        (set c.seats k (Some (doing.Running (begins asked))))) c.log k
        (view_at (core.sights k) k (doing.Idle own)) own asked core.inv (view_is core.sights c.seats k (doing.Idle own) at) refl may bytes
        (subst (λ n. MeetsLog c.table.kind c.log (n ∷ []) asked) known.number meets)
        (subst (λ seed. Moves (views_of core.sights c.seats) (views_of (with_at core.sights k ((core.sights k).0, [])) (set c.seats k (Some (doing.Running (begins asked))))) k
        (view_at ((core.sights k).0, []) k (doing.Running (started c.table.kind c.table.shape seed own asked)))) core.seed moved)

    -- the state after the call was started
    pub started_after : IsAfter c (with_seat c k (seat_after (begins asked))) core k ((core.sights k).0, []) (seat_after (begins asked))
    started_after = record {
      core = record {
        sights = with_at core.sights k ((core.sights k).0, []);
        sized = core.sized;
        seats = length-set c.seats k (Some (seat_after (begins asked))) ∙ core.seats;
        seed = core.seed;
        inv = comes_to_rest c.table (memory_of c.table.shape c.words) c.log (with_at core.sights k ((core.sights k).0, [])) c.seats k (begins asked) idle_below running;
        going = all_are IsGoing c.seats k (seat_after (begins asked)) idle_below core.going (goes_after (begins asked));
        drawn = drawn_still c.table.shape.seats c.seats (word_at c.table.shape place.Draws c.words) k (doing.Idle own) (seat_after (begins asked)) idle_below at core.drawn;
        told = core.told;
        rests = all_are HasResting c.seats k (seat_after (begins asked)) idle_below core.rests
            (rests_after (begins asked) (rests_begun c.table c.seed own asked (core.rests k (doing.Idle own) at)));
      };
      own = (with_here core.sights k ((core.sights k).0, []) k refl, seat_same c.seats k (Some (seat_after (begins asked))) idle_below);
      other = λ i u differ is. (with_other core.sights k ((core.sights k).0, []) i differ, seat_other c.seats k i (Some (seat_after (begins asked))) differ ∙ is);
    }

    pub started_core : IsCore (with_seat c k (seat_after (begins asked)))
    started_core = started_after.core

    -- what starting it came to
    pub started_as_said : (said : Started) (new : Core) → said ≡ started_as (plan_of (begins asked)) → new ≡ with_seat c k (seat_after (begins asked))
        → StartsAs c k asked (seat_in c.seats k) said new
    started_as_said said new says is = subst (λ (s : Option Seat). StartsAs c k asked s said new) (sym at) (inl (record {
      can = record { may = may; log = meets };
      answer = says;
      state = is;
    }))

-- the same over what was read and written on the way
module _ (c : Core) (core : IsCore c) (k : ℕ) (own own' : Own) (at : seat_in c.seats k ≡ Some (doing.Idle own)) (at' : seat_in c.seats k ≡ Some (doing.Idle own')) (asked : Call)
    (log : List Event) (is_log : log ≡ c.log)
    (bytes : HasBytes asked) (can : MayStart c.table.kind c.table.shape own asked × MeetsLog c.table.kind log (own.number ∷ []) asked) (taken : Option Seat)
    (next : Seat) (answer : Option Answer)
    (is_next : next ≡ seat_after (started c.table.kind c.table.shape c.seed own' asked)) (is_answer : answer ≡ answer_by (plan_of (started c.table.kind c.table.shape c.seed own' asked))) where
  same_own : own' ≡ own
  same_own = cc

  new_state : record c { seats = set (set c.seats k taken) k (Some next) } ≡ with_seat c k (seat_after (started c.table.kind c.table.shape c.seed own asked))
  new_state = ap (λ (seats : List (Option Seat)). record c { seats = seats })
      (set-set c.seats k taken (Some next) ∙ ap (λ (s : Seat). set c.seats k (Some s)) (is_next ∙ ap (λ (o : Own). seat_after (started c.table.kind c.table.shape c.seed o asked)) same_own))

  meets : MeetsLog c.table.kind c.log (own.number ∷ []) asked
  meets = subst (λ (l : List Event). MeetsLog c.table.kind l (own.number ∷ []) asked) is_log can.1

  pub start_core : IsCore (record c { seats = set (set c.seats k taken) k (Some next) })
  start_core = subst IsCore (sym new_state) (started_core c core k own at asked bytes can.0 meets)

  pub start_said : (said : Started) → said ≡ started_by answer → StartsAs c k asked (seat_in c.seats k) said (record c { seats = set (set c.seats k taken) k (Some next) })
  start_said said says = started_as_said c core k own at asked bytes can.0 meets said (record c { seats = set (set c.seats k taken) k (Some next) })
      (says ∙ ap started_by (is_answer ∙ ap (λ (o : Own). answer_by (plan_of (started c.table.kind c.table.shape c.seed o asked))) same_own)) new_state
