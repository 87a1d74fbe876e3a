-- The invariant of a table with all its seats, and what each step of a seat keeps.
use Rattle.std.specs.Prelude.{◌≡◌, ◌≢◌, ℕ, ◌+◌, ◌<◌, true, List, ◌++◌, Option, Some, None}
use Rattle.std.specs.List.{All}
use Rattle.std.specs.Option.{option_map, option_to_list}
use Rattle.intern_log.specs.declared.event.Event.{Event}
use Rattle.intern_log.specs.declared.event.Handle.{Handle}
use Rattle.intern_log.specs.declared.event.What.{What}
use Rattle.intern_log.specs.Lawful.{IsLawful}
use Rattle.intern_log.specs.Own.{is_visible, is_among, mine, gains, losses}
use Rattle.intern_log.specs.Short.{IsShort}
use Rattle.atomic_step.specs.declared.access.StepKind.{StepKind}
use Rattle.atomic_step.specs.declared.plan.Plan.TheVariants as plan
use Rattle.atomic_step.specs.declared.step.Step.{Step}
use Rattle.atomic_step.specs.Step.{access_of}
use Rattle.call_machine.specs.declared.machine.Machine.{Machine}
use Rattle.call_machine.specs.Machine.{plan_of, event_of}
use Rattle.cht_core.specs.declared.seat.Seat.TheVariants as doing
use Rattle.cht_core.specs.declared.table.Table.{Table}
use Rattle.cht_core.specs.Bounds.{Bounds}
use Rattle.cht_core.specs.Edges.{UnlinkedLead}
use Rattle.cht_core.specs.Flow.{Flow}
use Rattle.cht_core.specs.Graces.{GrowsWithFew}
use Rattle.cht_core.specs.Looks.{LooksAtFew}
use Rattle.cht_core.specs.Memory.{Memory, IsMade, found}
use Rattle.cht_core.specs.Owes.{IsAllOf}
use Rattle.cht_core.specs.Passes.{PassesFind}
use Rattle.cht_core.specs.Past.{past_of, MayTell, kind_of, by}
use Rattle.cht_core.specs.TableState.{IsTable}
use Rattle.cht_core.specs.View.{View, view_after, Knows}
use Rattle.cht_core.specs.Windows.{IsTold}

-- each seat has its numbers for itself, and each event that callers see is by a number of a seat
pub record Numbers (t : Table) (seat : ℕ → Option View) (log : List Event) : Type 0 where
  pub seats : (k : ℕ) (v : View) → seat k ≡ Some v → (k < t.shape.seats) × (is_among v.numbers k ≡ true)
  pub apart : (k j number : ℕ) (v u : View) → seat k ≡ Some v → seat j ≡ Some u → is_among v.numbers number ≡ true → is_among u.numbers number ≡ true → k ≡ j
  pub heard : All (λ (e : Event). is_visible e.what ≡ true → (k : ℕ) × (v : View) × (seat k ≡ Some v) × (is_among v.numbers e.seat ≡ true)) log

-- what a seat holds is what its numbers have gained and not lost; who is no seat holds nothing
pub record Holds (seat : ℕ → Option View) (log : List Event) (holds : ℕ → Handle → ℕ) : Type 0 where
  pub own : (k : ℕ) (v : View) (h : Handle) → seat k ≡ Some v → holds k h + losses (mine log v.numbers) h ≡ gains (mine log v.numbers) h
  pub none : (k : ℕ) (h : Handle) → seat k ≡ None → holds k h ≡ 0

-- a table with its seats: its words, its log, and what each seat is at
pub record Inv (t : Table) (m : Memory) (seat : ℕ → Option View) (log : List Event) : Type 0 where
  pub flow : Flow
  pub table : IsTable t m (past_of t.shape.min_level log) flow
  pub knows : (k : ℕ) (v : View) → seat k ≡ Some v → Knows t m (past_of t.shape.min_level log) flow k v
  pub owes : (k : ℕ) → IsAllOf (past_of t.shape.min_level log) k (option_map (λ (v : View). v.seat) (seat k))
  pub bounds : Bounds t m seat
  pub numbers : Numbers t seat log
  pub holds : Holds seat log flow.holds
  pub told : IsTold t log
  pub lawful : IsShort log → IsLawful (kind_of t) log
  pub edges : UnlinkedLead t m log
  pub graces : (k : ℕ) (v : View) → seat k ≡ Some v → GrowsWithFew (past_of t.shape.min_level log).now log flow v.seat
  pub looks : (k : ℕ) (v : View) → seat k ≡ Some v → LooksAtFew t.shape.slots flow v.seat
  pub passes : (k : ℕ) (v : View) → seat k ≡ Some v → PassesFind t (past_of t.shape.min_level log).now log flow k v.seat

-- one seat is at something else, and no other
pub record Moves (seat seat' : ℕ → Option View) (i : ℕ) (v : View) : Type 0 where
  pub own : seat' i ≡ Some v
  pub other : (k : ℕ) → k ≢ i → seat' k ≡ seat k

-- the events of a step of a seat
abbrev pub events_of : ℕ → Option What → List Event
events_of i e = option_to_list (option_map (by i) e)

-- a step of a kind, by any seat, from any state that meets the invariant: its event may be added, and the invariant is met again
abbrev pub Keeps : StepKind → Type 0
Keeps kind = (t : Table) (m m' : Memory) (seat seat' : ℕ → Option View) (log : List Event) (i : ℕ) (v : View) (machine : Machine) (s : Step)
    → Inv t m seat log → seat i ≡ Some v → v.seat ≡ doing.Running machine → plan_of machine ≡ plan.Step s → (access_of s).kind ≡ kind → IsMade s m m'
    → Moves seat seat' i (view_after (past_of t.shape.min_level log).now v machine s (found s m))
    → MayTell (kind_of t) (past_of t.shape.min_level log) i (event_of machine (found s m)) × Inv t m' seat' (log ++ events_of i (event_of machine (found s m)))
