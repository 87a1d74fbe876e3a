-- The rule of a running table: its words, its history and its seats are a state of the core.
use Rattle.std.specs.Prelude.{◌≡◌, ◌≢◌, ℕ, ◌+◌, ◌<◌, ◌≤◌, ◌⊎◌, Bool, true, List, [], ◌∷◌, length, Option, Some, None}
use mathlib.Core.Option.{some}
use lib.ListN.{get_elem?}
use Rattle.atomic_table.specs.Table.{State}
use Rattle.table_shape.specs.declared.place.Place.TheVariants as place
use Rattle.table_shape.specs.Shape.{words_of}
use Rattle.intern_log.specs.declared.event.Event.{Event}
use Rattle.intern_log.specs.Now.{Now, now_of}
use Rattle.intern_log.specs.Own.{is_among}
use Rattle.call_machine.specs.declared.machine.Own.{Own}
use Rattle.cht_core.specs.declared.seat.Seat.{Seat}
use Rattle.cht_core.specs.declared.seat.Seat.TheVariants as doing
use Rattle.cht_core.specs.Begins.{first_own, new_view}
use Rattle.cht_core.specs.Causes.{now_in}
use Rattle.cht_core.specs.HeadKept.{Headed}
use Rattle.cht_core.specs.Invariant.{Inv}
use Rattle.cht_core.specs.Memory.{Memory, memory_of}
use Rattle.cht_core.specs.State.{HasResting}
use Rattle.cht_core.specs.View.{View}
use Rattle.cht_core.specs.Windows.{IsTold}
use Rattle.cht_run.specs.declared.sight.Origin.{Origin}
use Rattle.cht_run.specs.declared.sight.Entry.{Entry}
use Rattle.cht_run.specs.declared.sight.Sight.{Sight}
use Rattle.cht_run.specs.Covers.{MachineCovers}
use Rattle.cht_run.specs.ReadKept.{MachineKept}
use Rattle.cht_run.specs.History.{log_of, draws_of, is_drawn, NoneBy, IsOrderly, IsNumbered, AreOut, Follows, Remembers}

-- a seat as the core knows it
abbrev pub view_of : Sight → View
view_of v = record { seat = v.seat; load = v.load; passed = v.passed; numbers = v.numbers }

-- whether it is a seat: one that was joined into another has no number left, and neither has a note of what was seen
abbrev pub is_seat : Sight → Bool
is_seat v = is_among v.numbers v.number

-- the numbers by which the core has a seat for it: its own, and the one that it has drawn and not given away
abbrev pub Owns : Sight → ℕ → Type 0
Owns v k = ((is_seat v ≡ true) × (k ≡ v.number)) ⊎ ((own : Own) × (v.given ≡ Some own) × (k ≡ own.number))

-- what a seat in a call knows of the head that it loaded
abbrev pub HeadedIn : Origin → Memory → ℕ → ℕ → List Event → Seat → Type 0
HeadedIn o m i load log (doing.Idle own) = Unit {0}
HeadedIn o m i load log (doing.Running machine) = Headed o.table m i load log machine

-- and of the text that it reads
abbrev pub ReadsIn : Origin → Memory → List Event → Seat → Type 0
ReadsIn o m log (doing.Idle own) = Unit {0}
ReadsIn o m log (doing.Running machine) = MachineKept m o.seed log machine

-- and of its chain, where all other seats have come back to it
abbrev pub SeatCovers : Memory → Now → List ℕ → Seat → Type 0
SeatCovers m n passed (doing.Idle own) = Unit {0}
SeatCovers m n passed (doing.Running machine) = MachineCovers m n passed machine

abbrev pub CoversIn : Origin → Memory → List Event → Sight → Type 0
CoversIn o m log v = v.kids ≡ [] → is_among v.numbers 0 ≡ true → SeatCovers m (now_in o.table log) v.passed v.seat

-- a seat of the table
pub record IsPart (o : Origin) (m : Memory) (seat : ℕ → Option View) (history : List Entry) (v : Sight) : Type 0 where
  pub at : seat v.number ≡ Some (view_of v)
  pub rests : HasResting v.seat
  pub headed : HeadedIn o m v.number v.load (log_of history) v.seat
  pub reads : ReadsIn o m (log_of history) v.seat
  pub covers : CoversIn o m (log_of history) v

-- a seat that has just been drawn by another one: nothing is by its number yet
pub record IsNew (o : Origin) (seat : ℕ → Option View) (history : List Entry) (number : ℕ) (own : Own) : Type 0 where
  pub own_is : own ≡ first_own o.table.shape own.number
  pub differ : own.number ≢ number
  pub at : seat own.number ≡ Some (new_view o.table.shape own.number)
  pub unused : NoneBy (own.number ∷ []) history

-- what holds of each view: it has seen a part of the history, in which all is that is by its numbers; and each number that these have drawn is
-- one of them or is out
pub record Fits (o : Origin) (m : Memory) (seat : ℕ → Option View) (history : List Entry) (v : Sight) : Type 0 where
  pub of : is_seat v ≡ true → v.origin ≡ o
  pub seen : Follows v.numbers v.history history
  pub part : ((is_seat v ≡ true) × IsPart o m seat history v) ⊎ (v.numbers ≡ [])
  pub given : (own : Own) → v.given ≡ Some own → IsNew o seat history v.number own
  pub out : AreOut v.numbers v.kids v.history
  pub earlier : Remembers v.history v.earlier

-- the word of the drawn numbers counts them, until all are drawn
pub record CountsDraws (seats word draws : ℕ) : Type 0 where
  pub some_left : word < seats → word ≡ draws + 1
  pub none_left : seats ≤ word → seats ≡ draws + 1

-- a seat to which all others have come back has the words of the table, if it has loaded one outside its calls since its last step
abbrev pub IsSnapshot : List ℕ → Sight → Type 0
IsSnapshot words v = (snapshot : List ℕ) → v.words ≡ Some snapshot → v.kids ≡ [] → is_among v.numbers 0 ≡ true → words ≡ snapshot

pub record Kept (o : Origin) (s : State (Unit {0}) Sight) : Type 0 where
  pub seat : ℕ → Option View
  pub history : List Entry
  pub sized : length s.words ≡ words_of o.table.shape
  pub inv : Inv o.table (memory_of o.table.shape s.words) seat (log_of history)
  pub seed : (now_of o.table.shape.min_level (log_of history)).seed ≡ o.seed
  pub told : IsTold o.table (log_of history)
  pub orderly : IsOrderly history
  pub numbered : IsNumbered 1 (draws_of history)
  -- numbers are drawn one after another, and each number of a seat is drawn
  pub counted : CountsDraws o.table.shape.seats (memory_of o.table.shape s.words place.Draws) (length (draws_of history))
  pub below : (number : ℕ) → is_drawn history number ≡ true → number < memory_of o.table.shape s.words place.Draws
  pub drawn : (k number : ℕ) (v : View) → seat k ≡ Some v → is_among v.numbers number ≡ true → is_drawn history number ≡ true
  -- no two views stand for one number
  pub apart : (i j k : ℕ) (v u : Sight) → get_elem? s.views i ≡ some v → get_elem? s.views j ≡ some u → Owns v k → Owns u k → i ≡ j
  pub fits : (id : ℕ) (v : Sight) → get_elem? s.views id ≡ some v → Fits o (memory_of o.table.shape s.words) seat history v
  pub shown : (id : ℕ) (v : Sight) → get_elem? s.views id ≡ some v → IsSnapshot s.words v

-- the first seat
abbrev pub root_of : Origin → Sight
root_of o = record {
  origin = o;
  number = 0;
  seat = doing.Idle (first_own o.table.shape 0);
  load = 0;
  passed = [];
  numbers = 0 ∷ [];
  kids = [];
  given = None;
  history = [];
  earlier = [];
  words = None;
}
