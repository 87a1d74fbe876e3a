-- A whole table as plain data, and what its calls come to.
use Rattle.std.specs.Prelude.{◌≡◌, ◌≢◌, ℕ, ◌+◌, ◌-◌, ◌%◌, ◌^◌, ◌<◌, ◌≤◌, ◌↔◌, ◌⊎◌, nat_lt, if◌then◌else◌, List, [], ◌∷◌, ◌++◌, length, replicate, slice_index_or, set, Option, Some, None, IfSome}
use Rattle.intern_log.specs.declared.event.Event.{Event}
use Rattle.intern_log.specs.Now.{Now, now_of}
use Rattle.table_shape.specs.declared.shape.Shape.{Shape}
use Rattle.table_shape.specs.declared.place.Place.TheVariants as place
use Rattle.table_shape.specs.Place.{index_of}
use Rattle.table_shape.specs.Shape.{words_of, IsSound, IsFaultOf}
use Rattle.atomic_step.specs.declared.access.StepKind.{StepKind}
use Rattle.atomic_step.specs.declared.answer.Answer.{Answer}
use Rattle.atomic_step.specs.declared.plan.Plan.{Plan}
use Rattle.atomic_step.specs.declared.plan.Plan.TheVariants as plan
use Rattle.atomic_step.specs.declared.step.Step.{Step}
use Rattle.atomic_step.specs.declared.step.Step.TheVariants as step
use Rattle.atomic_step.specs.Step.{access_of}
use Rattle.atomic_step.specs.Table.{words_after, word_at}
use Rattle.call_machine.specs.declared.call.Call.{Call}
use Rattle.call_machine.specs.declared.machine.Machine.{Machine}
use Rattle.call_machine.specs.declared.machine.Machine.TheVariants as machine
use Rattle.call_machine.specs.declared.machine.Own.{Own}
use Rattle.call_machine.specs.Machine.{started, plan_of, got_of, event_of, own_of}
use Rattle.call_machine.specs.SoundMachine.{MayStart}
use Rattle.cht_core.specs.declared.rehash.Rehashing.{Rehashing}
use Rattle.cht_core.specs.declared.rehash.Rehashing.TheVariants as rehashing
use Rattle.cht_core.specs.declared.seat.Seat.{Seat}
use Rattle.cht_core.specs.declared.seat.Seat.TheVariants as doing
use Rattle.cht_core.specs.declared.state.MakeFault.{MakeFault}
use Rattle.cht_core.specs.declared.state.MakeFault.TheVariants as fault
use Rattle.cht_core.specs.declared.state.Started.{Started}
use Rattle.cht_core.specs.declared.state.Started.TheVariants as begun
use Rattle.cht_core.specs.declared.state.Stepped.{Stepped}
use Rattle.cht_core.specs.declared.state.Stepped.TheVariants as stepped
use Rattle.cht_core.specs.declared.table.Table.{Table}
use Rattle.cht_core.specs.Begins.{MeetsLog, first_own}
use Rattle.cht_core.specs.Causes.{IsResting, Rests}
use Rattle.cht_core.specs.Invariant.{Inv, events_of}
use Rattle.cht_core.specs.Memory.{memory_of}
use Rattle.cht_core.specs.Past.{by}
use Rattle.cht_core.specs.Rehash.{IsFree, HasNoDead, IsRehashed, seeds, by_next_seed}
use Rattle.cht_core.specs.View.{View}
use Rattle.cht_core.specs.Windows.{IsTold}

-- a table, the seed of its hash, its words, what each seat number is at, and its log
pub record Core : Type 0 where
  pub table : Table
  pub seed : ℕ
  pub words : List ℕ
  pub seats : List (Option Seat)
  pub log : List Event

-- what the seat of a number is at, if the number is drawn
abbrev pub seat_in : List (Option Seat) → ℕ → Option Seat
seat_in seats k = slice_index_or seats k None

-- a seat as others know it, with the place at which it last loaded a head and the nodes that its walk has passed
abbrev pub view_of : ℕ × List ℕ → ℕ → Option Seat → Option View
view_of sight k None = None
view_of sight k (Some s) = Some (record { seat = s; load = sight.0; passed = sight.1; numbers = k ∷ [] })

abbrev pub views_of : (ℕ → ℕ × List ℕ) → List (Option Seat) → ℕ → Option View
views_of sights seats k = view_of (sights k) k (seat_in seats k)

-- a call is running, and has not answered
abbrev pub IsGoing : Seat → Type 0
IsGoing (doing.Idle own) = Unit {0}
IsGoing (doing.Running m) = (s : Step) × (plan_of m ≡ plan.Step s)

-- the unfinished work of a seat rests between its polls
abbrev pub HasResting : Seat → Type 0
HasResting (doing.Idle own) = IfSome own.work IsResting
HasResting (doing.Running (machine.Call c w g)) = IfSome w IsResting
HasResting (doing.Running (machine.Poll p)) = Rests p.work p.answer
HasResting (doing.Running m) = Unit {0}

pub record IsCore (c : Core) : Type 0 where
  pub sights : ℕ → ℕ × List ℕ
  pub sized : length c.words ≡ words_of c.table.shape
  pub seats : length c.seats ≡ c.table.shape.seats
  pub seed : c.seed ≡ (now_of c.table.shape.min_level c.log).seed
  pub inv : Inv c.table (memory_of c.table.shape c.words) (views_of sights c.seats) c.log
  pub going : (k : ℕ) (s : Seat) → seat_in c.seats k ≡ Some s → IsGoing s
  -- the drawn numbers are those below the first word
  pub drawn : (k : ℕ) → k < c.table.shape.seats → (seat_in c.seats k ≢ None) ↔ (k < word_at c.table.shape place.Draws c.words)
  -- each event may be told after those before it
  pub told : IsTold c.table c.log
  pub rests : (k : ℕ) (s : Seat) → seat_in c.seats k ≡ Some s → HasResting s

-- a table that has just been made
abbrev pub opening_words : Table → List ℕ
opening_words t = set (set (set (replicate (words_of t.shape) 0) (index_of t.shape place.Draws) 1) (index_of t.shape place.Counter) t.first_counter) (index_of t.shape place.Level) t.shape.min_level

abbrev pub first_seats_of : Shape → List (Option Seat)
first_seats_of shape = Some (doing.Idle (first_own shape 0)) ∷ replicate (shape.seats - 1) None

abbrev pub opening_of : Table → Core
opening_of t = record {
  table = t;
  seed = 0;
  words = opening_words t;
  seats = first_seats_of t.shape;
  log = [];
}

-- the first counter of a table is even and at most 2^48
abbrev pub IsFirstCounter : ℕ → Type 0
IsFirstCounter counter = (counter % 2 ≡ 0) × (counter ≤ 2 ^ 48)

-- the first fault of what a table is to be made with; want of memory comes last
abbrev pub IsMakeFault : Shape → ℕ → MakeFault → Type 0
IsMakeFault shape counter (fault.Shape f) = IsFaultOf shape f
IsMakeFault shape counter (fault.BadCounter c) = IsSound shape × (c ≡ counter) × ¬ (IsFirstCounter counter)
IsMakeFault shape counter fault.OutOfMemory = IsSound shape × IsFirstCounter counter

-- the condition of a call of a seat
pub record CanStart (c : Core) (own : Own) (asked : Call) : Type 0 where
  pub may : MayStart c.table.kind c.table.shape own asked
  pub log : MeetsLog c.table.kind c.log (own.number ∷ []) asked

-- the state with another seat at a number
abbrev pub with_seat : Core → ℕ → Seat → Core
with_seat c k s = record c { seats = set c.seats k (Some s) }

-- a machine at rest: a call that has answered leaves its seat between its calls
abbrev pub at_rest : Machine → Plan → Seat
at_rest m (plan.Step s) = doing.Running m
at_rest m (plan.Answered a) = doing.Idle (own_of m)

abbrev pub seat_after : Machine → Seat
seat_after m = at_rest m (plan_of m)

-- the answer of a call that has answered
abbrev pub answer_by : Plan → Option Answer
answer_by (plan.Step s) = None
answer_by (plan.Answered a) = Some a

-- what starting a call comes to, by its answer
abbrev pub started_by : Option Answer → Started
started_by None = begun.Started
started_by (Some a) = begun.Answered a

abbrev pub started_as : Plan → Started
started_as p = started_by (answer_by p)

pub record Starts (c : Core) (k : ℕ) (own : Own) (asked : Call) (said : Started) (new : Core) : Type 0 where
  pub can : CanStart c own asked
  pub answer : said ≡ started_as (plan_of (started c.table.kind c.table.shape c.seed own asked))
  pub state : new ≡ with_seat c k (seat_after (started c.table.kind c.table.shape c.seed own asked))

abbrev pub StartsAs : Core → ℕ → Call → Option Seat → Started → Core → Type 0
StartsAs c k asked None said new = (said ≡ begun.NoSeat) × (new ≡ c)
StartsAs c k asked (Some (doing.Running m)) said new = (said ≡ begun.Running) × (new ≡ c)
StartsAs c k asked (Some (doing.Idle own)) said new = Starts c k own asked said new ⊎ ((said ≡ begun.Refused) × (new ≡ c) × ¬ (CanStart c own asked))

-- the kind of the next step
abbrev pub kind_by : Plan → Option StepKind
kind_by (plan.Step s) = Some (access_of s).kind
kind_by (plan.Answered a) = None

abbrev pub kind_next : Option Seat → Option StepKind
kind_next (Some (doing.Running m)) = kind_by (plan_of m)
kind_next _ = None

-- a step that draws a number of the table brings a new seat
abbrev pub drawn_in : Shape → Step → ℕ → Option ℕ
drawn_in shape step.Draw word = if nat_lt word shape.seats then Some word else None
drawn_in shape _ word = None

abbrev pub with_drawn : Shape → Option ℕ → List (Option Seat) → List (Option Seat)
with_drawn shape None seats = seats
with_drawn shape (Some number) seats = set seats number (Some (doing.Idle (first_own shape number)))

-- what a step comes to, by the answer of its call
abbrev pub stepped_by : Option Answer → Stepped
stepped_by None = stepped.Moved
stepped_by (Some a) = stepped.Answered a

abbrev pub stepped_as : Plan → Stepped
stepped_as p = stepped_by (answer_by p)

-- one step of a seat: the step that its machine wants changes its word and adds its event, and its machine is told the word that was found
abbrev pub after_step : Core → ℕ → Machine → Step → ℕ → Core
after_step c k m s word = record c {
  words = words_after c.table.shape s c.words;
  seats = with_drawn c.table.shape (drawn_in c.table.shape s word) (set c.seats k (Some (seat_after (got_of m word))));
  log = c.log ++ events_of k (event_of m word);
}

pub record Steps (c : Core) (k : ℕ) (m : Machine) (said : Stepped) (new : Core) : Type 0 where
  pub step : Step
  pub plan : plan_of m ≡ plan.Step step
  pub answer : said ≡ stepped_as (plan_of (got_of m (word_at c.table.shape (access_of step).place c.words)))
  pub state : new ≡ after_step c k m step (word_at c.table.shape (access_of step).place c.words)

abbrev pub StepsAs : Core → ℕ → Option Seat → Stepped → Core → Type 0
StepsAs c k (Some (doing.Running m)) said new = Steps c k m said new
StepsAs c k _ said new = (said ≡ stepped.Idle) × (new ≡ c)

-- what the log of a state says at its end
abbrev pub now_at : Core → Now
now_at c = now_of c.table.shape.min_level c.log

-- a state may be made anew: nobody works, no slot is linked and dead, and a seed is left
pub record CanRehash (c : Core) : Type 0 where
  pub seats : (k : ℕ) (s : Seat) → seat_in c.seats k ≡ Some s → IsFree s
  pub dead : HasNoDead (now_at c)
  pub seed : c.seed < 2

pub record Rehashed (c new : Core) : Type 0 where
  pub can : CanRehash c
  pub sized : length new.words ≡ length c.words
  pub words : IsRehashed (memory_of c.table.shape c.words) (memory_of c.table.shape new.words) (by_next_seed (now_at c))
  pub state : new ≡ record c { seed = c.seed + 1; words = new.words; log = c.log ++ by 0 (seeds (now_at c)) ∷ [] }

-- it is refused exactly where it may not be made anew
abbrev pub RehashesAs : Core → Rehashing → Core → Type 0
RehashesAs c rehashing.Done new = Rehashed c new
RehashesAs c rehashing.Refused new = (new ≡ c) × ¬ (CanRehash c)
RehashesAs c rehashing.OutOfMemory new = (new ≡ c) × CanRehash c
