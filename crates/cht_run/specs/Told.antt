-- What a step tells its seat.
use Rattle.std.specs.Prelude.{◌≡◌, ℕ, ◌^◌, ◌<◌, ◌≤◌, true, List, [], ◌∷◌, ◌++◌, map, length, Option, Some, None}
use Rattle.table_shape.specs.declared.place.Place.TheVariants as place
use Rattle.table_shape.specs.declared.shape.Shape.{Shape}
use Rattle.intern_log.specs.declared.event.What.{What}
use Rattle.intern_log.specs.Own.{is_among}
use Rattle.atomic_step.specs.declared.plan.Plan.TheVariants as plan
use Rattle.atomic_step.specs.declared.step.Step.{Step}
use Rattle.atomic_step.specs.Step.{access_of}
use Rattle.atomic_step.specs.Table.{IsWordAt}
use Rattle.call_machine.specs.declared.machine.Machine.{Machine}
use Rattle.call_machine.specs.declared.machine.Own.{Own}
use Rattle.call_machine.specs.Machine.{plan_of, got_of, event_of, passed_of}
use Rattle.call_machine.specs.SoundMachine.{IsSoundMachine, FitsMachine}
use Rattle.cht_core.specs.declared.seat.Seat.TheVariants as doing
use Rattle.cht_core.specs.Begins.{first_own}
use Rattle.cht_core.specs.Caused.{Hears}
use Rattle.cht_core.specs.Causes.{now_in}
use Rattle.cht_core.specs.Flow.{Flow}
use Rattle.cht_core.specs.Invariant.{events_of}
use Rattle.cht_core.specs.Past.{past_of}
use Rattle.cht_core.specs.State.{drawn_in}
use Rattle.cht_core.specs.Tidy.{IsTidy}
use Rattle.cht_core.specs.View.{load_after, passed_after}
use Rattle.cht_core.specs.Windows.{IsTold}
use Rattle.cht_core.specs.WordSays.{WordSays}
use Rattle.atomic_step.specs.declared.answer.Answer.{Answer}
use Rattle.atomic_step.specs.declared.answer.Answer.TheVariants as answer
use Rattle.call_machine.specs.declared.machine.Machine.TheVariants as machine
use Rattle.call_machine.specs.declared.pass.Cleaning.{Cleaning}
use Rattle.call_machine.specs.declared.sweep.SweepStage.{SweepStage}
use Rattle.call_machine.specs.declared.sweep.SweepStage.TheVariants as sweep
use Rattle.call_machine.specs.declared.work.Work.{Work}
use Rattle.call_machine.specs.declared.work.Work.TheVariants as work
use Rattle.cht_core.specs.Graces.{WorkedWithFew}
use Rattle.cht_core.specs.Passes.{HasCleaned, HasSwept, IsAtHash}
use Rattle.cht_core.specs.PollMeasure.{looked_in}
use Rattle.cht_core.specs.declared.table.Table.{Table}
use Rattle.intern_log.specs.declared.event.Event.{Event}
use Rattle.cht_run.specs.declared.sight.Origin.{Origin}
use Rattle.cht_run.specs.declared.sight.Entry.{Entry}
use Rattle.cht_run.specs.declared.sight.Entry.TheVariants as entry
use Rattle.cht_run.specs.declared.sight.Sight.{Sight}
use Rattle.cht_run.specs.History.{log_of, draws_of, is_drawn, HasSeen, NoneBy}
use Rattle.cht_run.specs.Covers.{MachineEnds}
use Rattle.cht_run.specs.ReadKept.{MachineReads}
use Rattle.cht_run.specs.Rule.{is_seat, CountsDraws}
use Rattle.cht_run.specs.Unlinks.{HasFreed, HasNoLock, MachineUnlinks}

-- what a step adds to the history: its event, and the number that it draws
abbrev pub tells : ℕ → Option What → List Entry
tells i e = map entry.Told (events_of i e)

abbrev pub drew : ℕ → Option ℕ → List Entry
drew i None = []
drew i (Some number) = entry.Drew i number ∷ []

abbrev pub adds : Shape → ℕ → Machine → Step → ℕ → List Entry
adds shape i m s word = tells i (event_of m word) ++ drew i (drawn_in shape s word)

-- a number that is drawn is out, and its seat is given away
abbrev pub kids_after : Option ℕ → List ℕ → List ℕ
kids_after None kids = kids
kids_after (Some number) kids = number ∷ kids

abbrev pub given_after : Shape → Option ℕ → Option Own → Option Own
given_after shape None given = given
given_after shape (Some number) given = Some (first_own shape number)

-- a seat after a step of its machine, where this was the history
abbrev pub sight_after : Origin → Sight → List Entry → Machine → Step → ℕ → Sight
sight_after o v history m s word = record {
  origin = v.origin;
  number = v.number;
  seat = doing.Running (got_of m word);
  load = load_after s (now_in o.table (log_of history)).place v.load;
  passed = passed_after s v.passed;
  numbers = v.numbers;
  kids = kids_after (drawn_in o.table.shape s word) v.kids;
  given = given_after o.table.shape (drawn_in o.table.shape s word) v.given;
  history = history ++ adds o.table.shape v.number m s word;
  earlier = [];
  words = None;
}

-- what the table was as a step found a word in it
pub record Found (o : Origin) (v : Sight) (history : List Entry) (m : Machine) (s : Step) (word : ℕ) : Type 0 where
  pub fits : FitsMachine m word
  pub small : word < 2 ^ 64
  pub stands : IsWordAt o.table.shape (access_of s).place word
  pub told : IsTold o.table (log_of history)
  pub tidy : IsTidy o.table (now_in o.table (log_of history))
  pub flow : Flow
  pub says : WordSays o.table (past_of o.table.shape.min_level (log_of history)) flow s word
  pub hears : Hears o.table (past_of o.table.shape.min_level (log_of history)) flow v.number v.load (log_of history) m word
  pub reads : MachineReads (log_of history) m word
  pub unlinks : MachineUnlinks (now_in o.table (log_of history)) m
  pub draws : (access_of s).place ≡ place.Draws → CountsDraws o.table.shape.seats word (length (draws_of history)) × ((number : ℕ) → is_drawn history number ≡ true → number < word)

-- what a poll or a sweep has found out by the end of a log: a poll has looked at few nodes in its pass or its pair, a clean that is done has unlinked
-- what was dead as its seat took the resize lock, a grow that is done has had few graces, and a sweep of few slots has unlinked what was dead in its
-- bucket. After a clean and a sweep all that the seat has unlinked is freed, and after each of the four it has no bucket locked
abbrev pub PollFound : Table → List Event → ℕ → Work → Option Answer → Type 0
PollFound t log i (work.Clean c) (Some (answer.Done did)) = HasNoLock t log i × HasCleaned t.shape.min_level log i × HasFreed t log i
PollFound t log i (work.Resize r) (Some (answer.Done did)) = HasNoLock t log i × WorkedWithFew log r.direction did
PollFound t log i _ _ = Unit {0}

abbrev pub SweepFound : Table → List Event → ℕ → ℕ → Cleaning → SweepStage → Type 0
SweepFound t log i hash c (sweep.Answered (answer.Swept many)) = (many < 256 → HasSwept t.shape.min_level log i hash) × HasFreed t log i × IsAtHash hash c × HasNoLock t log i
SweepFound t log i hash c _ = Unit {0}

abbrev pub WorkFound : Table → List Event → ℕ → Machine → Type 0
WorkFound t log i (machine.Poll q) = (looked_in (machine.Poll q) ≤ t.shape.slots) × PollFound t log i q.work q.answer
WorkFound t log i (machine.Sweep s) = SweepFound t log i s.asked.hash s.along.cleaning s.stage
WorkFound t log i _ = Unit {0}

-- a step of a machine has found a word: all that came since was seen, nothing of it is by the seat, and then comes the step's own event
pub record Told (o : Origin) (m : Machine) (s : Step) (v : Sight) (word : ℕ) (w : Sight) : Type 0 where
  pub between : List Entry
  pub none : NoneBy v.numbers between
  pub after : w ≡ sight_after o v (v.history ++ between) m s word
  pub found : Found o v (v.history ++ between) m s word
  pub sound : IsSoundMachine (got_of m word)
  pub sees : HasSeen o.table w.history
  pub few : passed_of (got_of m word) ≤ o.table.shape.slots
  pub found_out : WorkFound o.table (log_of w.history) v.number (got_of m word)
  -- a seat from which all others have come back has seen all, and its walk to the end of a chain has passed all of it
  pub alone : v.kids ≡ [] → is_among v.numbers 0 ≡ true → between ≡ []
  pub ended : v.kids ≡ [] → is_among v.numbers 0 ≡ true → MachineEnds o.table.shape.slots (now_in o.table (log_of (v.history ++ between))) m word

-- the seat is about to make this step of this machine
pub record IsAbout (v : Sight) (m : Machine) (s : Step) : Type 0 where
  pub seat : is_seat v ≡ true
  pub running : v.seat ≡ doing.Running m
  pub plan : plan_of m ≡ plan.Step s
