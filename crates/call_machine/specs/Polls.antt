-- Polls one after another.
use Rattle.std.specs.Prelude.{Option, Some, None, []}
use Rattle.table_shape.specs.declared.shape.Shape.{Shape}
use Rattle.atomic_step.specs.declared.answer.Answer.{Answer}
use Rattle.atomic_step.specs.declared.answer.Answer.TheVariants as answer
use Rattle.atomic_step.specs.Run.{Machine}
use Rattle.atomic_step.specs.SoundStep.{CanFollow}
use Rattle.atomic_step.specs.Turn.{Row, Turn, Answered, Makes, plan_in, next_in, event_by}

-- a poll has answered, or goes on with what is unfinished
abbrev pub turn_by : {S : Type 0} → (S → Row (S × Option Answer)) → S × Option Answer → Turn (S × Option Answer)
turn_by rows (s, None) = Makes (rows s)
turn_by rows (s, Some a) = Answered a

-- where a poll is pending the next one begins
abbrev pub polled_on : {S : Type 0} → (S → S × Option Answer) → S × Option Answer → S × Option Answer
polled_on anew (s, Some (answer.PendingSeat seat)) = anew s
polled_on anew (s, Some (answer.PendingBucket row bucket)) = anew s
polled_on anew at = at

-- polls one after another as one machine, by the rows of what is polled and by what a new poll makes of it
abbrev pub polls : {S : Type 0} → Shape → (S → Row (S × Option Answer)) → (S → S × Option Answer) → Machine (S × Option Answer)
polls shape rows anew = record {
  got = λ at word. polled_on anew (next_in at (turn_by rows at) word);
  event = λ at word. event_by [] (plan_in (turn_by rows at)) word;
  Fits = λ at word. CanFollow shape (plan_in (turn_by rows at)) word;
}
