-- The poll of an unfinished work.
use Rattle.std.specs.Prelude.{◌≡◌, ℕ, ◌^◌, ◌<◌, List, Option, Some, None, []}
use Rattle.table_shape.specs.declared.shape.Shape.{Shape}
use Rattle.intern_log.specs.declared.event.What.{What}
use Rattle.atomic_step.specs.declared.answer.Answer.{Answer}
use Rattle.atomic_step.specs.declared.answer.Answer.TheVariants as answer
use Rattle.atomic_step.specs.declared.plan.Plan.{Plan}
use Rattle.atomic_step.specs.Run.{Machine, AreFitting, after_words, events_of_words}
use Rattle.atomic_step.specs.Turn.{Turn, plan_in, next_in, event_by}
use Rattle.call_machine.specs.declared.caller.Caller.{Caller}
use Rattle.call_machine.specs.declared.poll.Polling.{Polling}
use Rattle.call_machine.specs.declared.resize.Direction.{Direction}
use Rattle.call_machine.specs.declared.work.Work.{Work}
use Rattle.call_machine.specs.declared.work.Work.TheVariants as work
use Rattle.call_machine.specs.Polls.{turn_by, polls}
use Rattle.call_machine.specs.ResizeRuns.{Being}
use Rattle.call_machine.specs.Work.{work_row, resumes}

-- a poll of a work
abbrev pub poll_turn : Caller → Work × Option Answer → Turn (Work × Option Answer)
poll_turn caller at = turn_by (work_row caller.shape) at

abbrev pub state_of : Polling → Work × Option Answer
state_of p = (p.work, p.answer)

abbrev pub polling : Caller → Work × Option Answer → Polling
polling caller at = record { caller = caller; work = at.0; answer = at.1 }

abbrev pub begun_poll : Caller → Work → Polling
begun_poll caller w = polling caller (resumes w)

-- what comes next, what comes of the word that is found, and which event that is
abbrev pub poll_plan : Polling → Plan
poll_plan p = plan_in (poll_turn p.caller (state_of p))

abbrev pub poll_got : Polling → ℕ → Polling
poll_got p word = polling p.caller (next_in (state_of p) (poll_turn p.caller (state_of p)) word)

abbrev pub poll_event : Polling → ℕ → Option What
poll_event p word = event_by [] (poll_plan p) word

-- a work that is done is no more
abbrev pub work_left : Work → Option Answer → Option Work
work_left w (Some (answer.Done worked)) = None
work_left w _ = Some w

-- polls of a work one after another, each told words of 64 bits
abbrev pub works : Shape → Machine (Work × Option Answer)
works shape = record {
  got = (polls shape (work_row shape) resumes).got;
  event = (polls shape (work_row shape) resumes).event;
  Fits = λ at word. (word < 2 ^ 64) × (polls shape (work_row shape) resumes).Fits at word;
}

-- a run of a work is that of its kind: its words fit there, and it has the same events and leads to the same place
abbrev pub RunsAs : {S : Type 0} → Shape → Machine S → (S → Work × Option Answer) → Type 0
RunsAs {S} shape part of = (s : S) (words : List ℕ) → AreFitting (works shape) (of s) words →
    AreFitting part s words × (events_of_words (works shape) (of s) words ≡ events_of_words part s words) × (after_words (works shape) (of s) words ≡ of (after_words part s words))

-- a grow or a shrink as a work
abbrev pub resizing : Direction → Being → Work × Option Answer
resizing d at = (work.Resize (record { direction = d; along = at.0.0; stage = at.0.1 }), at.1)
