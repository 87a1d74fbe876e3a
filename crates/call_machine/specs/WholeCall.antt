-- A call from its beginning to its answer.
use Rattle.std.specs.Prelude.{◌≡◌, ◌<◌, ◌^◌, ℕ, List, Option, Some}
use Rattle.std.specs.List.{filter}
use Rattle.intern_log.specs.declared.event.What.{What}
use Rattle.intern_log.specs.Own.{is_visible}
use Rattle.atomic_step.specs.declared.answer.Answer.{Answer}
use Rattle.atomic_step.specs.declared.plan.Plan.TheVariants as plan
use Rattle.atomic_step.specs.Monitor.{after_all}
use Rattle.atomic_step.specs.Run.{Machine, AreFitting, after_words, events_of_words}
use Rattle.call_machine.specs.declared.stage.Calling.{Calling}
use Rattle.call_machine.specs.Calls.{plan_of, got_of, event_of}
use Rattle.call_machine.specs.CallEvents.{stands_for}
use Rattle.call_machine.specs.SoundCall.{FitsCall}

-- calls as machines that are told words of 64 bits
abbrev pub calls : Machine Calling
calls = record { got = got_of; event = event_of; Fits = λ c word. (word < 2 ^ 64) × FitsCall c word }

-- these words lead the call to this answer
pub record Answers (c : Calling) (words : List ℕ) (a : Answer) : Type 0 where
  pub fits : AreFitting calls c words
  pub answered : plan_of (after_words calls c words) ≡ plan.Answered a

-- the events of a call that has answered lead the monitor from here to there
abbrev pub LeadsTo : {F : Type 0} → (F → What → Option F) → F → F → Calling → Type 0
LeadsTo m from to c = (words : List ℕ) (a : Answer) → Answers c words a → after_all m (Some from) (events_of_words calls c words) ≡ Some to

-- what callers see of a call that has answered is what its answer stands for
abbrev pub ShowsItsAnswer : Calling → Type 0
ShowsItsAnswer c = (words : List ℕ) (a : Answer) → Answers c words a → filter is_visible (events_of_words calls c words) ≡ stands_for c.asked a
