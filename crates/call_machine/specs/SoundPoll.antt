-- What a poll of a work may be, and which words it may be told.
use Rattle.std.specs.Prelude.{ℕ}
use Rattle.atomic_step.specs.SoundStep.{CanFollow}
use Rattle.call_machine.specs.declared.poll.Polling.{Polling}
use Rattle.call_machine.specs.Caller.{IsSoundCaller}
use Rattle.call_machine.specs.Poll.{poll_plan}
use Rattle.call_machine.specs.Work.{IsSoundWork}

pub record IsSoundPoll (p : Polling) : Type 0 where
  pub caller : IsSoundCaller p.caller
  pub work : IsSoundWork p.caller.shape p.work

-- the next step may find the word
abbrev pub FitsPoll : Polling → ℕ → Type 0
FitsPoll p word = CanFollow p.caller.shape (poll_plan p) word
