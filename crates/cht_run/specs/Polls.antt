-- The poll of a work, from its first step on.
use Rattle.std.specs.Prelude.{◌≡◌, Some}
use Rattle.call_machine.specs.declared.call.Call.{Call}
use Rattle.call_machine.specs.declared.call.Call.TheVariants as call
use Rattle.call_machine.specs.declared.work.Work.{Work}
use Rattle.call_machine.specs.Work.{IsSoundWork}
use Rattle.cht_run.specs.declared.polls.PollEnd.{PollEnd}
use Rattle.cht_run.specs.declared.polls.PollEnd.TheVariants as end
use Rattle.cht_run.specs.declared.sight.Sight.{Sight}
use Rattle.cht_run.specs.declared.table.Cht.{Cht}
use Rattle.cht_run.specs.Begins.{own_at, MayCall}
use Rattle.cht_run.specs.Pending.{MayPend}
use Rattle.cht_run.specs.Seats.{Raw, Sits}

-- the seat may poll this work, which it has unfinished
pub record MayPoll (cht : Cht) (b : Sight) (c : Call) (raw : Raw) (state : Work) : Type 0 where
  pub sits : Sits cht raw
  pub same : b ≡ raw.me.0
  pub asks : c ≡ call.PollWork
  pub may : MayCall raw.me.0 call.PollWork
  pub unfinished : (own_at raw.me.0.seat).work ≡ Some state
  pub sound : IsSoundWork cht.origin.table.shape state

-- a work that is not done can be pending where it stands
abbrev pub PendsOn : Work → PollEnd → Type 0
PendsOn state (end.Done worked) = Unit {0}
PendsOn state _ = MayPend state
