-- The poll of a work goes on to its answer.
use Rattle.std.proofs.Common.{◌≡◌, ℕ, ◌^◌, ◌<◌, ◌≤◌, List, [], ◌∷◌, refl, sym, ap, subst, ◌∙◌}
use Rattle.table_shape.specs.declared.shape.Shape.{Shape}
use Rattle.intern_log.specs.declared.event.Event.{Event}
use Rattle.atomic_step.specs.Run.{after_words}
use Rattle.call_machine.specs.declared.call.Call.{Call}
use Rattle.call_machine.specs.declared.machine.Machine.{Machine}
use Rattle.call_machine.specs.declared.machine.Machine.TheVariants as machine
use Rattle.call_machine.specs.declared.poll.Polling.{Polling}
use Rattle.call_machine.specs.Machine.{got_of, shape_of}
use Rattle.call_machine.specs.Poll.{poll_got}
use Rattle.call_machine.specs.SoundMachine.{IsSoundMachine, FitsMachine}
use Rattle.call_machine.specs.WholeMachine.{machines}
use Rattle.call_machine.proofs.Machines.{got_is}
use Rattle.cht_core.specs.declared.table.Table.{Table}
use Rattle.cht_core.specs.PollMeasure.{poll_left, looked_in, IsOnPollOf}
use Rattle.cht_core.proofs.PollLeft.{each_less}
use Rattle.cht_core.proofs.PollPasses.{on_poll_begun, on_poll_after}
use Rattle.cht_run.specs.declared.sight.Origin.{Origin}
use Rattle.cht_run.specs.declared.sight.Sight.{Sight}
use Rattle.cht_run.specs.declared.table.Cht.{Cht}
use Rattle.cht_run.specs.Begins.{own_at, first_of}
use Rattle.cht_run.specs.History.{log_of}
use Rattle.cht_run.specs.Runs.{Ran, IsPolling}
use Rattle.cht_run.specs.Seats.{Raw, Sits}
use Rattle.cht_run.specs.Told.{WorkFound}

-- it has looked at few nodes
looked : (t : Table) (log : List Event) (i : ℕ) (m : Machine) (q : Polling) → m ≡ machine.Poll q → WorkFound t log i m → looked_in m ≤ t.shape.slots
looked t log i m q is found = subst (λ n. looked_in n ≤ t.shape.slots) (sym is) (subst (WorkFound t log i) is found).0

-- a step of it
module _ (shape : Shape) (m n : Machine) (word : ℕ) (polls : IsPolling shape m) (got : n ≡ got_of m word) where
  next_is : n ≡ machine.Poll (poll_got polls.poll word)
  next_is = got ∙ ap (λ x. got_of x word) polls.is ∙ got_is (machine.Poll polls.poll) word

  pub polls_on : IsPolling shape n
  polls_on = record {
    poll = poll_got polls.poll word;
    is = next_is;
    shape_is = ap shape_of next_is ∙ sym (ap shape_of polls.is) ∙ polls.shape_is;
    on = subst (IsOnPollOf shape) (sym got) (on_poll_after shape m word polls.shape_is polls.on);
  }

  pub poll_falls : IsSoundMachine m → word < 2 ^ 64 → FitsMachine m word → looked_in n ≤ shape.slots → poll_left shape n < poll_left shape m
  poll_falls sound small fits few =
      let q = machine.Poll polls.poll in
      let is = polls.is in
      let less : poll_left shape (got_of q word) < poll_left shape q =
      each_less shape polls.poll word (ap shape_of (sym is) ∙ polls.shape_is) (subst IsSoundMachine is sound) (subst (IsOnPollOf shape) is polls.on) small (subst (λ x. FitsMachine x word) is fits)
      (subst (λ x. looked_in x ≤ shape.slots) (got ∙ ap (λ x. got_of x word) is) few) in
      subst (λ x. poll_left shape x < poll_left shape m) (sym got) (subst (λ x. poll_left shape (got_of x word) < poll_left shape x) (sym is) less)

polls_still : (shape : Shape) (m : Machine) (words : List ℕ) → IsPolling shape m → IsPolling shape (after_words machines m words)
polls_still shape m [] polls = polls
polls_still shape m (word ∷ words) polls = polls_still shape (got_of m word) words (polls_on shape m (got_of m word) word polls refl)

-- the machine of a call that has begun with the poll of a work
pub polls_ran : (b : Sight) (c : Call) (v : Sight) (m : Machine) (q : Polling) → Ran b c v m → first_of b c ≡ machine.Poll q → shape_of (first_of b c) ≡ b.origin.table.shape → IsPolling b.origin.table.shape m
polls_ran b c v m q ran first shape = subst (IsPolling b.origin.table.shape) ran.leads (polls_still b.origin.table.shape (first_of b c) ran.words (record {
  poll = q;
  is = first;
  shape_is = shape;
  on = on_poll_begun b.origin.table.kind b.origin.table.shape b.origin.seed (own_at b.seat) c;
}))

-- it has looked at few nodes, in the table of its seat
pub ran_few : (cht : Cht) (b : Sight) (c : Call) (raw : Raw) (m : Machine) → Sits cht raw → Ran b c raw.me.0 m → IsPolling cht.origin.table.shape m → looked_in m ≤ cht.origin.table.shape.slots
ran_few cht b c raw m sits ran polls =
    subst (λ (o : Origin). looked_in m ≤ o.table.shape.slots) (sym ran.went.stays.origin ∙ sits.origin) (looked b.origin.table (log_of raw.me.0.history) b.number m polls.poll polls.is ran.went.found_out)
