-- How the calls of graces end.
use Rattle.std.proofs.Common.{◌≡◌, ℕ, ◌≤◌, List, [], ◌∷◌, ◌++◌, Option, Some, None, refl, sym, ap, subst, ◌∙◌, arith}
use Rattle.intern_log.specs.declared.event.Event.{Event}
use Rattle.intern_log.specs.declared.event.What.{What}
use Rattle.intern_log.specs.declared.event.What.TheVariants as what
use Rattle.atomic_step.specs.declared.answer.Answer.{Answer}
use Rattle.atomic_step.specs.declared.answer.Answer.TheVariants as answer
use Rattle.call_machine.specs.declared.begin.BeginStage.TheVariants as begin
use Rattle.call_machine.specs.declared.begin.Left.{Left}
use Rattle.call_machine.specs.declared.begin.Left.TheVariants as left
use Rattle.call_machine.specs.declared.begin.Task.{Task}
use Rattle.call_machine.specs.declared.call.Call.{Call}
use Rattle.call_machine.specs.declared.call.Call.TheVariants as call
use Rattle.call_machine.specs.declared.grace.Grace.{Grace as Gracing}
use Rattle.call_machine.specs.declared.machine.Machine.{Machine}
use Rattle.call_machine.specs.declared.machine.Own.{Own}
use Rattle.call_machine.specs.Machine.{own_of, own_begun}
use Rattle.call_machine.specs.SoundMachine.{IsSoundOwn}
use Rattle.call_machine.proofs.Machines.{left_law}
use Rattle.cht_core.specs.declared.table.Table.{Table}
use Rattle.cht_core.specs.Causes.{IsSpent, IsOpenBelow}
use Rattle.cht_core.specs.Windows.{Somewhere, IsTold, whats_by}
use Rattle.cht_run.specs.declared.graces.BeganGrace.{BeganGrace}
use Rattle.cht_run.specs.declared.graces.BeganGrace.TheVariants as began
use Rattle.cht_run.specs.declared.graces.Grace.{Grace}
use Rattle.cht_run.specs.declared.graces.PolledGrace.TheVariants as polled_as
use Rattle.cht_run.specs.declared.seat.Seat.{Seat}
use Rattle.cht_run.specs.declared.sight.Origin.{Origin}
use Rattle.cht_run.specs.declared.table.Cht.{Cht}
use Rattle.cht_run.specs.Beginnings.{begins_at, grace_ended}
use Rattle.cht_run.specs.Begins.{own_at, first_of, caller_in}
use Rattle.cht_run.specs.Ended.{Ended, Only}
use Rattle.cht_run.specs.Ends.{HasNothing}
use Rattle.cht_run.specs.Graces.{counter_in, IsUnspent, IsRaised, IsPassed, IsOver, IsGraceOf, BeginsGrace, PollsGrace}
use Rattle.cht_run.specs.History.{log_of}
use Rattle.cht_run.specs.Runs.{Ran}
use Rattle.cht_run.specs.Seats.{sight, history, seen, own_of as own_in, grace_of, IsOf}
use Rattle.cht_run.proofs.Begun.{Ends, at, begun_ends}
use Rattle.cht_run.proofs.Ended.{went_ended}
use Rattle.cht_run.proofs.Counters.{counter_grows, raised_since}
use Rattle.cht_run.proofs.GraceCloses.{passed_closes}
use Rattle.cht_run.proofs.GracePolls.{HasPassed, PollEnds, poll_ends}
use Rattle.cht_run.proofs.Histories.{log-append}

-- A CALL OF A SEAT

module _ (cht : Cht) (old new : Seat) (c : Call) (m : Machine) (of : IsOf cht old) (ran : Ran (sight old) c (sight new) m) where
  abbrev pub since : List Event
  since = log_of ran.went.window

  pub new_origin : (sight new).origin ≡ cht.origin
  new_origin = ran.went.stays.origin ∙ of.origin

  pub seen_is : seen new ≡ seen old ++ since
  seen_is = ap log_of ran.went.history ∙ log-append (history old) ran.went.window

  pub own_left : own_in new ≡ own_of m
  own_left = ap own_at ran.went.is

  pub ended : (did : List What) (Why : List Event → List Event → Type 0) → whats_by old.number since ≡ did → Why (seen old) since → Ended cht.origin.table old new (Only did) Why
  ended did Why own why = went_ended cht old new c m ran.went of.origin (Only did) Why own why

-- a call that begins or polls has answered this, and left this
module _ (cht : Cht) (old new : Seat) (c : Call) (a : Answer) (l : Left) (of : IsOf cht old) (ran : Ran (sight old) c (sight new) (at (caller_in (sight old)) (begin.Answered a l))) where
  abbrev pub m : Machine
  m = at (caller_in (sight old)) (begin.Answered a l)

  -- how it ends that was to begin
  pub ends : (x : Option Task) → first_of (sight old) c ≡ at (caller_in (sight old)) (begin.LoadCounter x) → Ends cht.origin.table old.number x (seen old) (log_of ran.went.window) a l
  ends x first = subst (λ (z : Origin × ℕ). Ends z.0.table z.1 x (seen old) (log_of ran.went.window) a l) (λ i. (of.origin i, sym old.named i)) (begun_ends (sight old) c (sight new) a l x ran first)

  -- what it leaves is sound
  pub sound_left : IsSoundOwn cht.origin.table.shape (own_begun (caller_in (sight old)) l)
  sound_left = subst (λ (o : Origin). IsSoundOwn o.table.shape (own_begun (caller_in (sight old)) l)) of.origin (left_law m ran.went.sound.sound)

  pub leaves_nothing : l ≡ left.Nothing → HasNothing new
  leaves_nothing none =
      let left_is = own_left cht old new c m of ran ∙ ap (own_begun (caller_in (sight old))) none in
      record { work = ap (λ (o : Own). o.work) left_is; grace = ap (λ (o : Own). o.grace) left_is }

-- BEGINNING A GRACE

module _ (cht : Cht) (old new : Seat) (of : IsOf cht old) where
  pub begins_grace : (r : BeganGrace) → Ran (sight old) call.BeginGrace (sight new) (begins_at (sight old) (grace_ended r)) → BeginsGrace cht.origin.table old new r
  begins_grace (began.Begun grace) ran =
      let g = grace.state in
      let (none, unspent, raised, next, did) = ends cht old new call.BeginGrace answer.Begun (left.Grace g) of ran None refl in
      let left_is = own_left cht old new call.BeginGrace (m cht old new call.BeginGrace answer.Begun (left.Grace g) of ran) of ran in (
        record {
          state = g;
          unfinished = ap (λ (o : Own). o.grace) left_is;
          no_work = ap (λ (o : Own). o.work) left_is;
          is = refl;
          inside = (sound_left cht old new call.BeginGrace answer.Begun (left.Grace g) of ran).0.2;
          raised = subst (λ l. g.raised ≤ counter_in cht.origin.table l) (sym (seen_is cht old new call.BeginGrace (m cht old new call.BeginGrace answer.Begun (left.Grace g) of ran) of ran))
              (raised_since cht.origin.table old.number g.raised (seen old) (log_of ran.went.window) raised);
          passed = λ number less. absurd (omega (arith, less, next));
        },
        ended cht old new call.BeginGrace (m cht old new call.BeginGrace answer.Begun (left.Grace g) of ran) of ran (what.Grace ∷ [])
            (λ seen window. IsUnspent cht.origin.table seen window × IsRaised cht.origin.table old.number g.raised seen window) did (unspent, raised),
      )
  begins_grace (began.Spent counter) ran =
      let (none, spent, did) = ends cht old new call.BeginGrace (answer.Spent counter) left.Nothing of ran None refl in (
        leaves_nothing cht old new call.BeginGrace (answer.Spent counter) left.Nothing of ran none,
        ended cht old new call.BeginGrace (m cht old new call.BeginGrace (answer.Spent counter) left.Nothing of ran) of ran [] (λ seen window. IsSpent cht.origin.table seen window counter) did spent,
      )

-- POLLING A GRACE

module _ (cht : Cht) (old new : Seat) (of : IsOf cht old) (grace : Grace) (has : IsGraceOf cht.origin.table grace old) (a : Answer) (l : Left)
    (ran : Ran (sight old) call.PollGrace (sight new) (at (caller_in (sight old)) (begin.Answered a l))) where
  abbrev t : Table
  t = cht.origin.table

  abbrev window : List Event
  window = log_of ran.went.window

  -- how it has ended
  polled : PollEnds t old.number has.state.raised (seen old) window a l
  polled =
      let ends = poll_ends (sight old) (sight new) a l has.state ran has.unfinished (subst (λ (o : Origin). has.state.raised ≤ counter_in o.table (seen old)) (sym of.origin) has.raised)
      (subst (λ (o : Origin). HasPassed o.table has.state.raised has.state.next (seen old)) (sym of.origin) has.passed) in
      subst (λ (z : Origin × ℕ). PollEnds z.0.table z.1 has.state.raised (seen old) window a l) (λ i. (of.origin i, sym old.named i)) ends

  -- it is the one that the seat has
  same_state : (state : Gracing) → grace_of old ≡ Some state → has.state ≡ state
  same_state state is = let same : Some has.state ≡ Some state = sym has.unfinished ∙ is in cc

  pub grace_over : (state : Gracing) → a ≡ answer.Ready → grace_of old ≡ Some state → PollsGrace t state old new polled_as.Ready
  grace_over state answered is =
      let (none, did, passed) = subst (λ x. PollEnds t old.number has.state.raised (seen old) window x l) answered polled in (
        leaves_nothing cht old new call.PollGrace a l of ran none,
        ended cht old new call.PollGrace (m cht old new call.PollGrace a l of ran) of ran [] (λ seen window. IsOver t state.raised (seen ++ window)) did
            (over (subst (λ r. HasPassed t r t.shape.seats (seen old ++ window)) (ap (λ (g : Gracing). g.raised) (same_state state is)) passed)),
      )
    where
      -- its seat has seen a log that was told event by event
      told : IsTold t (seen old ++ window)
      told = subst (λ (o : Origin). IsTold o.table (seen old ++ window)) of.origin
          (subst (IsTold (sight old).origin.table) (ap log_of ran.went.history ∙ log-append (history old) ran.went.window) ran.went.sees.told)

      over : HasPassed t state.raised t.shape.seats (seen old ++ window) → IsOver t state.raised (seen old ++ window)
      over passed = (passed, passed_closes t state.raised (seen old ++ window) told passed)

  pub grace_pending : (number : ℕ) (left_grace : Grace) (state : Gracing) → a ≡ answer.PendingSeat number → l ≡ left.Grace left_grace.state → grace_of old ≡ Some state → PollsGrace t state old new (polled_as.Pending left_grace number)
  grace_pending number left_grace state answered leaves is =
      let g = left_grace.state in
      let (same, did, passed, older) : PollEnds t old.number has.state.raised (seen old) window (answer.PendingSeat number) (left.Grace g) =
      subst (λ (z : Answer × Left). PollEnds t old.number has.state.raised (seen old) window z.0 z.1) (λ i. (answered i, leaves i)) polled in
      let left_is = own_left cht old new call.PollGrace (m cht old new call.PollGrace a l of ran) of ran ∙ ap (own_begun (caller_in (sight old))) leaves in
      let grows = counter_grows t (seen old) window in
      let high = has.raised in
      let now = sym (seen_is cht old new call.PollGrace (m cht old new call.PollGrace a l of ran) of ran) in
      let state_is = ap (λ (g : Gracing). g.raised) (same_state state is) in (
        record {
          state = g;
          unfinished = ap (λ (o : Own). o.grace) left_is;
          no_work = ap (λ (o : Own). o.work) left_is;
          is = refl;
          inside = (subst (λ x. IsSoundOwn t.shape (own_begun (caller_in (sight old)) x)) leaves (sound_left cht old new call.PollGrace a l of ran)).0.2;
          raised = subst (λ l. g.raised ≤ counter_in t l) now (omega (arith, grows, high, same));
          passed = λ k less. subst (λ (z : ℕ × List Event). IsPassed t z.0 k z.1) (λ i. (sym same i, now i)) (passed k less);
        },
        same ∙ state_is,
        ended cht old new call.PollGrace (m cht old new call.PollGrace a l of ran) of ran [] (λ seen window. Somewhere (IsOpenBelow t number state.raised) seen window) did
            (subst (λ r. Somewhere (IsOpenBelow t number r) (seen old) window) state_is older),
      )
