-- A call of a seat has come to its end.
use Rattle.std.proofs.Common.{◌≡◌, ◌⊎◌, List, [], ◌++◌, map, refl, inr, sym, ap, subst, ◌∙◌}
use Rattle.std.proofs.lemmas.List.{append_cancel_left}
use Rattle.intern_log.specs.declared.event.Event.{Event}
use Rattle.intern_log.specs.declared.event.What.{What}
use Rattle.atomic_step.specs.declared.answer.Answer.{Answer}
use Rattle.call_machine.specs.declared.call.Call.{Call}
use Rattle.call_machine.specs.declared.machine.Machine.{Machine}
use Rattle.call_machine.specs.declared.stage.Along.{Along}
use Rattle.call_machine.specs.declared.stage.CallStage.TheVariants as stage
use Rattle.call_machine.specs.declared.stage.Request.{Request}
use Rattle.call_machine.specs.Sought.{asked_of}
use Rattle.cht_core.specs.declared.table.Table.{Table}
use Rattle.cht_core.specs.CauseCalls.{CallEnds}
use Rattle.cht_core.specs.Caused.{way_of}
use Rattle.cht_core.specs.Windows.{whats_by}
use Rattle.cht_core.proofs.Windows.{whats_by-append}
use Rattle.cht_run.specs.declared.seat.Seat.{Seat}
use Rattle.cht_run.specs.declared.sight.Origin.{Origin}
use Rattle.cht_run.specs.declared.sight.Sight.{Sight}
use Rattle.cht_run.specs.declared.table.Cht.{Cht}
use Rattle.cht_run.specs.Begins.{own_at}
use Rattle.cht_run.specs.Calls.{Went, at_stage, At}
use Rattle.cht_run.specs.Changes.{Made}
use Rattle.cht_run.specs.Ended.{Ended, KeepsWork, Only}
use Rattle.cht_run.specs.History.{log_of, HasSeen, entries_by, told_by}
use Rattle.cht_run.specs.Seats.{Raw, sight, history, seen}
use Rattle.cht_run.proofs.Goes.{went_answered}
use Rattle.cht_run.proofs.Histories.{log-append}

-- a call that came to a machine has such a window
module _ (cht : Cht) (old new : Seat) (c : Call) (m : Machine) (went : Went (sight old) c (sight new) m) (of : (sight old).origin ≡ cht.origin) where
  pub went_ended : (Did : List What → Type 0) (Why : List Event → List Event → Type 0) → Did (whats_by old.number (log_of went.window)) → Why (seen old) (log_of went.window) → Ended cht.origin.table old new Did Why
  went_ended Did Why did why = record {
    keeps = record { number = new.named ∙ went.stays.number ∙ sym old.named; numbers = went.stays.numbers; kids = went.stays.kids };
    window = went.window;
    whole = went.history;
    own = subst (λ i. entries_by (sight old).numbers went.window ≡ map (told_by i) (whats_by i (log_of went.window))) (sym old.named) went.own;
    did = did;
    alone = λ alone. went.alone alone.kids alone.root;
    sees = inr (subst (λ (o : Origin). HasSeen o.table (history new)) of went.sees);
    why = why;
  }

-- what is so by another name
pub renamed : {t : Table} {old new : Seat} {Did : List What → Type 0} {Why : List Event → List Event → Type 0} (To : List What → Type 0) (Because : List Event → List Event → Type 0) →
    ((events : List What) → Did events → To events) → ((seen window : List Event) → Why seen window → Because seen window) → Ended t old new Did Why → Ended t old new To Because
renamed To Because did why e = record {
  keeps = e.keeps;
  window = e.window;
  whole = e.whole;
  own = e.own;
  did = did _ e.did;
  alone = e.alone;
  sees = e.sees;
  why = why _ _ e.why;
}

-- A CALL THAT HAS ANSWERED

module _ (cht : Cht) (old new : Seat) (c : Call) (r : Request) (w : Along) (a : Answer) (at : At cht (sight old) c r new.raw w (stage.Answered a)) where
  abbrev b : Sight
  b = sight old

  abbrev went : Went b c (sight new) (at_stage b (asked_of r) w (stage.Answered a))
  went = at.stands

  of : b.origin ≡ cht.origin
  of = sym went.stays.origin ∙ at.sits.origin

  pub log_is : seen new ≡ seen old ++ log_of went.window
  log_is = ap log_of went.history ∙ log-append b.history went.window

  own_is : (did : List What) → Made b (sight new) did → whats_by b.number (log_of went.window) ≡ did
  own_is did made = append_cancel_left (whats_by b.number (seen old)) (whats_by b.number (log_of went.window)) did (sym (ap (whats_by b.number) log_is ∙ whats_by-append b.number (seen old) (log_of went.window)) ∙ made)

  -- why it answered
  pub ends : CallEnds cht.origin.table old.number (way_of c) (asked_of r) (seen old) (log_of went.window) a
  ends = subst (λ (o : Origin). CallEnds o.table old.number (way_of c) (asked_of r) (seen old) (log_of went.window) a) of
      (subst (λ i. CallEnds b.origin.table i (way_of c) (asked_of r) (seen old) (log_of went.window) a) (sym old.named)
      (went_answered b c (sight new) (at_stage b (asked_of r) w (stage.Answered a)) a went refl).1)

  pub ended : (did : List What) (Why : List Event → List Event → Type 0) → Made b (sight new) did → Why (seen old) (log_of went.window) → Ended cht.origin.table old new (Only did) Why
  ended did Why made why = went_ended cht old new c (at_stage b (asked_of r) w (stage.Answered a)) went of (Only did) Why (ap (λ i. whats_by i (log_of went.window)) old.named ∙ own_is did made) why

  -- and what its seat has unfinished is as it was
  pub works_stay : KeepsWork old new
  works_stay = record { work = ap (λ x. (own_at x).work) went.is; grace = ap (λ x. (own_at x).grace) went.is }

-- the cursor of the seat, and what its walk has passed, are nothing to how its call has ended
pub ended_alike : (t : Table) (old new other : Seat) (Did : List What → Type 0) (Why : List Event → List Event → Type 0) → other.raw ≡ new.raw → other.number ≡ new.number → Ended t old new Did Why → Ended t old other Did Why
ended_alike t old new other Did Why raw number e = record {
  keeps = record { number = number ∙ e.keeps.number; numbers = ap (λ (r : Raw). r.me.0.numbers) raw ∙ e.keeps.numbers; kids = ap (λ (r : Raw). r.me.0.kids) raw ∙ e.keeps.kids };
  window = e.window;
  whole = ap (λ (r : Raw). r.me.0.history) raw ∙ e.whole;
  own = e.own;
  did = e.did;
  alone = e.alone;
  sees = subst (λ (r : Raw). (e.window ≡ []) ⊎ HasSeen t r.me.0.history) (sym raw) e.sees;
  why = e.why;
}
