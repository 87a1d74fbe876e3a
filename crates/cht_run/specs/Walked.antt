-- A walk of a seat that has answered, by what the core says of its answer.
use Rattle.std.specs.Prelude.{◌≡◌, ℕ, List}
use Rattle.intern_log.specs.declared.event.What.{What}
use Rattle.intern_log.specs.declared.event.Kind.{Kind}
use Rattle.intern_log.specs.declared.event.Kind.TheVariants.{Counted, Weak}
use Rattle.atomic_step.specs.declared.answer.Answer.{Answer}
use Rattle.atomic_step.specs.declared.answer.Answer.TheVariants as answer
use Rattle.call_machine.specs.declared.stage.Asked.{Asked}
use Rattle.call_machine.specs.declared.stage.Goal.{Goal}
use Rattle.call_machine.specs.BeginCall.{no_handle}
use Rattle.call_machine.specs.CallEvents.{stands_for}
use Rattle.cht_core.specs.CauseCalls.{Walks, ClaimsNone, CallEnds}
use Rattle.cht_run.specs.declared.seat.Seat.{Seat}
use Rattle.cht_run.specs.declared.table.Cht.{Cht}
use Rattle.cht_run.specs.Answers.{AreOfWalk}
use Rattle.cht_run.specs.Begins.{HasLedger}
use Rattle.cht_run.specs.Ended.{Ended}
use Rattle.cht_run.specs.Seats.{sight}

-- what a walk for a text asks
abbrev pub asked_for : Cht → Seat → Goal → List ℕ → Asked
asked_for cht seat g text = record {
  kind = cht.origin.table.kind;
  shape = cht.origin.table.shape;
  seed = cht.origin.seed;
  number = seat.number;
  goal = g;
  text = text;
  handle = no_handle;
}

-- the answers of a look-up
abbrev pub IsLookupAnswer : Kind → Answer → Type 0
IsLookupAnswer kind (answer.Hit h) = Unit {0}
IsLookupAnswer kind answer.Miss = Unit {0}
IsLookupAnswer kind answer.Again = kind ≡ Counted
IsLookupAnswer kind _ = ⊥

-- the answers of an intern that tries once, and those of one that has found no entry
abbrev pub IsInsertAnswer : Answer → Type 0
IsInsertAnswer (answer.Created h) = Unit {0}
IsInsertAnswer answer.NoSlot = Unit {0}
IsInsertAnswer answer.Locked = Unit {0}
IsInsertAnswer answer.Again = Unit {0}
IsInsertAnswer _ = ⊥

abbrev pub IsInternAnswer : Kind → Answer → Type 0
IsInternAnswer kind (answer.Taken h) = kind ≡ Counted
IsInternAnswer kind (answer.Found h) = kind ≡ Weak
IsInternAnswer kind a = IsInsertAnswer a

-- what it did, and why it answers so
abbrev pub DidWalk : Asked → Answer → List What → Type 0
DidWalk q a events = AreOfWalk (stands_for q a) events × ClaimsNone a events

pub record Walked (cht : Cht) (g : Goal) (text : List ℕ) (old new : Seat) (a : Answer) : Type 0 where
  pub ended : Ended cht.origin.table old new (DidWalk (asked_for cht old g text) a) (λ seen window. CallEnds cht.origin.table old.number Walks (asked_for cht old g text) seen window a)
  -- and before it the seat had let go of nothing that it had not had
  pub ledger : HasLedger (sight old)
