-- What is so of a history is so of each front of it.
use Rattle.std.proofs.Common.{ℕ, ◌+◌, List, [], ◌∷◌, ◌++◌, subst}
use Rattle.cht_core.specs.declared.table.Table.{Table}
use Rattle.cht_core.specs.Past.{past_of, kind_of}
use Rattle.cht_core.specs.Windows.{IsTold}
use Rattle.cht_core.proofs.CauseCounts.{told_front}
use Rattle.std.specs.Option.{option_to_list}
use Rattle.cht_run.specs.declared.sight.Entry.{Entry}
use Rattle.cht_run.specs.History.{log_of, draws_of, number_in, HasHandles, HasSeen, IsOrderly, IsOrderlyFrom, IsNumbered, WasTold}
use Rattle.cht_run.proofs.Histories.{log-append, draws-append}
use Rattle.cht_run.proofs.ToldLawful.{told_is_lawful}

orderly_front : (known : List ℕ) (front rest : List Entry) → IsOrderlyFrom known (front ++ rest) → IsOrderlyFrom known front
orderly_front known [] rest orderly = tt
orderly_front known (e ∷ front) rest orderly = (orderly.0, orderly_front (known ++ option_to_list (number_in e)) front rest orderly.1)

numbered_front : (first : ℕ) (front rest : List ℕ) → IsNumbered first (front ++ rest) → IsNumbered first front
numbered_front first [] rest numbered = tt
numbered_front first (n ∷ front) rest numbered = (numbered.0, numbered_front (first + 1) front rest numbered.1)

pub was_told_front : (t : Table) (front rest : List Entry) → IsTold t (log_of (front ++ rest)) → IsOrderly (front ++ rest) → IsNumbered 1 (draws_of (front ++ rest)) → WasTold t front
was_told_front t front rest told orderly numbered = record {
  told = told_front (kind_of t) (past_of t.shape.min_level []) (log_of front) (log_of rest) (subst (IsTold t) (log-append front rest) told);
  orderly = orderly_front (0 ∷ []) front rest orderly;
  numbered = numbered_front 1 (draws_of front) (draws_of rest) (subst (IsNumbered 1) (draws-append front rest) numbered);
}

pub told_is_seen : (t : Table) (history : List Entry) → WasTold t history → HasHandles t.shape history → HasSeen t history
told_is_seen t history told handles = record {
  told = told.told;
  lawful = told_is_lawful t (log_of history) told.told;
  handles = handles;
  orderly = told.orderly;
  numbered = told.numbered;
}
