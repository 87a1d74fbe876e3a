-- Told logs, by one more event.
use Rattle.std.proofs.Common.{Bool, true, false, ◌||◌, ap, refl, ◌≡◌, ℕ, List, [], ◌∷◌, ◌++◌, Option, Some, None, sym, subst, ◌∙◌, append-nil, append_assoc}
use Rattle.intern_log.specs.declared.event.Event.{Event}
use Rattle.std.specs.List.{list_any}
use Rattle.std.proofs.lemmas.List.Folds.{list_any-append}
use Rattle.intern_log.specs.declared.event.Handle.{Handle}
use Rattle.intern_log.specs.declared.event.TableKind.{TableKind}
use Rattle.intern_log.specs.declared.event.What.TheVariants as what
use Rattle.intern_log.specs.TextMap.{IsLive}
use Rattle.intern_log.proofs.Handles.{handle_eq-Decides}
use Rattle.cht_core.specs.CauseCalls.{WasMade}
use Rattle.intern_log.specs.declared.event.What.{What}
use Rattle.intern_log.specs.Log.{creates, map_of, IsLegal}
use Rattle.cht_core.specs.declared.table.Table.{Table}
use Rattle.cht_core.specs.Invariant.{events_of}
use Rattle.cht_core.specs.Past.{Past, by, past_of, kind_of, MayAdd, MayTell}
use Rattle.cht_core.specs.Windows.{IsTold, IsToldFrom}
use Rattle.cht_core.proofs.CauseCounts.{created_in, told_legal}
use Rattle.cht_core.proofs.TidyKept.{past_of-one_more}

module _ (table : TableKind) (min_level i : ℕ) (w : What) where
  told_push : (front log : List Event) → IsToldFrom table (past_of min_level front) log → MayAdd table (past_of min_level (front ++ log)) i w →
      IsToldFrom table (past_of min_level front) (log ++ by i w ∷ [])
  told_push front [] told may = (subst (λ l. MayAdd table (past_of min_level l) i w) (append-nil front) may, tt)
  told_push front (e ∷ log) told may = (
    told.0,
    subst (λ (p : Past). IsToldFrom table p (log ++ by i w ∷ [])) (past_of-one_more min_level front e) (
        told_push (front ++ e ∷ []) log (subst (λ (p : Past). IsToldFrom table p log) (sym (past_of-one_more min_level front e)) told.1)
        (subst (λ l. MayAdd table (past_of min_level l) i w) (sym (append_assoc front (e ∷ []) log)) may)),
  )

-- a log stays told by an event that may be told
pub told_more : (t : Table) (log : List Event) (i : ℕ) (e : Option What) → IsTold t log → MayTell (kind_of t) (past_of t.shape.min_level log) i e → IsTold t (log ++ events_of i e)
told_more t log i None told may = subst (IsTold t) (sym (append-nil log)) told
told_more t log i (Some w) told may = told_push (kind_of t) t.shape.min_level i w [] log told may

-- a told log is legal
pub told_is_legal : (t : Table) (log : List Event) → IsTold t log → IsLegal log
told_is_legal t log told = told_legal (kind_of t) (past_of t.shape.min_level []) log told

-- a handle that is live was created
pub live_was_made : (t : Table) (log : List Event) (h : Handle) → IsLive (map_of log) h → WasMade t log h
live_was_made t log h live =
    let (front, back, seat, split) = created_in log live.0 h live.1 in
    ap (list_any (λ (e : Event). creates e.what h)) split ∙ list_any-append (λ (e : Event). creates e.what h) front (record { seat = seat; what = what.Create live.0 h } ∷ back)
    ∙ ap (λ b. list_any (λ (e : Event). creates e.what h) front || (b || list_any (λ (e : Event). creates e.what h) back)) ((handle_eq-Decides h h).1 refl)
    ∙ either (list_any (λ (e : Event). creates e.what h) front)
  where
    either : (b : Bool) → (b || true) ≡ true
    either true = refl
    either false = refl
