-- A log of one seat as it grows by one event.
use Rattle.std.proofs.Common.{◌≡◌, ℕ, ◌+◌, Bool, cond, List, [], ◌∷◌, ◌++◌, count_by, sym, ap, subst, ◌∙◌, zero-add}
use Rattle.std.proofs.lemmas.List.Sums.{sum_by-append}
use Rattle.intern_log.specs.declared.event.What.{What}
use Rattle.intern_log.specs.TextMap.{TextMap, no_texts}
use Rattle.intern_log.specs.Log.{next, Allows, map_of, IsLegal}
use Rattle.intern_log.specs.Counts.{is_create}
use Rattle.intern_log.specs.Window.{by_seat}
use Rattle.intern_log.specs.PlainLogs.{IsNumbered, IsNumberedFrom, slots_taken}
use Rattle.intern_log.proofs.Logs.{map_after-append, IsLegal-push, by_seat-append}
use Rattle.intern_log.proofs.PlainLogLaws.{IsNumberedFrom-append}
use Rattle.table_program.specs.OneSeatLog.{OneSeatLog}

-- how many events pass a test
pub count-push : (test : What → Bool) (whats : List What) (what : What) → count_by test (whats ++ what ∷ []) ≡ count_by test whats + cond (test what) 1 0
count-push test whats what = sum_by-append (λ w. cond (test w) 1 0) whats (what ∷ []) ∙ ap (λ n. count_by test whats + n) (zero-add (cond (test what) 1 0))

-- the map
pub map_of-push : (whats : List What) (what : What) (m : TextMap) → map_of (by_seat 0 whats) ≡ m → map_of (by_seat 0 (whats ++ what ∷ [])) ≡ next m what
map_of-push whats what m is = ap map_of (by_seat-append 0 whats (what ∷ [])) ∙ map_after-append no_texts (by_seat 0 whats) (by_seat 0 (what ∷ [])) ∙ ap (λ n. next n what) is

-- legality, where the map allows the event
pub legal-push : (whats : List What) (what : What) (m : TextMap) → map_of (by_seat 0 whats) ≡ m → IsLegal (by_seat 0 whats) → Allows m what → IsLegal (by_seat 0 (whats ++ what ∷ []))
legal-push whats what m is legal allowed =
    subst IsLegal (sym (by_seat-append 0 whats (what ∷ []))) (IsLegal-push (by_seat 0 whats) (record { seat = 0; what = what }) legal (subst (λ n. Allows n what) (sym is) allowed))

-- numbered Creates
pub numbered-push : (whats : List What) (what : What) → IsNumberedFrom 0 whats → IsNumbered (0 + count_by is_create whats) what → IsNumberedFrom 0 (whats ++ what ∷ [])
numbered-push whats what numbered this = IsNumberedFrom-append 0 whats (what ∷ []) numbered (this, tt)

-- the whole log
pub OneSeatLog-push : (whats : List What) (what : What) (m : TextMap) (created : ℕ) → OneSeatLog whats m created → Allows m what → IsNumbered created what →
    OneSeatLog (whats ++ what ∷ []) (next m what) (created + slots_taken what)
OneSeatLog-push whats what m created log allowed numbered = record {
  legal = legal-push whats what m log.texts_are log.legal allowed;
  numbered = numbered-push whats what log.numbered (subst (λ n. IsNumbered n what) (sym log.created_are ∙ sym (zero-add _)) numbered);
  texts_are = map_of-push whats what m log.texts_are;
  created_are = count-push is_create whats what ∙ ap (λ n. n + slots_taken what) log.created_are;
}
