-- A log that was told event by event is lawful where it is short.
use Rattle.std.proofs.Common.{List, [], ◌∷◌, ◌++◌, Some, sym, subst}
use Rattle.std.proofs.lemmas.List.{append-nil, append_assoc}
use Rattle.intern_log.specs.declared.event.Event.{Event}
use Rattle.intern_log.specs.Lawful.{IsLawful}
use Rattle.intern_log.specs.Short.{IsShort}
use Rattle.cht_core.specs.declared.table.Table.{Table}
use Rattle.cht_core.specs.Past.{Past, past_of, kind_of}
use Rattle.cht_core.specs.Windows.{IsTold, IsToldFrom}
use Rattle.cht_core.proofs.LawfulKept.{lawful_told}
use Rattle.cht_core.proofs.TidyKept.{past_of-one_more}

-- a log, where it is short
abbrev Lawful : Table → List Event → Type 0
Lawful t log = IsShort log → IsLawful (kind_of t) log

lawful_from : (t : Table) (front rest : List Event) → Lawful t front → IsToldFrom (kind_of t) (past_of t.shape.min_level front) rest → Lawful t (front ++ rest)
lawful_from t front [] lawful told = subst (Lawful t) (sym (append-nil front)) lawful
lawful_from t front (e ∷ rest) lawful told =
    subst (Lawful t) (append_assoc front (e ∷ []) rest)
    (lawful_from t (front ++ e ∷ []) rest (lawful_told t front e.seat (Some e.what) lawful told.0) (subst (λ (p : Past). IsToldFrom (kind_of t) p rest) (sym (past_of-one_more t.shape.min_level front e)) told.1))

pub told_is_lawful : (t : Table) (log : List Event) → IsTold t log → Lawful t log
told_is_lawful t log told = lawful_from t [] log (λ short. record { allowed = tt; fresh = tt }) told
