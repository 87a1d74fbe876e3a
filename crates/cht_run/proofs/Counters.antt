-- The grace counter of a log grows.
use Rattle.std.proofs.Common.{◌≡◌, ℕ, ◌+◌, ◌≤◌, List, [], ◌∷◌, ◌++◌, sym, ap, ◌∙◌, arith}
use Rattle.std.proofs.lemmas.List.{append_assoc}
use Rattle.intern_log.specs.declared.event.Event.{Event}
use Rattle.intern_log.specs.declared.event.What.{What}
use Rattle.intern_log.specs.declared.event.What.TheVariants as what
use Rattle.intern_log.specs.Now.{Now, opening, changed_by, now_after_event, now_after}
use Rattle.intern_log.proofs.LawfulLaws.{now_after-append}
use Rattle.cht_core.specs.declared.table.Table.{Table}
use Rattle.cht_core.specs.Causes.{now_in}
use Rattle.cht_core.specs.Past.{by}
use Rattle.cht_run.specs.Graces.{counter_in, IsRaised}

pub graces_by : (n : Now) (k : ℕ) (w : What) → n.graces ≤ (changed_by n k w).graces
graces_by n k what.Grace = omega arith
graces_by n k _ = omega arith

graces_grow : (n : Now) (log : List Event) → n.graces ≤ (now_after n log).graces
graces_grow n [] = omega arith
graces_grow n (e ∷ log) =
    let one : n.graces ≤ (now_after_event n e).graces = graces_by n e.seat e.what in
    let more = graces_grow (now_after_event n e) log in
    omega (arith, one, more)

pub now_more : (t : Table) (log more : List Event) → now_in t (log ++ more) ≡ now_after (now_in t log) more
now_more t log more = now_after-append (opening t.shape.min_level) log more

pub counter_grows : (t : Table) (log more : List Event) → counter_in t log ≤ counter_in t (log ++ more)
counter_grows t log more =
    let grows = graces_grow (now_in t log) more in
    let same : (now_in t (log ++ more)).graces ≡ (now_after (now_in t log) more).graces = ap (λ (n : Now). n.graces) (now_more t log more) in
    omega (arith, grows, same)

-- after the raise it has the value to which it was raised
pub raised_since : (t : Table) (i raised : ℕ) (seen window : List Event) → IsRaised t i raised seen window → raised ≤ counter_in t (seen ++ window)
raised_since t i raised seen window (before, rest, is, value) =
    let whole : seen ++ window ≡ (seen ++ before) ++ by i what.Grace ∷ rest = ap (λ l. seen ++ l) is ∙ sym (append_assoc seen before (by i what.Grace ∷ rest)) in
    let now : (now_in t (seen ++ window)).graces ≡ (now_after (now_after_event (now_in t (seen ++ before)) (by i what.Grace)) rest).graces =
    ap (λ (n : Now). n.graces) (ap (now_in t) whole ∙ now_more t (seen ++ before) (by i what.Grace ∷ rest)) in
    let grows : (now_in t (seen ++ before)).graces + 1 ≤ (now_after (now_after_event (now_in t (seen ++ before)) (by i what.Grace)) rest).graces =
    graces_grow (now_after_event (now_in t (seen ++ before)) (by i what.Grace)) rest in
    omega (arith, value, now, grows)
