-- Windows: what was logged since a call began. Its log is what was there before, and then the window.
use Rattle.std.specs.Prelude.{◌≡◌, ◌≢◌, ◌==◌, ℕ, ◌≤◌, if◌then◌else◌, List, [], ◌∷◌, ◌++◌, length}
use Rattle.intern_log.specs.declared.event.Event.{Event}
use Rattle.intern_log.specs.declared.event.TableKind.{TableKind}
use Rattle.intern_log.specs.declared.event.What.{What}
use Rattle.cht_core.specs.declared.table.Table.{Table}
use Rattle.cht_core.specs.Past.{Past, past_after, past_of, kind_of, MayAdd}

-- at a place of the window what was logged up to there says so
abbrev pub Somewhere : (List Event → Type 0) → List Event → List Event → Type 0
Somewhere Says seen window = (before rest : List Event) × (window ≡ before ++ rest) × Says (seen ++ before)

-- the window holds an event of another seat, of which this is so by what was logged up to there
abbrev pub Another : ℕ → (List Event → What → Type 0) → List Event → List Event → Type 0
Another i Is seen window = (before rest : List Event) × (e : Event) × (window ≡ before ++ e ∷ rest) × (e.seat ≢ i) × Is (seen ++ before) e.what

-- the same of a log from a place on
abbrev pub AnotherSince : ℕ → (List Event → What → Type 0) → ℕ → List Event → Type 0
AnotherSince i Is from log = (front back : List Event) × (e : Event) × (log ≡ front ++ e ∷ back) × (from ≤ length front) × (e.seat ≢ i) × Is front e.what

-- and at a place of it from there on the log said so
abbrev pub WasSince : (List Event → Type 0) → ℕ → List Event → Type 0
WasSince Says from log = (front back : List Event) × (log ≡ front ++ back) × (from ≤ length front) × Says front

-- what happened in the events of a seat
abbrev pub whats_by : ℕ → List Event → List What
whats_by i [] = []
whats_by i (e ∷ log) = if e.seat == i then e.what ∷ whats_by i log else whats_by i log

-- each event of a list may be told after what comes before it
abbrev pub IsToldFrom : TableKind → Past → List Event → Type 0
IsToldFrom table p [] = Unit {0}
IsToldFrom table p (e ∷ log) = MayAdd table p e.seat e.what × IsToldFrom table (past_after p e) log

abbrev pub IsTold : Table → List Event → Type 0
IsTold t log = IsToldFrom (kind_of t) (past_of t.shape.min_level []) log
