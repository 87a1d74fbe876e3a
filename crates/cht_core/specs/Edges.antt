-- To which slots the links of unlinked slots lead.
use Rattle.std.specs.Prelude.{◌≡◌, ◌≢◌, ℕ, List, take, Some}
use Rattle.intern_log.specs.declared.event.Event.{Event}
use Rattle.intern_log.specs.Now.{Unlinked, now_of}
use Rattle.cht_core.specs.declared.table.Table.{Table}
use Rattle.cht_core.specs.Memory.{Memory, links}
use Rattle.cht_core.specs.Search.{IsLinked}

-- the slot was linked after so many events of a log
abbrev pub WasLinked : Table → List Event → ℕ → ℕ → Type 0
WasLinked t log count s = IsLinked (now_of t.shape.min_level (take count log)) s

-- the link of an unlinked slot leads to none, or to another slot that was linked as it was unlinked; that one may be unlinked or free by now
abbrev pub UnlinkedLead : Table → Memory → List Event → Type 0
UnlinkedLead t m log = (s next i at : ℕ) → (now_of t.shape.min_level log).slot s ≡ Unlinked i at → links m s ≡ Some next → (next ≢ s) × WasLinked t log at next
