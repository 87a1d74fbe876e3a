-- What holds of each log of a table, whatever its words are.
use Rattle.std.specs.Prelude.{◌≡◌, ℕ, ◌+◌, ◌*◌, ◌<◌, ◌≤◌, List, Some}
use Rattle.intern_log.specs.declared.event.Entry.{Entry}
use Rattle.intern_log.specs.declared.event.Handle.{Handle}
use Rattle.intern_log.specs.Now.{Now, OpenSection, Linked, Unlinked}
use Rattle.intern_log.specs.Log.{HandlesDiffer}
use Rattle.intern_log.specs.TextMap.{entry_of}
use Rattle.cht_core.specs.declared.table.Table.{Table}

-- live entries are linked with counts from 1 to 65,535, places and counters are those of what is past, and the seed is one that a rehash may give
pub record IsTidy (t : Table) (n : Now) : Type 0 where
  pub entries : (text : List ℕ) (e : Entry) → entry_of n.texts text ≡ Some e → (born : ℕ) × (n.slot e.handle.slot ≡ Linked text e.handle born) × (1 ≤ e.count) × (e.count ≤ 65535)
  pub differ : HandlesDiffer n.texts
  pub linked : (s : ℕ) (text : List ℕ) (h : Handle) (born : ℕ) → n.slot s ≡ Linked text h born → (h.slot ≡ s) × (born < n.place)
  pub unlinked : (s seat at : ℕ) → n.slot s ≡ Unlinked seat at → at < n.place
  pub sections : (k : ℕ) (o : OpenSection) → n.section k ≡ Some o → (o.place < n.place) × (o.counter ≤ t.first_counter + 2 * n.graces)
  pub since : n.since ≤ n.place
  pub level : (t.shape.min_level ≤ n.level) × (n.level ≤ t.shape.max_level)
  pub seed : n.seed ≤ 2
