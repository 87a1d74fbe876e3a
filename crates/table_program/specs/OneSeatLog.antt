-- The events of one seat, and what an interner has after them.
use Rattle.std.specs.Prelude.{◌≡◌, ℕ, List, count_by}
use Rattle.intern_log.specs.declared.event.What.{What}
use Rattle.intern_log.specs.TextMap.{TextMap}
use Rattle.intern_log.specs.Log.{map_of, IsLegal}
use Rattle.intern_log.specs.Counts.{is_create}
use Rattle.intern_log.specs.Window.{by_seat}
use Rattle.intern_log.specs.PlainLogs.{IsNumberedFrom}

-- the events are legal and numbered, and after them an interner has these texts and has created so many entries
pub record OneSeatLog (whats : List What) (texts : TextMap) (created : ℕ) : Type 0 where
  pub legal : IsLegal (by_seat 0 whats)
  pub numbered : IsNumberedFrom 0 whats
  pub texts_are : map_of (by_seat 0 whats) ≡ texts
  pub created_are : count_by is_create whats ≡ created
