-- A call of a seat that has come to its end.
use Rattle.std.specs.Prelude.{◌≡◌, ◌⊎◌, List, [], ◌++◌, map}
use Rattle.intern_log.specs.declared.event.Event.{Event}
use Rattle.intern_log.specs.declared.event.What.{What}
use Rattle.cht_core.specs.declared.table.Table.{Table}
use Rattle.cht_core.specs.Windows.{whats_by}
use Rattle.cht_run.specs.declared.seat.Seat.{Seat}
use Rattle.cht_run.specs.declared.sight.Entry.{Entry}
use Rattle.cht_run.specs.Ends.{IsAlone}
use Rattle.cht_run.specs.History.{log_of, HasSeen, entries_by, told_by}
use Rattle.cht_run.specs.Seats.{history, seen, numbers, kids, work_of, grace_of}

-- the seat is the same one
pub record Keeps (old new : Seat) : Type 0 where
  pub number : new.number ≡ old.number
  pub numbers : numbers new ≡ numbers old
  pub kids : kids new ≡ kids old

-- it has the same work and the same grace unfinished
pub record KeepsWork (old new : Seat) : Type 0 where
  pub work : work_of new ≡ work_of old
  pub grace : grace_of new ≡ grace_of old

-- it has its number, the slot from which it looks for a free one, and how many nodes its last walk has passed
pub record KeepsFields (old new : Seat) : Type 0 where
  pub number : new.number ≡ old.number
  pub cursor : new.cursor ≡ old.cursor
  pub passed : new.passed ≡ old.passed

-- what came since the seat began the call is its window: the seat has seen all of it, and all before it. What is there by its numbers is what the
-- call did, which is so and so; nothing else is there where all other seats have come back; and by that window the call answers as it does
pub record Ended (t : Table) (old new : Seat) (Did : List What → Type 0) (Why : List Event → List Event → Type 0) : Type 0 where
  pub keeps : Keeps old new
  pub window : List Entry
  pub whole : history new ≡ history old ++ window
  pub own : entries_by (numbers old) window ≡ map (told_by old.number) (whats_by old.number (log_of window))
  pub did : Did (whats_by old.number (log_of window))
  pub alone : IsAlone old → entries_by (numbers old) window ≡ window
  -- where something came, all that the seat has seen is a lawful log, as far as it is short
  pub sees : (window ≡ []) ⊎ HasSeen t (history new)
  pub why : Why (seen old) (log_of window)

-- whatever the window
abbrev pub Always : List Event → List Event → Type 0
Always seen window = Unit {0}

-- these events, and no others
abbrev pub Only : List What → List What → Type 0
Only did events = events ≡ did
