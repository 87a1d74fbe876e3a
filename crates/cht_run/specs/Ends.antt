-- How seats come to a table, meet, and go.
use Rattle.std.specs.Prelude.{◌≡◌, ℕ, true, List, [], ◌∷◌, None}
use Rattle.intern_log.specs.declared.event.Event.{Event}
use Rattle.std.specs.List.{All}
use Rattle.intern_log.specs.Lawful.{IsLawful}
use Rattle.intern_log.specs.Own.{is_among}
use Rattle.intern_log.specs.Short.{IsShort}
use Rattle.cht_core.specs.declared.table.Table.{Table}
use Rattle.cht_core.specs.Causes.{now_in}
use Rattle.cht_core.specs.Past.{kind_of}
use Rattle.cht_run.specs.declared.front.Front.{Front}
use Rattle.cht_run.specs.declared.seat.Seat.{Seat}
use Rattle.cht_run.specs.declared.table.Cht.{Cht}
use Rattle.cht_run.specs.History.{log_of, Follows}
use Rattle.cht_run.specs.Seats.{history, seen, numbers, kids, own_of, work_of, grace_of, IsOf}

-- a seat has no unfinished work and no unfinished grace
pub record HasNothing (seat : Seat) : Type 0 where
  pub work : work_of seat ≡ None
  pub grace : grace_of seat ≡ None

-- a table that has just been made, and its first seat
pub record Opened (t : Table) (cht : Cht) (seat : Seat) : Type 0 where
  pub table : cht.origin.table ≡ t
  pub seed : cht.origin.seed ≡ 0
  pub of : IsOf cht seat
  pub number : seat.number ≡ 0
  pub numbers : numbers seat ≡ 0 ∷ []
  pub kids : kids seat ≡ []
  pub history : history seat ≡ []
  pub nothing : HasNothing seat

-- a seat has at most seen more
pub record Stays (old new : Seat) : Type 0 where
  pub number : new.number ≡ old.number
  pub passed : new.passed ≡ old.passed
  pub own : own_of new ≡ own_of old
  pub numbers : numbers new ≡ numbers old
  pub kids : kids new ≡ kids old

-- it has seen all that it had seen, and all that another one had; nothing that came since is by it
pub record Heard (old other new : Seat) : Type 0 where
  pub own : Follows (numbers old) (history old) (history new)
  pub heard : Follows [] (history other) (history new)

-- all others have come back to the seat
pub record IsAlone (seat : Seat) : Type 0 where
  pub root : is_among (numbers seat) 0 ≡ true
  pub kids : kids seat ≡ []

-- what such a seat has seen is the whole log of the table: it is lawful where it is short, and all of it is by the seat's numbers
pub record HasWhole (t : Table) (numbers : List ℕ) (log : List Event) : Type 0 where
  pub lawful : IsShort log → IsLawful (kind_of t) log
  pub mine : All (λ (e : Event). is_among numbers e.seat ≡ true) log

-- the log of a closed table
abbrev pub log_in : Front → List Event
log_in front = log_of front.note.me.0.history

-- the level of a table by what a seat has seen
abbrev pub level_in : Table → Seat → ℕ
level_in t seat = (now_in t (seen seat)).level
