-- What contracts see of a seat and a table.
use Rattle.std.specs.Prelude.{◌≡◌, ℕ, true, List, [], Option}
use Rattle.atomic_table.specs.declared.shared.Seat.{Seat as Words}
use Rattle.intern_log.specs.declared.event.Event.{Event}
use Rattle.call_machine.specs.declared.grace.Grace.{Grace}
use Rattle.call_machine.specs.declared.machine.Own.{Own}
use Rattle.call_machine.specs.declared.work.Work.{Work}
use Rattle.cht_run.specs.declared.seat.Seat.{Seat}
use Rattle.cht_run.specs.declared.sight.Entry.{Entry}
use Rattle.cht_run.specs.declared.sight.Sight.{Sight}
use Rattle.cht_run.specs.declared.table.Cht.{Cht}
use Rattle.cht_run.specs.Begins.{own_at}
use Rattle.cht_run.specs.History.{log_of, draws_of}
use Rattle.cht_run.specs.Rule.{is_seat}

abbrev pub sight : Seat → Sight
sight seat = seat.raw.me.0

-- what it has seen: the history, its log, and the numbers that were drawn
abbrev pub history : Seat → List Entry
history seat = (sight seat).history

abbrev pub seen : Seat → List Event
seen seat = log_of (history seat)

abbrev pub draws : Seat → List ℕ
draws seat = draws_of (history seat)

-- its numbers and those of the seats that were joined into it, and the numbers of those that were split off and have not come back
abbrev pub numbers : Seat → List ℕ
numbers seat = (sight seat).numbers

abbrev pub kids : Seat → List ℕ
kids seat = (sight seat).kids

-- what it has of its own, among that its unfinished work and grace
abbrev pub own_of : Seat → Own
own_of seat = own_at (sight seat).seat

abbrev pub work_of : Seat → Option Work
work_of seat = (own_of seat).work

abbrev pub grace_of : Seat → Option Grace
grace_of seat = (own_of seat).grace

-- the seat is one of the table
pub record IsOf (cht : Cht) (seat : Seat) : Type 0 where
  pub table : seat.raw.table_id ≡ cht.table.shared.table_id
  pub origin : (sight seat).origin ≡ cht.origin

-- a seat as the shared words keep it
abbrev pub Raw : Type 0
Raw = Words (Unit {0}) Sight

-- it is of the table
pub record Sits (cht : Cht) (raw : Raw) : Type 0 where
  pub table : raw.table_id ≡ cht.table.shared.table_id
  pub origin : raw.me.0.origin ≡ cht.origin
  pub seat : is_seat raw.me.0 ≡ true
  pub bare : raw.me.1 ≡ []
