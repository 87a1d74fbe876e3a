-- A call on its way: what has come since its seat began it, and what it has found out.
use Rattle.std.specs.Prelude.{◌≡◌, ◌≤◌, true, List, [], ◌++◌, map}
use Rattle.call_machine.specs.declared.call.Call.{Call}
use Rattle.call_machine.specs.declared.machine.Machine.{Machine}
use Rattle.call_machine.specs.declared.machine.Machine.TheVariants as machine
use Rattle.call_machine.specs.declared.stage.Along.{Along}
use Rattle.call_machine.specs.declared.stage.Asked.{Asked}
use Rattle.call_machine.specs.declared.stage.CallStage.{CallStage}
use Rattle.call_machine.specs.declared.stage.Request.{Request}
use Rattle.call_machine.specs.Sought.{IsRequest, asked_of}
use Rattle.call_machine.specs.Machine.{passed_of}
use Rattle.cht_core.specs.declared.seat.Seat.TheVariants as doing
use Rattle.cht_core.specs.Caused.{way_of, Caused}
use Rattle.cht_core.specs.Windows.{whats_by}
use Rattle.cht_run.specs.declared.sight.Entry.{Entry}
use Rattle.cht_run.specs.declared.sight.Sight.{Sight}
use Rattle.cht_run.specs.Begins.{own_at, HasLedger, IsSoundOf}
use Rattle.cht_run.specs.Covers.{MachinePassed}
use Rattle.cht_run.specs.declared.table.Cht.{Cht}
use Rattle.cht_run.specs.History.{log_of, HasSeen, entries_by, told_by}
use Rattle.cht_run.specs.Rule.{root_of}
use Rattle.cht_run.specs.Seats.{Raw, Sits}
use Rattle.cht_run.specs.Told.{WorkFound}
use Rattle.intern_log.specs.declared.event.Kind.TheVariants.{Weak}
use Rattle.intern_log.specs.Own.{is_among}

-- the seat is the same, and what it has of others
pub record Stays (b v : Sight) : Type 0 where
  pub origin : v.origin ≡ b.origin
  pub number : v.number ≡ b.number
  pub numbers : v.numbers ≡ b.numbers
  pub kids : v.kids ≡ b.kids
  pub given : v.given ≡ b.given

-- the call that a seat began has come to this machine; the window is what was added to the history since
pub record Went (b : Sight) (c : Call) (v : Sight) (m : Machine) : Type 0 where
  pub is : v.seat ≡ doing.Running m
  pub stays : Stays b v
  pub window : List Entry
  pub history : v.history ≡ b.history ++ window
  pub caused : Caused b.origin.table b.number (way_of c) (log_of b.history) (log_of window) v.load m
  -- of the entries by its numbers those of the call are there alone, and it has drawn none
  pub own : entries_by b.numbers window ≡ map (told_by b.number) (whats_by b.number (log_of window))
  -- and where all other seats have come back, nothing else is there
  pub alone : b.kids ≡ [] → is_among b.numbers 0 ≡ true → entries_by b.numbers window ≡ window
  pub ledger : HasLedger b
  pub sees : HasSeen b.origin.table v.history
  pub sound : IsSoundOf b.origin b.number m
  pub few : passed_of m ≤ b.origin.table.shape.slots
  pub found_out : WorkFound b.origin.table (log_of v.history) b.number m
  -- where all other seats have come back, a walk that has come to the end of its chain has passed all of it
  pub exact : b.kids ≡ [] → is_among b.numbers 0 ≡ true → MachinePassed b.origin.table (log_of b.history) m

-- a try call as it is at a stage, beside what its seat has unfinished
abbrev pub at_stage : Sight → Asked → Along → CallStage → Machine
at_stage b q w s = machine.Call (record { asked = q; along = w; stage = s }) (own_at b.seat).work (own_at b.seat).grace

-- a try call of a seat has come to this stage
abbrev pub Stands : Sight → Call → Asked → Sight → Along → CallStage → Type 0
Stands b c q v w s = Went b c v (at_stage b q w s)

-- the same in a table, of what is asked
pub record At (cht : Cht) (b : Sight) (c : Call) (r : Request) (raw : Raw) (w : Along) (s : CallStage) : Type 0 where
  pub sits : Sits cht raw
  pub request : IsRequest r
  pub stands : Stands b c (asked_of r) raw.me.0 w s

-- a seat of no table
abbrev pub nowhere : Sight
nowhere = root_of (record {
  table = record { kind = Weak; shape = record { slots = 1; text_words = 1; min_level = 0; max_level = 0; seats = 1 }; first_counter = 0 };
  seed = 0;
})
