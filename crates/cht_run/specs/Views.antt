-- How a seat is cut in two, and how two are made one.
use Rattle.std.specs.Prelude.{nat_lt, if◌then◌else◌, List, [], ◌∷◌, ◌++◌, length, Option, Some, None}
use Rattle.chain_core.specs.Path.{without}
use Rattle.intern_log.specs.declared.event.Kind.TheVariants.{Counted}
use Rattle.call_machine.specs.declared.machine.Own.{Own}
use Rattle.cht_core.specs.declared.seat.Seat.TheVariants as doing
use Rattle.cht_core.specs.Begins.{first_own}
use Rattle.cht_run.specs.declared.sight.Earlier.{Earlier}
use Rattle.cht_run.specs.declared.sight.Entry.{Entry}
use Rattle.cht_run.specs.declared.sight.Origin.{Origin}
use Rattle.cht_run.specs.declared.sight.Sight.{Sight}

-- no seat, which has seen this of a table
abbrev pub nobody : Origin → List Entry → Sight
nobody o history = record {
  origin = o;
  number = 0;
  seat = doing.Idle (first_own o.table.shape 0);
  load = 0;
  passed = [];
  numbers = [];
  kids = [];
  given = None;
  history = history;
  earlier = [];
  words = None;
}

-- what a seat has seen, and nothing else of it
abbrev pub note_of : Sight → Sight
note_of v = nobody v.origin v.history

-- what is left of a seat that was joined into another one
abbrev pub spent : Sight
spent = nobody (record { table = record { kind = Counted; shape = record { slots = 0; text_words = 0; min_level = 0; max_level = 0; seats = 0 }; first_counter = 0 }; seed = 0 }) []

-- a seat gives away the seat of the number that it has drawn
abbrev pub giver : Sight → Sight
giver v = record v { given = None }

-- and that has seen the same
abbrev pub child_of : Own → Sight → Sight
child_of own v = record {
  origin = v.origin;
  number = own.number;
  seat = doing.Idle own;
  load = 0;
  passed = [];
  numbers = own.number ∷ [];
  kids = [];
  given = None;
  history = v.history;
  earlier = [];
  words = None;
}

abbrev pub child_in : Option Own → Sight → Sight
child_in None v = note_of v
child_in (Some own) v = child_of own v

abbrev pub child : Sight → Sight
child v = child_in v.given v

-- of two parts of one history, the longer one
abbrev pub longer : List Entry → List Entry → List Entry
longer xs ys = if nat_lt (length xs) (length ys) then ys else xs

abbrev pub earlier_of : Sight → Earlier
earlier_of v = record { numbers = v.numbers; history = v.history }

-- a seat has seen what the other one has
abbrev pub hears : Sight → Sight → Sight
hears v w = record v { history = longer v.history w.history; earlier = earlier_of v ∷ earlier_of w ∷ [] }

-- and has its numbers too
abbrev pub joined : Sight → Sight → Sight
joined v w = record v {
  numbers = w.numbers ++ v.numbers;
  kids = without w.number v.kids ++ w.kids;
  history = longer v.history w.history;
  earlier = earlier_of v ∷ earlier_of w ∷ [];
  words = None;
}
