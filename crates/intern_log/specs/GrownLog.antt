-- A log in which a row comes to be replaced: seat 2 grows a table of level 3 while seat 1 locks a bucket of the new row.
use Rattle.std.specs.Prelude.{List, [], ◌∷◌, ◌++◌, true, false}
use Rattle.intern_log.specs.declared.event.Event.{Event}
use Rattle.intern_log.specs.declared.event.Kind.TheVariants.{Counted}
use Rattle.intern_log.specs.declared.event.TableKind.{TableKind}
use Rattle.intern_log.specs.declared.event.What.TheVariants.{Open, Lock, ResizeTaken, ResizeGiven, Level}
use Rattle.intern_log.specs.Now.{Resizing}
use Rattle.intern_log.specs.Window.{by_seat}

-- a counted table of level 3
abbrev pub grown_table : TableKind
grown_table = record { kind = Counted; min_level = 3; max_level = 16; first_counter = 0 }

-- the owner locks a bucket of its own row at place 2, another seat one of the new row at place 3, and the owner one of the new row at place 4
abbrev pub grown_log : List Event
grown_log =
    by_seat 1 (Open 0 ∷ []) ++ by_seat 2 (ResizeTaken ∷ Lock 3 0 ∷ []) ++ by_seat 1 (Lock 4 3 ∷ [])
    ++ by_seat 2 (Lock 4 0 ∷ Level 4 ∷ ResizeGiven ∷ [])

-- the resizing of seat 2, before and after it replaces row 3
abbrev pub not_yet_replacing : Resizing
not_yet_replacing = record { seat = 2; place = 1; level = 3; replacing = false }

abbrev pub replacing_row_3 : Resizing
replacing_row_3 = record { seat = 2; place = 1; level = 3; replacing = true }
