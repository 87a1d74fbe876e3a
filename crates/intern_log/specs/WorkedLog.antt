-- The log that docs/MODEL.md works through: two seats intern a text and let it go while a third one reads, the slot is cleaned, and the text is interned again.
use Rattle.std.specs.Prelude.{ℕ, List, [], ◌∷◌, ◌++◌}
use Rattle.intern_log.specs.declared.event.Handle.{Handle}
use Rattle.intern_log.specs.declared.event.Event.{Event}
use Rattle.intern_log.specs.declared.event.Kind.TheVariants.{Counted}
use Rattle.intern_log.specs.declared.event.TableKind.{TableKind}
use Rattle.intern_log.specs.declared.event.What.TheVariants.{Create, Take, Drop, Claim, Free, Open, Close, Grace, Lock, Unlock, Unlink, ResizeTaken, ResizeGiven}
use Rattle.intern_log.specs.Window.{by_seat}

-- a counted table of level 1
abbrev pub worked_table : TableKind
worked_table = record { kind = Counted; min_level = 1; max_level = 16; first_counter = 0 }

-- the text, and its handles before and after the clean
abbrev pub cat : List ℕ
cat = 99 ∷ 97 ∷ 116 ∷ []

abbrev pub first_cat : Handle
first_cat = record { slot = 0; generation = 0 }

abbrev pub second_cat : Handle
second_cat = record { slot = 0; generation = 1 }

-- up to place 7 seats 1 and 2 have interned it
abbrev pub before_the_reader : List Event
before_the_reader =
    by_seat 1 (Open 0 ∷ Claim 0 ∷ Create cat first_cat ∷ Close ∷ [])
    ++ by_seat 2 (Open 0 ∷ Take cat first_cat ∷ Close ∷ [])

-- from there to place 19 seat 3 reads, seats 1 and 2 drop it, and seat 1 cleans
abbrev pub while_it_reads : List Event
while_it_reads =
    by_seat 3 (Open 0 ∷ []) ++ by_seat 1 (Drop first_cat ∷ []) ++ by_seat 2 (Drop first_cat ∷ [])
    ++ by_seat 1 (ResizeTaken ∷ Lock 1 0 ∷ Unlink 0 ∷ Unlock 1 0 ∷ Lock 1 1 ∷ Unlock 1 1 ∷ Grace ∷ [])
    ++ by_seat 2 (Open 2 ∷ []) ++ by_seat 3 (Close ∷ [])

-- then seat 1 frees the slot, and seat 2 interns the text anew
abbrev pub after_the_reader : List Event
after_the_reader = by_seat 1 (Free 0 ∷ ResizeGiven ∷ []) ++ by_seat 2 (Claim 0 ∷ Create cat second_cat ∷ Close ∷ [])

abbrev pub worked_log : List Event
worked_log = before_the_reader ++ while_it_reads ++ after_the_reader
