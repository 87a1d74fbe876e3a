-- A small log with a Rehash: seat 1 interns two texts that have one bucket by seed 0, and seat 0 makes the table anew with seed 1.
use Rattle.std.specs.Prelude.{ℕ, List, [], ◌∷◌, ◌++◌}
use Rattle.intern_log.specs.declared.event.Handle.{Handle}
use Rattle.intern_log.specs.declared.event.Event.{Event}
use Rattle.intern_log.specs.declared.event.Kind.TheVariants.{Counted}
use Rattle.intern_log.specs.declared.event.TableKind.{TableKind}
use Rattle.intern_log.specs.declared.event.What.TheVariants.{Create, Take, Claim, Open, Close, Rehash}
use Rattle.intern_log.specs.Window.{by_seat}

-- a counted table of level 3
abbrev pub rehashed_table : TableKind
rehashed_table = record { kind = Counted; min_level = 3; max_level = 4; first_counter = 0 }

-- the texts Aa and BB, and their handles
abbrev pub aa : List ℕ
aa = 65 ∷ 97 ∷ []

abbrev pub bb : List ℕ
bb = 66 ∷ 66 ∷ []

abbrev pub handle_of_aa : Handle
handle_of_aa = record { slot = 0; generation = 0 }

abbrev pub handle_of_bb : Handle
handle_of_bb = record { slot = 1; generation = 0 }

-- up to place 6 seat 1 interns both
abbrev pub before_the_rehash : List Event
before_the_rehash = by_seat 1 (Open 0 ∷ Claim 0 ∷ Create aa handle_of_aa ∷ Claim 1 ∷ Create bb handle_of_bb ∷ Close ∷ [])

-- seat 0 makes the table anew, and seat 1 takes the first of them
abbrev pub rehashed_log : List Event
rehashed_log = before_the_rehash ++ by_seat 0 (Rehash 1 ∷ []) ++ by_seat 1 (Open 0 ∷ Take aa handle_of_aa ∷ Close ∷ [])
