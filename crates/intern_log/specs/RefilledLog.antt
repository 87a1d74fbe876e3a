-- A log that is not lawful: an entry is created in a slot whose first entry is gone but was not unlinked, and then the slot is unlinked.
use Rattle.std.specs.Prelude.{ℕ, List, [], ◌∷◌, ◌++◌}
use Rattle.intern_log.specs.declared.event.Event.{Event}
use Rattle.intern_log.specs.declared.event.What.TheVariants.{Create, Drop, Claim, Unlink}
use Rattle.intern_log.specs.Window.{by_seat}
use Rattle.intern_log.specs.WorkedLog.{cat, first_cat, second_cat}

-- the text of the second entry
abbrev pub dog : List ℕ
dog = 100 ∷ 111 ∷ 103 ∷ []

-- up to place 4 the slot has had two entries
abbrev pub before_the_unlink : List Event
before_the_unlink = by_seat 1 (Claim 0 ∷ Create cat first_cat ∷ Drop first_cat ∷ Create dog second_cat ∷ [])

abbrev pub refilled_log : List Event
refilled_log = before_the_unlink ++ by_seat 1 (Unlink 0 ∷ [])
