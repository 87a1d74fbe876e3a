-- Two small plain logs of the texts a, b and a again: one that holds the last two names, and one whose last literal is final.
use Rattle.std.specs.Prelude.{ℕ, List, [], ◌∷◌}
use Rattle.intern_log.specs.declared.event.Handle.{Handle}
use Rattle.intern_log.specs.declared.event.Event.{Event}
use Rattle.intern_log.specs.declared.event.What.TheVariants.{Create, Take, Found, Drop, Kill}
use Rattle.intern_log.specs.Window.{by_seat}

-- the two texts, and their handles
abbrev pub text_a : List ℕ
text_a = 97 ∷ []

abbrev pub text_b : List ℕ
text_b = 98 ∷ []

abbrev pub handle_of_a : Handle
handle_of_a = record { slot = 0; generation = 0 }

abbrev pub handle_of_b : Handle
handle_of_b = record { slot = 1; generation = 0 }

-- the texts in order
abbrev pub a_b_a : List (List ℕ)
a_b_a = text_a ∷ text_b ∷ text_a ∷ []

-- as names, with a window of two: the first handle leaves it at the third name
abbrev pub worked_symbol_log : List Event
worked_symbol_log = by_seat 0 (Create text_a handle_of_a ∷ Create text_b handle_of_b ∷ Take text_a handle_of_a ∷ Drop handle_of_a ∷ [])

-- as literals, of which the last is final: the other text is killed
abbrev pub worked_string_log : List Event
worked_string_log = by_seat 0 (Create text_a handle_of_a ∷ Create text_b handle_of_b ∷ Found text_a handle_of_a ∷ Kill handle_of_b ∷ [])
