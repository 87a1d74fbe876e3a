-- How many events of a kind a log has.
use Rattle.std.specs.Prelude.{ℕ, Bool, true, false, List, count_by}
use Rattle.intern_log.specs.declared.event.Event.{Event}
use Rattle.intern_log.specs.declared.event.What.{What}
use Rattle.intern_log.specs.declared.event.What.TheVariants.{Create, Take, Found, Drop, Kill}

abbrev pub is_create : What → Bool
is_create (Create text h) = true
is_create _ = false

abbrev pub is_take : What → Bool
is_take (Take text h) = true
is_take _ = false

abbrev pub is_found : What → Bool
is_found (Found text h) = true
is_found _ = false

abbrev pub is_drop : What → Bool
is_drop (Drop h) = true
is_drop _ = false

abbrev pub is_kill : What → Bool
is_kill (Kill h) = true
is_kill _ = false

-- the number of the log's events that pass a test
abbrev pub events_in : (What → Bool) → List Event → ℕ
events_in test log = count_by (λ e. test e.what) log
