-- Where a log is first not as it should be.
use Rattle.std.specs.Prelude.{◌≡◌, ℕ, List, [], ◌∷◌, ◌++◌, length, true}
use Rattle.intern_log.specs.declared.event.Event.{Event}
use Rattle.intern_log.specs.Log.{map_of, Allows}
use Rattle.intern_log.specs.Own.{is_visible}
use Rattle.intern_log.specs.Counts.{is_create}

-- the first place at which a log is not as it should be: the events before it are a log as it should be, and with its event they no longer are
abbrev pub IsFirstFault : (List Event → Type 0) → List Event → ℕ → Type 0
IsFirstFault Right log n = (front : List Event) × (back : List Event) × (e : Event) × (log ≡ front ++ e ∷ back) × (length front ≡ n) × Right front × (¬ (Right (front ++ e ∷ [])))

-- the event at this place is visible, and the map of the events before it does not allow it
abbrev pub IsNotAllowedAt : List Event → ℕ → Type 0
IsNotAllowedAt log n = (front : List Event) × (back : List Event) × (e : Event) × (log ≡ front ++ e ∷ back) × (length front ≡ n) × (is_visible e.what ≡ true) × (¬ (Allows (map_of front) e.what))

-- the log has a Create up to which, and with which, it is as it should be
abbrev pub ReachesCreate : (List Event → Type 0) → List Event → Type 0
ReachesCreate Right log = (front : List Event) × (back : List Event) × (e : Event) × (log ≡ front ++ e ∷ back) × (is_create e.what ≡ true) × Right (front ++ e ∷ [])
