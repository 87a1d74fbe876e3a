-- Windows: what lies between two logs of which the first begins the second.
use Rattle.std.specs.Prelude.{◌≡◌, ℕ, List, [], ◌∷◌, ◌++◌, None}
use Rattle.intern_log.specs.declared.event.Handle.{Handle}
use Rattle.intern_log.specs.declared.event.Event.{Event}
use Rattle.intern_log.specs.TextMap.{entry_of, HasHandle}
use Rattle.intern_log.specs.Log.{map_of}

-- the first log begins the second
abbrev pub Begins : List Event → List Event → Type 0
Begins before after = (rest : List Event) × (after ≡ before ++ rest)

-- a place of the window, given by what was logged up to there; both ends are places of the window
abbrev pub IsPlaceOf : List Event → List Event → List Event → Type 0
IsPlaceOf before after done = Begins before done × Begins done after

-- the event is in the window, right after what was logged up to there
abbrev pub StandsIn : List Event → List Event → List Event → Event → Type 0
StandsIn before after done e = Begins before done × Begins (done ++ e ∷ []) after

-- at some place of the window this is so
abbrev pub IsAtSomePlace : List Event → List Event → (List Event → Type 0) → Type 0
IsAtSomePlace before after Holds = (done : List Event) × IsPlaceOf before after done × Holds done

-- the window holds an event of which this is so, by what was logged up to there and by the event
abbrev pub HoldsEvent : List Event → List Event → (List Event → Event → Type 0) → Type 0
HoldsEvent before after Passes = (done : List Event) × (e : Event) × StandsIn before after done e × Passes done e

-- at some place of the window the text is absent from the map
abbrev pub IsMissing : List Event → List Event → List ℕ → Type 0
IsMissing before after text = IsAtSomePlace before after (λ done. entry_of (map_of done) text ≡ None)

-- at each place of the window the text is live
abbrev pub IsLiveThroughout : List Event → List Event → List ℕ → Type 0
IsLiveThroughout before after text = (done : List Event) → IsPlaceOf before after done → (h : Handle) × HasHandle (map_of done) text h
