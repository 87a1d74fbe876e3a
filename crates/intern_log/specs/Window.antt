-- The events of a caller that interns names and holds the last few of them.
use Rattle.std.specs.Prelude.{◌≡◌, ℕ, ◌-◌, if◌then◌else◌, nat_lt, List, [], ◌∷◌, ◌++◌, length, map, slice_get, Option, Some, None, ◌⊎◌}
use Rattle.intern_log.specs.declared.event.Handle.{Handle}
use Rattle.intern_log.specs.declared.event.Event.{Event}
use Rattle.intern_log.specs.declared.event.What.{What}
use Rattle.intern_log.specs.declared.event.What.TheVariants.{Create, Take, Found, Drop}

-- the events are those of one seat
abbrev pub by_seat : ℕ → List What → List Event
by_seat seat whats = map (λ what. record { seat = seat; what = what }) whats

-- the event interns the text as the handle: it creates the entry, or meets it in the way of the table
abbrev pub IsInternBy : (List ℕ → Handle → What) → List ℕ → Handle → What → Type 0
IsInternBy meets text h what = (what ≡ Create text h) ⊎ (what ≡ meets text h)

-- in a counted table an entry that is met is taken, in a weak one it is found
abbrev pub IsCountedIntern : List ℕ → Handle → What → Type 0
IsCountedIntern text h what = IsInternBy Take text h what

abbrev pub IsWeakIntern : List ℕ → Handle → What → Type 0
IsWeakIntern text h what = IsInternBy Found text h what

-- the Drop of the handle that a window of `hold` handles lets go where `handles` were put in so far: the one `hold` places before the last
abbrev pub dropped_from : Option Handle → List What
dropped_from None = []
dropped_from (Some h) = Drop h ∷ []

abbrev pub let_go : ℕ → List Handle → List What
let_go hold handles = if nat_lt hold (length handles) then dropped_from (slice_get handles (length handles - 1 - hold)) else []

-- name by name: the intern of its text as a handle, and at once the Drop of the handle that leaves the window; `before` and `after` are the handles so far
abbrev pub IsWindowRun : ℕ → List Handle → List (List ℕ) → List What → List Handle → Type 0
IsWindowRun hold before [] whats after = (whats ≡ []) × (after ≡ before)
IsWindowRun hold before (name ∷ names) whats after =
    (h : Handle) × (what : What) × (rest : List What)
    × IsCountedIntern name h what
    × (whats ≡ what ∷ (let_go hold (before ++ h ∷ []) ++ rest))
    × IsWindowRun hold (before ++ h ∷ []) names rest after

-- the events are those of a caller that interns the names in order, holds the last `hold` handles and drops each that leaves this window
abbrev pub IsWindowList : ℕ → List (List ℕ) → List What → Type 0
IsWindowList hold names whats = (handles : List Handle) × IsWindowRun hold [] names whats handles

-- the events are one intern a literal, in order
abbrev pub IsLiteralList : List (List ℕ) → List What → Type 0
IsLiteralList [] whats = whats ≡ []
IsLiteralList (literal ∷ literals) whats =
    (h : Handle) × (what : What) × (rest : List What)
    × IsWeakIntern literal h what × (whats ≡ what ∷ rest) × IsLiteralList literals rest

-- what happened in each of the events, by whatever number
abbrev pub whats_of : List Event → List What
whats_of events = map (λ (e : Event). e.what) events

-- the events, by whatever numbers, are the window list of the names
abbrev pub IsWindowListOf : ℕ → List (List ℕ) → List Event → Type 0
IsWindowListOf hold names events = IsWindowList hold names (whats_of events)
