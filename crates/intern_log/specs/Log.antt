-- What a log stands for, and which events it allows.
use Rattle.std.specs.Prelude.{◌≡◌, ℕ, ◌+◌, ◌-◌, Bool, true, false, if◌then◌else◌, ◌==◌, nat_le, min, List, [], ◌∷◌, Option, Some, None}
use Rattle.std.specs.List.{list_any}
use Rattle.std.specs.Str.{bytes_eq}
use Rattle.std.specs.Option.{option_map, option_and_then}
use Rattle.intern_log.specs.declared.event.Handle.{Handle}
use Rattle.intern_log.specs.declared.event.Entry.{Entry}
use Rattle.intern_log.specs.declared.event.Event.{Event}
use Rattle.intern_log.specs.declared.event.What.{What}
use Rattle.intern_log.specs.declared.event.What.TheVariants.{Create, Take, Found, Drop, Perm, Kill, Claim, Free, Open, Close, Grace, Lock, Unlock, Unlink, ResizeTaken, ResizeGiven, Level, Rehash}
use Rattle.intern_log.specs.TextMap.{TextMap, no_texts, entry_of, handle_eq, HasHandle, IsLive, put_at, alter, at_handle}

-- the entry that a Create makes
abbrev pub new_entry : Handle → Entry
new_entry h = record { handle = h; count = 1 }

-- one more count; 65,535 stays
abbrev pub raised : Entry → Entry
raised e = record e { count = min (e.count + 1) 65535 }

-- one count less; 65,535 stays, and at 0 the entry is gone
abbrev pub lowered : Entry → Option Entry
lowered e = if e.count == 65535 then Some e else if nat_le e.count 1 then None else Some (record e { count = e.count - 1 })

-- the count that no drop lowers
abbrev pub made_permanent : Entry → Entry
made_permanent e = record e { count = 65535 }

-- the map after one more event
abbrev pub next : TextMap → What → TextMap
next m (Create text h) = put_at m text (Some (new_entry h))
next m (Take text h) = put_at m text (option_map raised (entry_of m text))
next m (Drop h) = alter (at_handle h lowered) m
next m (Perm h) = alter (at_handle h (λ e. Some (made_permanent e))) m
next m (Kill h) = alter (at_handle h (λ e. None)) m
next m (Found text h) = m
next m (Claim x) = m
next m (Free x) = m
next m (Open counter) = m
next m Close = m
next m Grace = m
next m (Lock r b) = m
next m (Unlock r b) = m
next m (Unlink x) = m
next m ResizeTaken = m
next m ResizeGiven = m
next m (Level l) = m
next m (Rehash n) = m

-- the same, text by text: what an event makes of the entry of one text
abbrev pub entry_after : What → List ℕ → Option Entry → Option Entry
entry_after (Create text h) t entry = if bytes_eq t text then Some (new_entry h) else entry
entry_after (Take text h) t entry = if bytes_eq t text then option_map raised entry else entry
entry_after (Drop h) t entry = option_and_then (at_handle h lowered) entry
entry_after (Perm h) t entry = option_and_then (at_handle h (λ e. Some (made_permanent e))) entry
entry_after (Kill h) t entry = option_and_then (at_handle h (λ e. None)) entry
entry_after (Found text h) t entry = entry
entry_after (Claim x) t entry = entry
entry_after (Free x) t entry = entry
entry_after (Open counter) t entry = entry
entry_after Close t entry = entry
entry_after Grace t entry = entry
entry_after (Lock r b) t entry = entry
entry_after (Unlock r b) t entry = entry
entry_after (Unlink x) t entry = entry
entry_after ResizeTaken t entry = entry
entry_after ResizeGiven t entry = entry
entry_after (Level l) t entry = entry
entry_after (Rehash n) t entry = entry

-- the map allows the event: a Create of a text that is not live, by a handle of no entry; a Take or Found of a
-- text with its handle; a Drop, Perm or Kill of a live handle; and each event that callers do not see
abbrev pub Allows : TextMap → What → Type 0
Allows m (Create text h) = (entry_of m text ≡ None) × (¬ (IsLive m h))
Allows m (Take text h) = HasHandle m text h
Allows m (Found text h) = HasHandle m text h
Allows m (Drop h) = IsLive m h
Allows m (Perm h) = IsLive m h
Allows m (Kill h) = IsLive m h
Allows m (Claim x) = Unit {0}
Allows m (Free x) = Unit {0}
Allows m (Open counter) = Unit {0}
Allows m Close = Unit {0}
Allows m Grace = Unit {0}
Allows m (Lock r b) = Unit {0}
Allows m (Unlock r b) = Unit {0}
Allows m (Unlink x) = Unit {0}
Allows m ResizeTaken = Unit {0}
Allows m ResizeGiven = Unit {0}
Allows m (Level l) = Unit {0}
Allows m (Rehash n) = Unit {0}

-- the map after a list of events, and what a whole log stands for
abbrev pub map_after : TextMap → List Event → TextMap
map_after m [] = m
map_after m (e ∷ es) = map_after (next m e.what) es

abbrev pub map_of : List Event → TextMap
map_of log = map_after no_texts log

-- each event is allowed by the map at its place
abbrev pub IsLegalFrom : TextMap → List Event → Type 0
IsLegalFrom m [] = Unit {0}
IsLegalFrom m (e ∷ es) = Allows m e.what × IsLegalFrom (next m e.what) es

abbrev pub IsLegal : List Event → Type 0
IsLegal log = IsLegalFrom no_texts log

-- whether the event creates this handle
abbrev pub creates : What → Handle → Bool
creates (Create text h) k = handle_eq h k
creates _ k = false

-- no handle is in two Creates
abbrev pub IsFresh : List Event → Type 0
IsFresh [] = Unit {0}
IsFresh (e ∷ es) = ((h : Handle) → creates e.what h ≡ true → list_any (λ later. creates later.what h) es ≡ false) × IsFresh es

-- two live texts never have one handle
abbrev pub HandlesDiffer : TextMap → Type 0
HandlesDiffer m = (text other : List ℕ) (h : Handle) → HasHandle m text h → HasHandle m other h → text ≡ other
