-- The events of a caller.
use Rattle.std.specs.Prelude.{ℕ, ◌-◌, Bool, true, false, ◌&&◌, nat_eq, List, filter, count_by}
use Rattle.std.specs.List.{list_any}
use Rattle.intern_log.specs.declared.event.Handle.{Handle}
use Rattle.intern_log.specs.declared.event.Event.{Event}
use Rattle.intern_log.specs.declared.event.What.{What}
use Rattle.intern_log.specs.declared.event.What.TheVariants.{Create, Take, Found, Drop, Perm, Kill, Claim, Free, Open, Close, Grace, Lock, Unlock, Unlink, ResizeTaken, ResizeGiven, Level, Rehash}
use Rattle.intern_log.specs.TextMap.{handle_eq}

-- whether callers see the event
abbrev pub is_visible : What → Bool
is_visible (Create text h) = true
is_visible (Take text h) = true
is_visible (Found text h) = true
is_visible (Drop h) = true
is_visible (Perm h) = true
is_visible (Kill h) = true
is_visible (Claim x) = false
is_visible (Free x) = false
is_visible (Open counter) = false
is_visible Close = false
is_visible Grace = false
is_visible (Lock r b) = false
is_visible (Unlock r b) = false
is_visible (Unlink x) = false
is_visible ResizeTaken = false
is_visible ResizeGiven = false
is_visible (Level l) = false
is_visible (Rehash n) = false

-- whether a number is among those of a caller
abbrev pub is_among : List ℕ → ℕ → Bool
is_among numbers seat = list_any (nat_eq seat) numbers

-- the visible events of the seats with these numbers, in the log's order
abbrev pub mine : List Event → List ℕ → List Event
mine log numbers = filter (λ e. is_visible e.what && is_among numbers e.seat) log

-- whether the event gives its caller one more hold on the handle, or takes one away
abbrev pub is_gain : What → Handle → Bool
is_gain (Create text h) k = handle_eq h k
is_gain (Take text h) k = handle_eq h k
is_gain (Found text h) k = false
is_gain (Drop h) k = false
is_gain (Perm h) k = false
is_gain (Kill h) k = false
is_gain (Claim x) k = false
is_gain (Free x) k = false
is_gain (Open counter) k = false
is_gain Close k = false
is_gain Grace k = false
is_gain (Lock r b) k = false
is_gain (Unlock r b) k = false
is_gain (Unlink x) k = false
is_gain ResizeTaken k = false
is_gain ResizeGiven k = false
is_gain (Level l) k = false
is_gain (Rehash n) k = false

abbrev pub is_loss : What → Handle → Bool
is_loss (Drop h) k = handle_eq h k
is_loss (Create text h) k = false
is_loss (Take text h) k = false
is_loss (Found text h) k = false
is_loss (Perm h) k = false
is_loss (Kill h) k = false
is_loss (Claim x) k = false
is_loss (Free x) k = false
is_loss (Open counter) k = false
is_loss Close k = false
is_loss Grace k = false
is_loss (Lock r b) k = false
is_loss (Unlock r b) k = false
is_loss (Unlink x) k = false
is_loss ResizeTaken k = false
is_loss ResizeGiven k = false
is_loss (Level l) k = false
is_loss (Rehash n) k = false

abbrev pub gains : List Event → Handle → ℕ
gains log h = count_by (λ e. is_gain e.what h) log

abbrev pub losses : List Event → Handle → ℕ
losses log h = count_by (λ e. is_loss e.what h) log

-- how often all callers together hold the handle, and how often the seats with these numbers hold it
abbrev pub total : List Event → Handle → ℕ
total log h = gains log h - losses log h

abbrev pub held : List Event → List ℕ → Handle → ℕ
held log numbers h = total (mine log numbers) h
