-- What a log stands for at its end: the map, the slots, the open sections, the locks, the level, the graces and the seed.
use Rattle.std.specs.Prelude.{ℕ, ◌+◌, Bool, false, ◌&&◌, ◌||◌, if◌then◌else◌, nat_eq, List, [], ◌∷◌, Option, Some, None}
use Rattle.std.specs.Option.{option_map}
use Rattle.intern_log.specs.declared.event.Handle.{Handle}
use Rattle.intern_log.specs.declared.event.Event.{Event}
use Rattle.intern_log.specs.declared.event.What.{What}
use Rattle.intern_log.specs.declared.event.What.TheVariants.{Create, Take, Found, Drop, Perm, Kill, Claim, Free, Open, Close, Grace, Lock, Unlock, Unlink, ResizeTaken, ResizeGiven, Level, Rehash}
use Rattle.intern_log.specs.TextMap.{TextMap, no_texts}
use Rattle.intern_log.specs.Log.{next}
use Rattle.intern_log.specs.Orderly.{is_lock_elsewhere}

-- where a slot is: free; claimed by a seat; in a chain with a text and a handle, since the place of its Create; or taken out of its chain, by a seat at a place
pub data Phase : Type 0 where
  Vacant : Phase
  Claimed : ℕ → Phase
  Linked : List ℕ → Handle → ℕ → Phase
  Unlinked : ℕ → ℕ → Phase

-- an open section: the place of its Open, and the counter that the Open names
pub record OpenSection : Type 0 where
  pub place : ℕ
  pub counter : ℕ

-- who has the resize lock, since which place, the level there, and whether the seat has locked a bucket of another row since
pub record Resizing : Type 0 where
  pub seat : ℕ
  pub place : ℕ
  pub level : ℕ
  pub replacing : Bool

-- all of it, with the number of events so far, and the place after the last Level
pub record Now : Type 0 where
  pub place : ℕ
  pub texts : TextMap
  pub slot : ℕ → Phase
  pub section : ℕ → Option OpenSection
  pub lock : ℕ → ℕ → Option ℕ
  pub resizing : Option Resizing
  pub level : ℕ
  pub since : ℕ
  pub graces : ℕ
  pub seed : ℕ

-- the seat that has the resize lock
abbrev pub owner_of : Option Resizing → Option ℕ
owner_of None = None
owner_of (Some r) = Some r.seat

-- the resizing after a Lock of a bucket of this row by this seat
abbrev pub resizing_after_lock : ℕ → ℕ → Resizing → Resizing
resizing_after_lock seat row r = record r { replacing = r.replacing || is_lock_elsewhere r.seat r.level seat row }

-- a function with another value at one place
abbrev pub with_at : {A : Type 0} → (ℕ → A) → ℕ → A → ℕ → A
with_at f k value n = if nat_eq n k then value else f n

-- the locks with another one at one bucket, and those of one row alone
abbrev pub with_lock : (ℕ → ℕ → Option ℕ) → ℕ → ℕ → Option ℕ → ℕ → ℕ → Option ℕ
with_lock lock row bucket owner r b = if nat_eq r row && nat_eq b bucket then owner else lock r b

abbrev pub locks_of_row : (ℕ → ℕ → Option ℕ) → ℕ → ℕ → ℕ → Option ℕ
locks_of_row lock row r b = if nat_eq r row then lock r b else None

-- before the first event, at the least level and by seed 0
abbrev pub opening : ℕ → Now
opening min_level = record {
  place = 0;
  texts = no_texts;
  slot = λ s. Vacant;
  section = λ i. None;
  lock = λ r b. None;
  resizing = None;
  level = min_level;
  since = 0;
  graces = 0;
  seed = 0;
}

-- what one event changes beside the map and the place
abbrev pub changed_by : Now → ℕ → What → Now
changed_by now seat (Create text h) = record now { slot = with_at now.slot h.slot (Linked text h now.place) }
changed_by now seat (Claim s) = record now { slot = with_at now.slot s (Claimed seat) }
changed_by now seat (Free s) = record now { slot = with_at now.slot s Vacant }
changed_by now seat (Unlink s) = record now { slot = with_at now.slot s (Unlinked seat now.place) }
changed_by now seat (Open counter) = record now { section = with_at now.section seat (Some (record { place = now.place; counter = counter })) }
changed_by now seat Close = record now { section = with_at now.section seat None }
changed_by now seat Grace = record now { graces = now.graces + 1 }
changed_by now seat (Lock row bucket) = record now {
  lock = with_lock now.lock row bucket (Some seat);
  resizing = option_map (resizing_after_lock seat row) now.resizing;
}
changed_by now seat (Unlock row bucket) = record now { lock = with_lock now.lock row bucket None }
changed_by now seat ResizeTaken = record now { resizing = Some (record { seat = seat; place = now.place; level = now.level; replacing = false }) }
changed_by now seat ResizeGiven = record now { resizing = None }
changed_by now seat (Level level) = record now { level = level; since = now.place + 1; lock = locks_of_row now.lock level }
changed_by now seat (Rehash seed) = record now { seed = seed }
changed_by now seat (Take text h) = now
changed_by now seat (Found text h) = now
changed_by now seat (Drop h) = now
changed_by now seat (Perm h) = now
changed_by now seat (Kill h) = now

-- after one more event
abbrev pub now_after_event : Now → Event → Now
now_after_event now e = record (changed_by now e.seat e.what) { place = now.place + 1; texts = next now.texts e.what }

-- after a list of events, and at the end of a whole log
abbrev pub now_after : Now → List Event → Now
now_after now [] = now
now_after now (e ∷ es) = now_after (now_after_event now e) es

abbrev pub now_of : ℕ → List Event → Now
now_of min_level log = now_after (opening min_level) log
