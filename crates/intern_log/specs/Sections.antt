-- Sections and slots in the words of a log: which is open, taken or linked at its end, and what a graced log keeps.
use Rattle.std.specs.Prelude.{◌≡◌, ℕ, Bool, true, false, nat_eq, List, ◌∷◌, ◌++◌, length}
use Rattle.std.specs.List.{list_any}
use Rattle.intern_log.specs.declared.event.Handle.{Handle}
use Rattle.intern_log.specs.declared.event.Event.{Event}
use Rattle.intern_log.specs.declared.event.What.{What}
use Rattle.intern_log.specs.declared.event.What.TheVariants.{Create, Take, Found, Drop, Perm, Kill, Claim, Free, Open, Close, Grace, Lock, Unlock, Unlink, ResizeTaken, ResizeGiven, Level, Rehash}
use Rattle.intern_log.specs.TextMap.{IsLive}
use Rattle.intern_log.specs.Log.{map_of}

-- whether the event creates an entry in the slot, gives the slot back, takes it out of its chain, or closes the section of the number
abbrev pub fills : ℕ → What → Bool
fills s (Create text h) = nat_eq s h.slot
fills s (Take text h) = false
fills s (Found text h) = false
fills s (Drop h) = false
fills s (Perm h) = false
fills s (Kill h) = false
fills s (Claim x) = false
fills s (Free x) = false
fills s (Open counter) = false
fills s Close = false
fills s Grace = false
fills s (Lock r b) = false
fills s (Unlock r b) = false
fills s (Unlink x) = false
fills s ResizeTaken = false
fills s ResizeGiven = false
fills s (Level l) = false
fills s (Rehash n) = false

abbrev pub frees : ℕ → What → Bool
frees s (Free x) = nat_eq s x
frees s (Create text h) = false
frees s (Take text h) = false
frees s (Found text h) = false
frees s (Drop h) = false
frees s (Perm h) = false
frees s (Kill h) = false
frees s (Claim x) = false
frees s (Open counter) = false
frees s Close = false
frees s Grace = false
frees s (Lock r b) = false
frees s (Unlock r b) = false
frees s (Unlink x) = false
frees s ResizeTaken = false
frees s ResizeGiven = false
frees s (Level l) = false
frees s (Rehash n) = false

abbrev pub unlinks : ℕ → What → Bool
unlinks s (Unlink x) = nat_eq s x
unlinks s (Create text h) = false
unlinks s (Take text h) = false
unlinks s (Found text h) = false
unlinks s (Drop h) = false
unlinks s (Perm h) = false
unlinks s (Kill h) = false
unlinks s (Claim x) = false
unlinks s (Free x) = false
unlinks s (Open counter) = false
unlinks s Close = false
unlinks s Grace = false
unlinks s (Lock r b) = false
unlinks s (Unlock r b) = false
unlinks s ResizeTaken = false
unlinks s ResizeGiven = false
unlinks s (Level l) = false
unlinks s (Rehash n) = false

abbrev pub closes : ℕ → ℕ → What → Bool
closes k seat Close = nat_eq k seat
closes k seat (Create text h) = false
closes k seat (Take text h) = false
closes k seat (Found text h) = false
closes k seat (Drop h) = false
closes k seat (Perm h) = false
closes k seat (Kill h) = false
closes k seat (Claim x) = false
closes k seat (Free x) = false
closes k seat (Open counter) = false
closes k seat Grace = false
closes k seat (Lock r b) = false
closes k seat (Unlock r b) = false
closes k seat (Unlink x) = false
closes k seat ResizeTaken = false
closes k seat ResizeGiven = false
closes k seat (Level l) = false
closes k seat (Rehash n) = false

-- whether one of the events does
abbrev pub some_fills : ℕ → List Event → Bool
some_fills s log = list_any (λ (e : Event). fills s e.what) log

abbrev pub some_frees : ℕ → List Event → Bool
some_frees s log = list_any (λ (e : Event). frees s e.what) log

abbrev pub some_unlinks : ℕ → List Event → Bool
some_unlinks s log = list_any (λ (e : Event). unlinks s e.what) log

abbrev pub some_closes : ℕ → List Event → Bool
some_closes k log = list_any (λ (e : Event). closes k e.seat e.what) log

-- an event by a seat, between what comes before and after it
abbrev pub with_event : List Event → ℕ → What → List Event → List Event
with_event front seat what back = front ++ record { seat = seat; what = what } ∷ back

-- the number has opened its section at the place, with this counter, and has not closed it since
abbrev pub IsOpenAs : List Event → ℕ → ℕ → ℕ → Type 0
IsOpenAs log k place counter = (front back : List Event) × (log ≡ with_event front k (Open counter) back) × (length front ≡ place) × (some_closes k back ≡ false)

abbrev pub IsOpenIn : List Event → ℕ → Type 0
IsOpenIn log k = (place counter : ℕ) × IsOpenAs log k place counter

-- the slot was claimed, and was not freed since
abbrev pub IsTakenIn : List Event → ℕ → Type 0
IsTakenIn log s = (front back : List Event) × (seat : ℕ) × (log ≡ with_event front seat (Claim s) back) × (some_frees s back ≡ false)

-- the seat claimed the slot; since then no entry was created in it, and it was not freed
abbrev pub IsClaimedBy : List Event → ℕ → ℕ → Type 0
IsClaimedBy log s seat = (front back : List Event) × (log ≡ with_event front seat (Claim s) back) × (some_fills s back ≡ false) × (some_frees s back ≡ false)

-- an entry was created with this text and handle
abbrev pub IsCreatedAs : List Event → List ℕ → Handle → Type 0
IsCreatedAs log text h = (front back : List Event) × (seat : ℕ) × (log ≡ with_event front seat (Create text h) back)

-- an entry was created in the slot at the place, with this text and handle; since then no other was created in it, and it was not unlinked
abbrev pub IsLinkedAt : List Event → ℕ → List ℕ → Handle → ℕ → Type 0
IsLinkedAt log s text h place = (front back : List Event) × (seat : ℕ) × (log ≡ with_event front seat (Create text h) back)
    × (length front ≡ place) × (h.slot ≡ s) × (some_fills s back ≡ false) × (some_unlinks s back ≡ false)

abbrev pub IsLinkedAs : List Event → ℕ → List ℕ → Handle → Type 0
IsLinkedAs log s text h = (place : ℕ) × IsLinkedAt log s text h place

abbrev pub IsLinkedIn : List Event → ℕ → Type 0
IsLinkedIn log s = (text : List ℕ) × (h : Handle) × IsLinkedAs log s text h

-- the seat unlinked the slot at the place, and it was not freed since
abbrev pub IsUnlinkedAt : List Event → ℕ → ℕ → ℕ → Type 0
IsUnlinkedAt log s seat place = (front back : List Event) × (log ≡ with_event front seat (Unlink s) back) × (length front ≡ place) × (some_frees s back ≡ false)

-- a graced log: a slot is claimed only where it is not taken, and freed only where it is taken and not linked;
-- between an Unlink of a slot and its next Free, every section that was open at the Unlink is closed
pub record IsGraced (log : List Event) : Type 0 where
  pub claimed : (front back : List Event) (seat s : ℕ) → log ≡ with_event front seat (Claim s) back → ¬ (IsTakenIn front s)
  pub freed : (front back : List Event) (seat s : ℕ) → log ≡ with_event front seat (Free s) back → IsTakenIn front s × ¬ (IsLinkedIn front s)
  pub closed : (front between back : List Event) (unlinker freer s k : ℕ) →
      log ≡ with_event front unlinker (Unlink s) (with_event between freer (Free s) back) → some_frees s between ≡ false →
      IsOpenIn front k → some_closes k between ≡ true

-- a careful log: a slot is unlinked only where it is linked and its handle's entry is gone from the map
abbrev pub IsCareful : List Event → Type 0
IsCareful log = (front back : List Event) (seat s : ℕ) → log ≡ with_event front seat (Unlink s) back →
    (text : List ℕ) × (h : Handle) × IsLinkedAs front s text h × ¬ (IsLive (map_of front) h)

-- an entry is created only in a slot that its own seat claimed, where none was created in it and it was not freed since
abbrev pub IsCreatedByItsClaimer : List Event → Type 0
IsCreatedByItsClaimer log = (front back : List Event) (seat : ℕ) (text : List ℕ) (h : Handle) → log ≡ with_event front seat (Create text h) back → IsClaimedBy front h.slot seat

-- a slot in which no entry was created since its Claim is freed by the seat that claimed it, and one that was unlinked by the seat that unlinked it
pub record IsFreedByItsOwner (log : List Event) : Type 0 where
  pub claimer : (front back : List Event) (seat s owner : ℕ) → log ≡ with_event front seat (Free s) back → IsClaimedBy front s owner → owner ≡ seat
  pub unlinker : (front back : List Event) (seat s owner place : ℕ) → log ≡ with_event front seat (Free s) back → IsUnlinkedAt front s owner place → owner ≡ seat
