-- What a thread that shares a table knows of its answers.
use Rattle.std.specs.Prelude.{◌≡◌, ◌⊎◌, ℕ, ◌<◌, true, List, [], ◌++◌, length, get_or, Option, Some, None}
use Rattle.chain_core.specs.Path.{without}
use Rattle.intern_log.specs.declared.event.Event.{Event}
use Rattle.intern_log.specs.declared.event.Handle.{Handle}
use Rattle.intern_log.specs.declared.event.Kind.TheVariants.{Counted}
use Rattle.call_machine.specs.Sought.{is_too_long}
use Rattle.cht_core.specs.declared.table.Table.{Table}
use Rattle.cht_run.specs.declared.seat.Seat.{Seat}
use Rattle.cht_run.specs.declared.table.Cht.{Cht}
use Rattle.cht_run.specs.Ends.{HasNothing}
use Rattle.cht_run.specs.Holds.{Holds}
use Rattle.cht_run.specs.Interns.{FoundNoSlot}
use Rattle.cht_run.specs.Seats.{seen, numbers, kids, IsOf}

-- the seat may intern in the table, which counts holds: it is one of its seats, and has nothing unfinished
pub record MayIntern (cht : Cht) (seat : Seat) : Type 0 where
  pub of : IsOf cht seat
  pub counted : cht.origin.table.kind ≡ Counted
  pub nothing : HasNothing seat

-- a seat has seen all that it had seen, and then more
abbrev pub HasSeenMore : Seat → Seat → Type 0
HasSeenMore old new = (more : List Event) × (seen new ≡ seen old ++ more)

-- in a part of the log that came after these events, the text was absent at a place, and each slot was taken at one
abbrev pub WasFull : Table → List Event → List ℕ → List Event → Type 0
WasFull t began text log = (more window rest : List Event) × (log ≡ ((began ++ more) ++ window) ++ rest) × FoundNoSlot t text (began ++ more) window

-- what a seat has for a text: a handle that it holds and that was given for the text; or none, where the text is longer than a slot has room for, or
-- was absent while each slot was taken, after these events
abbrev pub IsAnswer : Cht → List Event → Seat → List ℕ → Option Handle → Type 0
IsAnswer cht began seat text (Some h) = Holds seat text h
IsAnswer cht began seat text None = (is_too_long cht.origin.table.shape text ≡ true) ⊎ WasFull cht.origin.table began text (seen seat)

-- what one seat has another one has
abbrev pub StillAnswers : Cht → Seat → Seat → Type 0
StillAnswers cht old new = (began : List Event) (text : List ℕ) (answer : Option Handle) → IsAnswer cht began old text answer → IsAnswer cht began new text answer

-- each of the first answers is what the seat has for the text at its place
abbrev pub AreFirstAnswers : Cht → List Event → Seat → ℕ → List (List ℕ) → List (Option Handle) → Type 0
AreFirstAnswers cht began seat many texts answers = (i : ℕ) → i < many → IsAnswer cht began seat (get_or texts i []) (get_or answers i None)

-- there is one answer for each text, and it is what the seat has for it
pub record AreAnswers (cht : Cht) (began : List Event) (seat : Seat) (texts : List (List ℕ)) (answers : List (Option Handle)) : Type 0 where
  pub one_each : length answers ≡ length texts
  pub each : AreFirstAnswers cht began seat (length texts) texts answers

-- where two threads have a handle at one place, it is the same one
abbrev pub AreOne : List (Option Handle) → List (Option Handle) → Type 0
AreOne mine theirs = (i : ℕ) (h k : Handle) → get_or mine i None ≡ Some h → get_or theirs i None ≡ Some k → h ≡ k

-- two seats have become one: it has the number of the first, the numbers of both, and what either has split off and not taken back
pub record IsBoth (first second both : Seat) : Type 0 where
  pub number : both.number ≡ first.number
  pub numbers_are : numbers both ≡ numbers second ++ numbers first
  pub kids_are : kids both ≡ without second.number (kids first) ++ kids second
