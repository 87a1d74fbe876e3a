-- A split: its seat draws a number and gives away the seat of it.
use Rattle.std.specs.Prelude.{◌≡◌, ℕ, ◌+◌, ◌<◌, nat_le, true, if◌then◌else◌, List, [], ◌∷◌, ◌++◌, length, Option, Some, None}
use Rattle.intern_log.specs.Own.{is_among}
use Rattle.atomic_step.specs.declared.answer.Answer.TheVariants as answer
use Rattle.call_machine.specs.declared.call.Call.{Call}
use Rattle.call_machine.specs.declared.draw.DrawStage.TheVariants as draw
use Rattle.call_machine.specs.declared.stage.Along.{Along}
use Rattle.call_machine.specs.declared.stage.CallStage.{CallStage}
use Rattle.call_machine.specs.declared.stage.CallStage.TheVariants as stage
use Rattle.call_machine.specs.declared.stage.Request.{Request}
use Rattle.call_machine.specs.Sought.{asked_of}
use Rattle.cht_core.specs.declared.seat.Seat.TheVariants as doing
use Rattle.cht_core.specs.Begins.{first_own}
use Rattle.cht_run.specs.declared.seat.Seat.{Seat}
use Rattle.cht_run.specs.declared.sight.Entry.{Entry}
use Rattle.cht_run.specs.declared.sight.Entry.TheVariants as entry
use Rattle.cht_run.specs.declared.sight.Sight.{Sight}
use Rattle.cht_run.specs.declared.table.Cht.{Cht}
use Rattle.cht_run.specs.Calls.{at_stage, At}
use Rattle.cht_run.specs.Changes.{Made}
use Rattle.cht_run.specs.Ended.{Ended, KeepsFields, KeepsWork, Only}
use Rattle.cht_run.specs.Ends.{HasNothing, IsAlone}
use Rattle.cht_run.specs.History.{draws_of, HasSeen, NoneBy, entries_by}
use Rattle.cht_run.specs.Seats.{Raw, Sits, history, draws, numbers, kids, IsOf}

-- WHAT A SPLIT SAYS

-- all numbers of the table are drawn
abbrev pub AllDrawn : ℕ → List Entry → Type 0
AllDrawn seats history = seats ≡ length (draws_of history) + 1

-- a seat has given away the seat of a number that it has drawn: the last one of all that it has seen drawn, which nobody had, and by which
-- nothing was done
pub record Parted (cht : Cht) (old new child : Seat) : Type 0 where
  pub of : IsOf cht new × IsOf cht child
  pub fields : KeepsFields old new
  pub same_numbers : numbers new ≡ numbers old
  pub works : KeepsWork old new
  pub out : kids new ≡ child.number ∷ kids old
  -- all that the seat has seen since; of its numbers there is this draw alone
  pub window : List Entry
  pub whole : history new ≡ history old ++ window
  pub own : entries_by (numbers old) window ≡ entry.Drew old.number child.number ∷ []
  pub alone : IsAlone old → entries_by (numbers old) window ≡ window
  pub sees : HasSeen cht.origin.table (history new)
  -- the number
  pub inside : child.number < cht.origin.table.shape.seats
  pub last : child.number ≡ length (draws new)
  pub unused : NoneBy (child.number ∷ []) (history new)
  -- and its seat
  pub seat : numbers child ≡ child.number ∷ []
  pub no_kids : kids child ≡ []
  pub no_passed : child.passed ≡ 0
  pub free : HasNothing child
  pub same : history child ≡ history new

-- a seat has drawn no number, since it has then seen all of them drawn
pub record IsLeftOut (cht : Cht) (old new : Seat) : Type 0 where
  pub of : IsOf cht new
  pub fields : KeepsFields old new
  pub works : KeepsWork old new
  pub ended : Ended cht.origin.table old new (Only []) (λ seen window. AllDrawn cht.origin.table.shape.seats (history new))

-- ON ITS WAY

-- the number of drawn seats was loaded, or raised
abbrev pub counted : ℕ → ℕ → CallStage
counted seats word = if nat_le seats word then stage.Answered answer.SeatsSpent else stage.Draw draw.Add

-- a number was drawn
pub record Drawn (cht : Cht) (b : Sight) (r : Request) (raw : Raw) (w : Along) (n : ℕ) : Type 0 where
  pub sits : Sits cht raw
  pub number : raw.me.0.number ≡ b.number
  pub numbers : raw.me.0.numbers ≡ b.numbers
  pub kids : raw.me.0.kids ≡ n ∷ b.kids
  pub given : raw.me.0.given ≡ Some (first_own b.origin.table.shape n)
  pub is : raw.me.0.seat ≡ doing.Running (at_stage b (asked_of r) w (stage.Answered (answer.Split n)))
  pub window : List Entry
  pub whole : raw.me.0.history ≡ b.history ++ window
  pub own : entries_by b.numbers window ≡ entry.Drew b.number n ∷ []
  pub alone : b.kids ≡ [] → is_among b.numbers 0 ≡ true → entries_by b.numbers window ≡ window
  pub sees : HasSeen b.origin.table raw.me.0.history
  pub inside : n < b.origin.table.shape.seats
  pub last : n ≡ length (draws_of raw.me.0.history)
  pub unused : NoneBy (n ∷ []) raw.me.0.history

-- a number was drawn, or none is left
abbrev pub DrawnAs : Cht → Sight → Call → Request → Raw → Along → Option ℕ → Type 0
DrawnAs cht b c r raw w None = At cht b c r raw w (stage.Answered answer.SeatsSpent) × Made b raw.me.0 [] × AllDrawn b.origin.table.shape.seats raw.me.0.history
DrawnAs cht b c r raw w (Some n) = Drawn cht b r raw w n
