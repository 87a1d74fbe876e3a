-- How calls end that begin a grace or a work, or poll a grace.
use Rattle.std.specs.Prelude.{◌≡◌, ℕ, ◌+◌, ◌*◌, ◌^◌, ◌<◌, ◌≤◌, List, [], ◌∷◌, ◌++◌, None, Some}
use Rattle.intern_log.specs.declared.event.Event.{Event}
use Rattle.intern_log.specs.declared.event.What.TheVariants as what
use Rattle.intern_log.specs.Now.{OpenSection}
use Rattle.call_machine.specs.declared.grace.Grace.{Grace as Gracing}
use Rattle.cht_core.specs.declared.table.Table.{Table}
use Rattle.cht_core.specs.Causes.{now_in, IsSpent, IsOpenBelow}
use Rattle.cht_core.specs.Past.{by}
use Rattle.cht_core.specs.Windows.{Somewhere}
use Rattle.cht_run.specs.declared.graces.BeganGrace.{BeganGrace}
use Rattle.cht_run.specs.declared.graces.BeganGrace.TheVariants as began
use Rattle.cht_run.specs.declared.graces.Grace.{Grace}
use Rattle.cht_run.specs.declared.graces.PolledGrace.{PolledGrace}
use Rattle.cht_run.specs.declared.graces.PolledGrace.TheVariants as polled
use Rattle.cht_run.specs.declared.seat.Seat.{Seat}
use Rattle.cht_run.specs.Ended.{Ended, Only}
use Rattle.cht_run.specs.Ends.{HasNothing}
use Rattle.cht_run.specs.Seats.{seen, work_of, grace_of}

-- the grace counter of a log; and at a place of the window it was not too great for a new grace, work or sweep
abbrev pub counter_in : Table → List Event → ℕ
counter_in t log = t.first_counter + 2 * (now_in t log).graces

abbrev pub IsUnspent : Table → List Event → List Event → Type 0
IsUnspent t seen window = Somewhere (λ log. counter_in t log < 2 ^ 48) seen window

-- the seat raised the counter to this value in the window
abbrev pub IsRaised : Table → ℕ → ℕ → List Event → List Event → Type 0
IsRaised t i raised seen window = (before rest : List Event) × (window ≡ before ++ by i what.Grace ∷ rest) × (raised ≡ counter_in t (seen ++ before) + 2)

-- after the counter had reached the value, the section of the number was not open with a counter below it
abbrev pub IsPassed : Table → ℕ → ℕ → List Event → Type 0
IsPassed t raised number log = (before rest : List Event) × (log ≡ before ++ rest) × (raised ≤ counter_in t before) × ¬ (IsOpenBelow t number raised before)

-- the section of the number was closed in a piece of a log
abbrev pub IsClosedIn : ℕ → List Event → Type 0
IsClosedIn number log = (before rest : List Event) × (log ≡ before ++ by number what.Close ∷ rest)

-- each section that was open as the counter was raised to the value has been closed since
abbrev pub HasClosed : Table → ℕ → List Event → Type 0
HasClosed t raised log = (front back : List Event) (i number : ℕ) (o : OpenSection) → log ≡ front ++ by i what.Grace ∷ back → raised ≡ counter_in t front + 2 → number < t.shape.seats → (now_in t front).section number ≡ Some o →
    IsClosedIn number back

-- the seat has begun the grace: the counter was raised for it, and it has passed the numbers before the next one
pub record IsGraceOf (t : Table) (grace : Grace) (seat : Seat) : Type 0 where
  pub state : Gracing
  pub unfinished : grace_of seat ≡ Some state
  pub no_work : work_of seat ≡ None
  pub is : grace.state ≡ state
  pub inside : state.next < t.shape.seats
  pub raised : state.raised ≤ counter_in t (seen seat)
  pub passed : (number : ℕ) → number < state.next → IsPassed t state.raised number (seen seat)

-- how a call ends that is to begin a grace
abbrev pub BeginsGrace : Table → Seat → Seat → BeganGrace → Type 0
BeginsGrace t old new (began.Spent counter) = HasNothing new × Ended t old new (Only []) (λ seen window. IsSpent t seen window counter)
BeginsGrace t old new (began.Begun grace) = (of : IsGraceOf t grace new) × Ended t old new (Only (what.Grace ∷ [])) (λ seen window. IsUnspent t seen window × IsRaised t old.number of.state.raised seen window)

-- the grace is over: each number was passed, and so each section that was open as it raised the counter was closed
abbrev pub IsOver : Table → ℕ → List Event → Type 0
IsOver t raised log = ((number : ℕ) → number < t.shape.seats → IsPassed t raised number log) × HasClosed t raised log

-- how the poll of a grace ends: it is over; or the section of a number is open from before
abbrev pub PollsGrace : Table → Gracing → Seat → Seat → PolledGrace → Type 0
PollsGrace t state old new polled.Ready = HasNothing new × Ended t old new (Only []) (λ seen window. IsOver t state.raised (seen ++ window))
PollsGrace t state old new (polled.Pending grace number) = (of : IsGraceOf t grace new) × (of.state.raised ≡ state.raised) × Ended t old new (Only []) (λ seen window. Somewhere (IsOpenBelow t number state.raised) seen window)
