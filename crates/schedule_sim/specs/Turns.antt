-- What the lines of a script make of a table, each by its turn, and what they print.
use Rattle.std.specs.Prelude.{◌≡◌, ◌≢◌, ◌⊎◌, ℕ, zero, suc, ◌-◌, ◌≤◌, ◌<◌, ◌^◌, List, [], ◌∷◌, ◌++◌, map, length, Option, Some, None}
use Rattle.std.specs.Borrow.{Bor}
use Rattle.intern_log.specs.declared.event.Event.{Event}
use Rattle.intern_log.specs.Lawful.{IsLawful}
use Rattle.intern_log.specs.Short.{IsShort}
use Rattle.table_shape.specs.Shape.{words_of}
use Rattle.atomic_step.specs.declared.access.StepKind.{StepKind}
use Rattle.call_machine.specs.declared.call.Call.{Call}
use Rattle.call_machine.specs.declared.call.Call.TheVariants as call
use Rattle.cht_core.specs.declared.rehash.Rehashing.TheVariants as rehashing
use Rattle.cht_core.specs.declared.seat.Seat.{Seat}
use Rattle.cht_core.specs.declared.seat.Seat.TheVariants as doing
use Rattle.cht_core.specs.declared.state.Started.{Started}
use Rattle.cht_core.specs.declared.state.Started.TheVariants as begun
use Rattle.cht_core.specs.declared.state.Stepped.{Stepped}
use Rattle.cht_core.specs.declared.state.Stepped.TheVariants as stepped
use Rattle.cht_core.specs.declared.table.Table.{Table}
use Rattle.cht_core.specs.Past.{kind_of}
use Rattle.cht_core.specs.Runs.{Move, LeadsTo}
use Rattle.cht_core.specs.Runs as moves
use Rattle.cht_core.specs.State.{Core, CanStart, CanRehash, StartsAs, StepsAs, RehashesAs, seat_in, kind_next, opening_of}
use Rattle.schedule_sim.specs.declared.run.LineFault.{LineFault}
use Rattle.schedule_sim.specs.declared.run.LineFault.TheVariants as line_fault
use Rattle.schedule_sim.specs.declared.script.Asked.{Asked}
use Rattle.schedule_sim.specs.declared.script.Asked.TheVariants as asked
use Rattle.schedule_sim.specs.declared.script.Line.{Line}
use Rattle.schedule_sim.specs.declared.script.Line.TheVariants as line
use Rattle.schedule_sim.specs.declared.script.Numbered.{Numbered}
use Rattle.schedule_sim.specs.declared.script.Script.{Script}
use Rattle.schedule_sim.specs.declared.script.ScriptFault.{ScriptFault}
use Rattle.schedule_sim.specs.declared.script.ScriptFault.TheVariants as fault
use Rattle.schedule_sim.specs.Chains.{IsPresent, IsChain}
use Rattle.schedule_sim.specs.PrintedLines.{Printed, Tells, Answers, Shows, lines_of, events_among}

-- the call that a line asks for
abbrev pub Asks : Asked → Call → Type 0
Asks (asked.Intern text) c = (bytes : Bor (List ℕ)) × (c ≡ call.Intern bytes) × (bytes.now ≡ text.items)
Asks (asked.Lookup text) c = (bytes : Bor (List ℕ)) × (c ≡ call.Lookup bytes) × (bytes.now ≡ text.items)
Asks (asked.Drop slot generation) c = c ≡ call.Drop (record { slot = slot; generation = generation })
Asks (asked.Permanent slot generation) c = c ≡ call.Permanent (record { slot = slot; generation = generation })
Asks (asked.Kill slot generation) c = c ≡ call.Kill (record { slot = slot; generation = generation })
Asks asked.Clean c = c ≡ call.BeginClean
Asks asked.Grow c = c ≡ call.BeginGrow
Asks asked.Shrink c = c ≡ call.BeginShrink
Asks asked.Poll c = c ≡ call.PollWork

-- a call that needs no step prints its answer as it begins
abbrev pub Begins : ℕ → Started → List Printed → Type 0
Begins k begun.Started items = items ≡ []
Begins k (begun.Answered a) items = items ≡ Answers k a ∷ []
Begins k _ items = ⊥

-- what a step has come to: the answer, if it was the last of its call
abbrev pub answered : ℕ → Stepped → List Printed
answered k (stepped.Answered a) = Answers k a ∷ []
answered k _ = []

-- the kind of the next step of a seat's call: none where it has no running call
abbrev pub next_of : Core → ℕ → Option StepKind
next_of c k = kind_next (seat_in c.seats k)

-- a seat makes a step: first its events are printed, then its answer
pub record Steps (c : Core) (k : ℕ) (d : Core) (items : List Printed) : Type 0 where
  pub said : Stepped
  pub made : StepsAs c k (seat_in c.seats k) said d
  pub events : List Event
  pub log : d.log ≡ c.log ++ events
  pub printed : items ≡ map Tells events ++ answered k said

-- a call stops: it does not run, or its next step is of the kind
abbrev pub Stops : Option StepKind → Option StepKind → Type 0
Stops until next = (next ≡ None) ⊎ (next ≡ until)

-- a seat makes so many steps, while its call runs and the next step is not of the kind
abbrev pub Goes : Option StepKind → ℕ → ℕ → Core → List Printed → Core → Type 0
Goes until k zero c items d = (c ≡ d) × (items ≡ [])
Goes until k (suc n) c items d = (mid : Core) × (before after : List Printed) ×
    Goes until k n c before mid × ¬ (Stops until (next_of mid k)) × Steps mid k d after × (items ≡ before ++ after)

-- a seat's running call goes on until it has answered or the next step is of the kind
pub record GoesUntil (until : Option StepKind) (k : ℕ) (c : Core) (items : List Printed) (d : Core) : Type 0 where
  pub running : next_of c k ≢ None
  pub count : ℕ
  pub goes : Goes until k count c items d
  pub end : Stops until (next_of d k)

-- a seat's running call makes so many steps, or as many as it needs to answer
pub record GoesFor (steps k : ℕ) (c : Core) (items : List Printed) (d : Core) : Type 0 where
  pub running : next_of c k ≢ None
  pub count : ℕ
  pub most : count ≤ steps
  pub goes : Goes None k count c items d
  pub end : (count ≡ steps) ⊎ Stops None (next_of d k)

pub record Calls (k : ℕ) (what : Asked) (c : Core) (items : List Printed) (d : Core) : Type 0 where
  pub asked : Call
  pub asks : Asks what asked
  pub said : Started
  pub starts : StartsAs c k asked (seat_in c.seats k) said d
  pub printed : Begins k said items

pub record ShowsChain (row bucket : ℕ) (c : Core) (items : List Printed) (d : Core) : Type 0 where
  pub stays : d ≡ c
  pub present : IsPresent c.table.shape c.words row bucket
  pub texts : List (List ℕ)
  pub chain : IsChain c.table.shape c.words row bucket texts
  pub printed : items ≡ Shows row bucket texts ∷ []

pub record MakesAnew (c : Core) (items : List Printed) (d : Core) : Type 0 where
  pub made : RehashesAs c rehashing.Done d
  pub events : List Event
  pub log : d.log ≡ c.log ++ events
  pub printed : items ≡ map Tells events

-- what a line makes of a table by its turn, and prints
abbrev pub Turns : Line → Core → List Printed → Core → Type 0
Turns (line.Call k asks) = Calls k asks
Turns (line.Step k steps) = GoesFor steps k
Turns (line.Until k kind) = GoesUntil (Some kind) k
Turns (line.Run k) = GoesUntil None k
Turns (line.Chain row bucket) = ShowsChain row bucket
Turns line.Rehash = MakesAnew

-- the lines have their turns one after another
abbrev pub AllTurn : List Numbered → Core → List Printed → Core → Type 0
AllTurn [] c items d = (c ≡ d) × (items ≡ [])
AllTurn (l ∷ lines) c items d = (mid : Core) × (before after : List Printed) × Turns l.line c before mid × AllTurn lines mid after d × (items ≡ before ++ after)

-- the condition of a call of a seat between its calls is not met
abbrev pub IsNotMet : Core → Asked → Option Seat → Type 0
IsNotMet c asks None = Unit {0}
IsNotMet c asks (Some (doing.Running m)) = Unit {0}
IsNotMet c asks (Some (doing.Idle own)) = (asked : Call) × Asks asks asked × ¬ (CanStart c own asked)

-- no call begins: no seat has the number, or its call has not answered, or the condition of the call is not met
abbrev pub IsRefused : Core → Call → Option Seat → Type 0
IsRefused c asked (Some (doing.Idle own)) = ¬ (CanStart c own asked)
IsRefused c asked _ = Unit {0}

-- the handle is of no table
abbrev pub IsWide : Asked → Type 0
IsWide (asked.Drop slot generation) = 2 ^ 32 ≤ slot
IsWide (asked.Permanent slot generation) = 2 ^ 32 ≤ slot
IsWide (asked.Kill slot generation) = 2 ^ 32 ≤ slot
IsWide _ = ⊥

-- when a line is at fault as its turn comes: no seat has the number, or its call has not answered, or the condition of the call is not
-- met; the seat has no running call; the chain is not present; the table may not be made anew
abbrev pub IsAtFault : Line → Core → Type 0
IsAtFault (line.Call k asks) c = IsNotMet c asks (seat_in c.seats k)
IsAtFault (line.Step k steps) c = next_of c k ≡ None
IsAtFault (line.Until k kind) c = next_of c k ≡ None
IsAtFault (line.Run k) c = next_of c k ≡ None
IsAtFault (line.Chain row bucket) c = ¬ (IsPresent c.table.shape c.words row bucket)
IsAtFault line.Rehash c = ¬ (CanRehash c)

-- the table of a script
abbrev pub table_of : Script → Table
table_of s = record { kind = s.kind; shape = s.shape; first_counter = s.first_counter }

-- seat 0 draws one number; and so many, one after the other
abbrev pub a_draw : List Move
a_draw = moves.Start 0 call.Split ∷ moves.Step 0 ∷ moves.Step 0 ∷ []

abbrev pub draws : ℕ → List Move
draws zero = []
draws (suc n) = draws n ++ a_draw

-- the state before the first line: in a new table seat 0 has drawn all numbers but its own, and nothing else has happened
abbrev pub Opens : Script → Core → Type 0
Opens s c = LeadsTo (opening_of (table_of s)) (draws (s.shape.seats - 1)) c

-- each number below a bound is drawn
abbrev pub AreDrawn : ℕ → Core → Type 0
AreDrawn seats c = (k : ℕ) → k < seats → seat_in c.seats k ≢ None

-- a run of a whole script: its lines have their turns, and the events that are printed are the whole log, which is lawful while it has few Creates
pub record Runs (s : Script) (text : List ℕ) : Type 0 where
  pub first : Core
  pub last : Core
  pub items : List Printed
  pub opens : Opens s first
  pub turns : AllTurn s.lines.items first items last
  pub printed : text ≡ lines_of items
  pub log : last.log ≡ events_among items
  pub lawful : IsShort last.log → IsLawful (kind_of (table_of s)) last.log

-- the lines have their turns up to the first one that is at fault as its turn comes
pub record FailsIn (lines : List Numbered) (first : Core) (number : ℕ) : Type 0 where
  pub last : Core
  pub items : List Printed
  pub before : List Numbered
  pub at : Numbered
  pub after : List Numbered
  pub parts : lines ≡ before ++ at ∷ after
  pub turns : AllTurn before first items last
  pub fault : IsAtFault at.line last
  pub numbered : number ≡ at.number

-- so does a whole script
pub record FailsAt (s : Script) (number : ℕ) : Type 0 where
  pub first : Core
  pub opens : Opens s first
  pub fails : FailsIn s.lines.items first number

-- only a line that is at fault is named; want of memory comes at any time
abbrev pub IsFaultOf : Script → ScriptFault → Type 0
IsFaultOf s (fault.Line number) = FailsAt s number
IsFaultOf s fault.OutOfMemory = Unit {0}

abbrev pub IsFaultIn : List Numbered → Core → ScriptFault → Type 0
IsFaultIn lines c (fault.Line number) = FailsIn lines c number
IsFaultIn lines c fault.OutOfMemory = Unit {0}

-- the same of one line
abbrev pub Refuses : Line → Core → LineFault → Type 0
Refuses l c line_fault.AtFault = IsAtFault l c
Refuses l c line_fault.OutOfMemory = Unit {0}

-- the lines of what is printed are added to a text
abbrev pub Prints : (List Printed → Type 0) → List ℕ → List ℕ → Type 0
Prints Makes old new = (items : List Printed) × Makes items × (new ≡ old ++ lines_of items)

-- the log is lawful while it has few Creates
abbrev pub IsLegal : Core → Type 0
IsLegal c = IsShort c.log → IsLawful (kind_of c.table) c.log

-- a state of the table of a script
pub record Stands (s : Script) (c : Core) : Type 0 where
  pub table : c.table ≡ table_of s
  pub sized : length c.words ≡ words_of s.shape
  pub seats : length c.seats ≡ s.shape.seats
  pub lawful : IsLegal c

-- the table stays, it keeps its number of words, and its log stays lawful
pub record Keeps (c d : Core) : Type 0 where
  pub table : d.table ≡ c.table
  pub sized : length d.words ≡ length c.words
  pub seats : length d.seats ≡ length c.seats
  pub lawful : IsLegal c → IsLegal d
