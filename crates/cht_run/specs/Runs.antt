-- A call that is run by its machine: which words it found, where it found them, and what its seat did.
use Rattle.std.specs.Prelude.{◌≡◌, ℕ, List, [], ◌∷◌, ◌++◌}
use Rattle.intern_log.specs.declared.event.Event.{Event}
use Rattle.table_shape.specs.declared.shape.Shape.{Shape}
use Rattle.atomic_step.specs.declared.plan.Plan.{Plan}
use Rattle.atomic_step.specs.declared.plan.Plan.TheVariants as plan
use Rattle.atomic_step.specs.Step.{access_of}
use Rattle.atomic_step.specs.Table.{IsWordAt}
use Rattle.atomic_step.specs.Run.{AreFitting, after_words}
use Rattle.call_machine.specs.declared.call.Call.{Call}
use Rattle.call_machine.specs.declared.call.Call.TheVariants as call
use Rattle.call_machine.specs.declared.machine.Machine.{Machine}
use Rattle.call_machine.specs.declared.machine.Machine.TheVariants as machine
use Rattle.call_machine.specs.Machine.{plan_of, got_of, event_of, shape_of}
use Rattle.call_machine.specs.WholeMachine.{machines}
use Rattle.cht_core.specs.declared.table.Table.{Table}
use Rattle.cht_core.specs.Causes.{PlanSays, now_in}
use Rattle.cht_core.specs.Flow.{Flow}
use Rattle.cht_core.specs.Invariant.{events_of}
use Rattle.cht_core.specs.Past.{past_of}
use Rattle.cht_core.specs.Windows.{whats_by}
use Rattle.call_machine.specs.declared.poll.Polling.{Polling}
use Rattle.cht_core.specs.PollMeasure.{IsOnPollOf}
use Rattle.cht_run.specs.declared.sight.Sight.{Sight}
use Rattle.cht_run.specs.Begins.{first_of}
use Rattle.cht_run.specs.Calls.{Went}
use Rattle.cht_run.specs.History.{log_of}
use Rattle.cht_run.specs.Unlinks.{MachineUnlinks}

-- the word can stand where the next step of a plan finds it
abbrev pub CanStand : Shape → Plan → ℕ → Type 0
CanStand shape (plan.Step s) word = IsWordAt shape (access_of s).place word
CanStand shape (plan.Answered a) word = Unit {0}

-- what the word says that the next step of a machine finds at the end of a log, and that a slot which it unlinks is of its bucket
abbrev pub SaysAt : Table → Machine → ℕ → List Event → Type 0
SaysAt t m word log = (f : Flow) × PlanSays t (past_of t.shape.min_level log) f (plan_of m) word × CanStand t.shape (plan_of m) word × MachineUnlinks (now_in t log) m

-- the steps of a machine found these words, one after another, at places of the window; after each comes its event, and nothing else there is by the seat
abbrev pub Finds : Table → ℕ → Machine → List ℕ → List Event → List Event → Type 0
Finds t i m [] seen window = whats_by i window ≡ []
Finds t i m (word ∷ words) seen window = (between rest : List Event) × (window ≡ between ++ (events_of i (event_of m word) ++ rest)) × (whats_by i between ≡ []) × SaysAt t m word (seen ++ between)
    × Finds t i (got_of m word) words ((seen ++ between) ++ events_of i (event_of m word)) rest

-- the call that a seat began has come to a machine, by the words that it found in its window
pub record Ran (b : Sight) (c : Call) (v : Sight) (m : Machine) : Type 0 where
  pub went : Went b c v m
  pub words : List ℕ
  pub fitting : AreFitting machines (first_of b c) words
  pub leads : after_words machines (first_of b c) words ≡ m
  pub finds : Finds b.origin.table b.number (first_of b c) words (log_of b.history) (log_of went.window)

-- the call begins a clean, a grow, a shrink, a grace or a sweep: it loads the counter first
abbrev pub IsBeginCall : Call → Type 0
IsBeginCall call.BeginClean = Unit {0}
IsBeginCall call.BeginGrow = Unit {0}
IsBeginCall call.BeginShrink = Unit {0}
IsBeginCall call.BeginGrace = Unit {0}
IsBeginCall (call.Sweep text) = Unit {0}
IsBeginCall _ = ⊥

-- the call polls what a seat has unfinished
abbrev pub IsPollCall : Call → Type 0
IsPollCall call.PollWork = Unit {0}
IsPollCall call.PollGrace = Unit {0}
IsPollCall _ = ⊥

-- it is the poll of a work of a table of this shape, and its clean has made few full passes
pub record IsPolling (shape : Shape) (m : Machine) : Type 0 where
  pub poll : Polling
  pub is : m ≡ machine.Poll poll
  pub shape_is : shape_of m ≡ shape
  pub on : IsOnPollOf shape m
