-- The machine of any call: what comes next, and what comes of the word that was found.
use Rattle.std.specs.Prelude.{◌≡◌, ℕ, Option, Some, None, List, []}
use Rattle.text_words.specs.Hash.{hash_of}
use Rattle.table_shape.specs.declared.shape.Shape.{Shape}
use Rattle.intern_log.specs.declared.event.Kind.{Kind}
use Rattle.intern_log.specs.declared.event.What.{What}
use Rattle.atomic_step.specs.declared.answer.Answer.TheVariants as answer
use Rattle.atomic_step.specs.declared.count.Change.TheVariants as change
use Rattle.atomic_step.specs.declared.plan.Plan.{Plan}
use Rattle.atomic_step.specs.declared.plan.Want.{Want}
use Rattle.atomic_step.specs.Turn as turn
use Rattle.atomic_step.specs.Turn.{Turn, map_turn, plan_in, next_in, event_by}
use Rattle.call_machine.specs.declared.begin.Left.{Left}
use Rattle.call_machine.specs.declared.begin.Left.TheVariants as left
use Rattle.call_machine.specs.declared.begin.Task.TheVariants as task
use Rattle.call_machine.specs.declared.call.Call.{Call}
use Rattle.call_machine.specs.declared.call.Call.TheVariants as call
use Rattle.call_machine.specs.declared.caller.Caller.{Caller}
use Rattle.call_machine.specs.declared.grace.Grace.{Grace}
use Rattle.call_machine.specs.declared.machine.Machine.{Machine}
use Rattle.call_machine.specs.declared.machine.Machine.TheVariants as machine
use Rattle.call_machine.specs.declared.machine.Own.{Own}
use Rattle.call_machine.specs.declared.stage.Calling.{Calling}
use Rattle.call_machine.specs.declared.stage.Goal.TheVariants as goal
use Rattle.call_machine.specs.declared.work.Work.{Work}
use Rattle.call_machine.specs.declared.work.Work.TheVariants as work
use Rattle.call_machine.specs.Begin.{begin_turn, begins, polls_grace, left_of, answers}
use Rattle.call_machine.specs.BeginCall.{begun_split, begun_walk, begun_change, begun_read}
use Rattle.call_machine.specs.Calls.{turn_at, goes_to}
use Rattle.call_machine.specs.Poll.{poll_turn, state_of, polling, begun_poll, work_left}
use Rattle.call_machine.specs.Sweep as sweeps
use Rattle.call_machine.specs.Work.{begun_work}

-- who calls
abbrev pub caller_of : Kind → Shape → ℕ → Own → Caller
caller_of kind shape seed own = record { kind = kind; shape = shape; seed = seed; number = own.number; cursor = own.cursor }

-- a try call, with what its seat has unfinished
abbrev pub beside : Own → Calling → Machine
beside own c = machine.Call c own.work own.grace

-- the polls of what is unfinished; a call that has nothing to poll is none that may start
abbrev pub nothing : Caller → Machine
nothing caller = machine.Begin (record { caller = caller; stage = answers answer.Ready })

abbrev pub begun_grace_poll : Caller → Option Grace → Machine
begun_grace_poll caller (Some g) = machine.Begin (polls_grace caller g)
begun_grace_poll caller None = nothing caller

abbrev pub begun_work_poll : Caller → Option Work → Machine
begun_work_poll caller (Some w) = machine.Poll (begun_poll caller w)
begun_work_poll caller None = nothing caller

-- each call at its first stage
abbrev pub starts : Caller → Own → Call → Machine
starts caller own call.Split = beside own (begun_split caller)
starts caller own (call.Intern text) = beside own (begun_walk caller goal.Intern text.now)
starts caller own (call.Lookup text) = beside own (begun_walk caller goal.Lookup text.now)
starts caller own (call.InternWait text) = beside own (begun_walk caller goal.InternWait text.now)
starts caller own (call.TextOf h) = beside own (begun_read caller h)
starts caller own (call.Drop h) = beside own (begun_change caller change.Drop h)
starts caller own (call.Permanent h) = beside own (begun_change caller change.Permanent h)
starts caller own (call.Kill h) = beside own (begun_change caller change.Kill h)
starts caller own call.BeginClean = machine.Begin (begins caller (Some task.Clean))
starts caller own call.BeginGrow = machine.Begin (begins caller (Some task.Grow))
starts caller own call.BeginShrink = machine.Begin (begins caller (Some task.Shrink))
starts caller own call.BeginGrace = machine.Begin (begins caller None)
starts caller own call.PollGrace = begun_grace_poll caller own.grace
starts caller own call.PollWork = begun_work_poll caller own.work
starts caller own (call.Sweep text) = machine.Sweep (sweeps.begun_sweep caller (hash_of caller.seed text.now))

abbrev pub started : Kind → Shape → ℕ → Own → Call → Machine
started kind shape seed own c = starts (caller_of kind shape seed own) own c

-- what each machine does; a try call leaves what its seat has unfinished
abbrev pub turn_of : Machine → Turn Machine
turn_of (machine.Call c w g) = map_turn (λ at. machine.Call (goes_to c.asked at) w g) (turn_at c.asked c.along c.stage)
turn_of (machine.Begin b) = map_turn (λ s. machine.Begin (record b { stage = s })) (begin_turn b.caller b.stage)
turn_of (machine.Poll p) = map_turn (λ at. machine.Poll (polling p.caller at)) (poll_turn p.caller (state_of p))
turn_of (machine.Sweep s) = map_turn (λ at. machine.Sweep (sweeps.goes_to s.asked at)) (sweeps.sweep_turn s.asked s.along s.stage)

-- the shape of the table, the number of the seat, and the text of the call: only a try call has one
abbrev pub shape_of : Machine → Shape
shape_of (machine.Call c w g) = c.asked.shape
shape_of (machine.Begin b) = b.caller.shape
shape_of (machine.Poll p) = p.caller.shape
shape_of (machine.Sweep s) = s.asked.caller.shape

abbrev pub number_of : Machine → ℕ
number_of (machine.Call c w g) = c.asked.number
number_of (machine.Begin b) = b.caller.number
number_of (machine.Poll p) = p.caller.number
number_of (machine.Sweep s) = s.asked.caller.number

abbrev pub text_of : Machine → List ℕ
text_of (machine.Call c w g) = c.asked.text
text_of _ = []

-- what comes next, what comes of the word that is found, and which event that is
abbrev pub plan_of : Machine → Plan
plan_of m = plan_in (turn_of m)

abbrev pub want_of : Machine → Want
want_of m = turn.want_of (shape_of m) (plan_of m)

abbrev pub got_of : Machine → ℕ → Machine
got_of m word = next_in m (turn_of m) word

abbrev pub event_of : Machine → ℕ → Option What
event_of m word = event_by (text_of m) (plan_of m) word

-- a seat with nothing unfinished, and with what a call has left
abbrev pub own_alone : Caller → Own
own_alone caller = record { number = caller.number; cursor = caller.cursor; work = None; grace = None }

abbrev pub grace_left : Left → Option Grace
grace_left (left.Grace g) = Some g
grace_left _ = None

abbrev pub own_begun : Caller → Left → Own
own_begun caller l = record { number = caller.number; cursor = caller.cursor; work = begun_work caller.shape l; grace = grace_left l }

-- what the seat has of its own
abbrev pub own_of : Machine → Own
own_of (machine.Call c w g) = record { number = c.asked.number; cursor = c.along.cursor; work = w; grace = g }
own_of (machine.Begin b) = own_begun b.caller (left_of b.stage)
own_of (machine.Poll p) = record (own_alone p.caller) { work = work_left p.work p.answer }
own_of (machine.Sweep s) = own_alone s.asked.caller

-- how many nodes the call passed since it last began to find its head
abbrev pub passed_of : Machine → ℕ
passed_of (machine.Call c w g) = c.along.walk.passed
passed_of _ = 0

-- the call is not one of readers or inserters, or by handle
abbrev pub IsOfWork : Machine → Type 0
IsOfWork (machine.Call c w g) = ⊥
IsOfWork _ = Unit {0}

-- a work after a step: still a clean, or a resize in its direction
abbrev pub IsSameWork : Work → Work → Type 0
IsSameWork (work.Clean c) (work.Clean d) = Unit {0}
IsSameWork (work.Resize r) (work.Resize q) = q.direction ≡ r.direction
IsSameWork _ _ = ⊥

-- a machine after a step: of the same call of the same seat; a try call leaves what its seat has unfinished
abbrev pub IsSameMachine : Machine → Machine → Type 0
IsSameMachine (machine.Call c w g) (machine.Call d later_work later_grace) = (d.asked ≡ c.asked) × (later_work ≡ w) × (later_grace ≡ g)
IsSameMachine (machine.Begin b) (machine.Begin d) = d.caller ≡ b.caller
IsSameMachine (machine.Poll p) (machine.Poll d) = (d.caller ≡ p.caller) × IsSameWork p.work d.work
IsSameMachine (machine.Sweep s) (machine.Sweep d) = d.asked ≡ s.asked
IsSameMachine _ _ = ⊥
