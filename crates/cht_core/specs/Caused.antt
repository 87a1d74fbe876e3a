-- What any call has found out of its window so far, what it knows as it finds a word, and what causes its answer.
use Rattle.std.specs.Prelude.{◌≡◌, ℕ, false, List, Some, IfSome}
use Rattle.intern_log.specs.declared.event.Event.{Event}
use Rattle.intern_log.specs.Now.{owner_of}
use Rattle.atomic_step.specs.declared.answer.Answer.{Answer}
use Rattle.atomic_step.specs.declared.answer.Answer.TheVariants as answer
use Rattle.atomic_step.specs.declared.count.Change.TheVariants as change
use Rattle.call_machine.specs.declared.call.Call.{Call}
use Rattle.call_machine.specs.declared.call.Call.TheVariants as call
use Rattle.call_machine.specs.declared.machine.Machine.{Machine}
use Rattle.call_machine.specs.declared.machine.Machine.TheVariants as machine
use Rattle.call_machine.specs.declared.machine.Own.{Own}
use Rattle.call_machine.specs.Begin.{left_of}
use Rattle.call_machine.specs.Sought.{is_too_long}
use Rattle.cht_core.specs.declared.table.Table.{Table}
use Rattle.cht_core.specs.Causes.{now_in, IsUnseen, IsSpent, BeginEnds, BeginCaused, BeginHears, SweepCaused, PollEnds, PollCaused, PollHears, IsResting}
use Rattle.cht_core.specs.CauseCalls.{Way, Walks, Changes, Reads, Splits, WasMade, CallEnds, CallCaused, CallHears, Owns, Did}
use Rattle.cht_core.specs.Flow.{Flow}
use Rattle.cht_core.specs.Past.{Past}

-- what a call is, as far as the causes of its answers go; the calls of works are none of these
abbrev pub way_of : Call → Way
way_of (call.Intern text) = Walks
way_of (call.Lookup text) = Walks
way_of (call.InternWait text) = Walks
way_of (call.TextOf h) = Reads
way_of (call.Drop h) = Changes change.Drop
way_of (call.Permanent h) = Changes change.Permanent
way_of (call.Kill h) = Changes change.Kill
way_of _ = Splits

-- what a call has found out
abbrev pub Caused : Table → ℕ → Way → List Event → List Event → ℕ → Machine → Type 0
Caused t i way seen window load (machine.Call c w g) = Owns i window c × CallCaused t i way seen window load c.asked c.along c.stage
Caused t i way seen window load (machine.Begin b) = IsUnseen i window × BeginCaused t i seen window b.stage
Caused t i way seen window load (machine.Poll p) = IsUnseen i window × PollCaused t i seen window load p.work p.answer
Caused t i way seen window load (machine.Sweep s) = IsUnseen i window × SweepCaused t seen window s.stage

-- what it knows as it finds a word, beside what the word says
abbrev pub Hears : Table → Past → Flow → ℕ → ℕ → List Event → Machine → ℕ → Type 0
Hears t p f i load log (machine.Call c w g) word = CallHears t p f i load log c.asked c.along c.stage word
Hears t p f i load log (machine.Begin b) word = BeginHears p i b.stage
Hears t p f i load log (machine.Poll q) word = PollHears t p f i load log q.work q.answer word
Hears t p f i load log (machine.Sweep s) word = Unit {0}

-- what a call needs as it begins: a text that is looked up is not too long, a handle was created, and an unfinished work rests and its seat
-- has the resize lock
abbrev pub MayCause : Table → ℕ → List Event → Own → Call → Type 0
MayCause t i seen own (call.Lookup text) = is_too_long t.shape text.now ≡ false
MayCause t i seen own (call.TextOf h) = WasMade t seen h
MayCause t i seen own (call.Drop h) = WasMade t seen h
MayCause t i seen own (call.Permanent h) = WasMade t seen h
MayCause t i seen own (call.Kill h) = WasMade t seen h
MayCause t i seen own call.PollWork = IfSome own.work (λ w. IsResting w × (owner_of (now_in t seen).resizing ≡ Some i))
MayCause t i seen own _ = Unit {0}

-- why a sweep answers so: as the beginning of a work it may be refused
abbrev pub SweepEnds : Table → List Event → List Event → Answer → Type 0
SweepEnds t seen window (answer.Spent counter) = IsSpent t seen window counter
SweepEnds t seen window _ = Unit {0}

-- the cause of the answer of a machine that has answered, and what the call did itself
abbrev pub Cause : Table → ℕ → Way → List Event → List Event → Machine → Answer → Type 0
Cause t i way seen window (machine.Call c w g) a = Did i window c.asked a × CallEnds t i way c.asked seen window a
Cause t i way seen window (machine.Begin b) a = IsUnseen i window × BeginEnds t i seen window a (left_of b.stage)
Cause t i way seen window (machine.Poll p) a = IsUnseen i window × PollEnds t i seen window p.work a
Cause t i way seen window (machine.Sweep s) a = IsUnseen i window × SweepEnds t seen window a
