-- Any call from its beginning to its answer, and who has the resize lock.
use Rattle.std.specs.Prelude.{◌≡◌, ◌^◌, ◌<◌, ◌⊎◌, Bool, true, false, is_some}
use Rattle.atomic_step.specs.Run as run
use Rattle.call_machine.specs.declared.begin.BeginStage.{BeginStage}
use Rattle.call_machine.specs.declared.begin.BeginStage.TheVariants as begin
use Rattle.call_machine.specs.declared.machine.Machine.{Machine}
use Rattle.call_machine.specs.declared.machine.Machine.TheVariants as machine
use Rattle.call_machine.specs.declared.machine.Own.{Own}
use Rattle.call_machine.specs.Begin.{is_work}
use Rattle.call_machine.specs.Machine.{got_of, event_of}
use Rattle.call_machine.specs.Poll.{work_left}
use Rattle.call_machine.specs.SoundMachine.{FitsMachine}

-- calls as machines that are told words of 64 bits
abbrev pub machines : run.Machine Machine
machines = record { got = got_of; event = event_of; Fits = λ m word. (word < 2 ^ 64) × FitsMachine m word }

-- a seat has the resize lock while it has a work; one that begins a grow or a shrink has it once the level is loaded
abbrev pub has_lock_at : BeginStage → Bool
has_lock_at (begin.LoadLevel d) = true
has_lock_at (begin.GiveResizeLock a) = true
has_lock_at (begin.Answered a l) = is_work l
has_lock_at _ = false

abbrev pub has_lock : Machine → Bool
has_lock (machine.Call c w g) = is_some w
has_lock (machine.Begin b) = has_lock_at b.stage
has_lock (machine.Poll p) = is_some (work_left p.work p.answer)
has_lock (machine.Sweep s) = false

-- a seat has not both a work and a grace unfinished
abbrev pub IsSingle : Own → Type 0
IsSingle own = (is_some own.work ≡ false) ⊎ (is_some own.grace ≡ false)
