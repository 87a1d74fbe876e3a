-- A sweep from its beginning to its end, and what follows its events.
use Rattle.std.specs.Prelude.{◌≡◌, ℕ, ◌+◌, ◌^◌, ◌<◌, ◌≤◌, min, Bool, true, false, List, [], drop, Option, Some, None}
use Rattle.intern_log.specs.declared.event.What.{What}
use Rattle.intern_log.specs.declared.event.What.TheVariants as what
use Rattle.atomic_step.specs.declared.answer.Answer.{Answer}
use Rattle.atomic_step.specs.declared.answer.Answer.TheVariants as answer
use Rattle.atomic_step.specs.declared.plan.Plan.TheVariants as plan
use Rattle.atomic_step.specs.Monitor.{after_all}
use Rattle.atomic_step.specs.Run.{Machine, AreFitting, after_words, events_of_words}
use Rattle.call_machine.specs.declared.caller.Caller.{Caller}
use Rattle.call_machine.specs.declared.find.FindStage.{FindStage}
use Rattle.call_machine.specs.declared.find.FindStage.TheVariants.{Enter}
use Rattle.call_machine.specs.declared.pass.Cleaning.{Cleaning}
use Rattle.call_machine.specs.declared.pass.PassStage.TheVariants.{Unlink}
use Rattle.call_machine.specs.declared.sweep.Closing.TheVariants as closing
use Rattle.call_machine.specs.declared.sweep.Sweeping.{Sweeping}
use Rattle.call_machine.specs.declared.sweep.SweepStage.{SweepStage}
use Rattle.call_machine.specs.declared.sweep.SweepStage.TheVariants as stage
use Rattle.call_machine.specs.Caller.{IsSoundCaller}
use Rattle.call_machine.specs.SoundSweep.{FitsSweep}
use Rattle.call_machine.specs.Sweep.{begun_sweep, sweep_plan, sweep_got, sweep_event}
use Rattle.call_machine.specs.WholeClean.{due_in_pass, freed_in, slots_of}
use Rattle.call_machine.specs.WorkMonitor.{unlinks}

-- sweeps as one machine
abbrev pub sweeps : Machine Sweeping
sweeps = record { got = sweep_got; event = sweep_event; Fits = λ s word. (word < 2 ^ 64) × FitsSweep s word }

-- a sweep is inside its section from its opening until it is closed
abbrev pub is_inside_finding : FindStage → Bool
is_inside_finding (Enter s) = false
is_inside_finding _ = true

abbrev pub is_inside_at : SweepStage → Bool
is_inside_at (stage.Find s) = is_inside_finding s
is_inside_at stage.Lock = true
is_inside_at (stage.Close why) = true
is_inside_at _ = false

-- the bucket that it has locked
abbrev pub locked_at : Cleaning → SweepStage → Option (ℕ × ℕ)
locked_at c (stage.Close closing.Clean) = Some (c.row, c.bucket)
locked_at c (stage.Pass s) = Some (c.row, c.bucket)
locked_at c stage.UnlockHead = Some (c.row, c.bucket)
locked_at c _ = None

-- how many slots it has unlinked: none before its bucket is locked
abbrev pub unlinked_at : Cleaning → SweepStage → ℕ
unlinked_at c stage.Check = 0
unlinked_at c (stage.Find s) = 0
unlinked_at c stage.Lock = 0
unlinked_at c (stage.Close closing.Again) = 0
unlinked_at c (stage.Answered (answer.Spent counter)) = 0
unlinked_at c _ = c.unlinked

-- the slots that still wait, from the time on that its bucket is locked
abbrev pub still_waiting : Cleaning → SweepStage → List ℕ
still_waiting c (stage.Free s) = slots_of (drop (freed_in s) c.waiting.items)
still_waiting c (stage.Close closing.Clean) = slots_of c.waiting.items
still_waiting c (stage.Pass s) = slots_of c.waiting.items
still_waiting c stage.UnlockHead = slots_of c.waiting.items
still_waiting c (stage.Grace s) = slots_of c.waiting.items
still_waiting c _ = []

abbrev pub is_inside : Sweeping → Bool
is_inside s = is_inside_at s.stage

abbrev pub has_locked : Sweeping → Option (ℕ × ℕ)
has_locked s = locked_at s.along.cleaning s.stage

abbrev pub unlinked : Sweeping → ℕ
unlinked s = unlinked_at s.along.cleaning s.stage

abbrev pub waiting_slots : Sweeping → List ℕ
waiting_slots s = still_waiting s.along.cleaning s.stage

-- the event of the step, except where it unlinks a slot of the last generation, which is never freed
abbrev pub due_at : SweepStage → Option What → Option What
due_at (stage.Pass s) e = due_in_pass s
due_at _ e = e

abbrev pub due_event : Sweeping → ℕ → Option What
due_event s word = due_at s.stage (sweep_event s word)

-- sweeps with these events alone
abbrev pub due_sweeps : Machine Sweeping
due_sweeps = record sweeps { event = due_event }

-- from the beginning on what is seen of a sweep follows its events
abbrev pub Follows : {F : Type 0} → Machine Sweeping → (F → What → Option F) → (Sweeping → F) → Type 0
Follows machine m seen = (caller : Caller) (hash : ℕ) (words : List ℕ) → IsSoundCaller caller → AreFitting machine (begun_sweep caller hash) words →
    after_all m (Some (seen (begun_sweep caller hash))) (events_of_words machine (begun_sweep caller hash) words) ≡ Some (seen (after_words machine (begun_sweep caller hash) words))

-- the events of a sweep that has answered lead a monitor back to where it was
abbrev pub EndsWith : {F : Type 0} → Machine Sweeping → (F → What → Option F) → F → Type 0
EndsWith machine m from = (caller : Caller) (hash : ℕ) (words : List ℕ) (a : Answer) → IsSoundCaller caller → AreFitting machine (begun_sweep caller hash) words →
    sweep_plan (after_words machine (begun_sweep caller hash) words) ≡ plan.Answered a → after_all m (Some from) (events_of_words machine (begun_sweep caller hash) words) ≡ Some from

-- the answer tells how many slots were unlinked, or that the counter has reached 2^48, with none
abbrev pub IsToldOf : ℕ → Answer → Type 0
IsToldOf count (answer.Swept told) = told ≡ min count 4294967295
IsToldOf count (answer.Spent counter) = (2 ^ 48 ≤ counter) × (count ≡ 0)
IsToldOf count _ = ⊥

abbrev pub TellsItsUnlinks : Type 0
TellsItsUnlinks = (caller : Caller) (hash : ℕ) (words : List ℕ) (a : Answer) → IsSoundCaller caller → AreFitting sweeps (begun_sweep caller hash) words →
    sweep_plan (after_words sweeps (begun_sweep caller hash) words) ≡ plan.Answered a →
    (count : ℕ) × (after_all unlinks (Some 0) (events_of_words sweeps (begun_sweep caller hash) words) ≡ Some count) × IsToldOf count a

-- the step unlinks a slot of the last generation
abbrev pub IsLastGeneration : SweepStage → Type 0
IsLastGeneration (stage.Pass (Unlink slot g next)) = 2 ^ 48 ≤ g + 1
IsLastGeneration _ = ⊥

-- the events of a sweep
abbrev pub IsSweepEvent : Option What → Type 0
IsSweepEvent None = Unit {0}
IsSweepEvent (Some (what.Open counter)) = Unit {0}
IsSweepEvent (Some what.Close) = Unit {0}
IsSweepEvent (Some (what.Lock row bucket)) = Unit {0}
IsSweepEvent (Some (what.Unlock row bucket)) = Unit {0}
IsSweepEvent (Some (what.Unlink slot)) = Unit {0}
IsSweepEvent (Some (what.Free slot)) = Unit {0}
IsSweepEvent (Some what.Grace) = Unit {0}
IsSweepEvent _ = ⊥
