-- A clean over all its polls, one after another, and what follows its events.
use Rattle.std.specs.Prelude.{◌≡◌, ℕ, ◌+◌, ◌^◌, ◌<◌, ◌≤◌, nat_lt, if◌then◌else◌, List, [], ◌∷◌, drop, map, Option, Some, None}
use Rattle.intern_log.specs.declared.event.What.{What}
use Rattle.intern_log.specs.declared.event.What.TheVariants as what
use Rattle.table_shape.specs.declared.shape.Shape.{Shape}
use Rattle.table_shape.specs.Shape.{IsSound}
use Rattle.atomic_step.specs.declared.answer.Answer.{Answer}
use Rattle.atomic_step.specs.declared.answer.Answer.TheVariants as answer
use Rattle.atomic_step.specs.declared.answer.Worked.{Worked}
use Rattle.atomic_step.specs.Event.{event_of}
use Rattle.atomic_step.specs.Monitor.{after_all}
use Rattle.atomic_step.specs.Run.{Machine, AreFitting, after_words, events_of_words}
use Rattle.atomic_step.specs.SoundStep.{IsLevel, CanFollow}
use Rattle.atomic_step.specs.Turn.{Row, Turn, Answered, Makes, plan_in, next_in, event_by}
use Rattle.call_machine.specs.declared.clean.CleanAlong.{CleanAlong}
use Rattle.call_machine.specs.declared.clean.CleanStage.{CleanStage}
use Rattle.call_machine.specs.declared.clean.CleanStage.TheVariants as stage
use Rattle.call_machine.specs.declared.pass.Cleaning.{Cleaning}
use Rattle.call_machine.specs.declared.pass.FreeStage.{FreeStage}
use Rattle.call_machine.specs.declared.pass.FreeStage.TheVariants.{PutNextGeneration, FreeSlot}
use Rattle.call_machine.specs.declared.pass.PassStage.{PassStage}
use Rattle.call_machine.specs.declared.pass.PassStage.TheVariants.{Unlink}
use Rattle.call_machine.specs.declared.pass.Waiting.{Waiting}
use Rattle.call_machine.specs.Clean.{Went, begun_clean, begins_poll, clean_row}

-- a poll that is pending is followed by the next one
abbrev pub polled_on : CleanAlong → CleanStage → Option Answer → Went
polled_on w s (Some (answer.PendingSeat seat)) = begins_poll w s
polled_on w s (Some (answer.PendingBucket row bucket)) = begins_poll w s
polled_on w s a = (w, s, a)

abbrev pub next_poll : Went → Went
next_poll went = polled_on went.0 went.1 went.2

-- a clean that has not answered makes its step
abbrev pub turn_by : {S : Type 0} → Row S → Option Answer → Turn S
turn_by does None = Makes does
turn_by does (Some a) = Answered a

abbrev pub clean_turn : Shape → Went → Turn Went
clean_turn shape c = turn_by (clean_row shape c.0 c.1) c.2

abbrev pub FitsClean : Shape → Went → ℕ → Type 0
FitsClean shape c word = (word < 2 ^ 64) × CanFollow shape (plan_in (clean_turn shape c)) word

-- cleans as one machine
abbrev pub cleans : Shape → Machine Went
cleans shape = record { got = λ c word. next_poll (next_in c (clean_turn shape c) word); event = λ c word. event_by [] (plan_in (clean_turn shape c)) word; Fits = FitsClean shape }

abbrev pub begun : ℕ → Went
begun level = (begun_clean level, stage.LoadLevel, None)

-- the bucket that a clean has locked: the present one, from its lock on until it is unlocked
abbrev pub locked_at : Cleaning → CleanStage → Option (ℕ × ℕ)
locked_at c (stage.Pass s) = Some (c.row, c.bucket)
locked_at c stage.UnlockHead = Some (c.row, c.bucket)
locked_at c _ = None

-- what the end of a clean is still to do
abbrev pub to_come : Option Answer → List What
to_come (Some (answer.Done did)) = []
to_come _ = what.ResizeGiven ∷ []

-- the slots that still wait: those of the batch that are not free yet
abbrev pub freed_in : FreeStage → ℕ
freed_in (PutNextGeneration at) = at
freed_in (FreeSlot at) = at

abbrev pub slots_of : List Waiting → List ℕ
slots_of items = map (λ (x : Waiting). x.slot) items

abbrev pub still_waiting : Cleaning → CleanStage → List ℕ
still_waiting c (stage.Free freeing s) = slots_of (drop (freed_in s) c.waiting.items)
still_waiting c _ = slots_of c.waiting.items

-- the event of a pass, except where it unlinks a slot of the last generation, which is never freed
abbrev pub due_in_pass : PassStage → Option What
due_in_pass (Unlink slot g next) = if nat_lt (g + 1) (2 ^ 48) then Some (what.Unlink slot) else None
due_in_pass _ = None

abbrev pub due_at : Shape → CleanAlong → CleanStage → ℕ → Option What
due_at shape w (stage.Pass s) word = due_in_pass s
due_at shape w s word = event_of [] (clean_row shape w s).step word

-- cleans with these events alone
abbrev pub due_cleans : Shape → Machine Went
due_cleans shape = record (cleans shape) { event = λ c word. due_at shape c.0 c.1 word }

-- what is seen of a clean: the bucket that it has locked, what it counts, what its end is still to do, and the slots that still wait
abbrev pub has_locked : Went → Option (ℕ × ℕ)
has_locked c = locked_at c.0.cleaning c.1

abbrev pub counted : Went → ℕ × ℕ
counted c = (c.0.cleaning.unlinked, c.0.graces)

abbrev pub end_to_come : Went → List What
end_to_come c = to_come c.2

abbrev pub waiting_slots : Went → List ℕ
waiting_slots c = still_waiting c.0.cleaning c.1

-- from the beginning on it follows the events
abbrev pub Follows : {F : Type 0} → (Shape → Machine Went) → (F → What → Option F) → (Went → F) → Type 0
Follows machine m seen = (shape : Shape) (level : ℕ) (words : List ℕ) → IsSound shape → IsLevel shape level → AreFitting (machine shape) (begun level) words →
    after_all m (Some (seen (begun level))) (events_of_words (machine shape) (begun level) words) ≡ Some (seen (after_words (machine shape) (begun level) words))

-- the events of a clean that is done lead a monitor from one state to another
abbrev pub EndsWith : {F : Type 0} → (Shape → Machine Went) → (F → What → Option F) → F → (Worked → F) → Type 0
EndsWith machine m from to = (shape : Shape) (level : ℕ) (words : List ℕ) (did : Worked) → IsSound shape → IsLevel shape level → AreFitting (machine shape) (begun level) words →
    (after_words (machine shape) (begun level) words).2 ≡ Some (answer.Done did) → after_all m (Some from) (events_of_words (machine shape) (begun level) words) ≡ Some (to did)

-- the step unlinks a slot of the last generation
abbrev pub IsLastGeneration : CleanStage → Type 0
IsLastGeneration (stage.Pass (Unlink slot g next)) = 2 ^ 48 ≤ g + 1
IsLastGeneration _ = ⊥

-- the events of a clean
abbrev pub IsCleanEvent : Option What → Type 0
IsCleanEvent None = Unit {0}
IsCleanEvent (Some (what.Lock row bucket)) = Unit {0}
IsCleanEvent (Some (what.Unlock row bucket)) = Unit {0}
IsCleanEvent (Some (what.Unlink slot)) = Unit {0}
IsCleanEvent (Some (what.Free slot)) = Unit {0}
IsCleanEvent (Some what.Grace) = Unit {0}
IsCleanEvent (Some what.ResizeGiven) = Unit {0}
IsCleanEvent _ = ⊥
