-- Cleaning a locked bucket: its dead nodes are unlinked, and later their slots are freed.
use Rattle.std.specs.Prelude.{ℕ, ◌+◌, ◌^◌, ◌==◌, min, nat_lt, if◌then◌else◌, [], ◌∷◌, ◌++◌, length, slice_index_or, Option, Some, None}
use Rattle.marked_word.specs.Link.{node_of}
use Rattle.atomic_step.specs.declared.step.Edge.{Edge}
use Rattle.atomic_step.specs.declared.step.Edge.TheVariants as edge
use Rattle.atomic_step.specs.declared.step.Step.TheVariants as step
use Rattle.atomic_step.specs.Count.{holds_of, generation_of}
use Rattle.atomic_step.specs.Turn.{Row, row}
use Rattle.call_machine.specs.declared.pass.Cleaning.{Cleaning}
use Rattle.call_machine.specs.declared.pass.FreeStage.{FreeStage}
use Rattle.call_machine.specs.declared.pass.FreeStage.TheVariants.{PutNextGeneration, FreeSlot}
use Rattle.call_machine.specs.declared.pass.PassStage.{PassStage}
use Rattle.call_machine.specs.declared.pass.PassStage.TheVariants.{LoadCount, LoadLink, Unlink}
use Rattle.call_machine.specs.declared.pass.Waiting.{Waiting}

-- a bucket of which nothing is cleaned yet, and no slot waits
abbrev pub no_cleaning : ℕ → ℕ → Cleaning
no_cleaning row_of bucket_of = record { row = row_of; bucket = bucket_of; first = None; last = None; waiting = record { items = [] }; pass_waiting = 0; passed = 0; unlinked = 0 }

-- the bucket is locked: it is walked from its first node on, or has none
abbrev pub passes_on : Option ℕ → Option PassStage
passes_on None = None
passes_on (Some slot) = Some (LoadCount slot)

abbrev pub begins_pass : Cleaning → Option ℕ → Cleaning
begins_pass c first = record c { first = first; last = None; pass_waiting = 0; passed = 0 }

-- the generation of a dead node
abbrev pub dead_of : ℕ → Option ℕ
dead_of word = if holds_of word == 0 then Some (generation_of word) else None

-- the edge that leads to the present node: the link of the last one that stays, or where there is none the head
abbrev pub edge_behind : Cleaning → Option ℕ → Edge
edge_behind c None = edge.Head c.row c.bucket
edge_behind c (Some last) = edge.Link last

-- the first node behind an unlinked one, if none before it stays
abbrev pub first_behind : Option ℕ → Option ℕ → Option ℕ → Option ℕ
first_behind None first next = next
first_behind (Some last) first next = first

-- an unlinked slot waits to be freed; one of the last generation is never freed
abbrev pub waits : Cleaning → ℕ → ℕ → Cleaning
waits c slot generation =
    if nat_lt (generation + 1) (2 ^ 48) then record c { waiting = record { items = c.waiting.items ++ record { slot = slot; generation = generation } ∷ [] }; pass_waiting = c.pass_waiting + 1 }
    else c

-- the slot is out of its chain
abbrev pub unlinks : Cleaning → ℕ → ℕ → Option ℕ → Cleaning
unlinks c slot generation next = waits (record c { first = first_behind c.last c.first next; unlinked = min (c.unlinked + 1) 18446744073709551615 }) slot generation

-- the pass ends where 256 slots wait
abbrev pub after_unlink : Cleaning → Option ℕ → Option PassStage
after_unlink c next = if length c.waiting.items == 256 then None else passes_on next

-- one more node was looked at; a count that has reached 2^32 - 1 stays
abbrev pub looks_at : Cleaning → Cleaning
looks_at c = record c { passed = min (c.passed + 1) 4294967295 }

-- the next stage, or none where the pass is over
abbrev pub pass_row : Cleaning → PassStage → Row (Cleaning × Option PassStage)
pass_row c (LoadCount slot) = row (step.LoadCount slot) (λ word. (looks_at c, Some (LoadLink slot (dead_of word))))
pass_row c (LoadLink slot None) = row (step.LoadLink slot) (λ word. (record c { last = Some slot }, passes_on (node_of word)))
pass_row c (LoadLink slot (Some g)) = row (step.LoadLink slot) (λ word. (c, Some (Unlink slot g (node_of word))))
pass_row c (Unlink slot g next) = row (step.Unlink slot (edge_behind c c.last) next) (λ word. (unlinks c slot g next, after_unlink (unlinks c slot g next) next))

-- a slot that waits, and none that does
abbrev pub waiting_at : Cleaning → ℕ → Waiting
waiting_at c at = slice_index_or c.waiting.items at (record { slot = 0; generation = 0 })

abbrev pub all_freed : Cleaning → Cleaning
all_freed c = record c { waiting = record { items = [] }; pass_waiting = 0 }

-- the next stage, or none where no slot waits any more
abbrev pub free_row : Cleaning → FreeStage → Row (Cleaning × Option FreeStage)
free_row c (PutNextGeneration at) = row (step.PutNextGeneration (waiting_at c at).slot (waiting_at c at).generation) (λ word. (c, Some (FreeSlot at)))
free_row c (FreeSlot at) = row (step.FreeSlot (waiting_at c at).slot) (λ word. if at + 1 == length c.waiting.items then (all_freed c, None) else (c, Some (PutNextGeneration (at + 1))))
