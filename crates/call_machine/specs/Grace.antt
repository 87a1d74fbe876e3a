-- Graces: the counter is raised, and the section word of each seat number is looked at.
use Rattle.std.specs.Prelude.{ℕ, ◌+◌, ◌^◌, ◌==◌, min, nat_le, if◌then◌else◌, Option, Some, None}
use Rattle.section_core.specs.Words.{waits_for}
use Rattle.atomic_step.specs.declared.answer.Answer.{Answer}
use Rattle.atomic_step.specs.declared.answer.Answer.TheVariants as answer
use Rattle.atomic_step.specs.declared.step.Step.TheVariants as step
use Rattle.atomic_step.specs.Turn.{Row, row}
use Rattle.call_machine.specs.declared.grace.Grace.{Grace}
use Rattle.call_machine.specs.declared.grace.GraceStage.{GraceStage}
use Rattle.call_machine.specs.declared.grace.GraceStage.TheVariants.{RaiseCounter, LoadSection}
use Rattle.call_machine.specs.declared.grace.Gracing.{Gracing}
use Rattle.call_machine.specs.declared.grace.Gracing.TheVariants.{Goes, Waits, Over}

-- the section word of a number was loaded: its section is waited for, or the next number comes
abbrev pub scanned : ℕ → Grace → ℕ → Grace × Gracing
scanned seats g word = if waits_for g.raised word then (g, Waits) else if g.next + 1 == seats then (g, Over) else (record g { next = g.next + 1 }, Goes)

abbrev pub grace_row : ℕ → Grace → GraceStage → Row (Grace × Gracing)
grace_row seats g RaiseCounter = row step.RaiseCounter (λ word. (record { raised = word + 2; next = 0 }, Goes))
grace_row seats g LoadSection = row (step.LoadSection g.next) (λ word. scanned seats g word)

-- where the last grace of a work raised the counter to 2^63 or more none is begun, and the work waits for good
abbrev pub held_back : ℕ → Option Answer
held_back raised = if nat_le (2 ^ 63) raised then Some (answer.PendingSeat 0) else None

-- one more grace is begun where the counter is raised; a count that has reached 2^64 - 1 stays
abbrev pub counts_grace : GraceStage → ℕ → ℕ
counts_grace RaiseCounter graces = min (graces + 1) 18446744073709551615
counts_grace LoadSection graces = graces
