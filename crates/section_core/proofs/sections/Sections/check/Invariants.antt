use Rattle.std.proofs.Common.{◌≡◌, ◌<◌, ℕ, None, false, get_or}
use Rattle.section_core.specs.Sections.{was_inside}
use Rattle.section_core.proofs.sections.Sections.check.Given as goal

-- the grace waits for none of the seats so far
abbrev pub invariant-loop-seat : goal.invariant-loop-seat
invariant-loop-seat l = (lower : ℕ) → lower < l.seat → was_inside l.number (get_or l.self-inside.entered.items lower None) ≡ false
