-- What a check tells.
use Rattle.std.specs.Prelude.{ℕ}
use Rattle.section_core.specs.declared.sections.PlainCheck.{PlainCheck}
use Rattle.section_core.specs.declared.sections.PlainCheck.TheVariants.{Ready, Pending}

-- where the grace has to wait, this is so of it and of the seat
abbrev pub IfPending : PlainCheck → (ℕ → ℕ → Type 0) → Type 0
IfPending Ready P = Unit {0}
IfPending (Pending grace seat) P = P grace seat
