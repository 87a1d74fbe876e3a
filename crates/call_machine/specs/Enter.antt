-- Opening a section.
use Rattle.std.specs.Prelude.{ℕ, Option, Some, None}
use Rattle.atomic_step.specs.declared.step.Step.TheVariants as step
use Rattle.atomic_step.specs.Turn.{Row, row}
use Rattle.call_machine.specs.declared.enter.EnterStage.{EnterStage}
use Rattle.call_machine.specs.declared.enter.EnterStage.TheVariants.{LoadCounter, OpenSection}

-- the next stage, or none inside the section
abbrev pub enter_row : ℕ → EnterStage → Row (Option EnterStage)
enter_row number LoadCounter = row step.LoadCounter (λ word. Some (OpenSection word))
enter_row number (OpenSection counter) = row (step.OpenSection number counter) (λ word. None)
