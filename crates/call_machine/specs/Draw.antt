-- A split loads how many numbers were drawn, and draws one more.
use Rattle.std.specs.Prelude.{nat_le, if◌then◌else◌}
use Rattle.atomic_step.specs.declared.answer.Answer.TheVariants as answer
use Rattle.atomic_step.specs.declared.step.Step.TheVariants as step
use Rattle.atomic_step.specs.Turn.{Row, row}
use Rattle.call_machine.specs.declared.draw.DrawStage.{DrawStage}
use Rattle.call_machine.specs.declared.draw.DrawStage.TheVariants.{Load, Add}
use Rattle.call_machine.specs.declared.stage.Along.{Along}
use Rattle.call_machine.specs.declared.stage.Asked.{Asked}
use Rattle.call_machine.specs.declared.stage.CallStage.{CallStage}
use Rattle.call_machine.specs.declared.stage.CallStage.TheVariants as stage

abbrev pub draw_row : Asked → Along → DrawStage → Row (Along × CallStage)
draw_row q w Load = row step.LoadDraws (λ word. (w, if nat_le q.shape.seats word then stage.Answered answer.SeatsSpent else stage.Draw Add))
draw_row q w Add = row step.Draw (λ word. (w, stage.Answered (if nat_le q.shape.seats word then answer.SeatsSpent else answer.Split word)))
