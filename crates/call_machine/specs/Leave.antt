-- Leaving a section: a slot that was claimed in vain is given back, and the section is closed.
use Rattle.std.specs.Prelude.{Option, Some, None}
use Rattle.intern_log.specs.declared.event.Handle.{Handle}
use Rattle.atomic_step.specs.declared.answer.Answer.{Answer}
use Rattle.atomic_step.specs.declared.step.Step.TheVariants as step
use Rattle.call_machine.specs.declared.stage.Along.{Along}
use Rattle.call_machine.specs.declared.stage.Asked.{Asked}
use Rattle.call_machine.specs.declared.stage.CallStage.{CallStage}
use Rattle.call_machine.specs.declared.stage.CallStage.TheVariants as stage
use Rattle.call_machine.specs.declared.enter.EnterStage.TheVariants.{LoadCounter}
use Rattle.call_machine.specs.declared.find.FindStage.TheVariants.{Enter}
use Rattle.call_machine.specs.declared.stage.Goal.{Goal}
use Rattle.call_machine.specs.declared.stage.Goal.TheVariants.{InternWait}
use Rattle.call_machine.specs.declared.leave.LeaveStage.{LeaveStage}
use Rattle.call_machine.specs.declared.leave.LeaveStage.TheVariants.{UndoCount, UndoClaim, Close}
use Rattle.call_machine.specs.declared.leave.Then.{Then}
use Rattle.call_machine.specs.declared.leave.Then.TheVariants as next
use Rattle.atomic_step.specs.Turn.{Row, row}

-- the section is closed: the call answers, or finds its head anew
abbrev pub left_for : Along → Then → Along × CallStage
left_for w (next.Answer a) = (w, stage.Answered a)
left_for w next.TryAgain = (record w { walk = record w.walk { passed = 0 } }, stage.Find (Enter LoadCounter))

-- what each stage does
abbrev pub leave_row : Asked → Along → LeaveStage → Row (Along × CallStage)
leave_row q w (UndoCount h after) = row (step.PutCount h 0) (λ word. (w, stage.Leave (UndoClaim h.slot after)))
leave_row q w (UndoClaim slot after) = row (step.FreeSlot slot) (λ word. (record w { kept = None }, stage.Leave (Close after)))
leave_row q w (Close after) = row (step.CloseSection q.number) (λ word. left_for w after)

-- leaving to try again, and leaving with an answer: a slot that is kept is given back before
abbrev pub tries_again : CallStage
tries_again = stage.Leave (Close next.TryAgain)

abbrev pub leaves_with : Option Handle → Answer → CallStage
leaves_with None a = stage.Leave (Close (next.Answer a))
leaves_with (Some h) a = stage.Leave (UndoCount h (next.Answer a))

-- another was faster: the intern that waits tries again, and any other call answers
abbrev pub loses_with : Goal → Option Handle → Answer → CallStage
loses_with InternWait kept a = tries_again
loses_with _ kept a = leaves_with kept a
