-- The visible events that an answer stands for.
use Rattle.std.specs.Prelude.{ℕ, List, [], ◌∷◌}
use Rattle.intern_log.specs.declared.event.Handle.{Handle}
use Rattle.intern_log.specs.declared.event.Kind.{Kind}
use Rattle.intern_log.specs.declared.event.Kind.TheVariants.{Counted, Weak}
use Rattle.intern_log.specs.declared.event.What.{What}
use Rattle.intern_log.specs.declared.event.What.TheVariants as what
use Rattle.atomic_step.specs.declared.answer.Answer.{Answer}
use Rattle.atomic_step.specs.declared.answer.Answer.TheVariants as answer
use Rattle.call_machine.specs.declared.stage.Asked.{Asked}
use Rattle.call_machine.specs.declared.stage.Calling.{Calling}
use Rattle.call_machine.specs.declared.stage.CallStage.{CallStage}
use Rattle.call_machine.specs.declared.stage.CallStage.TheVariants as stage
use Rattle.call_machine.specs.declared.leave.LeaveStage.{LeaveStage}
use Rattle.call_machine.specs.declared.leave.LeaveStage.TheVariants as leave
use Rattle.call_machine.specs.declared.leave.Then.{Then}
use Rattle.call_machine.specs.declared.leave.Then.TheVariants as next

-- the visible events that an answer stands for
abbrev pub hit_event : Kind → List ℕ → Handle → What
hit_event Counted text h = what.Take text h
hit_event Weak text h = what.Found text h

abbrev pub stands_for : Asked → Answer → List What
stands_for q (answer.Created h) = what.Create q.text h ∷ []
stands_for q (answer.Taken h) = what.Take q.text h ∷ []
stands_for q (answer.Found h) = what.Found q.text h ∷ []
stands_for q (answer.Hit h) = hit_event q.kind q.text h ∷ []
stands_for q (answer.Dropped left) = what.Drop q.handle ∷ []
stands_for q answer.Permanent = what.Drop q.handle ∷ []
stands_for q answer.MadePermanent = what.Perm q.handle ∷ []
stands_for q answer.Killed = what.Kill q.handle ∷ []
stands_for q _ = []

-- the visible events that the call has made so far: those of the answer that it holds, from the deciding step on
abbrev pub made_then : Asked → Then → List What
made_then q (next.Answer a) = stands_for q a
made_then q next.TryAgain = []

abbrev pub then_of : LeaveStage → Then
then_of (leave.UndoCount h after) = after
then_of (leave.UndoClaim slot after) = after
then_of (leave.Close after) = after

abbrev pub made_at : Asked → CallStage → List What
made_at q (stage.Answered a) = stands_for q a
made_at q (stage.Leave s) = made_then q (then_of s)
made_at q _ = []

abbrev pub made_of : Calling → List What
made_of c = made_at c.asked c.stage

-- an event that a call may have: it locks nothing, unlinks nothing, begins no grace and changes no level
abbrev pub IsOfCall : What → Type 0
IsOfCall (what.Lock row bucket) = ⊥
IsOfCall (what.Unlock row bucket) = ⊥
IsOfCall (what.Unlink slot) = ⊥
IsOfCall what.Grace = ⊥
IsOfCall what.ResizeTaken = ⊥
IsOfCall what.ResizeGiven = ⊥
IsOfCall (what.Level level) = ⊥
IsOfCall _ = Unit {0}
