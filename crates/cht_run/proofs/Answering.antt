-- Which answers an intern gives.
use Rattle.std.proofs.Common.{◌≡◌, refl, sym, subst}
use Rattle.intern_log.specs.declared.event.Handle.{Handle}
use Rattle.intern_log.specs.declared.event.Kind.{Kind}
use Rattle.intern_log.specs.declared.event.Kind.TheVariants.{Counted, Weak}
use Rattle.atomic_step.specs.declared.answer.Answer.{Answer}
use Rattle.atomic_step.specs.declared.answer.Answer.TheVariants as answer
use Rattle.call_machine.specs.declared.stage.Goal.{Goal}
use Rattle.call_machine.specs.declared.stage.Goal.TheVariants.{Intern, InternWait}
use Rattle.call_machine.specs.Node.{met}
use Rattle.cht_run.specs.declared.node.Meeting.TheVariants as meeting
use Rattle.cht_run.specs.InternWaits.{IsWaitAnswer}
use Rattle.cht_run.specs.Walked.{IsInsertAnswer, IsInternAnswer}
use Rattle.cht_run.specs.Walks.{Meets}

-- one that has found no entry
pub insert_answers : (kind : Kind) (a : Answer) → IsInsertAnswer a → IsInternAnswer kind a
insert_answers kind (answer.Created h) is = is
insert_answers kind answer.NoSlot is = is
insert_answers kind answer.Locked is = is
insert_answers kind answer.Again is = is
insert_answers kind _ is = absurd is

-- one that has met the entry
met_answers : (kind : Kind) (h : Handle) → IsInternAnswer kind (met kind Intern h)
met_answers Counted h = refl
met_answers Weak h = refl

pub meeting_answers : (kind : Kind) (g : Goal) (a : Answer) → g ≡ Intern → Meets kind g (meeting.Met a) → IsInternAnswer kind a
meeting_answers kind g a is meets = subst (IsInternAnswer kind) (sym meets.1) (subst (λ (x : Goal). IsInternAnswer kind (met kind x meets.0)) (sym is) (met_answers kind meets.0))

-- and the same of one that waits
met_waits : (kind : Kind) (h : Handle) → IsWaitAnswer kind (met kind InternWait h)
met_waits Counted h = refl
met_waits Weak h = refl

pub meeting_waits : (kind : Kind) (g : Goal) (a : Answer) → g ≡ InternWait → Meets kind g (meeting.Met a) → IsWaitAnswer kind a
meeting_waits kind g a is meets = subst (IsWaitAnswer kind) (sym meets.1) (subst (λ (x : Goal). IsWaitAnswer kind (met kind x meets.0)) (sym is) (met_waits kind meets.0))
