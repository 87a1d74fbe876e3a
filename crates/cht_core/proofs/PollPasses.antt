-- A poll of a work begins with few full passes, and goes on with few.
use Rattle.std.proofs.Common.{◌≡◌, ℕ, Option, Some, None, sym, subst, arith}
use Rattle.intern_log.specs.declared.event.Kind.{Kind}
use Rattle.table_shape.specs.declared.shape.Shape.{Shape}
use Rattle.atomic_step.specs.declared.answer.Answer.{Answer}
use Rattle.call_machine.specs.declared.call.Call.{Call}
use Rattle.call_machine.specs.declared.call.Call.TheVariants as call
use Rattle.call_machine.specs.declared.caller.Caller.{Caller}
use Rattle.call_machine.specs.declared.grace.Grace.{Grace}
use Rattle.call_machine.specs.declared.machine.Machine.{Machine}
use Rattle.call_machine.specs.declared.machine.Machine.TheVariants as machine
use Rattle.call_machine.specs.declared.machine.Own.{Own}
use Rattle.call_machine.specs.declared.resize.Resize.{Resize}
use Rattle.call_machine.specs.declared.work.Work.{Work}
use Rattle.call_machine.specs.declared.work.Work.TheVariants as work
use Rattle.call_machine.specs.Clean as clean
use Rattle.call_machine.specs.Machine.{caller_of, starts, started, shape_of, got_of, begun_work_poll, begun_grace_poll}
use Rattle.call_machine.specs.Poll.{polling, poll_got}
use Rattle.call_machine.specs.Resize as resize
use Rattle.call_machine.specs.Work.{of_clean, of_resize, work_row, resumes}
use Rattle.call_machine.proofs.FullPasses.{ComesToFew, few_step}
use Rattle.call_machine.proofs.Machines.{got_part, got_is}
use Rattle.cht_core.specs.PollMeasure.{HasFewPasses, IsOnWork, IsOnPollOf}

-- A STEP

-- where a poll that is pending would begin anew, one that is not goes on
clean_came : (shape : Shape) (came : clean.Went) → ComesToFew shape came → IsOnWork shape (of_clean came).0 came.2
clean_came shape (w, s, None) few = few
clean_came shape (w, s, Some a) few = tt

resize_came : (shape : Shape) (r : Resize) (came : resize.Went) → IsOnWork shape (of_resize r came).0 came.2
resize_came shape r (w, s, None) = tt
resize_came shape r (w, s, Some a) = tt

pub work_after : (shape : Shape) (w : Work) (word : ℕ) → HasFewPasses shape w → let came = (work_row shape w).next word in IsOnWork shape came.0 came.1
work_after shape (work.Clean c) word few = clean_came shape ((clean.clean_row shape c.along c.stage).next word) (few_step shape c.along c.stage word few)
work_after shape (work.Resize r) word few = resize_came shape r ((resize.resize_row shape r.direction r.along r.stage).next word)

poll_after : (caller : Caller) (w : Work) (a : Option Answer) (word : ℕ) → IsOnWork caller.shape w a → IsOnPollOf caller.shape (machine.Poll (poll_got (polling caller (w, a)) word))
poll_after caller w None word few = work_after caller.shape w word few
poll_after caller w (Some a) word few = tt

-- a poll stays so
pub on_poll_after : (shape : Shape) (k : Machine) (word : ℕ) → shape_of k ≡ shape → IsOnPollOf shape k → IsOnPollOf shape (got_of k word)
on_poll_after shape k word is on = subst (IsOnPollOf shape) (sym (got_is k word)) (by_part k is on)
  where
    by_part : (k : Machine) → shape_of k ≡ shape → IsOnPollOf shape k → IsOnPollOf shape (got_part k word)
    by_part (machine.Call c w g) is on = tt
    by_part (machine.Begin b) is on = tt
    by_part (machine.Poll q) is on =
        subst (λ (shape : Shape). IsOnWork shape q.work q.answer → IsOnPollOf shape (machine.Poll (poll_got q word))) is (poll_after q.caller q.work q.answer word) on
    by_part (machine.Sweep s) is on = tt

-- A BEGINNING

pub on_work : (shape : Shape) (w : Work) (a : Option Answer) → HasFewPasses shape w → IsOnWork shape w a
on_work shape w None few = few
on_work shape w (Some a) few = tt

pub begun_few : (shape : Shape) (w : Work) → HasFewPasses shape (resumes w).0
begun_few shape (work.Clean c) = omega arith
begun_few shape (work.Resize r) = tt

work_begins : (shape : Shape) (caller : Caller) (o : Option Work) → IsOnPollOf shape (begun_work_poll caller o)
work_begins shape caller None = tt
work_begins shape caller (Some w) = on_work shape (resumes w).0 (resumes w).1 (begun_few shape w)

grace_begins : (shape : Shape) (caller : Caller) (o : Option Grace) → IsOnPollOf shape (begun_grace_poll caller o)
grace_begins shape caller None = tt
grace_begins shape caller (Some g) = tt

begins : (shape : Shape) (caller : Caller) (own : Own) (c : Call) → IsOnPollOf shape (starts caller own c)
begins shape caller own call.PollGrace = grace_begins shape caller own.grace
begins shape caller own call.PollWork = work_begins shape caller own.work
begins shape caller own call.Split = tt
begins shape caller own (call.Intern text) = tt
begins shape caller own (call.Lookup text) = tt
begins shape caller own (call.InternWait text) = tt
begins shape caller own (call.TextOf h) = tt
begins shape caller own (call.Drop h) = tt
begins shape caller own (call.Permanent h) = tt
begins shape caller own (call.Kill h) = tt
begins shape caller own call.BeginClean = tt
begins shape caller own call.BeginGrow = tt
begins shape caller own call.BeginShrink = tt
begins shape caller own call.BeginGrace = tt
begins shape caller own (call.Sweep text) = tt

-- whatever call begins
pub on_poll_begun : (kind : Kind) (shape : Shape) (seed : ℕ) (own : Own) (c : Call) → IsOnPollOf shape (started kind shape seed own c)
on_poll_begun kind shape seed own c = begins shape (caller_of kind shape seed own) own c
