use Rattle.std.proofs.Common.{◌<◌, ◌^◌, Option, sym, subst}
use native.Mathlib.Omega.{arith}
use Rattle.atomic_step.specs.declared.answer.Answer.{Answer}
use Rattle.call_machine.specs.declared.poll.Polling.{Polling}
use Rattle.call_machine.specs.declared.work.Work.{Work}
use Rattle.call_machine.specs.SoundPoll.{FitsPoll}
use Rattle.call_machine.specs.Work.{IsSoundWork}
use Rattle.call_machine.proofs.Machines.{work_soundly, fits_work}
use Rattle.call_machine.proofs.poll.PollMachine.got.Goals as goal

-- src/poll.rt:70:5
pub invariant_of-self : goal.invariant_of-self
invariant_of-self c =
    let p = c.self.inside in
    let small : c.args.word < 2 ^ 64 = omega (arith, c.ranges.word.fits) in
    let fits = subst (λ (q : Polling). FitsPoll q c.args.word) (sym c.self.view_is) c.requires.fits in
    record {
      caller = c.self.invariant.caller;
      work = subst (λ (at : Work × Option Answer). IsSoundWork p.caller.shape at.0) (sym c.got-self-inside.ensures.value)
          (work_soundly p.caller.shape p.work c.args.word small c.self.invariant.caller.shape c.self.invariant.work (fits_work p.caller p.work p.answer c.args.word fits));
    }
