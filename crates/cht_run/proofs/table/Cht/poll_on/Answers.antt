use Rattle.std.proofs.Common.{◌≡◌, sym, subst}
use Rattle.atomic_step.specs.declared.plan.Plan.TheVariants as plan
use Rattle.atomic_step.specs.SoundStep.{IsSoundStep, CanBeFound}
use Rattle.call_machine.specs.declared.call.Call.{Call}
use Rattle.call_machine.specs.declared.work.Work.{Work}
use Rattle.call_machine.specs.Machine.{plan_of}
use Rattle.call_machine.specs.Work.{work_row, resumes}
use Rattle.cht_run.specs.Begins.{first_of, GoesFirst}
use Rattle.cht_run.specs.Runs.{IsPolling}
use Rattle.cht_run.specs.Underway.{IsAt, polled}
use Rattle.cht_run.proofs.PollStarts.{first_planned, work_step, poll_at, poll_polls, poll_fits}
use Rattle.cht_run.proofs.table.Cht.poll_on.Goals as goal

pub begin-word-requires-clause-next : goal.begin-word-requires-clause-next
begin-word-requires-clause-next g c =
    let may = c.requires.polls in
    subst (λ (k : Call). plan_of (first_of c.args.seat.now.me.0 k) ≡ plan.Step c.step-step.result) (sym may.asks)
    (first_planned c.args.self.now g.M.Began.sight g.M.Began.call c.args.seat.now c.args.state.now c.step-step.result may c.requires.pends c.requires.goes (c.step-step.ensures.value c.args.self.now.origin.table.shape))

pub begin-word-requires-clause-sound : goal.begin-word-requires-clause-sound
begin-word-requires-clause-sound g c =
    let shape = c.args.self.now.origin.table.shape in
    subst (IsSoundStep shape c.args.seat.now.me.0.number) (sym (c.step-step.ensures.value shape)) (work_step shape c.args.state.now c.args.seat.now.me.0.number c.requires.polls.sound)

pub poll_clean-requires-clause-fits : goal.poll_clean-requires-clause-fits
poll_clean-requires-clause-fits g c =
    let shape = c.args.self.now.origin.table.shape in
    let may = c.requires.polls in
    let told = subst (λ (k : Call). GoesFirst k c.args.seat.now.me.0 c.begin-word.result c.begin-word.new.seat.me.0) may.asks c.begin-word.ensures.told in
    subst (λ (w : Work). CanBeFound shape (work_row shape w).step c.begin-word.result) c.in-Clean.is
    (poll_fits c.args.self.now g.M.Began.sight g.M.Began.call c.args.seat.now c.args.state.now c.step-step.result may c.requires.pends c.requires.goes (c.step-step.ensures.value shape) c.begin-word.new.seat c.begin-word.result c.begin-word.ensures.sits told)

pub poll_clean-requires-clause-at : goal.poll_clean-requires-clause-at
poll_clean-requires-clause-at g c =
    let shape = c.args.self.now.origin.table.shape in
    let may = c.requires.polls in
    let told = subst (λ (k : Call). GoesFirst k c.args.seat.now.me.0 c.begin-word.result c.begin-word.new.seat.me.0) may.asks c.begin-word.ensures.told in
    subst (λ (w : Work). IsAt c.args.self.now g.M.Began.sight g.M.Began.call c.begin-word.new.seat (polled g.M.Began.sight ((work_row shape (resumes w).0).next c.begin-word.result))) c.in-Clean.is
    (poll_at c.args.self.now g.M.Began.sight g.M.Began.call c.args.seat.now c.args.state.now c.step-step.result may c.requires.pends c.requires.goes (c.step-step.ensures.value shape) c.begin-word.new.seat c.begin-word.result c.begin-word.ensures.sits told)

pub poll_clean-requires-clause-polls : goal.poll_clean-requires-clause-polls
poll_clean-requires-clause-polls g c =
    let shape = c.args.self.now.origin.table.shape in
    let may = c.requires.polls in
    let told = subst (λ (k : Call). GoesFirst k c.args.seat.now.me.0 c.begin-word.result c.begin-word.new.seat.me.0) may.asks c.begin-word.ensures.told in
    subst (λ (w : Work). IsPolling shape (polled g.M.Began.sight ((work_row shape (resumes w).0).next c.begin-word.result))) c.in-Clean.is
    (poll_polls c.args.self.now g.M.Began.sight g.M.Began.call c.args.seat.now c.args.state.now c.step-step.result may c.requires.pends c.requires.goes (c.step-step.ensures.value shape) c.begin-word.new.seat c.begin-word.result c.begin-word.ensures.sits told)

pub poll_resize-requires-clause-fits : goal.poll_resize-requires-clause-fits
poll_resize-requires-clause-fits g c =
    let shape = c.args.self.now.origin.table.shape in
    let may = c.requires.polls in
    let told = subst (λ (k : Call). GoesFirst k c.args.seat.now.me.0 c.begin-word.result c.begin-word.new.seat.me.0) may.asks c.begin-word.ensures.told in
    subst (λ (w : Work). CanBeFound shape (work_row shape w).step c.begin-word.result) c.in-Resize.is
    (poll_fits c.args.self.now g.M.Began.sight g.M.Began.call c.args.seat.now c.args.state.now c.step-step.result may c.requires.pends c.requires.goes (c.step-step.ensures.value shape) c.begin-word.new.seat c.begin-word.result c.begin-word.ensures.sits told)

pub poll_resize-requires-clause-at : goal.poll_resize-requires-clause-at
poll_resize-requires-clause-at g c =
    let shape = c.args.self.now.origin.table.shape in
    let may = c.requires.polls in
    let told = subst (λ (k : Call). GoesFirst k c.args.seat.now.me.0 c.begin-word.result c.begin-word.new.seat.me.0) may.asks c.begin-word.ensures.told in
    subst (λ (w : Work). IsAt c.args.self.now g.M.Began.sight g.M.Began.call c.begin-word.new.seat (polled g.M.Began.sight ((work_row shape (resumes w).0).next c.begin-word.result))) c.in-Resize.is
    (poll_at c.args.self.now g.M.Began.sight g.M.Began.call c.args.seat.now c.args.state.now c.step-step.result may c.requires.pends c.requires.goes (c.step-step.ensures.value shape) c.begin-word.new.seat c.begin-word.result c.begin-word.ensures.sits told)

pub poll_resize-requires-clause-polls : goal.poll_resize-requires-clause-polls
poll_resize-requires-clause-polls g c =
    let shape = c.args.self.now.origin.table.shape in
    let may = c.requires.polls in
    let told = subst (λ (k : Call). GoesFirst k c.args.seat.now.me.0 c.begin-word.result c.begin-word.new.seat.me.0) may.asks c.begin-word.ensures.told in
    subst (λ (w : Work). IsPolling shape (polled g.M.Began.sight ((work_row shape (resumes w).0).next c.begin-word.result))) c.in-Resize.is
    (poll_polls c.args.self.now g.M.Began.sight g.M.Began.call c.args.seat.now c.args.state.now c.step-step.result may c.requires.pends c.requires.goes (c.step-step.ensures.value shape) c.begin-word.new.seat c.begin-word.result c.begin-word.ensures.sits told)
