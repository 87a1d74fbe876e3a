use Rattle.std.proofs.Common.{ap, sym, refl}
use Rattle.atomic_step.specs.declared.answer.Answer.TheVariants as answer
use Rattle.atomic_step.specs.declared.answer.Worked.{Worked}
use Rattle.std.proofs.Common.{Some}
use Rattle.call_machine.specs.declared.clean.CleanStage.TheVariants as stage
use Rattle.cht_run.proofs.Cleans.{clean_further}
use Rattle.cht_run.proofs.table.Cht.end_clean.Goals as goal

pub returns-clause-at : goal.returns-clause-at
returns-clause-at g c =
    (clean_further c.args.self.now g.M.Began.sight g.M.Began.call c.args.seat.now c.store.new.seat c.store.result _ c.store.ensures.sits c.store.ensures.told c.args.clean.now.along stage.GiveResizeLock _ c.requires.at refl
    (ap (λ (did : Worked). (c.args.clean.now.along, stage.GiveResizeLock, Some (answer.Done did))) (sym c.worked.ensures.value))).at
