use Rattle.std.proofs.Common.{sym, ap, Some}
use Rattle.atomic_step.specs.declared.answer.Answer.TheVariants as answer
use Rattle.call_machine.specs.declared.resize.ResizeStage.TheVariants as stage
use Rattle.cht_run.proofs.Resizes.{resizing_at, resize_further}
use Rattle.cht_run.proofs.table.Cht.give_lock.Goals as goal

pub worked-requires : goal.worked-requires
worked-requires g c = record { sound = resizing_at c.requires.at }

pub returns-clause-on : goal.returns-clause-on
returns-clause-on g c =
    resize_further c.store.result _ c.requires.at c.store.ensures.sits c.store.ensures.told (ap (λ worked. (c.args.along.now, stage.GiveResizeLock, Some (answer.Done worked))) (sym c.worked.ensures.value))
