use Rattle.std.proofs.Common.{refl, sym, ap}
use Rattle.atomic_step.specs.declared.step.Step.TheVariants as step
use Rattle.cht_run.proofs.Resizes.{level_at, resize_next, resize_further}
use Rattle.cht_run.proofs.table.Cht.store_level.Goals as goal

pub end_level-level-requires : goal.end_level-level-requires
end_level-level-requires g c = record { level = level_at c.requires.at }

pub store-requires-clause-next : goal.store-requires-clause-next
store-requires-clause-next g c = resize_next c.requires.at (ap step.StoreLevel (sym c.end_level-level.ensures.value))

pub returns : goal.returns
returns g c = record { on = resize_further c.store.result _ c.requires.at c.store.ensures.sits c.store.ensures.told refl }
