use Rattle.std.proofs.Common.{refl, sym, ap}
use Rattle.atomic_step.specs.declared.step.Step.TheVariants as step
use Rattle.cht_run.proofs.Resizes.{resizing_at, resize_next, resize_further}
use Rattle.cht_run.proofs.table.Cht.look_at_side.Goals as goal

pub bucket_at-bucket-requires : goal.bucket_at-bucket-requires
bucket_at-bucket-requires g c = record { sound = resizing_at c.requires.at }

pub load-requires-clause-next : goal.load-requires-clause-next
load-requires-clause-next g c = resize_next c.requires.at (ap (λ n. step.LoadHead c.args.along.now.level n) (sym c.bucket_at-bucket.ensures.value))

pub returns : goal.returns
returns g c = record { on = resize_further c.load.result _ c.requires.at c.load.ensures.sits c.load.ensures.told refl }
