use Rattle.std.proofs.Common.{refl}
use Rattle.cht_run.proofs.Resizes.{resizing_at, resize_next, resize_further}
use Rattle.cht_run.proofs.table.Cht.redirect_side.Goals as goal

pub bucket_at-bucket-requires : goal.bucket_at-bucket-requires
bucket_at-bucket-requires g c = record { sound = resizing_at c.requires.at }

pub store-requires-clause-next : goal.store-requires-clause-next
store-requires-clause-next g c = resize_next c.requires.at (cc (c.bucket_at-bucket.ensures.value, c.at-first.ensures.value))

pub returns : goal.returns
returns g c = record { on = resize_further c.store.result _ c.requires.at c.store.ensures.sits c.store.ensures.told refl }
