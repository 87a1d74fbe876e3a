use Rattle.std.proofs.Common.{refl}
use Rattle.cht_run.proofs.Resizes.{resizing_at, level_at, resize_next, resize_further}
use Rattle.cht_run.proofs.table.Cht.unlock_side.Goals as goal

pub end_level-row-requires : goal.end_level-row-requires
end_level-row-requires g c = record { level = level_at c.requires.at }

pub bucket_at-bucket-requires : goal.bucket_at-bucket-requires
bucket_at-bucket-requires g c = record { sound = resizing_at c.requires.at }

pub store-requires-clause-next : goal.store-requires-clause-next
store-requires-clause-next g c = resize_next c.requires.at (cc (c.end_level-row.ensures.value, c.bucket_at-bucket.ensures.value, c.new_first-first.ensures.value))

pub returns : goal.returns
returns g c = record { on = resize_further c.store.result _ c.requires.at c.store.ensures.sits c.store.ensures.told refl }
