use Rattle.std.proofs.Common.{sym, ap}
use Rattle.atomic_step.specs.declared.step.Step.TheVariants as step
use Rattle.call_machine.specs.Resize.{locks_on}
use Rattle.cht_run.proofs.Resizes.{resizing_at, open_head, resize_next, resize_further, lock_came}
use Rattle.cht_run.proofs.table.Cht.lock_side.Goals as goal

pub bucket_at-bucket-requires : goal.bucket_at-bucket-requires
bucket_at-bucket-requires g c = record { sound = resizing_at c.requires.at }

pub locked-requires : goal.locked-requires
locked-requires g c = record { «open» = (open_head c.requires.at).0 }

pub compare_exchange-requires-clause-next : goal.compare_exchange-requires-clause-next
compare_exchange-requires-clause-next g c = resize_next c.requires.at (ap (λ n. step.LockHead c.args.along.now.level n c.args.head) (sym c.bucket_at-bucket.ensures.value))

pub returns : goal.returns
returns g c = record {
  on = resize_further c.compare_exchange.result _ c.requires.at c.compare_exchange.ensures.sits c.compare_exchange.ensures.told (ap (locks_on c.args.direction c.args.along.now c.args.side) (lock_came c.args.head c.compare_exchange.result));
}
