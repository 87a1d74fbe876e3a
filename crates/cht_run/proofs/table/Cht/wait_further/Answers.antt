use Rattle.cht_run.proofs.Resizes.{next_inside}
use Rattle.cht_run.proofs.table.Cht.wait_further.Goals as goal

pub scanned-came-requires : goal.scanned-came-requires
scanned-came-requires g c = record { inside = next_inside c.args.along.now c.args.after c.args.word c.requires.at }
