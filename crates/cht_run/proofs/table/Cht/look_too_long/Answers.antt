use Rattle.std.proofs.Common.{refl}
use Rattle.cht_run.proofs.Ended.{ended_alike}
use Rattle.cht_run.proofs.Walking.{too_long_since}
use Rattle.cht_run.proofs.table.Cht.look_too_long.Goals as goal

pub returns-clause-ended : goal.returns-clause-ended
returns-clause-ended c =
    ended_alike c.args.self.now.origin.table c.args.seat.now c.look.new.seat _ _ _ refl refl (too_long_since c.args.self.now c.args.seat.now c.look.new.seat 0 c.look.result c.args.text.now c.requires.long c.look.ensures.told)
