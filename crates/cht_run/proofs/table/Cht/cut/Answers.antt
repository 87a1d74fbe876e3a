use Rattle.std.proofs.Common.{arith}
use Rattle.cht_run.proofs.Views.{cuts}
use Rattle.cht_run.proofs.table.Cht.cut.Goals as goal

pub split_seat-requires : goal.split_seat-requires
split_seat-requires c =
    let t = c.args.self.now in
    let v = c.args.seat.now in
    let wide = t.wide in
    (c.requires.table, omega (arith, wide), cuts t.table.shared.key.origin v.id v.me.0 c.requires.drawn.0 c.requires.seat c.requires.drawn.1)
