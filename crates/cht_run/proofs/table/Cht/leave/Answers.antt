use Rattle.std.proofs.Common.{arith}
use Rattle.cht_run.proofs.Views.{leaves}
use Rattle.cht_run.proofs.table.Cht.leave.Goals as goal

pub split_seat-requires : goal.split_seat-requires
split_seat-requires c =
    let t = c.args.self.now in
    let v = c.args.seat.now in
    let wide = t.wide in
    (c.requires.table, omega (arith, wide), leaves t.table.shared.key.origin v.id v.me.0)
