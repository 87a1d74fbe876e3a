use Rattle.std.proofs.Common.{ap, ◌∙◌, arith}
use Rattle.cht_run.specs.Rule.{is_seat}
use Rattle.cht_run.proofs.Handles.{looked_handles}
use Rattle.cht_run.proofs.Loading.{looks}
use Rattle.cht_run.proofs.table.Cht.look.Goals as goal

pub load-requires : goal.load-requires
load-requires c =
    let t = c.args.self.now in
    let v = c.args.seat.now in
    let wide = t.wide in
    let inside = c.requires.inside in
    (c.requires.of.table, omega (arith, wide, inside), looks t.table.shared.key.origin t.table.shared.table_id.slots v.raw.id c.args.index v.raw.me v.seat)

pub invariant_of-seat-clause-handles : goal.invariant_of-seat-clause-handles
invariant_of-seat-clause-handles c = looked_handles c.args.index c.args.seat.now.raw.me.0 c.load.result c.load.new.seat.me.0 c.load.ensures.2.0

pub invariant_of-seat-clause-seat : goal.invariant_of-seat-clause-seat
invariant_of-seat-clause-seat c = ap is_seat c.load.ensures.2.0.after ∙ c.args.seat.now.seat
