use Rattle.std.proofs.Common.{◌+◌, ◌/◌, cond, ap, sym, ◌∙◌}
use Rattle.table_shape.specs.Place.{row_from}
use Rattle.cht_run.proofs.Layouts.{row_is}
use Rattle.cht_run.proofs.layout.Layout.head.Goals as goal

pub returns-else-is_for_seat : goal.returns-else-is_for_seat
returns-else-is_for_seat c =
    let l = c.args.self.now in
    record {
      value = λ inside.
          row_is l.shape l.rows_from l.least_row c.row_len.result c.args.row c.args.bucket l.sound l.rows l.least c.row_len.ensures.value inside
          ∙ sym (ap (λ b. cond b (4 + c.args.bucket / 8) (row_from l.shape c.args.row + c.args.bucket)) (sym c.is_for_seat.ensures.value ∙ c.if-is_for_seat.false));
    }
