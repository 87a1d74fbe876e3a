use Rattle.std.proofs.Common.{refl}
use native.Mathlib.Omega.{arith}
use Rattle.table_shape.proofs.Rows.{row_grows, heads_between}
use Rattle.cht_run.proofs.Layouts.{spread_is}
use Rattle.cht_run.proofs.layout.Layout.of.Goals as goal

pub overflow_sub-result : goal.overflow_sub-result
overflow_sub-result c =
    let levels = c.requires.sound.levels in
    let grows = row_grows c.args.shape.min_level c.args.shape.max_level levels.0 in
    omega (arith, grows, c.row_len-least_row.ensures.value (omega (arith, levels.0, levels.1)), c.row_len-greatest_row.ensures.value levels.1)

pub invariant_of-result : goal.invariant_of-result
invariant_of-result c =
    let s = c.args.shape in
    let levels = c.requires.sound.levels in
    let between = heads_between s.min_level s.max_level levels.0 in
    let least = c.row_len-least_row.ensures.value (omega (arith, levels.0, levels.1)) in
    let greatest = c.row_len-greatest_row.ensures.value levels.1 in
    record {
      sound = c.requires.sound;
      rows = refl;
      least = least;
      slots = omega (arith, c.index.ensures.value);
      slot = refl;
      spread = spread_is s c.row_len-greatest_row.result c.requires.sound greatest;
      greatest = omega (arith, between, least, greatest);
      apart = refl;
    }
