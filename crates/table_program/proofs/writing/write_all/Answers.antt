use Rattle.std.proofs.Common.{arith, ℕ, length-drop, ◌-◌, length}
use Rattle.std.proofs.lemmas.List.{length-take}
use Rattle.table_program.proofs.Written.{written_more}
use Rattle.table_program.proofs.writing.write_all.Goals as goal

pub loop-done-preserved : goal.loop-done-preserved
loop-done-preserved g c = record {
  within = omega (arith, c.in-Bytes.ensures.count.1, length-take {A = ℕ}, length-drop {A = ℕ});
  so_far = written_more c.args.text.now c.loop-done.done c.in-Bytes.count
      (length c.args.text.now - c.loop-done.done) _ _ _ c.in-Bytes.ensures.count.1
      c.loop-done.invariant.so_far c.in-Bytes.ensures.appends;
  counts = omega (arith, c.write_some.ensures.never_falls);
}
