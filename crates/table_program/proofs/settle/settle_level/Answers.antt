use Rattle.std.proofs.Common.{arith, ◌∙◌}
use Rattle.std.proofs.lemmas.Nat.{one_shl}
use Rattle.table_program.proofs.Settling.{settle_from-next}
use Rattle.table_program.proofs.settle.settle_level.Goals as goal

pub loop-level-preserved : goal.loop-level-preserved
loop-level-preserved c =
    let small = rw (one_shl c.loop-level.level 64 (omega arith), c.from-in-loop-level.ensures, c.from.ensures) at c.if-from-level.false in
    c.loop-level.invariant ∙ settle_from-next c.args.load c.args.live c.loop-level.level c.args.max_level c.loop-level-test.true small
