use Rattle.std.proofs.Common.{arith}
use Rattle.std.proofs.lemmas.List.{take_rest}
use Rattle.schedule_sim.proofs.Cuts.{cut_first, no_cut}
use Rattle.schedule_sim.proofs.cut.cut_at.Goals as goal

pub returns-then-byte-mark-clause-parts : goal.returns-then-byte-mark-clause-parts
returns-then-byte-mark-clause-parts c = rw take_rest (cut_first c.args.mark c.loop-place.place c.args.bytes.now c.loop-place-test.true c.loop-place.invariant c.if-byte-mark.true)

pub returns-clause-whole : goal.returns-clause-whole
returns-clause-whole c = λ _. no_cut c.args.mark c.args.bytes.now (λ k h. c.loop-place.invariant k (omega (arith, c.loop-place-test.false)))
