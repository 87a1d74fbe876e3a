use Rattle.std.proofs.Common.{◌≡◌, ◌+◌, sym, arith, ◌∙◌}
use Rattle.name_scan.specs.Tokens.{tokens_from}
use Rattle.name_scan.proofs.TokensFrom.{tokens_from_skipped}
use Rattle.name_scan.proofs.found.past_skipped.Goals as goal

pub loop-place-preserved-then-place-eq0 : goal.loop-place-preserved-then-place-eq0
loop-place-preserved-then-place-eq0 c =
    let skipped = sym c.is_skipped.ensures ∙ c.if-is_skipped.true in
    record {
      further = omega (arith, c.past_blanks-place.ensures.further);
      tokens = c.past_blanks-place.ensures.tokens ∙ tokens_from_skipped c.args.bytes.now c.loop-place.place c.of.result c.loop-place-test.true skipped c.of.ensures ∙ c.loop-place.invariant.tokens;
    }

pub loop-place-preserved : goal.loop-place-preserved
loop-place-preserved c =
    let skipped = sym c.is_skipped.ensures ∙ c.if-is_skipped.true in
    record {
      further = omega arith;
      tokens = tokens_from_skipped c.args.bytes.now c.loop-place.place c.of.result c.loop-place-test.true skipped c.of.ensures ∙ c.loop-place.invariant.tokens;
    }
