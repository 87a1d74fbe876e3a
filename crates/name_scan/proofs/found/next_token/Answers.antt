use Rattle.std.proofs.Common.{sym, arith, drop, ◌∙◌}
use Rattle.std.proofs.lemmas.List.{take_rest}
use Rattle.name_scan.specs.Pieces.{IsPiece}
use Rattle.name_scan.proofs.TokensFrom.{tokens_from_token, tokens_from_no_token, tokens_from_end}
use Rattle.name_scan.proofs.found.next_token.Goals as goal

pub returns-in-Some-clause-first : goal.returns-in-Some-clause-first
returns-in-Some-clause-first c =
    let piece : IsPiece c.first_piece-piece.result (drop c.loop-place.place c.args.bytes.now) = rw take_rest at c.first_piece-piece.ensures.piece in
    rw c.len.ensures.length (sym c.loop-place.invariant.tokens ∙ tokens_from_token c.args.bytes.now c.loop-place.place c.first_piece-piece.result c.in-Some.token piece c.in-Some.ensures.token)

pub loop-place-preserved : goal.loop-place-preserved
loop-place-preserved c =
    let piece : IsPiece c.first_piece-piece.result (drop c.loop-place.place c.args.bytes.now) = rw take_rest at c.first_piece-piece.ensures.piece in
    let passed = tokens_from_no_token c.args.bytes.now c.loop-place.place c.first_piece-piece.result piece c.in_default.ensures.token in
    record {
      further = omega arith;
      tokens = c.past_skipped-place-in-loop-place.ensures.tokens ∙ rw c.len.ensures.length (sym passed) ∙ c.loop-place.invariant.tokens;
    }

pub returns-clause-first : goal.returns-clause-first
returns-clause-first c = sym c.loop-place.invariant.tokens ∙ tokens_from_end c.args.bytes.now c.loop-place.place c.loop-place-test.false
