use Rattle.std.proofs.Common.{◌≡◌, ◌^◌, length, ap, ◌∙◌, arith}
use Rattle.plain_interner.proofs.Longest.{longest_of-all}
use Rattle.plain_interner.proofs.numbers.longest.Goals as goal

pub returns-in-Ok : goal.returns-in-Ok
returns-in-Ok c =
    let len : length c.as_mut_slice.result.now ≡ 2 ^ c.args.level = c.as_mut_slice.ensures.len ∙ c.in-Ok.ensures.len ∙ c.pow.ensures ∙ ap (λ l. 2 ^ l) c.from.ensures in
    longest_of-all c.args.level c.args.names.now _ c.longest_among.result (omega (arith, len)) c.longest_among.ensures.longest
