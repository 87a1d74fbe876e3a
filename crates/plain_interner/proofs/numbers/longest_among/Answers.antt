use Rattle.std.proofs.Common.{◌+◌, ◌<◌, subst}
use Rattle.plain_interner.specs.Longest.{IsLongestOf}
use Rattle.plain_interner.proofs.Longest.{longest_of-counters}
use Rattle.plain_interner.proofs.numbers.longest_among.Goals as goal

pub returns-clause-longest : goal.returns-clause-longest
returns-clause-longest c =
    let counters = c.count_texts.new.counters in
    let len = c.count_texts.ensures.len in
    subst (λ n. IsLongestOf c.args.level c.args.names.now c.args.from (c.args.from + n) c.greatest.result) len
    (longest_of-counters c.args.level c.args.names.now c.args.from c.greatest.result counters (λ k within. c.count_texts.ensures.counted k (subst (λ n. k < n) len within)) c.greatest.ensures)
