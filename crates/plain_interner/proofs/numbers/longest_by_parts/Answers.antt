use Rattle.std.proofs.Common.{◌≡◌, ◌+◌, ◌*◌, ◌^◌, ◌≤◌, max, length, rules, sym, ap, subst, ◌∙◌, arith}
use Rattle.std.proofs.lemmas.Grind.{div_ceil_times}
use Rattle.std.specs.Int.{div_ceil}
use Rattle.plain_interner.specs.Longest.{IsLongestOf}
use Rattle.plain_interner.proofs.Longest.{longest_of-both, longest_of-all}
use Rattle.plain_interner.proofs.numbers.longest_by_parts.Goals as goal

pub loop-part-preserved : goal.loop-part-preserved
loop-part-preserved c =
    let level = c.args.level in
    let names = c.args.names.now in
    let from = c.loop-part.part * 4096 in
    let greater : c.max-most.result ≡ max c.loop-part.most c.longest_among.result = search rules in
    let end : from + length c.loop-part.counters ≡ (c.loop-part.part + 1) * 4096 = omega (arith, c.loop-part-test.array_long) in
    let part = subst (λ x. IsLongestOf level names from x c.longest_among.result) end c.longest_among.ensures.longest in
    record {
      known = subst (IsLongestOf level names 0 ((c.loop-part.part + 1) * 4096)) (sym greater)
          (longest_of-both level names 0 from ((c.loop-part.part + 1) * 4096) c.loop-part.most c.longest_among.result c.loop-part.invariant.known part);
    }

pub returns : goal.returns
returns c =
    let buckets : c.pow.result ≡ 2 ^ c.args.level = c.pow.ensures ∙ ap (λ l. 2 ^ l) c.from.ensures in
    let parts : c.loop-part.part ≡ div_ceil c.pow.result 4096 = omega (arith, c.div_ceil-part-end.ensures, c.loop-part.auto.part-end, c.loop-part-test.false) in
    let enough = (div_ceil_times c.pow.result 4096 (omega arith)).0 in
    let all : 2 ^ c.args.level ≤ c.loop-part.part * 4096 = subst (λ n. n ≤ c.loop-part.part * 4096) buckets (subst (λ n. c.pow.result ≤ n * 4096) (sym parts) enough) in
    longest_of-all c.args.level c.args.names.now (c.loop-part.part * 4096) c.loop-part.most all c.loop-part.invariant.known
