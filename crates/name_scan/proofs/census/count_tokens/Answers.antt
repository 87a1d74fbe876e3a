use Rattle.std.proofs.Common.{arith}
use Rattle.name_scan.proofs.Counts.{counts_nothing, counts_token, counts_all, names_few, literals_few}
use Rattle.name_scan.proofs.census.count_tokens.Goals as goal

pub loop-found-init : goal.loop-found-init
loop-found-init c = counts_nothing c.args.most c.args.bytes.now

pub with_token-census-requires-clause-few_names : goal.with_token-census-requires-clause-few_names
with_token-census-requires-clause-few_names c =
    let few = names_few _ _ _ _ c.in-Some.found.token _ c.loop-found.invariant c.in-Some.ensures.first in
    omega arith

pub with_token-census-requires-clause-few_literals : goal.with_token-census-requires-clause-few_literals
with_token-census-requires-clause-few_literals c =
    let few = literals_few _ _ _ _ c.in-Some.found.token _ c.loop-found.invariant c.in-Some.ensures.first in
    omega arith

pub loop-found-preserved : goal.loop-found-preserved
loop-found-preserved c =
    let counted = c.with_token-census.ensures in
    counts_token _ _ _ _ _ _ _ c.loop-found.invariant c.in-Some.ensures.first counted.names counted.literals counted.first_longer

pub returns : goal.returns
returns c =
    let all = counts_all _ _ _ _ c.loop-found.invariant c.in_default.ensures.first in
    record { names = all.names; literals = all.literals; first_longer = all.first_longer }
