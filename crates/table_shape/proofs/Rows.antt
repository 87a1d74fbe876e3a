-- How many heads rows have, as a difference of two powers.
use Rattle.std.proofs.Common.{◌≡◌, ◌≤◌, ◌<◌, ◌+◌, ◌-◌, ◌^◌, ℕ, zero, suc, ap, ◌∙◌}
use native.Mathlib.Omega.{arith}
use Rattle.std.proofs.Math.Nat.{pow-le-pow_right}
use Rattle.std.proofs.lemmas.Grind.{pow_more}
use Rattle.table_shape.specs.Shape.{heads_of}

pub row_grows : (a b : ℕ) → a ≤ b → 2 ^ a ≤ 2 ^ b
row_grows a b below = pow-le-pow_right (omega arith) below

pub heads-power : (level rows : ℕ) → heads_of level rows + 2 ^ level ≡ 2 ^ (level + rows)
heads-power level zero = let moved : level ≡ level + 0 = omega arith in let same = ap (λ n. 2 ^ n) moved in omega (arith, same)
heads-power level (suc rows) =
    let rest = heads-power (level + 1) rows in
    let twice = pow_more 2 level in
    let moved : level + 1 + rows ≡ level + suc rows = omega arith in
    let same = ap (λ n. 2 ^ n) moved in
    omega (arith, rest, twice, same)

pub heads_to : (low high : ℕ) → low ≤ high → heads_of low (high - low) + 2 ^ low ≡ 2 ^ high
heads_to low high below =
    let power = heads-power low (high - low) in
    let whole : low + (high - low) ≡ high = omega (arith, below) in
    let same = ap (λ n. 2 ^ n) whole in
    power ∙ same

pub heads_between : (low high : ℕ) → low ≤ high → 2 ^ high - 2 ^ low ≡ heads_of low (high - low)
heads_between low high below = let power = heads_to low high below in omega (arith, power)

-- a row stands before the rows behind it
pub row_within : (low row high : ℕ) → low ≤ row → row < high → heads_of low (row - low) + 2 ^ row ≤ heads_of low (high - low)
row_within low row high below inside =
    let here = heads-power low (row - low) in
    let all = heads-power low (high - low) in
    let to_row : low + (row - low) ≡ row = omega (arith, below) in
    let to_high : low + (high - low) ≡ high = omega (arith, below, inside) in
    let row_is = ap (λ n. 2 ^ n) to_row in
    let high_is = ap (λ n. 2 ^ n) to_high in
    let twice = pow_more 2 row in
    let grows = row_grows (row + 1) high (omega (arith, inside)) in
    omega (arith, here, all, row_is, high_is, twice, grows)
