-- The two marks of a head below its link.
use Rattle.std.proofs.Common.{◌≡◌, ℕ, Bool, true, false, ◌+◌, ◌*◌, ◌%◌, ◌^◌, ◌<◌, ◌≤◌, bit_or, arith, refl, lit<}
use Rattle.std.proofs.lemmas.Grind.{or_after_shift}
use Rattle.std.proofs.lemmas.Nat.{or_shifted}
use Rattle.std.specs.Int.{from_bool}

-- a link moved up by two bits, and a bit in each of the two places below it
pub or_of_link_and_marks : (link redirect lock : ℕ) → link ≤ 2 ^ 32 → redirect < 2 → lock < 2 →
    bit_or (bit_or (link * 4 % 2 ^ 64) (redirect * 2 % 2 ^ 64)) lock ≡ 4 * link + 2 * redirect + lock
or_of_link_and_marks link redirect lock of_link of_redirect of_lock =
    let small : redirect * 2 % 2 ^ 64 ≡ redirect * 2 = omega arith in
    let upper : bit_or (link * 4 % 2 ^ 64) (redirect * 2) ≡ link * 4 + redirect * 2 = or_after_shift link 4 (2 ^ 64) (redirect * 2) refl (omega arith) (omega arith) in
    let even : link * 4 + redirect * 2 ≡ (2 * link + redirect) * 2 ^ 1 = omega arith in
    let all = or_shifted (2 * link + redirect) 1 lock of_lock in
    rw (small, upper, even, all) (omega arith)

-- a mark is a bit
pub mark_below : (mark : Bool) → from_bool mark < 2
mark_below false = lit< tt
mark_below true = lit< tt
