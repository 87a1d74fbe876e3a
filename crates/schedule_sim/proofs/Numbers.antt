-- Bytes that are the decimal digits of no number.
use Rattle.std.proofs.Common.{◌≡◌, ◌≢◌, ℕ, ◌<◌, ◌^◌, List, Result, Ok, Err, sym, subst}
use Rattle.std.specs.Prelude.{decimal}
use Rattle.std.specs.Str.{IsUtf8}
use Rattle.std.specs.Str.Parse.{ParsesUnsigned}
use Rattle.std.proofs.lemmas.Str.{IsUtf8-from_ascii}
use Rattle.std.proofs.lemmas.Fmt.{IsAscii-decimal, parse-decimal}

pub no_utf8 : (bs : List ℕ) → ¬ (IsUtf8 bs) → (n : ℕ) → n < 2 ^ 64 → bs ≢ decimal n
no_utf8 bs wrong n small is = wrong (subst IsUtf8 (sym is) (IsUtf8-from_ascii _ (IsAscii-decimal n small)))

pub no_parse : {E : Type 0} (bs : List ℕ) (r : Result ℕ E) (e : E) → r ≡ Err e → ParsesUnsigned 64 10 bs r → (n : ℕ) → n < 2 ^ 64 → bs ≢ decimal n
no_parse bs r e failed parses n small is =
    let good : r ≡ Ok n = parse-decimal 64 n bs r small small is parses in
    cc

pub no_print : {E : Type 0} (bs : List ℕ) (r : Result ℕ E) (m : ℕ) → r ≡ Ok m → ParsesUnsigned 64 10 bs r → decimal m ≢ bs → (n : ℕ) → n < 2 ^ 64 → bs ≢ decimal n
no_print bs r m parsed parses other n small is =
    let good : r ≡ Ok n = parse-decimal 64 n bs r small small is parses in
    let same : m ≡ n = cc in
    other cc
