-- A hash has 32 bits.
use Rattle.std.proofs.Common.{ℕ, ◌+◌, ◌*◌, ◌/◌, ◌%◌, ◌<◌, Bool, true, false, cond, List, [], ◌∷◌, arith}
use Rattle.std.specs.Prelude.{◌==◌, bit_xor, fold}
use Rattle.std.proofs.lemmas.Nat.{xor_lt}
use Rattle.text_words.specs.Hash.{hash_step, hash31, mix_step, mixture, hash_of}

-- what holds at first and after each step holds at the end
folded : {B : Type 0} (P : B → Type 0) (f : B → ℕ → B) (a : B) (xs : List ℕ) → P a → ((b : B) (x : ℕ) → P (f b x)) → P (fold f a xs)
folded P f a [] first step = first
folded P f a (x ∷ xs) first step = folded P f (f a x) xs (step a x) step

of_32 : (n : ℕ) → n % 4294967296 < 4294967296
of_32 n = omega arith

half : (n : ℕ) → n < 4294967296 → n / 65536 < 4294967296
half n below = omega (arith, below)

mixture_of_32 : (seed : ℕ) (text : List ℕ) → seed < 4294967296 → mixture seed text < 4294967296
mixture_of_32 seed text below =
    let mixed = folded (λ hash. hash < 4294967296) mix_step seed text below (λ hash byte. of_32 (bit_xor hash byte * 16777619)) in
    xor_lt 32 (fold mix_step seed text) (fold mix_step seed text / 65536) mixed (half _ mixed)

one_of : (b : Bool) (x y : ℕ) → x < 4294967296 → y < 4294967296 → cond b x y < 4294967296
one_of true x y first second = first
one_of false x y first second = second

pub hash_of_32 : (seed : ℕ) (text : List ℕ) → seed < 4294967296 → hash_of seed text < 4294967296
hash_of_32 seed text below =
    one_of (seed == 0) (hash31 text) (mixture seed text) (folded (λ hash. hash < 4294967296) hash_step 0 text (omega arith) (λ hash byte. of_32 (31 * hash + byte))) (mixture_of_32 seed text below)
