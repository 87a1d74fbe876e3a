-- The hash of a text, by a seed.
use Rattle.std.specs.Prelude.{ℕ, ◌+◌, ◌*◌, ◌/◌, ◌%◌, ◌^◌, ◌==◌, if◌then◌else◌, bit_xor, List, fold}

-- the polynomial after one more byte
abbrev pub hash_step : ℕ → ℕ → ℕ
hash_step hash byte = (31 * hash + byte) % 2 ^ 32

-- the polynomial of a text: from 0, byte by byte
abbrev pub hash31 : List ℕ → ℕ
hash31 text = fold hash_step 0 text

-- the mixture after one more byte
abbrev pub mix_step : ℕ → ℕ → ℕ
mix_step hash byte = (bit_xor hash byte * 16777619) % 2 ^ 32

-- the mixture of a text: from the seed, byte by byte, and at the end its upper half mixed into its lower half
abbrev pub mixture : ℕ → List ℕ → ℕ
mixture seed text = let mixed = fold mix_step seed text in bit_xor mixed (mixed / 65536)

-- the hash of a text by a seed: the polynomial by seed 0, the mixture by any other
abbrev pub hash_of : ℕ → List ℕ → ℕ
hash_of seed text = if seed == 0 then hash31 text else mixture seed text
