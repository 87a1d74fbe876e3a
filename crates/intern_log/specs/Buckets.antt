-- Buckets of texts by their hash, and the level at which a table of them settles.
use Rattle.std.specs.Prelude.{ℕ, ◌+◌, ◌-◌, ◌*◌, ◌%◌, ◌^◌, if◌then◌else◌, ◌==◌, nat_le, zero, suc, max, List, count_by, fold}
use Rattle.text_words.specs.Hash.{hash_of}

-- the bucket of a text by a seed, in a row of 2^level buckets
abbrev pub bucket_of : ℕ → ℕ → List ℕ → ℕ
bucket_of seed level text = hash_of seed text % 2 ^ level

-- how many of the texts are in a bucket of a row of 2^level
abbrev pub in_bucket : ℕ → ℕ → List (List ℕ) → ℕ → ℕ
in_bucket seed level texts bucket = count_by (λ text. bucket_of seed level text == bucket) texts

-- the greatest number of the texts in one bucket, or 0 where there is none
abbrev pub longest_bucket : ℕ → ℕ → List (List ℕ) → ℕ
longest_bucket seed level texts = fold (λ most text. max most (in_bucket seed level texts (bucket_of seed level text))) 0 texts

-- the least level from `min_level` on, at most `steps` above it, whose row holds so many texts at `load` a bucket; the last one where there is none
abbrev pub settle_from : ℕ → ℕ → ℕ → ℕ → ℕ
settle_from load live level zero = level
settle_from load live level (suc steps) = if nat_le live (2 ^ level * load) then level else settle_from load live (level + 1) steps

abbrev pub settle_level : ℕ → ℕ → ℕ → ℕ → ℕ
settle_level load min_level max_level live = settle_from load live min_level (max_level - min_level)
