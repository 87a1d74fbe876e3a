-- Rows of buckets: the longest bucket, and the level at which a table settles.
use Rattle.std.proofs.Common.{◌≡◌, ℕ, zero, suc, ◌+◌, ◌-◌, ◌*◌, ◌^◌, ◌<◌, ◌≤◌, ◌==◌, nat_le, max, Bool, true, false, cond, ◌⊎◌, inl, inr, List, [], ◌∷◌, fold, refl, sym, ap, subst}
use native.Mathlib.Omega.{arith}
use Rattle.std.specs.List.{Contains}
use Rattle.std.proofs.lemmas.Bool.{leb-true, leb-false}
use Rattle.std.proofs.lemmas.Bool.Decides.{Decides-eqb, not_from_Decides}
use Rattle.std.proofs.lemmas.List.Sums.{sum_by-cons}
use Rattle.intern_log.specs.Buckets.{bucket_of, in_bucket, longest_bucket, settle_from, settle_level}

Contains-first : {X : Type 0} (x : X) (xs : List X) → Contains (x ∷ xs) x
Contains-first x xs = (zero, omega arith, refl)

Contains-later : {X : Type 0} (x : X) (xs : List X) (y : X) → Contains xs y → Contains (x ∷ xs) y
Contains-later x xs y (k, within, at) = (suc k, omega (arith, within), at)

-- the greatest value of a fold is at least what it began with, and the value of each item; and it is one of these
module _ {X : Type 0} (f : X → ℕ) where
  abbrev most : ℕ → List X → ℕ
  most least xs = fold (λ high x. max high (f x)) least xs

  most-least : (least : ℕ) (xs : List X) → least ≤ most least xs
  most-least least [] = omega arith
  most-least least (x ∷ xs) = let rest = most-least (max least (f x)) xs in omega (arith, rest)

  most-each : (least : ℕ) (xs : List X) (y : X) → Contains xs y → f y ≤ most least xs
  most-each least [] y (k, within, at) = absurd (omega (arith, within))
  most-each least (x ∷ xs) y (zero, within, at) =
      let rest = most-least (max least (f x)) xs in
      let same : f x ≡ f y = ap f at in
      omega (arith, rest, same)
  most-each least (x ∷ xs) y (suc k, within, at) = most-each (max least (f x)) xs y (k, omega (arith, within), at)

  abbrev IsReached : ℕ → List X → Type 0
  IsReached least xs = (most least xs ≡ least) ⊎ ((x : X) × Contains xs x × (f x ≡ most least xs))

  most-reached : (least : ℕ) (xs : List X) → IsReached least xs
  most-reached least [] = inl refl
  most-reached least (x ∷ xs) = elim (most-reached (max least (f x)) xs) [
    | inl same ↦ begun (nat_le (f x) least) refl same
    | inr later ↦ inr (later.0, Contains-later x xs later.0 later.1, later.2)
  ]
    where
      begun : (b : Bool) → nat_le (f x) least ≡ b → most (max least (f x)) xs ≡ max least (f x) → IsReached least (x ∷ xs)
      begun true low same = let below = leb-true (f x) least low in inl (omega (arith, below, same))
      begun false high same = let above = leb-false (f x) least high in inr (x, Contains-first x xs, omega (arith, above, same))

-- a bucket with some text is that of one of the texts
abbrev HasTextIn : ℕ → ℕ → ℕ → List (List ℕ) → Type 0
HasTextIn seed level bucket texts = (text : List ℕ) × Contains texts text × (bucket_of seed level text ≡ bucket)

text_by : (seed level bucket : ℕ) (text : List ℕ) (texts : List (List ℕ)) (b : Bool) → (bucket_of seed level text == bucket) ≡ b →
    0 < cond b 1 0 + in_bucket seed level texts bucket → (0 < in_bucket seed level texts bucket → HasTextIn seed level bucket texts) → HasTextIn seed level bucket (text ∷ texts)
text_by seed level bucket text texts true is some later = (text, Contains-first text texts, (Decides-eqb (bucket_of seed level text) bucket).0 is)
text_by seed level bucket text texts false is some later =
    let found = later (omega (arith, some)) in
    (found.0, Contains-later text texts found.0 found.1, found.2)

text_in : (seed level bucket : ℕ) (texts : List (List ℕ)) → 0 < in_bucket seed level texts bucket → HasTextIn seed level bucket texts
text_in seed level bucket [] some = absurd (omega (arith, some))
text_in seed level bucket (text ∷ texts) some =
    let one_more = sum_by-cons (λ t. cond (bucket_of seed level t == bucket) 1 0) text texts in
    text_by seed level bucket text texts (bucket_of seed level text == bucket) refl (omega (arith, one_more, some)) (λ rest. text_in seed level bucket texts rest)

pub one_more_text : (seed level bucket : ℕ) (text : List ℕ) (texts : List (List ℕ)) →
    in_bucket seed level (text ∷ texts) bucket ≡ cond (bucket_of seed level text == bucket) 1 0 + in_bucket seed level texts bucket
one_more_text seed level bucket text texts = sum_by-cons (λ t. cond (bucket_of seed level t == bucket) 1 0) text texts

-- no bucket is longer than the longest, and that is the bucket of a text
module _ (seed level : ℕ) (texts : List (List ℕ)) where
  own_bucket : List ℕ → ℕ
  own_bucket text = in_bucket seed level texts (bucket_of seed level text)

  not_longer : (bucket n : ℕ) → in_bucket seed level texts bucket ≡ n → n ≤ longest_bucket seed level texts
  unfolding own_bucket
  not_longer bucket zero is = omega arith
  not_longer bucket (suc n) is =
      let found = text_in seed level bucket texts (omega (arith, is)) in
      let each : own_bucket found.0 ≤ longest_bucket seed level texts = most-each own_bucket 0 texts found.0 found.1 in
      let same : own_bucket found.0 ≡ in_bucket seed level texts bucket = ap (in_bucket seed level texts) found.2 in
      omega (arith, each, same, is)

  pub no_longer_bucket : (bucket : ℕ) → in_bucket seed level texts bucket ≤ longest_bucket seed level texts
  no_longer_bucket bucket = not_longer bucket (in_bucket seed level texts bucket) refl

-- a text is in its own bucket
own_text : (seed level : ℕ) (text : List ℕ) (texts : List (List ℕ)) → 0 < in_bucket seed level (text ∷ texts) (bucket_of seed level text)
own_text seed level text texts =
    let one_more = one_more_text seed level (bucket_of seed level text) text texts in
    let here = ap {B = ℕ} (λ b. cond b 1 0) ((Decides-eqb (bucket_of seed level text) (bucket_of seed level text)).1 refl) in
    omega (arith, one_more, here)

pub longest_is_reached : (seed level : ℕ) (texts : List (List ℕ)) →
    ((texts ≡ []) × (longest_bucket seed level texts ≡ 0))
    ⊎ ((text : List ℕ) × Contains texts text × (in_bucket seed level texts (bucket_of seed level text) ≡ longest_bucket seed level texts))
longest_is_reached seed level [] = inl (refl, refl)
longest_is_reached seed level (text ∷ texts) =
    let all = text ∷ texts in
    elim (most-reached (λ t. in_bucket seed level all (bucket_of seed level t)) 0 all) [
      | inl none ↦
          let some = own_text seed level text texts in
          let below = no_longer_bucket seed level all (bucket_of seed level text) in
          let nothing : longest_bucket seed level all ≡ 0 = none in
          absurd (omega (arith, some, below, nothing))
      | inr found ↦ inr found
    ]

-- the search for a level
settle-least : (load live level steps : ℕ) → level ≤ settle_from load live level steps
settle-least load live level zero = omega arith
settle-least load live level (suc steps) = by (nat_le live (2 ^ level * load)) (settle-least load live (level + 1) steps)
  where
    by : (b : Bool) → level + 1 ≤ settle_from load live (level + 1) steps → level ≤ cond b level (settle_from load live (level + 1) steps)
    by true rest = omega arith
    by false rest = omega (arith, rest)

settle-greatest : (load live level steps : ℕ) → settle_from load live level steps ≤ level + steps
settle-greatest load live level zero = omega arith
settle-greatest load live level (suc steps) = by (nat_le live (2 ^ level * load)) (settle-greatest load live (level + 1) steps)
  where
    by : (b : Bool) → settle_from load live (level + 1) steps ≤ level + 1 + steps → cond b level (settle_from load live (level + 1) steps) ≤ level + suc steps
    by true rest = omega arith
    by false rest = omega (arith, rest)

abbrev HoldsOrEnds : ℕ → ℕ → ℕ → ℕ → Type 0
HoldsOrEnds load live last found = (live ≤ 2 ^ found * load) ⊎ (found ≡ last)

settle-holds : (load live level steps last : ℕ) → level + steps ≡ last → HoldsOrEnds load live last (settle_from load live level steps)
settle-holds load live level zero last is = inr (omega (arith, is))
settle-holds load live level (suc steps) last is = by (nat_le live (2 ^ level * load)) refl (settle-holds load live (level + 1) steps last (omega (arith, is)))
  where
    by : (b : Bool) → nat_le live (2 ^ level * load) ≡ b → HoldsOrEnds load live last (settle_from load live (level + 1) steps) →
        HoldsOrEnds load live last (cond b level (settle_from load live (level + 1) steps))
    by true holds rest = inl (leb-true live (2 ^ level * load) holds)
    by false holds rest = rest

settle-lower : (load live level steps low : ℕ) → level ≤ low → low < settle_from load live level steps → 2 ^ low * load < live
settle-lower load live level zero low above below = absurd (omega (arith, above, below))
settle-lower load live level (suc steps) low above below =
    by (nat_le live (2 ^ level * load)) refl (low == level) refl below (λ more less. settle-lower load live (level + 1) steps low more less)
  where
    by : (b : Bool) → nat_le live (2 ^ level * load) ≡ b → (c : Bool) → (low == level) ≡ c → low < cond b level (settle_from load live (level + 1) steps) →
        (level + 1 ≤ low → low < settle_from load live (level + 1) steps → 2 ^ low * load < live) → 2 ^ low * load < live
    by true holds c is less rest = absurd (omega (arith, above, less))
    by false holds true is less rest = subst (λ l. 2 ^ l * load < live) (sym ((Decides-eqb low level).0 is)) (leb-false live (2 ^ level * load) holds)
    by false holds false is less rest = rest (let differ = not_from_Decides (low == level) (Decides-eqb low level) is in omega (arith, above, differ)) less

pub settle_level-least : (load min_level max_level live : ℕ) → min_level ≤ max_level → min_level ≤ settle_level load min_level max_level live
settle_level-least load min_level max_level live ordered = settle-least load live min_level (max_level - min_level)

pub settle_level-greatest : (load min_level max_level live : ℕ) → min_level ≤ max_level → settle_level load min_level max_level live ≤ max_level
settle_level-greatest load min_level max_level live ordered = let most = settle-greatest load live min_level (max_level - min_level) in omega (arith, most, ordered)

pub settle_level-holds : (load min_level max_level live : ℕ) → min_level ≤ max_level → HoldsOrEnds load live max_level (settle_level load min_level max_level live)
settle_level-holds load min_level max_level live ordered = settle-holds load live min_level (max_level - min_level) max_level (omega (arith, ordered))

pub settle_level-lower : (load min_level max_level live level : ℕ) → min_level ≤ level → level < settle_level load min_level max_level live → 2 ^ level * load < live
settle_level-lower load min_level max_level live level above below = settle-lower load live min_level (max_level - min_level) level above below
