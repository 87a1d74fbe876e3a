-- The greatest number of texts in one bucket, from the counters of some buckets and in any order of the texts.
use Rattle.std.proofs.Common.{◌≡◌, ◌⊎◌, inl, inr, ℕ, zero, suc, ◌+◌, ◌-◌, ◌^◌, ◌<◌, ◌≤◌, ◌==◌, Bool, true, false, cond, max, fold, count_by, List, [], ◌∷◌, get_or, slice_get, length, Some, refl, sym, ap, ◌∙◌, arith, IsPermutation}
use Rattle.std.proofs.lemmas.Option.{slice_get_within, slice_get-get_or, get_or_from_slice_get}
use Rattle.std.proofs.lemmas.List.Sorted.{sum_by-IsPermutation}
use Rattle.std.proofs.lemmas.List.Sums.{sum_by-cons}
use Rattle.std.proofs.lemmas.Bool.Decides.{Decides-eqb}
use Rattle.std.proofs.lemmas.Nat.{mod_below, pow_pos}
use Rattle.text_words.specs.Hash.{hash_of}
use Rattle.intern_log.specs.Buckets.{bucket_of, in_bucket, longest_bucket}
use Rattle.plain_interner.specs.Longest.{IsLongestOf}

same_Some : {X : Type 0} (x y : X) → Some x ≡ Some y → x ≡ y
same_Some x y is = cc

max_is : (a n : ℕ) → (max a n ≡ a) ⊎ (max a n ≡ n)
max_is a n = by (a - n) refl
  where
    by : (d : ℕ) → a - n ≡ d → (max a n ≡ a) ⊎ (max a n ≡ n)
    by zero is = inr (omega (arith, is))
    by (suc d) is = inl (omega (arith, is))

module _ {A : Type 0} (f : A → ℕ) where
  -- the greatest f of an item, from a on
  abbrev most : ℕ → List A → ℕ
  most a xs = fold (λ m x. max m (f x)) a xs

  most-start : (xs : List A) (a : ℕ) → a ≤ most a xs
  most-start [] a = omega arith
  most-start (x ∷ xs) a = let later = most-start xs (max a (f x)) in omega (arith, later)

  most-bounds : (xs : List A) (a j : ℕ) (y : A) → slice_get xs j ≡ Some y → f y ≤ most a xs
  most-bounds [] a j y at = absurd (cc)
  most-bounds (x ∷ xs) a zero y at = let start = most-start xs (max a (f x)) in let same : f x ≡ f y = ap f (same_Some x y at) in omega (arith, start, same)
  most-bounds (x ∷ xs) a (suc j) y at = most-bounds xs (max a (f x)) j y at

  most-least : (xs : List A) (a n : ℕ) → a ≤ n → ((j : ℕ) (y : A) → slice_get xs j ≡ Some y → f y ≤ n) → most a xs ≤ n
  most-least [] a n start all = start
  most-least (x ∷ xs) a n start all = let first = all 0 x refl in most-least xs (max a (f x)) n (omega (arith, start, first)) (λ j y at. all (suc j) y at)

  most-reached : (xs : List A) (a : ℕ) → (most a xs ≡ a) ⊎ ((j : ℕ) × (y : A) × (slice_get xs j ≡ Some y) × (f y ≡ most a xs))
  most-reached [] a = inl refl
  most-reached (x ∷ xs) a = elim (most-reached xs (max a (f x))) [
    | inl start ↦ one_of_two (most (max a (f x)) xs) start
    | inr later ↦ inr (suc later.0, later.1, later.2, later.3)
  ]
    where
      one_of_two : (m : ℕ) → m ≡ max a (f x) → (m ≡ a) ⊎ ((j : ℕ) × (y : A) × (slice_get (x ∷ xs) j ≡ Some y) × (f y ≡ m))
      one_of_two m is = elim (max_is a (f x)) [ inl first ↦ inl (is ∙ first) | inr second ↦ inr (0, x, refl, sym (is ∙ second)) ]

-- some item passes, where any are counted
counted_item : {A : Type 0} (p : A → Bool) (xs : List A) → 0 < count_by p xs → (j : ℕ) × (y : A) × (slice_get xs j ≡ Some y) × (p y ≡ true)
counted_item p [] some = absurd (omega (arith, some))
counted_item {A} p (x ∷ xs) some = by (p x) refl (counted_item p xs) (sum_by-cons (λ y. cond (p y) 1 0) x xs)
  where
    by : (b : Bool) → p x ≡ b → (0 < count_by p xs → (j : ℕ) × (y : A) × (slice_get xs j ≡ Some y) × (p y ≡ true)) → count_by p (x ∷ xs) ≡ cond b 1 0 + count_by p xs
        → (j : ℕ) × (y : A) × (slice_get (x ∷ xs) j ≡ Some y) × (p y ≡ true)
    by true passes later is = (0, x, refl, passes)
    by false fails later is = let found = later (omega (arith, some, is)) in (suc found.0, found.1, found.2, found.3)

module _ (level : ℕ) (texts : List (List ℕ)) where
  abbrev count : ℕ → ℕ
  count bucket = in_bucket 0 level texts bucket

  abbrev of_text : List ℕ → ℕ
  of_text text = count (bucket_of 0 level text)

  below_end : (text : List ℕ) → bucket_of 0 level text < 2 ^ level
  below_end text = mod_below (hash_of 0 text) (2 ^ level) (pow_pos level)

  -- no bucket has more texts than the longest
  bucket-longest : (bucket : ℕ) → count bucket ≤ longest_bucket 0 level texts
  bucket-longest bucket = by (count bucket) refl
    where
      by : (n : ℕ) → count bucket ≡ n → n ≤ longest_bucket 0 level texts
      by zero is = omega arith
      by (suc n) is =
          let item = counted_item (λ text. bucket_of 0 level text == bucket) texts (omega (arith, is)) in
          let here : bucket_of 0 level item.1 ≡ bucket = (Decides-eqb (bucket_of 0 level item.1) bucket).0 item.3 in
          let bound = most-bounds of_text texts 0 item.0 item.1 item.2 in
          omega (arith, bound, ap count here, is)

  IsLongestOf-longest : (end : ℕ) → IsLongestOf level texts 0 end (longest_bucket 0 level texts)
  IsLongestOf-longest end = record {
    bounds = λ bucket from below. bucket-longest bucket;
    reached = elim (most-reached of_text texts 0) [ inl none ↦ inl none | inr item ↦ inr (bucket_of 0 level item.1, item.3) ];
  }

  -- the longest of all buckets
  pub longest_of-all : (end n : ℕ) → 2 ^ level ≤ end → IsLongestOf level texts 0 end n → n ≡ longest_bucket 0 level texts
  longest_of-all end n whole known =
      let above = most-least of_text texts 0 n (omega arith) (λ j text at. known.bounds (bucket_of 0 level text) (omega arith) (omega (arith, whole, below_end text))) in
      elim known.reached [
        | inl none ↦ omega (arith, above, none)
        | inr some ↦ let bound = bucket-longest some.0 in omega (arith, above, bound, some.1)
      ]

  -- the longest of some buckets, from their counters
  pub longest_of-counters : (from n : ℕ) (counters : List ℕ) → ((k : ℕ) → k < length counters → get_or counters k 0 ≡ count (from + k))
      → n ≡ fold (λ m x. max m x) 0 counters → IsLongestOf level texts from (from + length counters) n
  longest_of-counters from n counters counted is = record {
    bounds = λ bucket above below.
        let k = bucket - from in
        let within : k < length counters = omega (arith, above, below) in
        let here : from + k ≡ bucket = omega (arith, above) in
        let bound = most-bounds (λ x. x) counters 0 k (get_or counters k 0) (slice_get-get_or counters k 0 within) in
        omega (arith, bound, is, counted k within, ap count here);
    reached = elim (most-reached (λ x. x) counters 0) [
      | inl none ↦ inl (is ∙ none)
      | inr item ↦ inr (from + item.0, sym (counted item.0 (slice_get_within counters item.0 item.1 item.2)) ∙ get_or_from_slice_get counters item.0 item.1 0 item.2 ∙ item.3 ∙ sym is)
    ];
  }

  -- the longest of two runs of buckets that meet
  pub longest_of-both : (from middle end m n : ℕ) → IsLongestOf level texts from middle m → IsLongestOf level texts middle end n → IsLongestOf level texts from end (max m n)
  longest_of-both from middle end m n first second = record {
    bounds = λ bucket above below. by bucket above below (suc bucket - middle) refl;
    reached = elim (max_is m n) [
      | inl is ↦ elim first.reached [ inl none ↦ inl (is ∙ none) | inr some ↦ inr (some.0, some.1 ∙ sym is) ]
      | inr is ↦ elim second.reached [ inl none ↦ inl (is ∙ none) | inr some ↦ inr (some.0, some.1 ∙ sym is) ]
    ];
  }
    where
      by : (bucket : ℕ) → from ≤ bucket → bucket < end → (d : ℕ) → suc bucket - middle ≡ d → count bucket ≤ max m n
      by bucket above below zero is = let bound = first.bounds bucket above (omega (arith, is)) in omega (arith, bound)
      by bucket above below (suc d) is = let bound = second.bounds bucket (omega (arith, is)) below in omega (arith, bound)

  -- of no bucket
  pub longest_of-none : IsLongestOf level texts 0 0 0
  longest_of-none = record { bounds = λ bucket above below. absurd (omega (arith, below)); reached = inl refl }

-- the order of the texts doesn't matter
pub longest_of-permuted : (level : ℕ) (texts others : List (List ℕ)) → IsPermutation texts others → longest_bucket 0 level others ≡ longest_bucket 0 level texts
longest_of-permuted level texts others moved =
    let known = IsLongestOf-longest level others (2 ^ level) in
    longest_of-all level texts (2 ^ level) (longest_bucket 0 level others) (omega arith) (record {
      bounds = λ bucket from below. omega (arith, known.bounds bucket from below, same bucket);
      reached = elim known.reached [ inl none ↦ inl none | inr some ↦ inr (some.0, sym (same some.0) ∙ some.1) ];
    })
  where
    same : (bucket : ℕ) → in_bucket 0 level others bucket ≡ in_bucket 0 level texts bucket
    same bucket = sum_by-IsPermutation (λ text. cond (bucket_of 0 level text == bucket) 1 0) texts others moved
