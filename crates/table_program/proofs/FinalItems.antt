-- The last items of a list as it grows by one.
use Rattle.std.proofs.Common.{◌≡◌, ℕ, zero, suc, ◌-◌, ◌<◌, ◌≤◌, List, [], ◌∷◌, ◌++◌, Some, length, drop, map, refl, sym, ap, ◌∙◌, arith, length-append, length-drop, ◌⊎◌, inl, inr, Bool, true, false, nat_lt}
use Rattle.std.specs.Prelude.{slice_get}
use Rattle.std.proofs.lemmas.List.{length-map, drop-map, drop-append-le}
use Rattle.std.proofs.lemmas.Bool.{ltb-true, ltb-false}
use Rattle.intern_log.specs.Finals.{finals}

lt_or_le : (a b : ℕ) → (a < b) ⊎ (b ≤ a)
lt_or_le a b = by_test (nat_lt a b) refl
  where
    by_test : (test : Bool) → nat_lt a b ≡ test → (a < b) ⊎ (b ≤ a)
    by_test true is = inl (ltb-true a b is)
    by_test false is = inr (ltb-false a b is)

module _ {X : Type 0} where
  -- the item at a place, and what is behind it
  record At (n : ℕ) (xs : List X) : Type 0 where
    item : X
    split : drop n xs ≡ item ∷ drop (suc n) xs
    place : slice_get xs n ≡ Some item

  at : (n : ℕ) (xs : List X) → n < length xs → At n xs
  at n [] within = absurd (omega arith)
  at zero (x ∷ xs) within = record { item = x; split = refl; place = refl }
  at (suc n) (x ∷ xs) within = let here = at n xs (omega arith) in record { item = here.item; split = here.split; place = here.place }

  -- while there is room, nothing leaves
  pub finals-push_room : (hold : ℕ) (xs : List X) (x : X) → length xs < hold → finals hold (xs ++ x ∷ []) ≡ finals hold xs ++ x ∷ []
  finals-push_room hold xs x room =
      let all : length (xs ++ x ∷ []) - hold ≡ 0 = omega (arith, length-append xs (x ∷ [])) in
      let before : length xs - hold ≡ 0 = omega arith in
      ap (λ n. drop n (xs ++ x ∷ [])) all ∙ sym (ap (λ n. drop n xs ++ x ∷ []) before)

  -- what is there when the window is full: the item that leaves, and those that stay
  pub record Leaves (hold : ℕ) (xs : List X) (x : X) : Type 0 where
    pub first : X
    pub rest : finals hold xs ++ x ∷ [] ≡ first ∷ finals hold (xs ++ x ∷ [])
    pub place : slice_get (xs ++ x ∷ []) (length xs - hold) ≡ Some first

  pub finals-push_full : (hold : ℕ) (xs : List X) (x : X) → hold ≤ length xs → 0 < hold → Leaves hold xs x
  finals-push_full hold xs x full some =
      let n = length xs - hold in
      let here = at n (xs ++ x ∷ []) (omega (arith, length-append xs (x ∷ []))) in
      let next : length (xs ++ x ∷ []) - hold ≡ suc n = omega (arith, length-append xs (x ∷ [])) in
      record {
        first = here.item;
        rest = sym (drop-append-le n xs (x ∷ []) (omega arith)) ∙ here.split ∙ ap (λ k. here.item ∷ drop k (xs ++ x ∷ [])) (sym next);
        place = here.place;
      }

  pub finals-map : {Y : Type 0} (f : X → Y) (hold : ℕ) (xs : List X) → map f (finals hold xs) ≡ finals hold (map f xs)
  finals-map f hold xs = sym (drop-map f (length xs - hold) xs) ∙ ap (λ n. drop (n - hold) (map f xs)) (sym (length-map xs f))

  pub length-finals : (hold : ℕ) (xs : List X) → length (finals hold xs) ≤ hold
  length-finals hold xs = omega (arith, length-drop (length xs - hold) xs)

  -- the last items of a list of no more than that many are all of them
  pub finals_all : (hold : ℕ) (xs : List X) → length xs ≤ hold → finals hold xs ≡ xs
  finals_all hold xs few = let none : length xs - hold ≡ 0 = omega arith in ap (λ n. drop n xs) none

  -- what leaves the last items leaves them for good
  pub finals-again : (hold : ℕ) (xs : List X) (x : X) → 0 < hold → finals hold (finals hold xs ++ x ∷ []) ≡ finals hold (xs ++ x ∷ [])
  finals-again hold xs x some = by_room (lt_or_le (length xs) hold)
    where
      by_room : (length xs < hold) ⊎ (hold ≤ length xs) → finals hold (finals hold xs ++ x ∷ []) ≡ finals hold (xs ++ x ∷ [])
      by_room (inl room) = ap (finals hold) (sym (finals-push_room hold xs x room)) ∙ finals_all hold (finals hold (xs ++ x ∷ [])) (length-finals hold (xs ++ x ∷ []))
      by_room (inr full) =
          let leaves = finals-push_full hold xs x full some in
          let all : length (finals hold (xs ++ x ∷ [])) ≡ hold = omega (arith, length-drop (length (xs ++ x ∷ []) - hold) (xs ++ x ∷ []), length-append xs (x ∷ [])) in
          let one : length (leaves.first ∷ finals hold (xs ++ x ∷ [])) - hold ≡ suc zero = omega arith in
          ap (finals hold) leaves.rest ∙ ap (λ n. drop n (leaves.first ∷ finals hold (xs ++ x ∷ []))) one
