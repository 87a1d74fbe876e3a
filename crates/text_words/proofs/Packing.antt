-- What the loops of `pack` and `unpack` store.
use Rattle.std.proofs.Common.{◌≡◌, ℕ, zero, suc, ◌+◌, ◌-◌, ◌*◌, ◌<◌, ◌≤◌, List, [], ◌∷◌, ◌++◌, length, get_or, set, take, drop, map, refl, sym, ap, ◌∙◌, append_assoc, arith, w64}
use Rattle.std.specs.Int.{to_le_bytes}
use Rattle.std.specs.List.{flat_map, range_with_len}
use Rattle.std.proofs.lemmas.List.{drop_more, set_at, take-append-le, take_at, drop_at, drop-drop, length-take}
use Rattle.std.proofs.lemmas.List.FromFn.{length-map-range_with_len, map-range_with_len_more}
use borrow.Rule.Slice.PartMut.{put_mid}

-- a list made from a function, with one more element stored over what stood behind it
pub set-made_list : (f : ℕ → ℕ) (out : List ℕ) (n y : ℕ) → n < length out → y ≡ f n →
    set (map f (range_with_len 0 n) ++ drop n out) n y ≡ map f (range_with_len 0 (n + 1)) ++ drop (n + 1) out
set-made_list f out n y within made =
    let front = map f (range_with_len 0 n) in
    let back = drop (n + 1) out in
    rw (drop_more out n 0 within, set_at front (get_or out n 0) back y n (length-map-range_with_len f 0 n), made, map-range_with_len_more f 0 n n (omega arith))
    (sym (append_assoc front (f n ∷ []) back))

-- each word gives 8 bytes
pub length-bytes : (words : List ℕ) → length (flat_map (to_le_bytes w64) words) ≡ 8 * length words
length-bytes [] = refl
length-bytes (x ∷ xs) = let rest = length-bytes xs in omega arith

-- the bytes of whole words, and the first bytes of the word behind them
pub take-bytes : (words : List ℕ) (n rest : ℕ) → n < length words → rest ≤ 8 →
    take (8 * n + rest) (flat_map (to_le_bytes w64) words) ≡ flat_map (to_le_bytes w64) (take n words) ++ take rest (to_le_bytes w64 (get_or words n 0))
take-bytes [] n rest within few = absurd (omega arith)
take-bytes (x ∷ xs) zero rest within few =
    let only : 8 * 0 + rest ≡ rest = omega arith in
    rw only (take-append-le rest (to_le_bytes w64 x) (flat_map (to_le_bytes w64) xs) few)
take-bytes (x ∷ xs) (suc n) rest within few =
    let more : 8 * suc n + rest ≡ suc (suc (suc (suc (suc (suc (suc (suc (8 * n + rest)))))))) = omega arith in
    rw more (ap (λ (bs : List ℕ). to_le_bytes w64 x ++ bs) (take-bytes xs n rest (omega arith) few))

-- the bytes of whole words alone
pub take-whole_bytes : (words : List ℕ) (n : ℕ) → n ≤ length words → take (8 * n) (flat_map (to_le_bytes w64) words) ≡ flat_map (to_le_bytes w64) (take n words)
take-whole_bytes words zero within = refl
take-whole_bytes [] (suc n) within = absurd (omega arith)
take-whole_bytes (x ∷ xs) (suc n) within =
    let more : 8 * suc n ≡ suc (suc (suc (suc (suc (suc (suc (suc (8 * n)))))))) = omega arith in
    rw more (ap (λ (bs : List ℕ). to_le_bytes w64 x ++ bs) (take-whole_bytes xs n (omega arith)))

-- after the bytes of the whole words, those of the last word are stored behind them
pub put_mid-last_word : (words old out piece : List ℕ) (n at rest bytes : ℕ) → n < length words → rest ≤ 8 →
    out ≡ flat_map (to_le_bytes w64) (take n words) ++ drop (8 * n) old → piece ≡ take rest (to_le_bytes w64 (get_or words n 0)) →
    at ≡ 8 * n → bytes ≡ 8 * n + rest → put_mid at (bytes - at) out piece ≡ take bytes (flat_map (to_le_bytes w64) words) ++ drop bytes old
put_mid-last_word words old out piece n at rest bytes within few stored last begin end =
    let front = flat_map (to_le_bytes w64) (take n words) in
    let front_len : length front ≡ at = omega (arith, length-bytes (take n words), length-take n words) in
    let back : drop (bytes - at) (drop at old) ≡ drop bytes old = drop-drop (bytes - at) at old ∙ ap (λ (k : ℕ). drop k old) (let k : at + (bytes - at) ≡ bytes = omega arith in k) in
    let whole : take bytes (flat_map (to_le_bytes w64) words) ≡ front ++ piece = rw (end, last) (take-bytes words n rest within few) in
    rw (stored, ← begin, take_at front (drop at old) at front_len, drop_at front (drop at old) at front_len, back, whole) (sym (append_assoc front piece (drop bytes old)))

-- where no word is begun, those are all
pub stored-whole_words : (words old out : List ℕ) (n bytes : ℕ) → n ≤ length words →
    out ≡ flat_map (to_le_bytes w64) (take n words) ++ drop (8 * n) old → bytes ≡ 8 * n → out ≡ take bytes (flat_map (to_le_bytes w64) words) ++ drop bytes old
stored-whole_words words old out n bytes within stored end = rw (end, take-whole_bytes words n within) stored
