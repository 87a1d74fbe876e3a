-- The bytes of a text's words are those of the text.
use Rattle.std.proofs.Common.{◌≡◌, ℕ, zero, suc, ◌+◌, ◌*◌, ◌<◌, ◌≤◌, List, [], ◌∷◌, ◌++◌, length, get_or, take, drop, map, replicate, refl, sym, ap, ◌∙◌, arith, lit<, w64, inl, inr}
use Rattle.std.proofs.Math.Seq.{take-add}
use Rattle.std.proofs.lemmas.Bool.{cases_lt}
use Rattle.std.proofs.lemmas.Grind.{same_number_lists}
use Rattle.std.proofs.lemmas.List.{get_or-drop, get_or-take, get_or_past, length-append, length-drop, length-take-le, take-take, take_at}
use Rattle.std.proofs.lemmas.List.Elements.{All-get_or}
use Rattle.std.proofs.lemmas.List.FromFn.{get_or-map-range_with_len, length-map-range_with_len, map-range_with_len_more}
use Rattle.std.proofs.lemmas.List.Concat.{flat_map-append}
use Rattle.std.proofs.lemmas.Nat.{le_bytes_8}
use Rattle.std.specs.Int.{from_le_bytes, to_le_bytes}
use Rattle.std.specs.List.{All, flat_map, range_with_len}
use Rattle.text_words.specs.Words.{packed_words, unpacked, word_at, words_of}

-- a byte of a text, or the 0 past its end
byte_below : (text : List ℕ) → All (λ b. b < 256) text → (i : ℕ) → get_or text i 0 < 256
byte_below text bytes i = elim (cases_lt i (length text)) [
  | inl within ↦ All-get_or (λ (b : ℕ). b < 256) text i 0 within bytes
  | inr past ↦ rw (get_or_past text i 0 past) (omega arith)
]

-- zeros behind a text change no byte
get_or-zeros : (text : List ℕ) (n i : ℕ) → get_or (text ++ replicate n 0) i 0 ≡ get_or text i 0
get_or-zeros [] zero i = refl
get_or-zeros [] (suc n) zero = refl
get_or-zeros [] (suc n) (suc i) = get_or-zeros [] n i
get_or-zeros (b ∷ bs) n zero = refl
get_or-zeros (b ∷ bs) n (suc i) = get_or-zeros bs n i

-- so no word
word_at-zeros : (text : List ℕ) (n at : ℕ) → word_at (text ++ replicate n 0) at ≡ word_at text at
word_at-zeros text n at = simp get_or-zeros

-- a word is the number that its chunk of bytes makes
word_at-chunk : (text chunk : List ℕ) (at : ℕ) → ((j : ℕ) → j < 8 → get_or chunk j 0 ≡ get_or text (8 * at + j) 0) → word_at text at ≡ from_le_bytes w64 chunk
word_at-chunk text chunk at same =
    omega (arith, same 0 (lit< tt), same 1 (lit< tt), same 2 (lit< tt), same 3 (lit< tt), same 4 (lit< tt), same 5 (lit< tt), same 6 (lit< tt), same 7 (lit< tt))

-- the bytes of a word that a text fills
bytes_of-word_at : (text : List ℕ) (at : ℕ) → ((i : ℕ) → get_or text i 0 < 256) → 8 * at + 8 ≤ length text →
    to_le_bytes w64 (word_at text at) ≡ take 8 (drop (8 * at) text)
bytes_of-word_at text at bytes filled =
    let rest = drop (8 * at) text in
    let chunk = take 8 rest in
    let long : length chunk ≡ 8 = length-take-le 8 rest (rw (length-drop (8 * at) text) (omega arith)) in
    let same : (j : ℕ) → j < 8 → get_or chunk j 0 ≡ get_or text (8 * at + j) 0 = λ j below. get_or-take 8 rest j 0 below ∙ get_or-drop (8 * at) text j 0 in
    let below : (j : ℕ) → get_or chunk j 0 < 256 = λ j. elim (cases_lt j 8) [
      | inl within ↦ rw (same j within) (bytes (8 * at + j))
      | inr past ↦ rw (get_or_past chunk j 0 (omega arith)) (omega arith)
    ] in
    le_bytes_8 chunk (word_at text at) long below (word_at-chunk text chunk at same)

-- the bytes of the first words that a text fills
bytes_of-words : (f : ℕ → ℕ) (text : List ℕ) (n : ℕ) → ((at : ℕ) → f at ≡ word_at text at) → ((i : ℕ) → get_or text i 0 < 256) → 8 * n ≤ length text →
    flat_map (to_le_bytes w64) (map f (range_with_len 0 n)) ≡ take (8 * n) text
bytes_of-words f text zero made bytes filled = refl
bytes_of-words f text (suc n) made bytes filled =
    let next : suc n ≡ n + 1 = omega arith in
    let far : 8 * suc n ≡ 8 * n + 8 = omega arith in
    let front = bytes_of-words f text n made bytes (omega arith) in
    let word = ap (to_le_bytes w64) (made n) ∙ bytes_of-word_at text n bytes (omega arith) in
    ap (λ (k : ℕ). flat_map (to_le_bytes w64) (map f (range_with_len 0 k))) next ∙
    rw (map-range_with_len_more f 0 n n (omega arith), flat_map-append (to_le_bytes w64), far, take-add (8 * n) 8 text, front) (ap (λ (bs : List ℕ). take (8 * n) text ++ bs) word)

-- a text comes back from its words
pub unpacked-packed_words : (text : List ℕ) → All (λ b. b < 256) text → unpacked (packed_words text) (length text) ≡ text
unpacked-packed_words text bytes =
    let padded = text ++ replicate 8 0 in
    let count = words_of (length text) in
    let long : 8 * count ≤ length padded = rw (length-append text (replicate 8 0)) (omega arith) in
    let below : (i : ℕ) → get_or padded i 0 < 256 = λ i. rw (get_or-zeros text 8 i) (byte_below text bytes i) in
    let whole = bytes_of-words (word_at text) padded count (λ at. sym (word_at-zeros text 8 at)) below long in
    ap (take (length text)) whole ∙ take-take (length text) (8 * count) padded (omega arith) ∙ take_at text (replicate 8 0) (length text) refl

-- texts of one length are equal where their words are
pub same_texts : (a b : List ℕ) → All (λ b. b < 256) a → All (λ b. b < 256) b → length a ≡ length b → packed_words a ≡ packed_words b → a ≡ b
same_texts a b of_a of_b long words =
    sym (unpacked-packed_words a of_a) ∙ ap (λ (ws : List ℕ). unpacked ws (length a)) words ∙ ap (unpacked (packed_words b)) long ∙ unpacked-packed_words b of_b

-- also where each word is
pub same_texts_by_word : (a b : List ℕ) → All (λ b. b < 256) a → All (λ b. b < 256) b → length a ≡ length b → ((at : ℕ) → at < words_of (length a) → word_at a at ≡ word_at b at) → a ≡ b
same_texts_by_word a b of_a of_b long same =
    let count = words_of (length a) in
    let words : map (word_at a) (range_with_len 0 count) ≡ map (word_at b) (range_with_len 0 count) =
    same_number_lists _ _ (length-map-range_with_len (word_at a) 0 count ∙ sym (length-map-range_with_len (word_at b) 0 count))
    (λ k within.
    let inside : k < count = omega (arith, length-map-range_with_len (word_at a) 0 count) in
    get_or-map-range_with_len (word_at a) 0 count k k 0 inside (omega arith) ∙ same k inside ∙ sym (get_or-map-range_with_len (word_at b) 0 count k k 0 inside (omega arith))) in
    same_texts a b of_a of_b long (words ∙ ap (λ (n : ℕ). map (word_at b) (range_with_len 0 (words_of n))) long)
