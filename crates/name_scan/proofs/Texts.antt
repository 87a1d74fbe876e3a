-- Where the text of a literal ends.
use Rattle.std.proofs.Common.{◌≡◌, ◌≢◌, ℕ, suc, ◌+◌, ◌-◌, ◌<◌, ◌⊎◌, inl, inr, Bool, true, false, ◌&&◌, ◌||◌, not, ◌==◌, List, [], ◌∷◌, length, take, drop, get_or, slice_index, IsTrue, IsFalse, refl, sym, ◌∙◌, ap, subst, arith, add-zero, length-drop, get_or-drop, drop-drop, below_more}
use Rattle.std.proofs.lemmas.Bool.{cases_Bool, cases_order, cases_eq, cases_lt, or_cases, or_parts, and_parts, and_cases, eqb-true, eqb-false, ne_eqb, not-true, not-false, cond-true, cond-false}
use Rattle.std.proofs.Math.Bool.{and-false}
use Rattle.std.proofs.lemmas.List.Sums.{fold_more}
use Rattle.name_scan.specs.Pieces.{is_name_byte, takes, takes_next, IsLiteralText, IsOpen, EndsText, IsTaken}
use Rattle.name_scan.specs.Tokens.{text_len}

pub quote_ends_names : IsFalse (is_name_byte 34)
unfolding is_name_byte
quote_ends_names = refl

pub newline_ends_names : IsFalse (is_name_byte 10)
unfolding is_name_byte
newline_ends_names = refl

pub backslash_ends_names : IsFalse (is_name_byte 92)
unfolding is_name_byte
backslash_ends_names = refl

pub takes_next_none : (bs : List ℕ) → IsFalse (takes_next (take 0 bs))
unfolding takes_next
takes_next_none bs = refl

-- whether a text of one more byte takes the next one along
pub takes_next_more : (bs : List ℕ) (i : ℕ) → i < length bs → takes_next (take (i + 1) bs) ≡ takes (takes_next (take i bs)) (slice_index bs i)
unfolding takes_next
takes_next_more bs i h = fold_more takes false bs i 0 h

-- the empty text
pub text_none : (bs : List ℕ) → IsLiteralText 0 bs
text_none bs = record { within = omega arith; no_newline = λ k h. absurd (omega arith); quotes_taken = λ k h. absurd (omega arith) }

-- a text of one more byte, where that byte does not end it
pub text_more : (bs : List ℕ) (i : ℕ) → IsLiteralText i bs → i < length bs → slice_index bs i ≢ 10 → (slice_index bs i ≡ 34 → IsTrue (takes_next (take i bs))) → IsLiteralText (i + 1) bs
text_more bs i text within no_newline quote_taken = record {
  within = omega arith;
  no_newline = below_more _ _ text.no_newline no_newline;
  quotes_taken = below_more _ _ text.quotes_taken quote_taken;
}

-- a text does not go on behind the place where it may end
ends_before : (bs : List ℕ) (m n : ℕ) → IsLiteralText m bs → EndsText n bs → n < m → ⊥
ends_before bs m n text (inl closed) less =
    let taken : takes_next (take n bs) ≡ true = text.quotes_taken n less closed.quote in
    let free : takes_next (take n bs) ≡ false = closed.not_taken in
    cc
ends_before bs m n text (inr (inl whole)) less = omega (arith, text.within)
ends_before bs m n text (inr (inr newline)) less = text.no_newline n less newline

-- a text ends at one place only
pub same_text : (bs : List ℕ) (m n : ℕ) → IsLiteralText m bs → EndsText m bs → IsLiteralText n bs → EndsText n bs → m ≡ n
same_text bs m n text ends text' ends' =
    elim (cases_order m n) [
      | inl same ↦ same
      | inr (inl less) ↦ absurd (ends_before bs n m text' ends less)
      | inr (inr more) ↦ absurd (ends_before bs m n text ends' more)
    ]

-- where the byte behind the text ends it
pub ends_here : (bs : List ℕ) (i b : ℕ) → i < length bs → slice_index bs i ≡ b → ((b == 10) || ((b == 34) && not (takes_next (take i bs)))) ≡ true → EndsText i bs
ends_here bs i b within read ends =
    elim (or_cases _ _ ends) [
      | inl newline ↦ inr (inr (read ∙ eqb-true b 10 newline))
      | inr quote ↦
          let parts : ((b == 34) ≡ true) × (not (takes_next (take i bs)) ≡ true) = and_parts _ _ quote in
          inl (record { within = within; quote = read ∙ eqb-true b 34 parts.0; not_taken = not-true _ parts.1 })
    ]

-- where the byte behind the text does not end it
pub goes_on : (bs : List ℕ) (i b : ℕ) → IsLiteralText i bs → i < length bs → slice_index bs i ≡ b → ((b == 10) || ((b == 34) && not (takes_next (take i bs)))) ≡ false → IsLiteralText (i + 1) bs
goes_on bs i b text within read on =
    let parts : ((b == 10) ≡ false) × (((b == 34) && not (takes_next (take i bs))) ≡ false) = or_parts _ _ on in
    text_more bs i text within
    (λ newline. eqb-false b 10 parts.0 (sym read ∙ newline))
    (λ quote. elim (and_cases _ _ parts.1) [
      | inl other ↦ absurd (eqb-false b 34 other (sym read ∙ quote))
      | inr taken ↦ not-false _ taken
    ])

-- what is left of the bytes from a place on, and at its head the byte there
pub left_within : (bs rest : List ℕ) (i b : ℕ) → drop i bs ≡ b ∷ rest → i < length bs
left_within bs rest i b left =
    let counts : length bs - i ≡ suc (length rest) = sym (length-drop i bs) ∙ ap length left in
    omega arith

pub left_head : (bs rest : List ℕ) (i b : ℕ) → drop i bs ≡ b ∷ rest → slice_index bs i ≡ b
left_head bs rest i b left = ap (λ n. get_or bs n 0) (sym (add-zero i)) ∙ sym (get_or-drop i bs 0 0) ∙ ap (λ xs. get_or xs 0 0) left

pub left_tail : (bs rest : List ℕ) (i b : ℕ) → drop i bs ≡ b ∷ rest → drop (i + 1) bs ≡ rest
left_tail bs rest i b left = sym (drop-drop 1 i bs) ∙ ap (λ xs. drop 1 xs) left

-- the text that `text_len` counts, from a place within it on
text_len_from : (rest bs : List ℕ) (i : ℕ) → drop i bs ≡ rest → IsLiteralText i bs → (n : ℕ) → n ≡ i + text_len (takes_next (take i bs)) rest → IsLiteralText n bs × EndsText n bs
text_len_from [] bs i left text n is =
    let counts : length bs - i ≡ 0 = sym (length-drop i bs) ∙ ap length left in
    let here : i ≡ n = sym (is ∙ add-zero i) in
    let whole : i ≡ length bs = omega (arith, text.within) in
    subst (λ (k : ℕ). IsLiteralText k bs × EndsText k bs) here (text, inr (inl whole))
text_len_from (b ∷ rest) bs i left text n is =
    let within : i < length bs = left_within bs rest i b left in
    let read : slice_index bs i ≡ b = left_head bs rest i b left in
    elim (cases_Bool ((b == 10) || ((b == 34) && not (takes_next (take i bs))))) [
      | inl ends ↦
          let here : i ≡ n = sym (is ∙ ap (λ (k : ℕ). i + k) (cond-true _ _ _ ends) ∙ add-zero i) in
          subst (λ (k : ℕ). IsLiteralText k bs × EndsText k bs) here (text, ends_here bs i b within read ends)
      | inr on ↦
          let taken : takes (takes_next (take i bs)) b ≡ takes_next (take (i + 1) bs) = ap (takes (takes_next (take i bs))) (sym read) ∙ sym (takes_next_more bs i within) in
          let counts : n ≡ i + suc (text_len (takes (takes_next (take i bs)) b) rest) = is ∙ ap (λ (k : ℕ). i + k) (cond-false _ _ _ on) in
          let there : n ≡ (i + 1) + text_len (takes_next (take (i + 1) bs)) rest = rw (← taken) (omega (arith, counts)) in
          text_len_from rest bs (i + 1) (left_tail bs rest i b left) (goes_on bs i b text within read on) n there
    ]

-- the text that `text_len` counts
pub text_len_is : (bs : List ℕ) → IsLiteralText (text_len false bs) bs × EndsText (text_len false bs) bs
text_len_is bs =
    let starts : text_len (takes_next (take 0 bs)) bs ≡ text_len false bs = ap (λ (taken : Bool). text_len taken bs) (takes_next_none bs) in
    text_len_from bs bs 0 refl (text_none bs) (text_len false bs) (omega (arith, starts))

-- the one text that the bytes behind an opening quote begin with
pub text_is : (bs : List ℕ) (n : ℕ) → IsLiteralText n bs → EndsText n bs → n ≡ text_len false bs
text_is bs n text ends = same_text bs n (text_len false bs) text ends (text_len_is bs).0 (text_len_is bs).1

-- a literal's text may have the first n bytes, and the next one is not taken along, unless it ends the text all the same
pub record ReadsTo (n : ℕ) (behind : List ℕ) : Type 0 where
  pub text : IsLiteralText n behind
  pub free : IsFalse (takes_next (take n behind)) ⊎ IsOpen n behind

pub reads_none : (behind : List ℕ) → ReadsTo 0 behind
reads_none behind = record { text = text_none behind; free = inl (takes_next_none behind) }

-- a byte that means nothing in a literal
pub reads_plain : (behind : List ℕ) (n : ℕ) → ReadsTo n behind → n < length behind → slice_index behind n ≢ 10 → slice_index behind n ≢ 34 → slice_index behind n ≢ 92 → ReadsTo (n + 1) behind
reads_plain behind n reads within no_newline no_quote no_backslash = record {
  text = text_more behind n reads.text within no_newline (λ quote. absurd (no_quote quote));
  free = inl (takes_next_more behind n within ∙ ap (λ test. test && not (takes_next (take n behind))) (ne_eqb _ 92 no_backslash));
}

-- a backslash takes the next byte along
backslash_takes : (behind : List ℕ) (n : ℕ) → ReadsTo n behind → n < length behind → slice_index behind n ≡ 92 → IsTrue (takes_next (take (n + 1) behind))
backslash_takes behind n reads within backslash =
    elim reads.free [
      | inl free ↦ takes_next_more behind n within ∙ ap (takes (takes_next (take n behind))) backslash ∙ ap (λ (taken : Bool). takes taken 92) free
      | inr (inl whole) ↦ absurd (omega arith)
      | inr (inr newline) ↦ absurd (omega arith)
    ]

backslash_more : (behind : List ℕ) (n : ℕ) → ReadsTo n behind → n < length behind → slice_index behind n ≡ 92 → IsLiteralText (n + 1) behind
backslash_more behind n reads within backslash = text_more behind n reads.text within (λ newline. absurd (omega arith)) (λ quote. absurd (omega arith))

pub reads_taken : (behind : List ℕ) (n : ℕ) → ReadsTo n behind → n < length behind → slice_index behind n ≡ 92 → IsTaken (drop (n + 1) behind) → ReadsTo (n + 2) behind
reads_taken behind n reads within backslash next =
    let there : n + 1 < length behind = omega (arith, length-drop (n + 1) behind, next.present) in
    let read : slice_index (drop (n + 1) behind) 0 ≡ slice_index behind (n + 1) = get_or-drop (n + 1) behind 0 0 ∙ ap (λ k. get_or behind k 0) (add-zero (n + 1)) in
    let takes_it : takes_next (take (n + 1) behind) ≡ true = backslash_takes behind n reads within backslash in
    let last : n + 1 + 1 ≡ n + 2 = omega arith in
    subst (λ k. ReadsTo k behind) last (record {
      text = text_more behind (n + 1) (backslash_more behind n reads within backslash) there (λ newline. next.no_newline (read ∙ newline)) (λ quote. takes_it);
      free = inl (takes_next_more behind (n + 1) there ∙ ap (λ (taken : Bool). takes taken (slice_index behind (n + 1))) takes_it ∙ none_taken (slice_index behind (n + 1)));
    })
  where
    none_taken : (b : ℕ) → takes true b ≡ false
    none_taken b = and-false (b == 92)

-- a backslash that takes nothing along
pub reads_alone : (behind : List ℕ) (n : ℕ) → ReadsTo n behind → n < length behind → slice_index behind n ≡ 92 → ¬ (IsTaken (drop (n + 1) behind)) → ReadsTo (n + 1) behind
reads_alone behind n reads within backslash none = record { text = backslash_more behind n reads within backslash; free = inr (ends (cases_eq (slice_index behind (n + 1)) 10)) }
  where
    read : slice_index (drop (n + 1) behind) 0 ≡ slice_index behind (n + 1)
    read = get_or-drop (n + 1) behind 0 0 ∙ ap (λ k. get_or behind k 0) (add-zero (n + 1))

    ends : (slice_index behind (n + 1) ≡ 10) ⊎ (slice_index behind (n + 1) ≢ 10) → IsOpen (n + 1) behind
    ends (inl newline) = inr newline
    ends (inr other) = elim (cases_lt (n + 1) (length behind)) [
      | inl there ↦ absurd (none (record { present = omega (arith, length-drop (n + 1) behind); no_newline = λ newline. other (sym read ∙ newline) }))
      | inr past ↦ inl (omega arith)
    ]

-- the text ends at a quote that is not taken along
pub ends_at_quote : (behind : List ℕ) (n : ℕ) → ReadsTo n behind → n < length behind → slice_index behind n ≡ 34 → EndsText n behind
ends_at_quote behind n reads within quote =
    elim reads.free [
      | inl free ↦ inl (record { within = within; quote = quote; not_taken = free })
      | inr ends ↦ inr ends
    ]
