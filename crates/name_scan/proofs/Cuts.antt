-- Each list of bytes is cut into pieces, and in one way only.
use Rattle.std.proofs.Common.{◌≡◌, ◌≢◌, ℕ, zero, suc, ◌+◌, ◌-◌, ◌<◌, ◌≤◌, inl, inr, false, ◌==◌, List, [], ◌∷◌, length, drop, slice_index, IsTrue, IsFalse, refl, sym, ◌∙◌, ap, subst, arith, length-drop}
use Rattle.std.specs.Char.{is_ascii_digit}
use Rattle.std.specs.List.{prefix_len}
use Rattle.std.proofs.lemmas.Bool.{cases_Bool, eqb-true, eqb-false, eq-eqb, ne_eqb, not_from_true, not_from_false, cond-true, cond-false}
use Rattle.std.proofs.lemmas.List.{get_or_past, nil_from_length}
use Rattle.std.proofs.lemmas.List.Sums.{prefix_len_is, prefix_len_passes, prefix_len_stops, prefix_len-le-length}
use Rattle.name_scan.specs.declared.Piece.{Piece}
use Rattle.name_scan.specs.declared.Piece.TheVariants.{Skipped, DigitRun, NameRun, ClosedLiteral, OpenLiteral}
use Rattle.name_scan.specs.Pieces.{is_name_byte, piece_len, IsRun, IsLiteralText, IsClosed, IsOpen, EndsText, IsPiece, IsCut}
use Rattle.name_scan.specs.Tokens.{text_len, literal_piece, first_piece, first_pieces, pieces, tokens_at, tokens}
use Rattle.name_scan.proofs.Texts.{quote_ends_names, text_len_is, text_is}

-- a run is as long as the name bytes go in a row
run_is : (n : ℕ) (bs : List ℕ) → IsRun n bs → n ≡ prefix_len is_name_byte bs
run_is n bs run = sym (prefix_len_is is_name_byte bs n 0 run.within run.all_name run.longest)

run_from : (b : ℕ) (bs : List ℕ) → IsTrue (is_name_byte b) → IsRun (prefix_len is_name_byte (b ∷ bs)) (b ∷ bs)
run_from b bs name = record {
  begins = (let more : prefix_len is_name_byte (b ∷ bs) ≡ 1 + prefix_len is_name_byte bs = cond-true _ _ _ name in omega arith);
  within = prefix_len-le-length is_name_byte (b ∷ bs);
  all_name = λ k h. prefix_len_passes is_name_byte (b ∷ bs) k 0 h;
  longest = λ h. prefix_len_stops is_name_byte (b ∷ bs) 0 h;
}

-- what `first_piece` gives, case by case
at_quote : (b : ℕ) (bs : List ℕ) → b ≡ 34 → first_piece b bs ≡ literal_piece (text_len false bs) bs
at_quote b bs quote = cond-true _ _ _ (eq-eqb b 34 quote)

at_skipped : (b : ℕ) (bs : List ℕ) → b ≢ 34 → IsFalse (is_name_byte b) → first_piece b bs ≡ Skipped
at_skipped b bs other no_name = cond-false _ _ _ (ne_eqb b 34 other) ∙ cond-true _ _ _ (not_from_false _ no_name)

-- a name byte is no quote
no_quote : (b : ℕ) → IsTrue (is_name_byte b) → b ≢ 34
no_quote b name quote =
    let other : is_name_byte b ≡ false = ap is_name_byte quote ∙ quote_ends_names in
    cc

at_digit : (b : ℕ) (bs : List ℕ) → IsTrue (is_name_byte b) → IsTrue (is_ascii_digit b) → first_piece b bs ≡ DigitRun (prefix_len is_name_byte (b ∷ bs))
at_digit b bs name digit = cond-false _ _ _ (ne_eqb b 34 (no_quote b name)) ∙ cond-false _ _ _ (not_from_true _ name) ∙ cond-true _ _ _ digit

at_name : (b : ℕ) (bs : List ℕ) → IsTrue (is_name_byte b) → IsFalse (is_ascii_digit b) → first_piece b bs ≡ NameRun (prefix_len is_name_byte (b ∷ bs))
at_name b bs name no_digit = cond-false _ _ _ (ne_eqb b 34 (no_quote b name)) ∙ cond-false _ _ _ (not_from_true _ name) ∙ cond-false _ _ _ no_digit

-- behind the text of an open literal stands no quote
no_closing : (n : ℕ) (behind : List ℕ) → IsOpen n behind → slice_index behind n ≢ 34
no_closing n behind (inl whole) quote =
    let nothing : slice_index behind n ≡ 0 = get_or_past behind n 0 (omega arith) in
    omega arith
no_closing n behind (inr newline) quote = omega arith

at_closed : (n : ℕ) (behind : List ℕ) → IsClosed n behind → literal_piece n behind ≡ ClosedLiteral n
at_closed n behind closed = cond-true _ _ _ (eq-eqb _ _ closed.quote)

at_open : (n : ℕ) (behind : List ℕ) → IsOpen n behind → literal_piece n behind ≡ OpenLiteral n
at_open n behind ending = cond-false _ _ _ (ne_eqb _ _ (no_closing n behind ending))

-- the bytes begin with the piece that `first_piece` gives
literal_from : (b : ℕ) (bs : List ℕ) (n : ℕ) → b ≡ 34 → IsLiteralText n bs → EndsText n bs → IsPiece (literal_piece n bs) (b ∷ bs)
literal_from b bs n quote text (inl closed) = let P : Piece → Type 0 = λ p. IsPiece p (b ∷ bs) in
    subst P (sym (at_closed n bs closed)) (record { opening = quote; text = text; closing = closed })
literal_from b bs n quote text (inr ending) = let P : Piece → Type 0 = λ p. IsPiece p (b ∷ bs) in
    subst P (sym (at_open n bs ending)) (record { opening = quote; text = text; ending = ending })

pub first_piece_is : (b : ℕ) (bs : List ℕ) → IsPiece (first_piece b bs) (b ∷ bs)
first_piece_is b bs =
    let P : Piece → Type 0 = λ p. IsPiece p (b ∷ bs) in
    elim (cases_Bool (b == 34)) [
      | inl test ↦
          let quote : b ≡ 34 = eqb-true b 34 test in
          subst P (sym (at_quote b bs quote)) (literal_from b bs (text_len false bs) quote (text_len_is bs).0 (text_len_is bs).1)
      | inr test ↦
          elim (cases_Bool (is_name_byte b)) [
            | inl name ↦
                elim (cases_Bool (is_ascii_digit b)) [
                  | inl digit ↦ subst P (sym (at_digit b bs name digit)) (record { run = run_from b bs name; digit = digit })
                  | inr no_digit ↦ subst P (sym (at_name b bs name no_digit)) (record { run = run_from b bs name; no_digit = no_digit })
                ]
            | inr no_name ↦
                let other : b ≢ 34 = eqb-false b 34 test in
                subst P (sym (at_skipped b bs other no_name)) (record { present = omega arith; no_name_byte = no_name; no_quote = other })
          ]
    ]

-- no other piece begins the bytes
pub piece_is : (p : Piece) (b : ℕ) (bs : List ℕ) → IsPiece p (b ∷ bs) → p ≡ first_piece b bs
piece_is Skipped b bs h = sym (at_skipped b bs h.no_quote h.no_name_byte)
piece_is (DigitRun n) b bs h = ap DigitRun (run_is n (b ∷ bs) h.run) ∙ sym (at_digit b bs (h.run.all_name 0 h.run.begins) h.digit)
piece_is (NameRun n) b bs h = ap NameRun (run_is n (b ∷ bs) h.run) ∙ sym (at_name b bs (h.run.all_name 0 h.run.begins) h.no_digit)
piece_is (ClosedLiteral n) b bs h =
    sym (at_closed n bs h.closing) ∙ ap (λ (k : ℕ). literal_piece k bs) (text_is bs n h.text (inl h.closing)) ∙ sym (at_quote b bs h.opening)
piece_is (OpenLiteral n) b bs h =
    sym (at_open n bs h.ending) ∙ ap (λ (k : ℕ). literal_piece k bs) (text_is bs n h.text (inr h.ending)) ∙ sym (at_quote b bs h.opening)

-- a byte that is no zero is there
quote_within : (n : ℕ) (bs : List ℕ) → slice_index bs 0 ≡ 34 → n ≤ length bs - 1 → n + 1 ≤ length bs
quote_within n [] opening inner = absurd (omega arith)
quote_within n (b ∷ bs) opening inner = omega arith

-- a piece has at least one byte, and no more than there are
pub record FitsIn (p : Piece) (bs : List ℕ) : Type 0 where
  pub some : 0 < piece_len p
  pub within : piece_len p ≤ length bs

pub piece_fits : (p : Piece) (bs : List ℕ) → IsPiece p bs → FitsIn p bs
piece_fits Skipped bs h = record { some = omega arith; within = omega (arith, h.present) }
piece_fits (DigitRun n) bs h = record { some = h.run.begins; within = h.run.within }
piece_fits (NameRun n) bs h = record { some = h.run.begins; within = h.run.within }
piece_fits (ClosedLiteral n) bs h =
    let inner : n < length bs - 1 = rw (← length-drop 1 bs) h.closing.within in
    record { some = omega arith; within = omega arith }
piece_fits (OpenLiteral n) bs h =
    let inner : n ≤ length bs - 1 = rw (← length-drop 1 bs) h.text.within in
    record { some = omega arith; within = quote_within n bs h.opening inner }

-- the pieces that the bytes are cut into
cut_within : (n : ℕ) (bs : List ℕ) → length bs ≤ n → IsCut (first_pieces n bs) bs
cut_within zero bs h = nil_from_length bs (omega arith)
cut_within (suc n) [] h = refl
cut_within (suc n) (b ∷ bs) h =
    let fits : FitsIn (first_piece b bs) (b ∷ bs) = piece_fits _ _ (first_piece_is b bs) in
    (first_piece_is b bs, cut_within n (drop (piece_len (first_piece b bs)) (b ∷ bs)) (rw (length-drop (piece_len (first_piece b bs)) (b ∷ bs)) (omega (arith, fits.some))))

pub pieces_cut : (bs : List ℕ) → IsCut (pieces bs) bs
unfolding pieces
pieces_cut bs = cut_within (length bs) bs (omega arith)

-- every cut is the one that `first_pieces` gives
nothing_left : (n : ℕ) (bs : List ℕ) → bs ≡ [] → [] ≡ first_pieces n bs
nothing_left zero bs none = refl
nothing_left (suc n) [] none = refl
nothing_left (suc n) (b ∷ bs) none = cc

cut_is : (n : ℕ) (ps : List Piece) (bs : List ℕ) → length bs ≤ n → IsCut ps bs → ps ≡ first_pieces n bs
cut_is n [] bs h cut = nothing_left n bs cut
cut_is n (p ∷ ps) [] h cut =
    let fits : FitsIn p [] = piece_fits p [] cut.0 in
    absurd (omega (arith, fits.some, fits.within))
cut_is zero (p ∷ ps) (b ∷ bs) h cut = absurd (omega arith)
cut_is (suc n) (p ∷ ps) (b ∷ bs) h cut =
    let fits : FitsIn p (b ∷ bs) = piece_fits p (b ∷ bs) cut.0 in
    let shorter : length (drop (piece_len p) (b ∷ bs)) ≤ n = rw (length-drop (piece_len p) (b ∷ bs)) (omega (arith, fits.some)) in
    let others : ps ≡ first_pieces n (drop (piece_len p) (b ∷ bs)) = cut_is n ps (drop (piece_len p) (b ∷ bs)) shorter cut.1 in
    ap (λ (qs : List Piece). p ∷ qs) others ∙ ap (λ (q : Piece). q ∷ first_pieces n (drop (piece_len q) (b ∷ bs))) (piece_is p b bs cut.0)

pub cut_is_pieces : (ps : List Piece) (bs : List ℕ) → IsCut ps bs → ps ≡ pieces bs
unfolding pieces
cut_is_pieces ps bs cut = cut_is (length bs) ps bs (omega arith) cut

pub same_cut : (bs : List ℕ) (ps qs : List Piece) → IsCut ps bs → IsCut qs bs → ps ≡ qs
same_cut bs ps qs cut other = cut_is_pieces ps bs cut ∙ sym (cut_is_pieces qs bs other)

pub tokens_of_cut : (bs : List ℕ) (ps : List Piece) → IsCut ps bs → tokens bs ≡ tokens_at 0 ps
unfolding tokens
tokens_of_cut bs ps cut = ap (tokens_at 0) (sym (cut_is_pieces ps bs cut))
