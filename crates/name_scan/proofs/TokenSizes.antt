-- How many tokens there are, and how long their texts.
use Rattle.std.proofs.Common.{ℕ, zero, suc, ◌+◌, ◌-◌, ◌≤◌, List, [], ◌∷◌, length, filter, drop, All, Option, Some, None, arith, length-take, length-drop}
use Rattle.std.specs.List.{cons_option}
use Rattle.std.proofs.lemmas.List.{length-map}
use Rattle.std.proofs.lemmas.List.Elements.{All-map}
use Rattle.std.proofs.lemmas.List.Sums.{length-filter, count_by-le-length}
use Rattle.name_scan.specs.declared.Piece.{Piece}
use Rattle.name_scan.specs.declared.Token.{Token}
use Rattle.name_scan.specs.FileTexts.{is_literal, text_of, literals_among}
use Rattle.name_scan.specs.Pieces.{piece_len}
use Rattle.name_scan.specs.Tokens.{token_at, tokens_at, first_pieces, first_piece, pieces, tokens}

one_more : (token : Option Token) (rest : List Token) (n : ℕ) → length rest ≤ n → length (cons_option token rest) ≤ suc n
one_more None rest n fewer = omega arith
one_more (Some token) rest n fewer = omega arith

length-tokens_at : (at : ℕ) (ps : List Piece) → length (tokens_at at ps) ≤ length ps
length-tokens_at at [] = omega arith
length-tokens_at at (p ∷ ps) = one_more (token_at at p) _ _ (length-tokens_at (at + piece_len p) ps)

length-first_pieces : (n : ℕ) (bs : List ℕ) → length (first_pieces n bs) ≤ n
length-first_pieces zero bs = omega arith
length-first_pieces (suc n) [] = omega arith
length-first_pieces (suc n) (b ∷ bs) = omega (arith, length-first_pieces n (drop (piece_len (first_piece b bs)) (b ∷ bs)))

pub length-tokens : (bs : List ℕ) → length (tokens bs) ≤ length bs
unfolding tokens pieces
length-tokens bs = omega (arith, length-tokens_at 0 (first_pieces (length bs) bs), length-first_pieces (length bs) bs)

pub length-literals_among : (bs : List ℕ) (found : List Token) → length (literals_among bs found) ≤ length found
length-literals_among bs found =
    let p = λ (t : Token). is_literal t.kind in
    omega (arith, length-map (filter p found) (text_of bs), length-filter p found, count_by-le-length p found)

length-text_of : (bs : List ℕ) (token : Token) → length (text_of bs token) ≤ length bs
length-text_of bs token = omega (arith, length-take (token.end - token.start) (drop token.start bs), length-drop token.start bs)

pub literals_short : (bs : List ℕ) (found : List Token) (most : ℕ) → length bs ≤ most → All (λ text. length text ≤ most) (literals_among bs found)
literals_short bs found most within =
    All-map (λ text. length text ≤ most) (text_of bs) (filter (λ (t : Token). is_literal t.kind) found) (λ k d less. (let short = length-text_of bs in omega arith))
