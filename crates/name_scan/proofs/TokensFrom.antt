-- The tokens from a place on, piece by piece.
use Rattle.std.proofs.Common.{◌≡◌, ℕ, ◌+◌, ◌<◌, ◌≤◌, List, [], ◌∷◌, ◌++◌, length, drop, slice_index, Some, None, refl, sym, ◌∙◌, ap, subst, arith, true, add-zero, append_assoc, length-append, length-drop, get_or-drop, drop-drop}
use Rattle.std.proofs.lemmas.List.{append-nil, drop_all}
use Rattle.std.specs.List.{cons_option}
use Rattle.name_scan.specs.declared.Piece.{Piece}
use Rattle.name_scan.specs.declared.Piece.TheVariants.{Skipped}
use Rattle.name_scan.specs.declared.Token.{Token}
use Rattle.name_scan.specs.Pieces.{is_name_byte, piece_len, IsPiece, IsCut}
use Rattle.name_scan.specs.Tokens.{token_at, tokens_at, tokens, tokens_from, pieces}
use Rattle.name_scan.specs.declared.class.Class.{Class}
use Rattle.name_scan.specs.declared.class.Class.TheVariants.{Other}
use Rattle.name_scan.specs.Classes.{IsOf, is_skipped}
use Rattle.name_scan.proofs.Classes.{class_skipped}
use Rattle.name_scan.proofs.Cuts.{pieces_cut, same_cut}

pub tokens_from_first : (bs : List ℕ) → tokens_from bs 0 ≡ tokens bs
unfolding tokens_from tokens
tokens_from_first bs = refl

pub tokens_from_end : (bs : List ℕ) (at : ℕ) → length bs ≤ at → tokens_from bs at ≡ []
unfolding tokens_from pieces
tokens_from_end bs at past = ap (λ rest. tokens_at at (pieces rest)) (drop_all at bs past)

-- the token of the piece at the place, and those from behind it on
pub tokens_from_piece : (bs : List ℕ) (at : ℕ) (p : Piece) → IsPiece p (drop at bs) → tokens_from bs at ≡ cons_option (token_at at p) (tokens_from bs (at + piece_len p))
unfolding tokens_from
tokens_from_piece bs at p piece =
    let next = drop (at + piece_len p) bs in
    let rest : IsCut (pieces next) (drop (piece_len p) (drop at bs)) = rw drop-drop (pieces_cut next) in
    ap (tokens_at at) (same_cut (drop at bs) (pieces (drop at bs)) (p ∷ pieces next) (pieces_cut (drop at bs)) (piece, rest))

pub tokens_from_token : (bs : List ℕ) (at : ℕ) (p : Piece) (t : Token) → IsPiece p (drop at bs) → Some t ≡ token_at at p → tokens_from bs at ≡ t ∷ tokens_from bs (at + piece_len p)
tokens_from_token bs at p t piece is = tokens_from_piece bs at p piece ∙ ap (λ o. cons_option o (tokens_from bs (at + piece_len p))) (sym is)

pub tokens_from_no_token : (bs : List ℕ) (at : ℕ) (p : Piece) → IsPiece p (drop at bs) → None ≡ token_at at p → tokens_from bs at ≡ tokens_from bs (at + piece_len p)
tokens_from_no_token bs at p piece is = tokens_from_piece bs at p piece ∙ ap (λ o. cons_option o (tokens_from bs (at + piece_len p))) (sym is)

-- a byte that is passed over
pub tokens_from_skipped : (bs : List ℕ) (at : ℕ) (class : Class) → at < length bs → is_skipped class ≡ true → IsOf class (slice_index bs at) → tokens_from bs (at + 1) ≡ tokens_from bs at
tokens_from_skipped bs at class within test is =
    let same : slice_index (drop at bs) 0 ≡ slice_index bs at = get_or-drop at bs 0 0 ∙ ap (λ k. slice_index bs k) (add-zero at) in
    let skipped = class_skipped class (drop at bs) test (subst (IsOf class) (sym same) is) (omega (arith, length-drop at bs)) in
    sym (tokens_from_no_token bs at Skipped skipped refl)

-- blanks, all of which are passed over
abbrev pub AreBlank : List ℕ → Type 0
AreBlank [] = Unit {0}
AreBlank (b ∷ bs) = (b ≡ 32) × AreBlank bs

blank_is_other : IsOf Other 32
unfolding is_name_byte
blank_is_other = record { no_name_byte = refl; no_newline = λ same. cc; no_quote = λ same. cc; no_backslash = λ same. cc }

pub tokens_from_blanks : (blanks rest bs : List ℕ) (at : ℕ) → AreBlank blanks → drop at bs ≡ blanks ++ rest → tokens_from bs (at + length blanks) ≡ tokens_from bs at
tokens_from_blanks [] rest bs at all is = ap (tokens_from bs) (add-zero at)
tokens_from_blanks (b ∷ blanks) rest bs at all is =
    let there : slice_index bs at ≡ 32 = sym (ap (λ k. slice_index bs k) (add-zero at)) ∙ sym (get_or-drop at bs 0 0) ∙ ap (λ l. slice_index l 0) is ∙ all.0 in
    let within : at < length bs = let some = ap length is in omega (arith, length-drop at bs, some) in
    let behind : drop (at + 1) bs ≡ blanks ++ rest = sym (drop-drop 1 at bs) ∙ ap (drop 1) is in
    let on : at + length (b ∷ blanks) ≡ (at + 1) + length blanks = omega arith in
    ap (tokens_from bs) on ∙ tokens_from_blanks blanks rest bs (at + 1) all.1 behind ∙ tokens_from_skipped bs at Other within refl (subst (IsOf Other) (sym there) blank_is_other)

-- what was found up to a place, and then the tokens from there on, are all the tokens
pub record Completes (bs : List ℕ) (at : ℕ) (found : List Token) : Type 0 where
  pub all : found ++ tokens_from bs at ≡ tokens bs

pub completes_first : (bs : List ℕ) → Completes bs 0 []
completes_first bs = record { all = tokens_from_first bs }

pub completes_more : (bs : List ℕ) (at behind : ℕ) (t : Token) (found : List Token) → Completes bs at found → tokens_from bs at ≡ t ∷ tokens_from bs behind → Completes bs behind (found ++ t ∷ [])
completes_more bs at behind t found done next =
    record { all = append_assoc found (t ∷ []) (tokens_from bs behind) ∙ ap (λ rest. found ++ rest) (sym next) ∙ done.all }

pub completes_all : (bs : List ℕ) (at : ℕ) (found : List Token) → Completes bs at found → tokens_from bs at ≡ [] → found ≡ tokens bs
completes_all bs at found done none = sym (append-nil found) ∙ ap (λ rest. found ++ rest) (sym none) ∙ done.all

-- no more are found than there are tokens, and one fewer where one is left
pub completes_few : (bs : List ℕ) (at : ℕ) (found : List Token) → Completes bs at found → length found ≤ length (tokens bs)
completes_few bs at found done = omega (arith, ap length done.all, length-append found (tokens_from bs at))

pub completes_fewer : (bs : List ℕ) (at behind : ℕ) (t : Token) (found : List Token) → Completes bs at found → tokens_from bs at ≡ t ∷ tokens_from bs behind → length found < length (tokens bs)
completes_fewer bs at behind t found done next = omega (arith, ap length done.all, length-append found (tokens_from bs at), ap length next)
