-- The names and literals of a file's bytes.
use Rattle.std.specs.Prelude.{ℕ, zero, suc, ◌+◌, ◌==◌, Bool, false, ◌&&◌, ◌||◌, not, if◌then◌else◌, List, [], ◌∷◌, length, drop, Option, Some, None, slice_index}
use Rattle.std.specs.List.{cons_option, prefix_len}
use Rattle.std.specs.Char.{is_ascii_digit}
use Rattle.name_scan.specs.declared.Piece.{Piece}
use Rattle.name_scan.specs.declared.Piece.TheVariants.{Skipped, DigitRun, NameRun, ClosedLiteral, OpenLiteral}
use Rattle.name_scan.specs.declared.Token.{Token}
use Rattle.name_scan.specs.declared.TokenKind.TheVariants.{Name, Literal}
use Rattle.name_scan.specs.Pieces.{is_name_byte, takes, piece_len}

-- the token of a piece that begins at a place of the file, if it has one: a name, or a literal without its quotes
abbrev pub token_at : ℕ → Piece → Option Token
token_at at Skipped = None
token_at at (DigitRun n) = None
token_at at (NameRun n) = Some (record { kind = Name; start = at; end = at + n })
token_at at (ClosedLiteral n) = Some (record { kind = Literal; start = at + 1; end = at + 1 + n })
token_at at (OpenLiteral n) = Some (record { kind = Literal; start = at + 1; end = at + 1 + n })

-- the tokens of pieces that stand one behind the other from a place of the file on
abbrev pub tokens_at : ℕ → List Piece → List Token
tokens_at at [] = []
tokens_at at (p ∷ ps) = cons_option (token_at at p) (tokens_at (at + piece_len p) ps)

-- how many bytes go by before the text of a literal ends, where the first of them is taken along or not
abbrev pub text_len : Bool → List ℕ → ℕ
text_len taken [] = 0
text_len taken (b ∷ bs) = if (b == 10) || ((b == 34) && not taken) then 0 else suc (text_len (takes taken b) bs)

-- the literal whose text has n of the bytes behind its opening quote
abbrev pub literal_piece : ℕ → List ℕ → Piece
literal_piece n behind = if slice_index behind n == 34 then ClosedLiteral n else OpenLiteral n

-- the piece with which the bytes begin
abbrev pub first_piece : ℕ → List ℕ → Piece
first_piece b bs =
    if b == 34 then literal_piece (text_len false bs) bs
    else (if not (is_name_byte b) then Skipped
    else (if is_ascii_digit b then DigitRun (prefix_len is_name_byte (b ∷ bs))
    else NameRun (prefix_len is_name_byte (b ∷ bs))))

-- the pieces that the bytes are cut into, as far as that many go
abbrev pub first_pieces : ℕ → List ℕ → List Piece
first_pieces zero bs = []
first_pieces (suc n) [] = []
first_pieces (suc n) (b ∷ bs) = first_piece b bs ∷ first_pieces n (drop (piece_len (first_piece b bs)) (b ∷ bs))

-- the pieces that the bytes are cut into, of which there are no more than bytes
unfoldable pub pieces : List ℕ → List Piece
pieces bs = first_pieces (length bs) bs

-- the tokens of a file's bytes: those of the pieces that they are cut into
unfoldable pub tokens : List ℕ → List Token
tokens bs = tokens_at 0 (pieces bs)

-- the tokens from a place of the file on, where a piece begins at that place
unfoldable pub tokens_from : List ℕ → ℕ → List Token
tokens_from bs at = tokens_at at (pieces (drop at bs))
