-- What a file's bytes are cut into: runs of name bytes, literals, and single bytes that are skipped.
-- In ASCII 10 is the newline, 34 the quote, 36 the dollar sign, 92 the backslash and 95 the underscore.
use Rattle.std.specs.Prelude.{◌≡◌, ◌≢◌, ℕ, ◌+◌, ◌<◌, ◌≤◌, ◌⊎◌, Bool, false, ◌&&◌, ◌||◌, not, ◌==◌, nat_le, List, [], ◌∷◌, length, take, drop, slice_index, fold, IsTrue, IsFalse}
use Rattle.std.specs.Char.{is_ascii_alphanumeric, is_ascii_digit}
use Rattle.name_scan.specs.declared.Piece.{Piece}
use Rattle.name_scan.specs.declared.Piece.TheVariants.{Skipped, DigitRun, NameRun, ClosedLiteral, OpenLiteral}

-- a byte of a run: a letter, a digit, an underscore, a dollar sign, or a byte beyond ASCII
unfoldable pub is_name_byte : ℕ → Bool
is_name_byte b = is_ascii_alphanumeric b || (b == 95) || (b == 36) || nat_le 128 b

-- the first n bytes are a longest run: name bytes, at least one, with no name byte behind them
pub record IsRun (n : ℕ) (bs : List ℕ) : Type 0 where
  pub begins : 0 < n
  pub within : n ≤ length bs
  pub all_name : (k : ℕ) → k < n → IsTrue (is_name_byte (slice_index bs k))
  pub longest : n < length bs → IsFalse (is_name_byte (slice_index bs n))

-- whether a byte, taken along itself or not, takes the next one along: a backslash does that is not taken along
abbrev pub takes : Bool → ℕ → Bool
takes taken b = (b == 92) && not taken

-- whether the last byte of a literal's text takes the next one along
unfoldable pub takes_next : List ℕ → Bool
takes_next text = fold takes false text

-- the first n bytes behind an opening quote may be a literal's text: no newline, and each quote is taken along
pub record IsLiteralText (n : ℕ) (behind : List ℕ) : Type 0 where
  pub within : n ≤ length behind
  pub no_newline : (k : ℕ) → k < n → slice_index behind k ≢ 10
  pub quotes_taken : (k : ℕ) → k < n → slice_index behind k ≡ 34 → IsTrue (takes_next (take k behind))

-- a quote that is not taken along stands behind the text of n bytes
pub record IsClosed (n : ℕ) (behind : List ℕ) : Type 0 where
  pub within : n < length behind
  pub quote : slice_index behind n ≡ 34
  pub not_taken : IsFalse (takes_next (take n behind))

-- a newline stands behind the text of n bytes, or nothing does
abbrev pub IsOpen : ℕ → List ℕ → Type 0
IsOpen n behind = (n ≡ length behind) ⊎ (slice_index behind n ≡ 10)

-- the text of n bytes ends there
abbrev pub EndsText : ℕ → List ℕ → Type 0
EndsText n behind = IsClosed n behind ⊎ IsOpen n behind

-- the bytes begin with one that a backslash takes along: a newline ends a literal all the same
pub record IsTaken (bs : List ℕ) : Type 0 where
  pub present : 0 < length bs
  pub no_newline : slice_index bs 0 ≢ 10

-- how many bytes a piece takes up
abbrev pub piece_len : Piece → ℕ
piece_len Skipped = 1
piece_len (DigitRun n) = n
piece_len (NameRun n) = n
piece_len (ClosedLiteral n) = n + 2
piece_len (OpenLiteral n) = n + 1

-- one byte that is neither a name byte nor a quote
pub record IsSkipped (bs : List ℕ) : Type 0 where
  pub present : 0 < length bs
  pub no_name_byte : IsFalse (is_name_byte (slice_index bs 0))
  pub no_quote : slice_index bs 0 ≢ 34

-- a run that begins with a digit
pub record IsDigitRun (n : ℕ) (bs : List ℕ) : Type 0 where
  pub run : IsRun n bs
  pub digit : IsTrue (is_ascii_digit (slice_index bs 0))

-- a run that begins with no digit
pub record IsNameRun (n : ℕ) (bs : List ℕ) : Type 0 where
  pub run : IsRun n bs
  pub no_digit : IsFalse (is_ascii_digit (slice_index bs 0))

-- a quote, a text of n bytes, and the quote that closes it
pub record IsClosedLiteral (n : ℕ) (bs : List ℕ) : Type 0 where
  pub opening : slice_index bs 0 ≡ 34
  pub text : IsLiteralText n (drop 1 bs)
  pub closing : IsClosed n (drop 1 bs)

-- a quote and a text of n bytes, behind which a newline stands or nothing
pub record IsOpenLiteral (n : ℕ) (bs : List ℕ) : Type 0 where
  pub opening : slice_index bs 0 ≡ 34
  pub text : IsLiteralText n (drop 1 bs)
  pub ending : IsOpen n (drop 1 bs)

-- the piece is a literal, of which these bytes stand behind the opening quote
abbrev pub IsLiteralPiece : Piece → List ℕ → Type 0
IsLiteralPiece (ClosedLiteral n) behind = IsLiteralText n behind × IsClosed n behind
IsLiteralPiece (OpenLiteral n) behind = IsLiteralText n behind × IsOpen n behind
IsLiteralPiece _ behind = ⊥

-- the bytes begin with the piece
abbrev pub IsPiece : Piece → List ℕ → Type 0
IsPiece Skipped bs = IsSkipped bs
IsPiece (DigitRun n) bs = IsDigitRun n bs
IsPiece (NameRun n) bs = IsNameRun n bs
IsPiece (ClosedLiteral n) bs = IsClosedLiteral n bs
IsPiece (OpenLiteral n) bs = IsOpenLiteral n bs

-- the bytes are these pieces, one behind the other, and nothing else
abbrev pub IsCut : List Piece → List ℕ → Type 0
IsCut [] bs = bs ≡ []
IsCut (p ∷ ps) bs = IsPiece p bs × IsCut ps (drop (piece_len p) bs)
