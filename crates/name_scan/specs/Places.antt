-- Where names and literals stand in a file's bytes. In ASCII 10 is the newline and 34 the quote.
use Rattle.std.specs.Prelude.{◌≡◌, ◌≢◌, ℕ, ◌-◌, ◌<◌, ◌≤◌, ◌⊎◌, List, length, slice_index, slice_range, IsTrue, IsFalse}
use Rattle.std.specs.Char.{is_ascii_digit}
use Rattle.name_scan.specs.declared.Token.{Token}
use Rattle.name_scan.specs.declared.TokenKind.{TokenKind}
use Rattle.name_scan.specs.declared.TokenKind.TheVariants.{Name, Literal}
use Rattle.name_scan.specs.Pieces.{is_name_byte, takes_next}

-- the token ends no sooner than it starts, and within the bytes
pub record IsWithin (bs : List ℕ) (t : Token) : Type 0 where
  pub ordered : t.start ≤ t.end
  pub within : t.end ≤ length bs

-- the first of two tokens ends no later than the second starts
abbrev pub EndsBefore : Token → Token → Type 0
EndsBefore t u = t.end ≤ u.start

-- name bytes, at least one, that begin with no digit, with no name byte right before or behind them
pub record IsNameAt (bs : List ℕ) (start end : ℕ) : Type 0 where
  pub some : start < end
  pub all_name : (k : ℕ) → start ≤ k → k < end → IsTrue (is_name_byte (slice_index bs k))
  pub no_digit : IsFalse (is_ascii_digit (slice_index bs start))
  pub none_before : 0 < start → IsFalse (is_name_byte (slice_index bs (start - 1)))
  pub none_behind : end < length bs → IsFalse (is_name_byte (slice_index bs end))

-- a quote that is not taken along, a newline, or the end of the bytes stands behind the text
abbrev pub IsEndedAt : List ℕ → ℕ → ℕ → Type 0
IsEndedAt bs start end = ((slice_index bs end ≡ 34) × IsFalse (takes_next (slice_range bs start end))) ⊎ ((slice_index bs end ≡ 10) ⊎ (end ≡ length bs))

-- what a quote opens: no newline, and each quote taken along, up to what ends it
pub record IsLiteralAt (bs : List ℕ) (start end : ℕ) : Type 0 where
  pub not_first : 0 < start
  pub opening : slice_index bs (start - 1) ≡ 34
  pub no_newline : (k : ℕ) → start ≤ k → k < end → slice_index bs k ≢ 10
  pub quotes_taken : (k : ℕ) → start ≤ k → k < end → slice_index bs k ≡ 34 → IsTrue (takes_next (slice_range bs start k))
  pub ending : IsEndedAt bs start end

-- the bytes from one place up to another are a token of this kind
abbrev pub IsKindAt : List ℕ → TokenKind → ℕ → ℕ → Type 0
IsKindAt bs Name start end = IsNameAt bs start end
IsKindAt bs Literal start end = IsLiteralAt bs start end
