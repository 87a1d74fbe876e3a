-- What a byte is to the scan. In ASCII 10 is the newline, 34 the quote and 92 the backslash.
use Rattle.std.specs.Prelude.{◌≡◌, ◌≢◌, ℕ, Bool, true, false, IsTrue, IsFalse}
use Rattle.std.specs.Char.{is_ascii_digit}
use Rattle.name_scan.specs.declared.class.Class.{Class}
use Rattle.name_scan.specs.declared.class.Class.TheVariants.{Other, Newline, Backslash, Quote, Digit, Letter}
use Rattle.name_scan.specs.Pieces.{is_name_byte}

-- a byte that is no name byte, and none of the three that mean something in a literal
pub record IsOther (b : ℕ) : Type 0 where
  pub no_name_byte : IsFalse (is_name_byte b)
  pub no_newline : b ≢ 10
  pub no_quote : b ≢ 34
  pub no_backslash : b ≢ 92

-- the byte is of the class
abbrev pub IsOf : Class → ℕ → Type 0
IsOf Other b = IsOther b
IsOf Newline b = b ≡ 10
IsOf Backslash b = b ≡ 92
IsOf Quote b = b ≡ 34
IsOf Digit b = IsTrue (is_name_byte b) × IsTrue (is_ascii_digit b)
IsOf Letter b = IsTrue (is_name_byte b) × IsFalse (is_ascii_digit b)

-- the classes of name bytes
abbrev pub is_of_name : Class → Bool
is_of_name Digit = true
is_of_name Letter = true
is_of_name _ = false

-- the classes of bytes that are passed over one by one
abbrev pub is_skipped : Class → Bool
is_skipped Other = true
is_skipped Newline = true
is_skipped Backslash = true
is_skipped _ = false
