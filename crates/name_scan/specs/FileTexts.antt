-- The names and literals of a file, as texts.
use Rattle.std.specs.Prelude.{ℕ, Bool, true, false, List, length, map, filter, find, nat_lt, Option, slice_range}
use Rattle.name_scan.specs.declared.Token.{Token}
use Rattle.name_scan.specs.declared.TokenKind.{TokenKind}
use Rattle.name_scan.specs.declared.TokenKind.TheVariants.{Name, Literal}
use Rattle.name_scan.specs.Tokens.{tokens}

abbrev pub is_name : TokenKind → Bool
is_name Name = true
is_name Literal = false

abbrev pub is_literal : TokenKind → Bool
is_literal Name = false
is_literal Literal = true

-- the bytes of a token
abbrev pub text_of : List ℕ → Token → List ℕ
text_of bytes token = slice_range bytes token.start token.end

-- the texts of the names among the tokens, and of the literals
abbrev pub names_among : List ℕ → List Token → List (List ℕ)
names_among bytes found = map (text_of bytes) (filter (λ (t : Token). is_name t.kind) found)

abbrev pub literals_among : List ℕ → List Token → List (List ℕ)
literals_among bytes found = map (text_of bytes) (filter (λ (t : Token). is_literal t.kind) found)

-- the texts of a file's names, and of its literals, in order
abbrev pub names_of : List ℕ → List (List ℕ)
names_of bytes = names_among bytes (tokens bytes)

abbrev pub literals_of : List ℕ → List (List ℕ)
literals_of bytes = literals_among bytes (tokens bytes)

-- the texts of all tokens, in order
abbrev pub texts_among : List ℕ → List Token → List (List ℕ)
texts_among bytes found = map (text_of bytes) found

-- the texts of a file's names and literals, in order
abbrev pub texts_of : List ℕ → List (List ℕ)
texts_of bytes = texts_among bytes (tokens bytes)

-- the length of the first text that is longer than `most`
abbrev pub first_longer : ℕ → List (List ℕ) → Option ℕ
first_longer most texts = find (λ n. nat_lt most n) (map length texts)
