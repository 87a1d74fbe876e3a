-- The entries that interns of a file's literals made, and how far the code has come with them.
use Rattle.std.specs.Prelude.{◌≡◌, ℕ, List, length, map, filter, All}
use Rattle.circular_buffer.specs.Buffer.{Buffer}
use Rattle.intern_log.specs.Finals.{finals}
use Rattle.intern_log.specs.declared.event.Kind.TheVariants.{Weak}
use Rattle.plain_interner.specs.State.{State}
use Rattle.table_program.specs.declared.literals.MadeEntry.{MadeEntry}
use Rattle.name_scan.specs.declared.Token.{Token}
use Rattle.name_scan.specs.FileTexts.{is_literal, text_of, literals_among}
use Rattle.table_program.specs.Holding.{Held}
use Rattle.name_scan.specs.Places.{IsWithin}
use Rattle.table_program.specs.StringRun.{StringRun, StringListing}

-- the literals among tokens
abbrev pub literal_tokens : List Token → List Token
literal_tokens found = filter (λ (t : Token). is_literal t.kind) found

-- the texts of tokens
abbrev pub texts_of : List ℕ → List Token → List (List ℕ)
texts_of bytes tokens = map (text_of bytes) tokens

-- the text of the literal that an entry was made for, with the entry's handle
abbrev pub pair_of : List ℕ → MadeEntry → Held
pair_of bytes entry = (text_of bytes entry.literal, entry.handle)

abbrev pub pairs_of : List ℕ → List MadeEntry → List Held
pairs_of bytes entries = map (pair_of bytes) entries

-- the literals that the entries were made for lie within the bytes
abbrev pub AreWithin : List ℕ → List MadeEntry → Type 0
AreWithin bytes entries = All (λ (entry : MadeEntry). IsWithin bytes entry.literal) entries

-- the interner is the one after one intern of each of the literals, which made these entries
abbrev pub IsLiteralRun : List ℕ → List (List ℕ) → State → List MadeEntry → Type 0
IsLiteralRun bytes literals state made = StringRun literals state.texts state.created (pairs_of bytes made)

-- the interner is the one after the listing has come that far: so many of the listed entries were killed, since they are not of final literals, and the others are left
abbrev pub IsListing : List ℕ → List Token → List (List ℕ) → List MadeEntry → List MadeEntry → State → ℕ → Type 0
IsListing bytes final_literals literals listed left state killed =
    StringListing (texts_of bytes final_literals) literals (pairs_of bytes listed) (pairs_of bytes left) state.texts state.created killed

-- the interner, the entries that it made, the last literals and their number after the literals among the tokens that were found
pub record LiteralsSoFar (hold : ℕ) (bytes : List ℕ) (found : List Token) (plain : State) (made : List MadeEntry) (last : Buffer Token) (count : ℕ) : Type 0 where
  pub kind : plain.kind ≡ Weak
  pub run : IsLiteralRun bytes (literals_among bytes found) plain made
  pub made_within : AreWithin bytes made
  pub capacity : last.capacity ≡ hold
  pub last_are : last.items ≡ finals hold (literal_tokens found)
  pub last_within : All (IsWithin bytes) last.items
  pub counted : count ≡ length (literals_among bytes found)
