-- What holds where no text is too long.
use Rattle.std.proofs.Common.{◌≡◌, ℕ, Bool, true, false, cond, nat_lt, List, [], ◌∷◌, All, length, Option, Some, None, refl}
use Rattle.std.specs.Option.{option_map, option_or}
use Rattle.std.proofs.lemmas.Bool.{ltb-false}
use Rattle.std.specs.List.{AllByRecursion}
use Rattle.std.proofs.lemmas.List.Elements.{All-from_recursion}
use Rattle.name_scan.specs.declared.Token.{Token}
use Rattle.name_scan.specs.FileTexts.{text_of, texts_among, names_among, literals_among}
use Rattle.table_program.specs.declared.outcome.Limit.TheVariants.{Text, Names, Literals}
use Rattle.table_program.specs.declared.outcome.Note.{Note}
use Rattle.table_program.specs.declared.outcome.Note.TheVariants as note
use Rattle.table_program.proofs.Options.{no_item}
use Rattle.table_program.specs.Limits.{most_names, most_literals, long_length, above, tokens_note, IsShort}

-- where no text is too long each token is short
one_short : (bytes : List ℕ) (t : Token) (rest : Option ℕ) (Rest : Type 0) (long : Bool) → nat_lt 65535 (length (text_of bytes t)) ≡ long → (rest ≡ None → Rest) →
    cond long (Some (length (text_of bytes t))) rest ≡ None → IsShort bytes t × Rest
one_short bytes t rest Rest true is others some = absurd (no_item _ some)
one_short bytes t rest Rest false is others none = (ltb-false 65535 (length (text_of bytes t)) is, others none)

each_short : (bytes : List ℕ) (found : List Token) → long_length (texts_among bytes found) ≡ None → AllByRecursion (IsShort bytes) found
each_short bytes [] none = tt
each_short bytes (t ∷ found) none =
    one_short bytes t (long_length (texts_among bytes found)) (AllByRecursion (IsShort bytes) found) (nat_lt 65535 (length (text_of bytes t))) refl (λ rest. each_short bytes found rest) none

pub none_long : (bytes : List ℕ) (found : List Token) → long_length (texts_among bytes found) ≡ None → All (IsShort bytes) found
none_long bytes found none = All-from_recursion (IsShort bytes) found (each_short bytes found none)

-- where no limit is passed no text is too long
pub within_limits : (bytes : List ℕ) (found : List Token) → tokens_note bytes found ≡ None → long_length (texts_among bytes found) ≡ None
within_limits bytes found none = first_none (long_length (texts_among bytes found)) none
  where
    first_none : (o : Option ℕ) → option_or (option_or (option_map (λ n. note.Limit Text n) o) (above Names most_names (length (names_among bytes found))))
        (above Literals most_literals (length (literals_among bytes found))) ≡ None → o ≡ None
    first_none None is = refl
    first_none (Some n) is = absurd (no_item _ is)

-- the first of three notes
pub first_of_three : (both all text names literals text_is names_is literals_is : Option Note) →
    all ≡ option_or both literals → both ≡ option_or text names → text ≡ text_is → names ≡ names_is → literals ≡ literals_is →
    all ≡ option_or (option_or text_is names_is) literals_is
first_of_three both all text names literals text_is names_is literals_is all_are both_are text_same names_same literals_same = cc
