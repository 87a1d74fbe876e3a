-- The table of classes has the class of each byte.
use Rattle.std.proofs.Common.{◌≡◌, ◌≢◌, ℕ, ◌+◌, ◌<◌, inl, inr, true, false, cond, ◌==◌, List, length, map, get_or, slice_index, IsTrue, IsFalse, refl, sym, ap, subst, ◌∙◌, arith}
use Rattle.std.proofs.lemmas.Bool.{cases_Bool, eqb-true, eqb-false, cond-true, cond-false}
use Rattle.std.proofs.lemmas.List.FromFn.{get_or-map-range_with_len}
use Rattle.std.specs.List.{range_with_len}
use Rattle.std.specs.Char.{is_ascii_digit}
use Rattle.name_scan.specs.declared.class.Class.{Class}
use Rattle.name_scan.specs.declared.class.Class.TheVariants.{Other, Newline, Backslash, Quote, Digit, Letter}
use Rattle.name_scan.specs.declared.class.TheConstants.{CLASSES}
use Rattle.name_scan.specs.Pieces.{is_name_byte, IsSkipped}
use Rattle.name_scan.specs.Classes.{IsOf, is_of_name, is_skipped}
use Rattle.name_scan.proofs.Texts.{quote_ends_names, newline_ends_names, backslash_ends_names, ReadsTo, reads_plain}

-- the class of a byte
abbrev pub class_of : ℕ → Class
class_of b = cond (b == 10) Newline (cond (b == 34) Quote (cond (b == 92) Backslash (cond (is_name_byte b) (cond (is_ascii_digit b) Digit Letter) Other)))

pub class_of_is : (b : ℕ) → IsOf (class_of b) b
class_of_is b =
    let P : Class → Type 0 = λ class. IsOf class b in
    elim (cases_Bool (b == 10)) [
      | inl newline ↦ subst P (sym (cond-true _ _ _ newline)) (eqb-true b 10 newline)
      | inr no_newline ↦ subst P (sym (cond-false _ _ _ no_newline)) (elim (cases_Bool (b == 34)) [
        | inl quote ↦ subst P (sym (cond-true _ _ _ quote)) (eqb-true b 34 quote)
        | inr no_quote ↦ subst P (sym (cond-false _ _ _ no_quote)) (elim (cases_Bool (b == 92)) [
          | inl backslash ↦ subst P (sym (cond-true _ _ _ backslash)) (eqb-true b 92 backslash)
          | inr no_backslash ↦ subst P (sym (cond-false _ _ _ no_backslash)) (elim (cases_Bool (is_name_byte b)) [
            | inl name ↦ subst P (sym (cond-true _ _ _ name)) (elim (cases_Bool (is_ascii_digit b)) [
              | inl digit ↦ subst P (sym (cond-true _ _ _ digit)) (name, digit)
              | inr no_digit ↦ subst P (sym (cond-false _ _ _ no_digit)) (name, no_digit)
            ])
            | inr no_name ↦ subst P (sym (cond-false _ _ _ no_name))
                (record { no_name_byte = no_name; no_newline = eqb-false b 10 no_newline; no_quote = eqb-false b 34 no_quote; no_backslash = eqb-false b 92 no_backslash })
          ])
        ])
      ])
    ]

-- the table, byte by byte
table_is : CLASSES ≡ map class_of (range_with_len 0 256)
unfolding is_name_byte
table_is = refl

pub class_at : (b : ℕ) → b < 256 → get_or CLASSES b Other ≡ class_of b
class_at b within = ap (λ table. get_or table b Other) table_is ∙ get_or-map-range_with_len class_of 0 256 b b Other within (omega arith)

-- whether a byte is a name byte, by its class
pub class_of_name : (class : Class) (b : ℕ) → IsOf class b → is_of_name class ≡ is_name_byte b
class_of_name Other b is = sym is.no_name_byte
class_of_name Newline b is = sym (ap is_name_byte is ∙ newline_ends_names)
class_of_name Backslash b is = sym (ap is_name_byte is ∙ backslash_ends_names)
class_of_name Quote b is = sym (ap is_name_byte is ∙ quote_ends_names)
class_of_name Digit b is = sym is.0
class_of_name Letter b is = sym is.0

-- a byte of a class that is passed over is a piece by itself
pub class_skipped : (class : Class) (bs : List ℕ) → is_skipped class ≡ true → IsOf class (slice_index bs 0) → 0 < length bs → IsSkipped bs
class_skipped Other bs test is present = record { present = present; no_name_byte = is.no_name_byte; no_quote = is.no_quote }
class_skipped Newline bs test is present = record { present = present; no_name_byte = ap is_name_byte is ∙ newline_ends_names; no_quote = λ quote. absurd (omega arith) }
class_skipped Backslash bs test is present = record { present = present; no_name_byte = ap is_name_byte is ∙ backslash_ends_names; no_quote = λ quote. absurd (omega arith) }
class_skipped Quote bs test is present = cc
class_skipped Digit bs test is present = cc
class_skipped Letter bs test is present = cc

-- a name byte is none of the three that mean something in a literal
name_byte_is : (b n : ℕ) → IsTrue (is_name_byte b) → IsFalse (is_name_byte n) → b ≢ n
name_byte_is b n name ends same =
    let other : is_name_byte b ≡ false = ap is_name_byte same ∙ ends in
    cc

reads_name : (behind : List ℕ) (n : ℕ) → ReadsTo n behind → n < length behind → IsTrue (is_name_byte (slice_index behind n)) → ReadsTo (n + 1) behind
reads_name behind n reads within name =
    reads_plain behind n reads within (name_byte_is _ 10 name newline_ends_names) (name_byte_is _ 34 name quote_ends_names) (name_byte_is _ 92 name backslash_ends_names)

-- within a literal a byte of any other class goes by
pub reads_class : (behind : List ℕ) (n : ℕ) (class : Class) → ReadsTo n behind → n < length behind → IsOf class (slice_index behind n) →
    class ≢ Newline → class ≢ Backslash → class ≢ Quote → ReadsTo (n + 1) behind
reads_class behind n Other reads within is no_newline no_backslash no_quote = reads_plain behind n reads within is.no_newline is.no_quote is.no_backslash
reads_class behind n Newline reads within is no_newline no_backslash no_quote = absurd (no_newline refl)
reads_class behind n Backslash reads within is no_newline no_backslash no_quote = absurd (no_backslash refl)
reads_class behind n Quote reads within is no_newline no_backslash no_quote = absurd (no_quote refl)
reads_class behind n Digit reads within is no_newline no_backslash no_quote = reads_name behind n reads within is.0
reads_class behind n Letter reads within is no_newline no_backslash no_quote = reads_name behind n reads within is.0
