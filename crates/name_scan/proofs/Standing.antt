-- Where tokens stand.
use Rattle.std.proofs.Common.{◌≡◌, ℕ, ◌+◌, ◌-◌, ◌<◌, ◌≤◌, ◌⊎◌, inl, inr, List, [], ◌∷◌, length, take, drop, slice_index, Option, Some, None, IsTrue, IsFalse, IfSome, All, refl, sym, ◌∙◌, ap, subst, arith, add-zero, get_or-drop, drop-drop, length-drop}
use Rattle.std.specs.Char.{is_ascii_digit}
use Rattle.std.specs.List.{cons_option, AllPairs}
use Rattle.std.proofs.lemmas.Bool.{cases_lt}
use Rattle.std.proofs.lemmas.List.{get_or_past}
use Rattle.std.proofs.lemmas.List.Elements.{All-nil, All-cons, All-weaker}
use Rattle.std.proofs.lemmas.List.Kept.{AllPairs-cons}
use Rattle.name_scan.specs.declared.Piece.{Piece}
use Rattle.name_scan.specs.declared.Piece.TheVariants.{Skipped, DigitRun, NameRun, ClosedLiteral, OpenLiteral}
use Rattle.name_scan.specs.declared.Token.{Token}
use Rattle.name_scan.specs.Pieces.{is_name_byte, takes_next, piece_len, IsRun, IsLiteralText, IsClosed, IsOpen, IsPiece, IsCut}
use Rattle.name_scan.specs.Tokens.{token_at, tokens_at}
use Rattle.name_scan.specs.Places.{IsWithin, EndsBefore, IsNameAt, IsEndedAt, IsLiteralAt, IsKindAt}
use Rattle.name_scan.proofs.Texts.{quote_ends_names, newline_ends_names}
use Rattle.name_scan.proofs.Cuts.{FitsIn, piece_fits}

-- the token of the first piece and those of the others
All-cons_option : (P : Token → Type 0) (token : Option Token) (ts : List Token) → IfSome token P → All P ts → All P (cons_option token ts)
All-cons_option P None ts first others = others
All-cons_option P (Some t) ts first others = All-cons P t ts first others

AllPairs-cons_option : (token : Option Token) (ts : List Token) → IfSome token (λ t. All (EndsBefore t) ts) → AllPairs EndsBefore ts → AllPairs EndsBefore (cons_option token ts)
AllPairs-cons_option None ts first others = others
AllPairs-cons_option (Some t) ts first others = AllPairs-cons EndsBefore t ts first others

IfSome-weaker : (P Q : Token → Type 0) (token : Option Token) → ((t : Token) → P t → Q t) → IfSome token P → IfSome token Q
IfSome-weaker P Q None weaker h = tt
IfSome-weaker P Q (Some t) weaker h = weaker t h

-- the token stands between the two places
record StandsIn (from to : ℕ) (t : Token) : Type 0 where
  starts : from ≤ t.start
  ordered : t.start ≤ t.end
  ends : t.end ≤ to

-- the token of a piece stands within the piece
token_within : (p : Piece) (at : ℕ) → IfSome (token_at at p) (StandsIn at (at + piece_len p))
token_within Skipped at = tt
token_within (DigitRun n) at = tt
token_within (NameRun n) at = record { starts = omega arith; ordered = omega arith; ends = omega arith }
token_within (ClosedLiteral n) at = record { starts = omega arith; ordered = omega arith; ends = omega arith }
token_within (OpenLiteral n) at = record { starts = omega arith; ordered = omega arith; ends = omega arith }

-- tokens start no sooner than their pieces
starts_from : (ps : List Piece) (at : ℕ) → All (λ (t : Token). at ≤ t.start) (tokens_at at ps)
starts_from [] at = All-nil (λ (t : Token). at ≤ t.start)
starts_from (p ∷ ps) at =
    let From : Token → Type 0 = λ t. at ≤ t.start in
    let Later : Token → Type 0 = λ t. at + piece_len p ≤ t.start in
    All-cons_option From (token_at at p) (tokens_at (at + piece_len p) ps)
    (IfSome-weaker (StandsIn at (at + piece_len p)) From (token_at at p) (λ t stands. stands.starts) (token_within p at))
    (All-weaker Later From (λ t later. omega (arith, later)) (tokens_at (at + piece_len p) ps) (starts_from ps (at + piece_len p)))

pub in_order : (ps : List Piece) (at : ℕ) → AllPairs EndsBefore (tokens_at at ps)
in_order [] at = λ i j d less within. absurd (omega arith)
in_order (p ∷ ps) at =
    let others : List Token = tokens_at (at + piece_len p) ps in
    let Later : Token → Type 0 = λ t. at + piece_len p ≤ t.start in
    AllPairs-cons_option (token_at at p) others
    (IfSome-weaker (StandsIn at (at + piece_len p)) (λ t. All (EndsBefore t) others) (token_at at p)
    (λ t stands. All-weaker Later (EndsBefore t) (λ u later. omega (arith, later, stands.ends)) others (starts_from ps (at + piece_len p)))
    (token_within p at))
    (in_order ps (at + piece_len p))

-- the piece at a place lies within the bytes
piece_within : (p : Piece) (bs : List ℕ) (at : ℕ) → at ≤ length bs → IsPiece p (drop at bs) → at + piece_len p ≤ length bs
piece_within p bs at within piece =
    let fits : FitsIn p (drop at bs) = piece_fits p (drop at bs) piece in
    let inner : piece_len p ≤ length bs - at = rw (← length-drop at bs) fits.within in
    omega arith

-- the pieces that follow the one at a place
rest_cut : (p : Piece) (ps : List Piece) (bs : List ℕ) (at : ℕ) → IsCut ps (drop (piece_len p) (drop at bs)) → IsCut ps (drop (at + piece_len p) bs)
rest_cut p ps bs at cut = rw drop-drop at cut

-- the token of the piece at a place lies within the bytes
pub token_in_bytes : (p : Piece) (bs : List ℕ) (at : ℕ) → at ≤ length bs → IsPiece p (drop at bs) → IfSome (token_at at p) (IsWithin bs)
token_in_bytes p bs at within piece =
    let inside : at + piece_len p ≤ length bs = piece_within p bs at within piece in
    IfSome-weaker (StandsIn at (at + piece_len p)) (IsWithin bs) (token_at at p)
    (λ t stands. record { ordered = stands.ordered; within = omega (arith, stands.ends) })
    (token_within p at)

pub within_bytes : (ps : List Piece) (bs : List ℕ) (at : ℕ) → at ≤ length bs → IsCut ps (drop at bs) → All (IsWithin bs) (tokens_at at ps)
within_bytes [] bs at within cut = All-nil (IsWithin bs)
within_bytes (p ∷ ps) bs at within cut =
    let inside : at + piece_len p ≤ length bs = piece_within p bs at within cut.0 in
    All-cons_option (IsWithin bs) (token_at at p) (tokens_at (at + piece_len p) ps)
    (token_in_bytes p bs at within cut.0)
    (within_bytes ps bs (at + piece_len p) inside (rest_cut p ps bs at cut.1))

-- a byte of what is left from a place on
byte_at : (bs : List ℕ) (at k : ℕ) → slice_index (drop at bs) k ≡ slice_index bs (at + k)
byte_at bs at k = get_or-drop at bs k 0

-- no name byte stands past the end
zero_ends_names : IsFalse (is_name_byte 0)
unfolding is_name_byte
zero_ends_names = refl

none_past : (bs : List ℕ) (at : ℕ) → length bs ≤ at → IsFalse (is_name_byte (slice_index bs at))
none_past bs at past = ap is_name_byte (get_or_past bs at 0 past) ∙ zero_ends_names

-- no name byte stands at the place, or none right before it
abbrev pub Apart : List ℕ → ℕ → Type 0
Apart bs at = IsFalse (is_name_byte (slice_index bs at)) ⊎ (0 < at → IsFalse (is_name_byte (slice_index bs (at - 1))))

-- no name byte stands behind a run
behind_run : (bs : List ℕ) (at n : ℕ) → at ≤ length bs → IsRun n (drop at bs) → IsFalse (is_name_byte (slice_index bs (at + n)))
behind_run bs at n within run =
    elim (cases_lt n (length (drop at bs))) [
      | inl less ↦ ap is_name_byte (sym (byte_at bs at n)) ∙ run.longest less
      | inr past ↦
          let counts : length (drop at bs) ≡ length bs - at = length-drop at bs in
          none_past bs (at + n) (omega arith)
    ]

-- the first byte of what is left from a place on, with the place told from the next one
byte_before : (bs : List ℕ) (at : ℕ) → slice_index (drop at bs) 0 ≡ slice_index bs (at + 1 - 1)
byte_before bs at =
    let same : at + 0 ≡ at + 1 - 1 = omega arith in
    byte_at bs at 0 ∙ ap (λ (k : ℕ). slice_index bs k) same

-- what stands behind an opening quote, seen from the place of the text
behind_quote : (P : List ℕ → Type 0) (bs : List ℕ) (at : ℕ) → P (drop 1 (drop at bs)) → P (drop (at + 1) bs)
behind_quote P bs at h = subst P (drop-drop 1 at bs) h

-- a quote that closes a literal, and what ends an open one, are no name bytes
closing_apart : (bs : List ℕ) (at n : ℕ) → IsClosed n (drop (at + 1) bs) → Apart bs (at + (n + 2))
closing_apart bs at n closing =
    let same : at + (n + 2) - 1 ≡ at + 1 + n = omega arith in
    inr (λ later. ap (λ (k : ℕ). is_name_byte (slice_index bs k)) same ∙ ap is_name_byte (sym (byte_at bs (at + 1) n) ∙ closing.quote) ∙ quote_ends_names)

ending_apart : (bs : List ℕ) (at n : ℕ) → IsOpen n (drop (at + 1) bs) → Apart bs (at + (n + 1))
ending_apart bs at n (inl whole) =
    let counts : length (drop (at + 1) bs) ≡ length bs - (at + 1) = length-drop (at + 1) bs in
    inl (none_past bs (at + (n + 1)) (omega arith))
ending_apart bs at n (inr newline) =
    let same : at + (n + 1) ≡ at + 1 + n = omega arith in
    inl (ap (λ (k : ℕ). is_name_byte (slice_index bs k)) same ∙ ap is_name_byte (sym (byte_at bs (at + 1) n) ∙ newline) ∙ newline_ends_names)

-- the piece at a place leaves the next place apart
next_apart : (p : Piece) (bs : List ℕ) (at : ℕ) → at ≤ length bs → IsPiece p (drop at bs) → Apart bs (at + piece_len p)
next_apart Skipped bs at within piece = inr (λ later. ap is_name_byte (sym (byte_before bs at)) ∙ piece.no_name_byte)
next_apart (DigitRun n) bs at within piece = inl (behind_run bs at n within piece.run)
next_apart (NameRun n) bs at within piece = inl (behind_run bs at n within piece.run)
next_apart (ClosedLiteral n) bs at within piece = closing_apart bs at n (behind_quote (IsClosed n) bs at piece.closing)
next_apart (OpenLiteral n) bs at within piece = ending_apart bs at n (behind_quote (IsOpen n) bs at piece.ending)

first_byte : (bs : List ℕ) (at : ℕ) → slice_index (drop at bs) 0 ≡ slice_index bs at
first_byte bs at = byte_at bs at 0 ∙ ap (λ (k : ℕ). slice_index bs k) (add-zero at)

-- where a name byte stands apart, none stands right before it
none_right_before : (bs : List ℕ) (at : ℕ) → Apart bs at → IsTrue (is_name_byte (slice_index bs at)) → 0 < at → IsFalse (is_name_byte (slice_index bs (at - 1)))
none_right_before bs at (inl none) name = cc
none_right_before bs at (inr before) name = before

-- a run that stands at a place
name_at : (bs : List ℕ) (at n : ℕ) → at ≤ length bs → Apart bs at → IsRun n (drop at bs) → IsFalse (is_ascii_digit (slice_index (drop at bs) 0)) → IsNameAt bs at (at + n)
name_at bs at n within apart run no_digit = record {
  some = omega (arith, run.begins);
  all_name = λ k from below.
      let same : at + (k - at) ≡ k = omega arith in
      ap (λ (i : ℕ). is_name_byte (slice_index bs i)) (sym same) ∙ ap is_name_byte (sym (byte_at bs at (k - at))) ∙ run.all_name (k - at) (omega arith);
  no_digit = ap is_ascii_digit (sym (first_byte bs at)) ∙ no_digit;
  none_before = none_right_before bs at apart (ap is_name_byte (sym (first_byte bs at)) ∙ run.all_name 0 run.begins);
  none_behind = λ less. behind_run bs at n within run;
}

-- the text of a literal that stands at a place
text_at : (bs : List ℕ) (from n : ℕ) → 0 < from → slice_index bs (from - 1) ≡ 34 → IsLiteralText n (drop from bs) → IsEndedAt bs from (from + n) → IsLiteralAt bs from (from + n)
text_at bs from n not_first opening text ending = record {
  not_first = not_first;
  opening = opening;
  no_newline = λ k after below newline.
      let same : from + (k - from) ≡ k = omega arith in
      text.no_newline (k - from) (omega arith) (byte_at bs from (k - from) ∙ ap (λ (i : ℕ). slice_index bs i) same ∙ newline);
  quotes_taken = λ k after below quote.
      let same : from + (k - from) ≡ k = omega arith in
      text.quotes_taken (k - from) (omega arith) (byte_at bs from (k - from) ∙ ap (λ (i : ℕ). slice_index bs i) same ∙ quote);
  ending = ending;
}

closed_at : (bs : List ℕ) (from n : ℕ) → IsClosed n (drop from bs) → IsEndedAt bs from (from + n)
closed_at bs from n closing =
    let same : from + n - from ≡ n = omega arith in
    inl (sym (byte_at bs from n) ∙ closing.quote, ap (λ (k : ℕ). takes_next (take k (drop from bs))) same ∙ closing.not_taken)

open_at : (bs : List ℕ) (from n : ℕ) → from ≤ length bs → IsOpen n (drop from bs) → IsEndedAt bs from (from + n)
open_at bs from n within (inl whole) =
    let counts : length (drop from bs) ≡ length bs - from = length-drop from bs in
    inr (inr (omega arith))
open_at bs from n within (inr newline) = inr (inl (sym (byte_at bs from n) ∙ newline))

-- the token of a piece is what its kind says
token_in_place : (p : Piece) (bs : List ℕ) (at : ℕ) → at ≤ length bs → Apart bs at → IsPiece p (drop at bs) → IfSome (token_at at p) (λ t. IsKindAt bs t.kind t.start t.end)
token_in_place Skipped bs at within apart piece = tt
token_in_place (DigitRun n) bs at within apart piece = tt
token_in_place (NameRun n) bs at within apart piece = name_at bs at n within apart piece.run piece.no_digit
token_in_place (ClosedLiteral n) bs at within apart piece =
    text_at bs (at + 1) n (omega arith) (sym (byte_before bs at) ∙ piece.opening)
    (behind_quote (IsLiteralText n) bs at piece.text)
    (closed_at bs (at + 1) n (behind_quote (IsClosed n) bs at piece.closing))
token_in_place (OpenLiteral n) bs at within apart piece =
    let inside : at + (n + 1) ≤ length bs = piece_within (OpenLiteral n) bs at within piece in
    text_at bs (at + 1) n (omega arith) (sym (byte_before bs at) ∙ piece.opening)
    (behind_quote (IsLiteralText n) bs at piece.text)
    (open_at bs (at + 1) n (omega arith) (behind_quote (IsOpen n) bs at piece.ending))

pub in_place : (ps : List Piece) (bs : List ℕ) (at : ℕ) → at ≤ length bs → Apart bs at → IsCut ps (drop at bs) → All (λ (t : Token). IsKindAt bs t.kind t.start t.end) (tokens_at at ps)
in_place [] bs at within apart cut = All-nil (λ (t : Token). IsKindAt bs t.kind t.start t.end)
in_place (p ∷ ps) bs at within apart cut =
    let inside : at + piece_len p ≤ length bs = piece_within p bs at within cut.0 in
    All-cons_option (λ (t : Token). IsKindAt bs t.kind t.start t.end) (token_at at p) (tokens_at (at + piece_len p) ps)
    (token_in_place p bs at within apart cut.0)
    (in_place ps bs (at + piece_len p) inside (next_apart p bs at within cut.0) (rest_cut p ps bs at cut.1))
