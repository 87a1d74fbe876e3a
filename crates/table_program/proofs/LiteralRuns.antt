-- The literals of a file as far as its tokens were gone over.
use Rattle.std.proofs.Common.{◌≡◌, ℕ, ◌+◌, ◌-◌, ◌<◌, ◌≤◌, List, [], ◌∷◌, ◌++◌, length, map, filter, All, refl, sym, ap, subst, ◌∙◌, arith, length-append, if◌then◌else◌}
use Rattle.std.proofs.Math.Seq.{drop-nil}
use Rattle.std.proofs.lemmas.List.{length-map, map-append}
use Rattle.std.proofs.lemmas.List.Elements.{All-nil, All-cons, All-append, All-drop, filter-append}
use Rattle.std.proofs.lemmas.List.Sums.{length-filter, count_by-le-length}
use Rattle.circular_buffer.specs.Buffer.{Buffer, buffer, keep_last}
use Rattle.intern_log.specs.declared.event.Kind.TheVariants.{Weak}
use Rattle.intern_log.specs.TextMap.{no_texts}
use Rattle.intern_log.specs.Finals.{finals}
use Rattle.name_scan.specs.declared.Token.{Token}
use Rattle.name_scan.specs.declared.TokenKind.{TokenKind}
use Rattle.name_scan.specs.declared.TokenKind.TheVariants.{Literal}
use Rattle.name_scan.specs.FileTexts.{is_literal, text_of, literals_among}
use Rattle.name_scan.specs.Places.{IsWithin}
use Rattle.plain_interner.specs.State.{State}
use Rattle.table_report.specs.declared.StringCounts.{StringCounts}
use Rattle.table_program.specs.declared.literals.MadeEntry.{MadeEntry}
use Rattle.table_program.specs.MadeEntries.{pairs_of, AreWithin, IsLiteralRun, literal_tokens, LiteralsSoFar}
use Rattle.table_program.specs.StringRun.{StringListing, IsStringsOf}
use Rattle.table_program.proofs.FinalItems.{finals-again}
use Rattle.table_program.proofs.StringSteps.{StringRun-none}
use Rattle.table_program.proofs.StringCode.{all_listed}
use Rattle.table_program.proofs.StringTotals.{created_within, created_within_listing, strings_are}

-- before the first token
no_literals : (hold : ℕ) (bytes : List ℕ) → LiteralsSoFar hold bytes [] (record { kind = Weak; texts = no_texts; created = 0 }) [] (buffer [] hold) 0
no_literals hold bytes = record {
  kind = refl;
  run = StringRun-none;
  made_within = All-nil (λ (entry : MadeEntry). IsWithin bytes entry.literal);
  capacity = refl;
  last_are = sym (drop-nil (0 - hold));
  last_within = All-nil (IsWithin bytes);
  counted = refl;
}

pub literals_begin : (hold : ℕ) (bytes : List ℕ) (plain : State) (made : List MadeEntry) (last : Buffer Token) →
    plain ≡ record { kind = Weak; texts = no_texts; created = 0 } → made ≡ [] → last ≡ buffer [] hold → LiteralsSoFar hold bytes [] plain made last 0
literals_begin hold bytes plain made last plain_is made_are last_is =
    subst (λ p. LiteralsSoFar hold bytes [] p made last 0) (sym plain_is)
    (subst (λ m. LiteralsSoFar hold bytes [] (record { kind = Weak; texts = no_texts; created = 0 }) m last 0) (sym made_are)
    (subst (λ l. LiteralsSoFar hold bytes [] (record { kind = Weak; texts = no_texts; created = 0 }) [] l 0) (sym last_is) (no_literals hold bytes)))

-- no more literals are found than tokens, and no more entries are made than there are literals
literals_few : (bytes : List ℕ) (found : List Token) → length (literals_among bytes found) ≤ length found
literals_few bytes found =
    let keeps = λ (t : Token). is_literal t.kind in
    omega (arith, length-map (filter keeps found) (text_of bytes), length-filter keeps found, count_by-le-length keeps found)

pub created_few : (hold : ℕ) (bytes : List ℕ) (found : List Token) (plain : State) (made : List MadeEntry) (last : Buffer Token) (count : ℕ) →
    LiteralsSoFar hold bytes found plain made last count → (plain.created ≤ length found) × (count ≤ length found)
created_few hold bytes found plain made last count so_far =
    let few = literals_few bytes found in
    (omega (arith, created_within _ plain.texts plain.created _ so_far.run), omega (arith, so_far.counted))

-- the literals with one more
literal_tokens_more : (found : List Token) (t : Token) → t.kind ≡ Literal → literal_tokens (found ++ t ∷ []) ≡ literal_tokens found ++ t ∷ []
literal_tokens_more found t is =
    filter-append (λ (u : Token). is_literal u.kind) found (t ∷ [])
    ∙ ap (λ rest. literal_tokens found ++ rest) (by_kind t t.kind is)
  where
    by_kind : (u : Token) (kind : TokenKind) → kind ≡ Literal → (if is_literal kind then u ∷ [] else []) ≡ u ∷ []
    by_kind u Literal same = refl
    by_kind u _ same = cc

literals_among_more : (bytes : List ℕ) (found : List Token) (t : Token) → t.kind ≡ Literal → literals_among bytes (found ++ t ∷ []) ≡ literals_among bytes found ++ text_of bytes t ∷ []
literals_among_more bytes found t is = ap (map (text_of bytes)) (literal_tokens_more found t is) ∙ map-append (text_of bytes) (literal_tokens found) (t ∷ [])

pub literals_more : (hold : ℕ) (bytes : List ℕ) (found : List Token) (t : Token) (plain new_plain : State) (made new_made : List MadeEntry) (last new_last : Buffer Token) (count : ℕ) →
    LiteralsSoFar hold bytes found plain made last count → 0 < hold → t.kind ≡ Literal → IsWithin bytes t →
    new_plain.kind ≡ Weak → AreWithin bytes new_made → IsLiteralRun bytes (literals_among bytes found ++ text_of bytes t ∷ []) new_plain new_made →
    new_last ≡ buffer (keep_last last.capacity (last.items ++ t ∷ [])) last.capacity →
    LiteralsSoFar hold bytes (found ++ t ∷ []) new_plain new_made new_last (count + 1)
literals_more hold bytes found t plain new_plain made new_made last new_last count before some literal within kind made_within run pushed = record {
  kind = kind;
  run = subst (λ texts. IsLiteralRun bytes texts new_plain new_made) (sym (literals_among_more bytes found t literal)) run;
  made_within = made_within;
  capacity = ap (λ (b : Buffer Token). b.capacity) pushed ∙ before.capacity;
  last_are = items
      ∙ ap (λ n. finals n (last.items ++ t ∷ [])) before.capacity
      ∙ ap (λ ts. finals hold (ts ++ t ∷ [])) before.last_are
      ∙ finals-again hold (literal_tokens found) t some
      ∙ ap (finals hold) (sym (literal_tokens_more found t literal));
  last_within = subst (All (IsWithin bytes)) (sym items)
      (All-drop (IsWithin bytes) _ (last.items ++ t ∷ []) (All-append (IsWithin bytes) last.items (t ∷ []) before.last_within (All-cons (IsWithin bytes) t [] within (All-nil (IsWithin bytes)))));
  counted = omega (arith, before.counted, ap length (literals_among_more bytes found t literal), length-append (literals_among bytes found) (text_of bytes t ∷ []));
}
  where
    items : new_last.items ≡ keep_last last.capacity (last.items ++ t ∷ [])
    items = ap (λ (b : Buffer Token). b.items) pushed

-- what the listing of all entries leaves, by the last literals
pub record Listed (hold : ℕ) (bytes : List ℕ) (found : List Token) (made : List MadeEntry) (plain : State) (killed : ℕ) : Type 0 where
  pub listing : StringListing (finals hold (literals_among bytes found)) (literals_among bytes found) (pairs_of bytes made) [] plain.texts plain.created killed

pub all_are_listed : (hold : ℕ) (bytes : List ℕ) (found last_tokens : List Token) (plain new : State) (made listed : List MadeEntry) (last : Buffer Token) (count killed : ℕ) →
    LiteralsSoFar hold bytes found plain made last count → last_tokens ≡ last.items → listed ≡ made →
    ((texts : List (List ℕ)) →
    StringListing (map (text_of bytes) last_tokens) texts [] (pairs_of bytes listed) plain.texts plain.created 0 →
    StringListing (map (text_of bytes) last_tokens) texts (pairs_of bytes listed) [] new.texts new.created killed) →
    Listed hold bytes found made new killed
all_are_listed hold bytes found last_tokens plain new made listed last count killed so_far last_are listed_are lists =
    record { listing = all_listed bytes hold (literal_tokens found) last_tokens made listed plain new killed (last_are ∙ so_far.last_are) listed_are so_far.run lists }

pub created_few_listed : (hold : ℕ) (bytes : List ℕ) (found : List Token) (plain new : State) (made : List MadeEntry) (last : Buffer Token) (count killed : ℕ) →
    LiteralsSoFar hold bytes found plain made last count → Listed hold bytes found made new killed → new.created ≤ count
created_few_listed hold bytes found plain new made last count killed so_far listed =
    omega (arith, so_far.counted, created_within_listing _ _ _ _ _ _ _ listed.listing)

pub strings_of : (hold : ℕ) (bytes : List ℕ) (found : List Token) (plain new : State) (made : List MadeEntry) (last : Buffer Token) (count killed : ℕ) (counts : StringCounts) →
    LiteralsSoFar hold bytes found plain made last count → Listed hold bytes found made new killed →
    counts.created ≡ new.created → counts.found ≡ count - new.created → counts.killed ≡ killed → IsStringsOf hold (literals_among bytes found) new.texts counts
strings_of hold bytes found plain new made last count killed counts so_far listed created_is found_is killed_is =
    strings_are hold (literals_among bytes found) (pairs_of bytes made) new.texts new.created killed counts listed.listing
    created_is (found_is ∙ ap (λ n. n - new.created) so_far.counted) killed_is
