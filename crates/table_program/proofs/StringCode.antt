-- What answers of the interner do to a run of literals and to its listing.
use Rattle.std.proofs.Common.{◌≡◌, ℕ, ◌+◌, ◌<◌, ◌≤◌, Bool, true, false, cond, List, [], ◌∷◌, ◌++◌, length, map, take, drop, get_or, refl, sym, ap, subst, ◌∙◌, append-nil, add-zero, add-one, drop-cons, arith}
use mir.Val.{bool_byte}
use Rattle.std.specs.Bool.{OnTrue}
use Rattle.std.specs.Str.{bytes_eq}
use Rattle.std.proofs.lemmas.List.{take_more, map-append, length-map, get_or-map}
use Rattle.std.proofs.lemmas.List.Folds.{list_any_at}
use Rattle.intern_log.specs.declared.event.Handle.{Handle}
use Rattle.intern_log.specs.declared.event.Kind.TheVariants.{Weak}
use Rattle.intern_log.specs.declared.event.What.TheVariants.{Kill}
use Rattle.intern_log.specs.TextMap.{TextMap, IsLive}
use Rattle.intern_log.specs.Log.{next}
use Rattle.intern_log.specs.Finals.{finals, is_among_texts}
use Rattle.plain_interner.specs.declared.plain.PlainInterned.{PlainInterned}
use Rattle.plain_interner.specs.declared.plain.PlainInterned.TheVariants.{Created, Taken, Found}
use Rattle.plain_interner.specs.State.{State, Follows, event_of, HasNewSlot, IsOfKind}
use Rattle.table_program.specs.declared.literals.MadeEntry.{MadeEntry}
use Rattle.name_scan.specs.declared.Token.{Token}
use Rattle.name_scan.specs.FileTexts.{text_of}
use Rattle.table_program.specs.Holding.{Held}
use Rattle.table_program.specs.MadeEntries.{pair_of, pairs_of}
use Rattle.table_program.specs.StringRun.{StringRun, StringListing}
use Rattle.table_program.proofs.StringSteps.{literal_created, literal_found, listed_kept, listed_killed, listed_is_live, listing_begins}
use Rattle.table_program.proofs.FinalItems.{finals-map}

-- an answer as a number
byte_is : (b : Bool) → bool_byte b ≡ cond b 1 0
byte_is true = refl
byte_is false = refl

pub byte_within : (b : Bool) → bool_byte b ≤ 1
byte_within true = omega arith
byte_within false = omega arith

-- the entry that an answer tells of, where it is new
abbrev pub made_from : List ℕ → PlainInterned → List Held
made_from t (Created h) = (t, h) ∷ []
made_from t _ = []

at_state : (literals : List (List ℕ)) (old new : State) (made : List Held) (texts : TextMap) (created : ℕ) → new.texts ≡ texts → new.created ≡ created →
    StringRun literals texts created made → StringRun literals new.texts new.created made
at_state literals old new made texts created texts_are created_are run =
    subst (λ m. StringRun literals m new.created made) (sym texts_are) (subst (λ n. StringRun literals texts n made) (sym created_are) run)

-- one more literal
pub literal_answered : (old new : State) (t : List ℕ) (answer : PlainInterned) → Follows old (event_of t answer) new → HasNewSlot old answer → IsOfKind old.kind answer → old.kind ≡ Weak →
    (literals : List (List ℕ)) (made : List Held) → StringRun literals old.texts old.created made → StringRun (literals ++ t ∷ []) new.texts new.created (made ++ made_from t answer)
literal_answered old new t (Created h) follows new_slot kinds weak literals made run =
    at_state (literals ++ t ∷ []) old new (made ++ (t, h) ∷ []) _ _ follows.texts follows.created (literal_created literals old.texts old.created made t h run follows.allowed new_slot)
literal_answered old new t (Taken h) follows new_slot kinds weak literals made run = absurd (cc)
literal_answered old new t (Found h) follows new_slot kinds weak literals made run =
    subst (StringRun (literals ++ t ∷ []) new.texts new.created) (sym (append-nil made))
    (at_state (literals ++ t ∷ []) old new made _ _ follows.texts (follows.created ∙ add-zero old.created) (literal_found literals old.texts old.created made t h run follows.allowed))

-- the same of a token's text, and of the entries that the code keeps
pub literal_interned : (bytes : List ℕ) (literal : Token) (text : List ℕ) → text ≡ text_of bytes literal →
    (old new : State) (answer : PlainInterned) → Follows old (event_of text answer) new → HasNewSlot old answer → IsOfKind old.kind answer → old.kind ≡ Weak →
    (made more : List MadeEntry) → pairs_of bytes more ≡ pairs_of bytes made ++ made_from (text_of bytes literal) answer →
    (literals : List (List ℕ)) → StringRun literals old.texts old.created (pairs_of bytes made) →
    StringRun (literals ++ text_of bytes literal ∷ []) new.texts new.created (pairs_of bytes more)
literal_interned bytes literal text is old new answer follows new_slot kinds weak made more pairs literals run =
    subst (StringRun (literals ++ text_of bytes literal ∷ []) new.texts new.created) (sym pairs)
    (literal_answered old new (text_of bytes literal) answer (subst (λ t. Follows old (event_of t answer) new) is follows) new_slot kinds weak literals (pairs_of bytes made) run)

-- an answer that is no new entry
pub none_made : (t : List ℕ) (answer : PlainInterned) → ((h : Handle) → answer ≡ Created h → ⊥) → made_from t answer ≡ []
none_made t (Created h) other = absurd (other h refl)
none_made t (Taken h) other = refl
none_made t (Found h) other = refl

module _ (bytes : List ℕ) where
  -- one entry more that is listed
  pub left_more : (entries : List MadeEntry) (i : ℕ) (d : MadeEntry) → i < length entries → drop i entries ≡ get_or entries i d ∷ drop (i + 1) entries
  left_more entries i d within = drop-cons entries i d within ∙ ap (λ n. get_or entries i d ∷ drop n entries) (sym (add-one i))

  pushed_pairs : (listed : List MadeEntry) (entry : MadeEntry) → pairs_of bytes (listed ++ entry ∷ []) ≡ pairs_of bytes listed ++ pair_of bytes entry ∷ []
  pushed_pairs listed entry = map-append (pair_of bytes) listed (entry ∷ [])

  -- a listed entry that stays
  pub listing_kept : (final literals : List (List ℕ)) (listed left : List MadeEntry) (entry : MadeEntry) (texts : TextMap) (created killed : ℕ) → is_among_texts final (text_of bytes entry.literal) ≡ true →
      StringListing final literals (pairs_of bytes listed) (pairs_of bytes (entry ∷ left)) texts created killed →
      StringListing final literals (pairs_of bytes (listed ++ entry ∷ [])) (pairs_of bytes left) texts created (killed + 0)
  listing_kept final literals listed left entry texts created killed is listing =
      subst (λ entries. StringListing final literals entries (pairs_of bytes left) texts created (killed + 0)) (sym (pushed_pairs listed entry))
      (subst (StringListing final literals (pairs_of bytes listed ++ pair_of bytes entry ∷ []) (pairs_of bytes left) texts created) (sym (add-zero killed))
      (listed_kept final literals (pairs_of bytes listed) (pairs_of bytes left) texts created killed (text_of bytes entry.literal) entry.handle listing is))

  -- a listed entry that is killed, which answers true since it was live
  pub listing_killed : (final literals : List (List ℕ)) (listed left : List MadeEntry) (entry : MadeEntry) (old new : State) (killed : ℕ) (answer : Bool) →
      is_among_texts final (text_of bytes entry.literal) ≡ false → (IsLive old.texts entry.handle → answer ≡ true) → OnTrue answer (Follows old (Kill entry.handle) new) →
      StringListing final literals (pairs_of bytes listed) (pairs_of bytes (entry ∷ left)) old.texts old.created killed →
      StringListing final literals (pairs_of bytes (listed ++ entry ∷ [])) (pairs_of bytes left) new.texts new.created (killed + cond answer 1 0)
  listing_killed final literals listed left entry old new killed true is live follows listing =
      let more = listed_killed final literals (pairs_of bytes listed) (pairs_of bytes left) old.texts old.created killed (text_of bytes entry.literal) entry.handle listing is in
      subst (λ entries. StringListing final literals entries (pairs_of bytes left) new.texts new.created (killed + 1)) (sym (pushed_pairs listed entry))
      (subst (λ m. StringListing final literals (pairs_of bytes listed ++ pair_of bytes entry ∷ []) (pairs_of bytes left) m new.created (killed + 1)) (sym follows.texts)
      (subst (λ n. StringListing final literals (pairs_of bytes listed ++ pair_of bytes entry ∷ []) (pairs_of bytes left) (next old.texts (Kill entry.handle)) n (killed + 1))
      (sym (add-zero old.created) ∙ sym follows.created) more))
  listing_killed final literals listed left entry old new killed false is live follows listing =
      let answered : false ≡ true = live (listed_is_live final literals (pairs_of bytes listed) (pairs_of bytes left) old.texts old.created killed (text_of bytes entry.literal) entry.handle listing) in
      absurd (cc)

  -- a text that one of the literals has
  pub among_at : (literals : List Token) (i : ℕ) (d : Token) (text : List ℕ) → i < length literals → bytes_eq text (text_of bytes (get_or literals i d)) ≡ true → is_among_texts (map (text_of bytes) literals) text ≡ true
  among_at literals i d text within same =
      list_any_at (bytes_eq text) (map (text_of bytes) literals) i [] (rw length-map within) (ap (bytes_eq text) (get_or-map (text_of bytes) literals i d [] within) ∙ same)

  -- the listing from one entry of a list to the next
  pub listing_more : (final literals : List (List ℕ)) (made : List MadeEntry) (i : ℕ) (d : MadeEntry) (old new : State) (killed more : ℕ) (answer : Bool) → i < length made → more ≡ bool_byte answer →
      ((literals : List (List ℕ)) (listed left : List MadeEntry) (killed : ℕ) →
      StringListing final literals (pairs_of bytes listed) (pairs_of bytes (get_or made i d ∷ left)) old.texts old.created killed →
      StringListing final literals (pairs_of bytes (listed ++ get_or made i d ∷ [])) (pairs_of bytes left) new.texts new.created (killed + cond answer 1 0)) →
      StringListing final literals (pairs_of bytes (take i made)) (pairs_of bytes (drop i made)) old.texts old.created killed →
      StringListing final literals (pairs_of bytes (take (i + 1) made)) (pairs_of bytes (drop (i + 1) made)) new.texts new.created (killed + more)
  listing_more final literals made i d old new killed more answer within is step listing =
      let before : StringListing final literals (pairs_of bytes (take i made)) (pairs_of bytes (get_or made i d ∷ drop (i + 1) made)) old.texts old.created killed =
      subst (λ left. StringListing final literals (pairs_of bytes (take i made)) (pairs_of bytes left) old.texts old.created killed) (left_more made i d within) listing in
      subst (λ listed. StringListing final literals (pairs_of bytes listed) (pairs_of bytes (drop (i + 1) made)) new.texts new.created (killed + more)) (sym (take_more made i d within))
      (subst (λ n. StringListing final literals (pairs_of bytes (take i made ++ get_or made i d ∷ [])) (pairs_of bytes (drop (i + 1) made)) new.texts new.created (killed + n)) (sym (is ∙ byte_is answer))
      (step literals (take i made) (drop (i + 1) made) killed before))

  -- the whole listing, from the last literals
  pub all_listed : (hold : ℕ) (literals last : List Token) (made listed : List MadeEntry) (old new : State) (killed : ℕ) → last ≡ finals hold literals → listed ≡ made →
      StringRun (map (text_of bytes) literals) old.texts old.created (pairs_of bytes made) →
      ((texts : List (List ℕ)) →
      StringListing (map (text_of bytes) last) texts [] (pairs_of bytes listed) old.texts old.created 0 →
      StringListing (map (text_of bytes) last) texts (pairs_of bytes listed) [] new.texts new.created killed) →
      StringListing (finals hold (map (text_of bytes) literals)) (map (text_of bytes) literals) (pairs_of bytes made) [] new.texts new.created killed
  all_listed hold literals last made listed old new killed last_are listed_are run lists =
      let begun = listing_begins (map (text_of bytes) last) (map (text_of bytes) literals) old.texts old.created (pairs_of bytes made) run in
      let final : map (text_of bytes) last ≡ finals hold (map (text_of bytes) literals) = ap (map (text_of bytes)) last_are ∙ finals-map (text_of bytes) hold literals in
      let done : StringListing (map (text_of bytes) last) (map (text_of bytes) literals) (pairs_of bytes listed) [] new.texts new.created killed =
      lists (map (text_of bytes) literals) (subst (λ entries. StringListing (map (text_of bytes) last) (map (text_of bytes) literals) [] (pairs_of bytes entries) old.texts old.created 0) (sym listed_are) begun) in
      subst (λ texts. StringListing texts (map (text_of bytes) literals) (pairs_of bytes made) [] new.texts new.created killed) final
      (subst (λ entries. StringListing (map (text_of bytes) last) (map (text_of bytes) literals) (pairs_of bytes entries) [] new.texts new.created killed) listed_are done)
