-- What the words of a node say of its text, and those of a head of its first node.
use Rattle.std.proofs.Common.{◌≡◌, ℕ, suc, ◌+◌, ◌*◌, ◌/◌, ◌<◌, ◌≤◌, ◌==◌, true, false, List, length, Option, Some, None, refl, sym, ap, subst, cond}
use Rattle.std.proofs.Common.{◌∙◌, inl, inr, arith}
use Rattle.std.proofs.lemmas.Bool.{cases_eq, eqb-true, eqb-false}
use Rattle.std.proofs.lemmas.Bool.Decides.{nat_tests}
use Rattle.text_words.specs.Hash.{hash_of}
use Rattle.text_words.specs.Words.{words_of, word_at}
use Rattle.text_words.proofs.RoundTrip.{same_texts_by_word}
use Rattle.marked_word.specs.Head.{is_redirected, first_of}
use Rattle.marked_word.specs.Link.{link_word, node_of}
use Rattle.marked_word.specs.Meta.{meta_word}
use Rattle.table_shape.specs.declared.place.Place.TheVariants as place
use Rattle.intern_log.specs.declared.event.Entry.{Entry}
use Rattle.intern_log.specs.Now.{OpenSection, Linked}
use Rattle.intern_log.specs.TextMap.{entry_of}
use Rattle.intern_log.proofs.Handles.{handle_eq-Decides}
use Rattle.atomic_step.specs.Count.{holds_of, holds_word}
use Rattle.call_machine.specs.Sought.{meta_of}
use Rattle.cht_core.specs.declared.table.Table.{Table}
use Rattle.cht_core.specs.Flow.{Flow}
use Rattle.cht_core.specs.Heads.{used_head}
use Rattle.cht_core.specs.Memory.{Memory}
use Rattle.cht_core.specs.Past.{Past}
use Rattle.cht_core.specs.Search.{IsHeld, IsNoMatch, IsSeenLike, IsSeenWith}
use Rattle.cht_core.specs.Slots.{AreBytes, count_in}
use Rattle.cht_core.specs.TableState.{IsTable}

-- a head to which callers come says its first node
pub head_first : (first lock : Option ℕ) → first_of (used_head first lock) ≡ first
head_first first lock = ap node_of (quarter lock) ∙ back first
  where
    quarter : (lock : Option ℕ) → used_head first lock / 4 ≡ link_word first
    quarter None = omega arith
    quarter (Some k) = omega arith

    back : (node : Option ℕ) → node_of (link_word node) ≡ node
    back None = refl
    back (Some s) = ap node_of (let next : s + 1 ≡ suc s = omega arith in next)

-- and it says that it is not redirected
pub head_plain : (first lock : Option ℕ) → is_redirected (used_head first lock) ≡ false
head_plain first None = grind (arith, nat_tests)
head_plain first (Some k) = grind (arith, nat_tests)

-- equal meta words are those of texts of one length
pub same_length : (seed other : ℕ) (a b : List ℕ) → length a ≤ 65535 → length b ≤ 65535 → meta_word (meta_of seed a) ≡ meta_word (meta_of other b) → length a ≡ length b
same_length seed other a b short low same = by_parts (hash_of seed a) (hash_of other b) (length a) (length b) short low same
  where
    by_parts : (h k x y : ℕ) → x ≤ 65535 → y ≤ 65535 → h * 65536 + x ≡ k * 65536 + y → x ≡ y
    by_parts h k x y short low same = omega (arith, short, low, same)

module _ (t : Table) (m : Memory) (p : Past) (f : Flow) (table : IsTable t m p f) where
  -- the entry of a text is in a slot that is linked with it
  pub entry_linked : (text : List ℕ) (s : ℕ) (e : Entry) → entry_of p.now.texts text ≡ Some e → e.handle.slot ≡ s
      → (born : ℕ) × (p.now.slot s ≡ Linked text e.handle born) × (1 ≤ e.count) × (e.count ≤ 65535)
  entry_linked text s e is at = let linked = table.tidy.entries text e is in (linked.0, ap p.now.slot (sym at) ∙ linked.1, linked.2, linked.3)

  -- no entry of a text is in a slot with another meta word
  pub no_match_by_meta : (seed : ℕ) (text : List ℕ) (load s : ℕ) → seed ≡ p.now.seed → (m (place.Meta s) == meta_word (meta_of seed text)) ≡ false → IsNoMatch p.now text load s
  no_match_by_meta seed text load s seeds differ e is at =
      let linked = entry_linked text s e is at in
      let words : m (place.Meta s) ≡ meta_word (meta_of p.now.seed text) = table.slots.metas s text e.handle linked.0 linked.1 in
      absurd (eqb-false (m (place.Meta s)) (meta_word (meta_of seed text)) differ (words ∙ ap (λ (x : ℕ). meta_word (meta_of x text)) (sym seeds)))

  -- nor in one with another text word
  pub no_match_by_text : (text : List ℕ) (load s at : ℕ) → at < words_of (length text) → (m (place.Text s at) == word_at text at) ≡ false → IsNoMatch p.now text load s
  no_match_by_text text load s at within differ e is here =
      let linked = entry_linked text s e is here in
      absurd (eqb-false (m (place.Text s at)) (word_at text at) differ (table.slots.texts s text e.handle linked.0 linked.1 at within within))

  -- nor in one without a hold
  pub no_match_by_count : (text : List ℕ) (load s : ℕ) → (holds_of (m (place.Count s)) == 0) ≡ true → IsNoMatch p.now text load s
  no_match_by_count text load s none e is here =
      let linked = entry_linked text s e is here in
      let word : m (place.Count s) ≡ holds_word e.handle (count_in (entry_of p.now.texts text) e.handle) = table.slots.counts s text e.handle linked.0 linked.1 in
      let own : count_in (Some e) e.handle ≡ e.count = ap (λ b. cond b e.count 0) ((handle_eq-Decides e.handle e.handle).1 refl) in
      let whole : m (place.Count s) ≡ holds_word e.handle e.count = word ∙ ap (λ o. holds_word e.handle (count_in o e.handle)) is ∙ ap (holds_word e.handle) own in
      let zero_holds : holds_of (m (place.Count s)) ≡ 0 = eqb-true (holds_of (m (place.Count s))) 0 none in
      let some : 1 ≤ e.count = linked.2 in
      let most : e.count ≤ 65535 = linked.3 in
      let has : holds_of (holds_word e.handle e.count) ≡ e.count = omega (arith, most) in
      let clash : e.count ≡ 0 = sym has ∙ sym (ap holds_of whole) ∙ zero_holds in
      absurd (omega (arith, some, clash))

  -- a node that is held and has the meta word of a text is seen with a text of that length
  pub seen_by_meta : (i seed : ℕ) (text : List ℕ) (s : ℕ) (o : OpenSection) → p.now.section i ≡ Some o → IsHeld p.now o.place s → length text ≤ 65535
      → m (place.Meta s) ≡ meta_word (meta_of seed text) → IsSeenLike p.now i s text 0
  seen_by_meta i seed text s o inside held short same = (
    o,
    inside,
    elim held [
      | inl l ↦
          let room = table.slots.rooms s l.0 l.1 l.2 l.3 in
          let words : m (place.Meta s) ≡ meta_word (meta_of p.now.seed l.0) = table.slots.metas s l.0 l.1 l.2 l.3 in
          inl (l.0, l.1, l.2, l.3, (same_length p.now.seed seed l.0 text room.0.0 short (sym words ∙ same), λ at below. absurd (omega (arith, below))))
      | inr u ↦ inr u
    ],
  )

  -- with one more word that is the same it is seen with a text that is alike in that word too
  pub seen_by_text : (i s : ℕ) (text : List ℕ) (at : ℕ) → at < words_of (length text) → m (place.Text s at) ≡ word_at text at
      → IsSeenLike p.now i s text at → IsSeenLike p.now i s text (at + 1)
  seen_by_text i s text at within same h = (
    h.0,
    h.1,
    elim h.2 [
      | inl l ↦
          let long : length l.0 ≡ length text = l.4.0 in
          let inside : at < words_of (length l.0) = subst (λ (n : ℕ). at < words_of n) (sym long) within in
          let word : word_at l.0 at ≡ word_at text at = sym (table.slots.texts s l.0 l.1 l.2 l.3 at inside inside) ∙ same in
          inl (
            l.0,
            l.1,
            l.2,
            l.3,
            (
              long,
              λ b below. elim (cases_eq b at) [
                | inl last ↦ ap (word_at l.0) last ∙ word ∙ ap (word_at text) (sym last)
                | inr other ↦ l.4.1 b (omega (arith, below, other))
              ],
            ),
          )
      | inr u ↦ inr u
    ],
  )

  -- and where all words are the same it is seen with the text itself
  pub seen_whole : (i s : ℕ) (text : List ℕ) (at : ℕ) → AreBytes text → words_of (length text) ≤ at → IsSeenLike p.now i s text at → IsSeenWith p.now i s text
  seen_whole i s text at bytes past h = (
    h.0,
    h.1,
    elim h.2 [
      | inl l ↦
          let long : length l.0 ≡ length text = l.4.0 in
          let all : (b : ℕ) → b < words_of (length l.0) → word_at l.0 b ≡ word_at text b =
          λ b below. let inside : b < words_of (length text) = subst (λ (n : ℕ). b < words_of n) long below in l.4.1 b (omega (arith, inside, past)) in
          inl (l.0, l.1, l.2, l.3, same_texts_by_word l.0 text (table.slots.rooms s l.0 l.1 l.2 l.3).1 bytes long all)
      | inr u ↦ inr u
    ],
  )
