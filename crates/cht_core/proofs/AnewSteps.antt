-- The words of a table that is made anew, slot by slot.
use Rattle.std.proofs.Common.{◌≡◌, ℕ, zero, suc, ◌-◌, ◌<◌, ◌≤◌, ◌^◌, ◌==◌, ◌&&◌, Bool, true, false, cond, nat_lt, List, length, refl, sym, ap, subst, ◌∙◌, arith}
use Rattle.std.proofs.Math.Nat.{mod-lt}
use Rattle.std.proofs.lemmas.Bool.{eq-eqb, eqb-true, lt-ltb, ltb-true}
use Rattle.std.proofs.lemmas.Nat.{pow_pos}
use Rattle.text_words.specs.Hash.{hash_of}
use Rattle.text_words.specs.Words.{words_of as words_for}
use Rattle.marked_word.specs.Meta.{length_in}
use Rattle.table_shape.specs.declared.place.Place.TheVariants as place
use Rattle.table_shape.specs.declared.shape.Shape.{Shape}
use Rattle.table_shape.specs.Shape.{words_of}
use Rattle.intern_log.specs.Now.{Now}
use Rattle.intern_log.proofs.Handles.{both_hold}
use Rattle.atomic_step.specs.Count.{holds_of}
use Rattle.atomic_step.specs.Table.{word_at}
use Rattle.cht_core.specs.Anew.{is_counted_in, length_at, text_at, with_first, with_slot, with_slots, with_heads, made_anew}
use Rattle.cht_core.specs.Memory.{Memory, memory_of}
use Rattle.cht_core.specs.Rehash.{IsRehashed}
use Rattle.cht_core.specs.Search.{IsLinked}
use Rattle.cht_core.specs.Slots.{HasText}
use Rattle.cht_core.proofs.AnewChains.{IsAnewFrom, none_anew, passed_over, one_more_anew, all_anew}
use Rattle.cht_core.proofs.AnewReady.{IsReady}
use Rattle.cht_core.proofs.AnewTexts.{text_read}
use Rattle.cht_core.proofs.AnewWords.{IsFirstNow, first_put, heads_cleared, heads_sized, slots_sized}
use Rattle.cht_core.proofs.StateWords.{memory_at}
use Rattle.cht_core.proofs.WordsKept.{slots_few}

-- whether a slot is counted, by its words
counted_words : (shape : Shape) (words : List ℕ) (s : ℕ) → s < shape.slots → is_counted_in shape words s ≡ true
    → (memory_of shape words (place.Claim s) ≡ 1) × (1 ≤ holds_of (memory_of shape words (place.Count s)))
counted_words shape words s inside is =
    let parts = both_hold (word_at shape (place.Claim s) words == 1) (nat_lt 0 (holds_of (word_at shape (place.Count s) words))) is in (
      memory_at shape words (place.Claim s) inside ∙ eqb-true (word_at shape (place.Claim s) words) 1 parts.0,
      subst (λ word. 1 ≤ holds_of word) (sym (memory_at shape words (place.Count s) inside)) (ltb-true 0 (holds_of (word_at shape (place.Count s) words)) parts.1),
    )

words_counted : (shape : Shape) (words : List ℕ) (s : ℕ) → s < shape.slots → memory_of shape words (place.Claim s) ≡ 1 → 1 ≤ holds_of (memory_of shape words (place.Count s))
    → is_counted_in shape words s ≡ true
words_counted shape words s inside claim some =
    ap (λ b. b && nat_lt 0 (holds_of (word_at shape (place.Count s) words))) (eq-eqb (word_at shape (place.Claim s) words) 1 (sym (memory_at shape words (place.Claim s) inside) ∙ claim))
    ∙ lt-ltb 0 (holds_of (word_at shape (place.Count s) words)) (subst (λ word. 1 ≤ holds_of word) (memory_at shape words (place.Count s) inside) some)

module _ (shape : Shape) (words : List ℕ) (n : Now) (whole : length words ≡ words_of shape) (ready : IsReady shape (memory_of shape words) n) where
  abbrev m : Memory
  m = memory_of shape words

  abbrev heads_done : List ℕ
  heads_done = with_heads shape n.level (2 ^ n.level) words

  bounded : (s : ℕ) → IsLinked n s → s < 2 ^ 32
  bounded s linked = let inside = ready.inside s linked in let few = slots_few shape ready.sound in omega (arith, inside, few)

  -- one more slot
  module _ (now_words : List ℕ) (at : ℕ) (inside : at < shape.slots) (now_whole : length now_words ≡ words_of shape) (was : IsAnewFrom m (memory_of shape now_words) n (suc at)) where
    abbrev text_here : List ℕ
    text_here = text_at shape now_words at

    abbrev put_words : List ℕ
    put_words = with_first shape n.level at (hash_of n.seed text_here) now_words

    same_claim : memory_of shape now_words (place.Claim at) ≡ m (place.Claim at)
    same_claim = was.stay (place.Claim at) (λ never. never)

    same_count : memory_of shape now_words (place.Count at) ≡ m (place.Count at)
    same_count = was.stay (place.Count at) (λ never. never)

    put_linked : IsLinked n at → IsAnewFrom m (memory_of shape put_words) n at
    put_linked linked =
        let text : List ℕ = linked.0 in
        let same_meta : memory_of shape now_words (place.Meta at) ≡ m (place.Meta at) = was.later at (omega arith) in
        let long : length_at shape now_words at ≡ length text =
        ap length_in (sym (memory_at shape now_words (place.Meta at) inside) ∙ same_meta) ∙ ready.lengths at text linked.1 linked.2 linked.3 in
        let has : HasText (memory_of shape now_words) at text (words_for (length text)) =
        λ k below within. was.stay (place.Text at k) (λ never. never) ∙ ready.texts at text linked.1 linked.2 linked.3 k below within in
        let read : text_here ≡ text = text_read shape now_words at text ready.sound now_whole inside (ready.rooms at text linked.1 linked.2 linked.3) long has in
        let put : IsFirstNow (memory_of shape now_words) (memory_of shape put_words) n.level at (hash_of n.seed text_here) (length_at shape now_words at) =
        first_put shape n.level at (hash_of n.seed text_here) now_words now_whole ready.low ready.high inside in
        one_more_anew m (memory_of shape now_words) (memory_of shape put_words) n at text linked.1 linked.2 bounded linked.3 was
        (subst (λ bytes. IsFirstNow (memory_of shape now_words) (memory_of shape put_words) n.level at (hash_of n.seed text) bytes) long
        (subst (λ x. IsFirstNow (memory_of shape now_words) (memory_of shape put_words) n.level at (hash_of n.seed x) (length_at shape now_words at)) read put))
        (mod-lt (hash_of n.seed text) (pow_pos n.level))

    slot_anew : IsAnewFrom m (memory_of shape (with_slot shape n.level n.seed at now_words)) n at
    slot_anew = go (is_counted_in shape now_words at) refl
      where
        go : (b : Bool) → is_counted_in shape now_words at ≡ b → IsAnewFrom m (memory_of shape (cond b put_words now_words)) n at
        go true is =
            let counted = counted_words shape now_words at inside is in
            put_linked (ready.linked at (sym same_claim ∙ counted.0) (subst (λ word. 1 ≤ holds_of word) same_count counted.1))
        go false is = passed_over m (memory_of shape now_words) n at
            (λ linked. let counted = ready.counted at linked in
            let also : is_counted_in shape now_words at ≡ true = words_counted shape now_words at inside (same_claim ∙ counted.0) (subst (λ word. 1 ≤ holds_of word) (sym same_count) counted.1) in
            let clash : true ≡ false = sym also ∙ is in cc)
            was

  slots_anew : (done : ℕ) → done ≤ shape.slots → IsAnewFrom m (memory_of shape (with_slots shape n.level n.seed done heads_done)) n (shape.slots - done)
  slots_anew zero few =
      subst (IsAnewFrom m (memory_of shape heads_done) n) (let all : shape.slots ≡ shape.slots - 0 = omega arith in all)
      (none_anew m (memory_of shape heads_done) n shape.slots ready.inside (heads_cleared shape n.level (2 ^ n.level) words whole ready.low ready.high (omega arith)))
  slots_anew (suc done) few =
      let next : shape.slots - done ≡ suc (shape.slots - suc done) = omega (arith, few) in
      slot_anew (with_slots shape n.level n.seed done heads_done) (shape.slots - suc done) (omega (arith, few))
      (slots_sized shape n.level n.seed done heads_done ∙ heads_sized shape n.level (2 ^ n.level) words ∙ whole)
      (subst (IsAnewFrom m (memory_of shape (with_slots shape n.level n.seed done heads_done)) n) next (slots_anew done (omega (arith, few))))

  pub anew_sized : length (made_anew shape n.level n.seed words) ≡ length words
  anew_sized = slots_sized shape n.level n.seed shape.slots heads_done ∙ heads_sized shape n.level (2 ^ n.level) words

  -- all of them
  pub words_rehashed : IsRehashed m (memory_of shape (made_anew shape n.level n.seed words)) n
  words_rehashed =
      let none : shape.slots - shape.slots ≡ 0 = omega arith in
      all_anew m (memory_of shape (made_anew shape n.level n.seed words)) n (subst (IsAnewFrom m (memory_of shape (made_anew shape n.level n.seed words)) n) none (slots_anew shape.slots (omega arith)))
