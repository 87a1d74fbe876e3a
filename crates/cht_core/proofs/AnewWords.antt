-- The words of a table by their places while its chains are made anew.
use Rattle.std.proofs.Common.{◌≡◌, ◌≢◌, ℕ, zero, suc, ◌+◌, ◌-◌, ◌*◌, ◌%◌, ◌<◌, ◌≤◌, ◌^◌, Bool, true, false, cond, List, length, inl, inr, refl, sym, ap, ◌∙◌, arith}
use Rattle.std.proofs.Math.Nat.{mod-lt}
use Rattle.std.proofs.lemmas.Bool.{cases_eq}
use Rattle.std.proofs.lemmas.Nat.{pow_pos}
use Rattle.std.proofs.lemmas.List.{get_or-set_same, get_or-set_other, length-set}
use Rattle.text_words.specs.Hash.{hash_of}
use Rattle.marked_word.specs.Link.{link_word}
use Rattle.marked_word.specs.Meta.{meta_word, length_in}
use Rattle.table_shape.specs.declared.place.Place.{Place}
use Rattle.table_shape.specs.declared.place.Place.TheVariants as place
use Rattle.table_shape.specs.declared.shape.Shape.{Shape}
use Rattle.table_shape.specs.Place.{IsInside, index_of}
use Rattle.table_shape.specs.Shape.{words_of}
use Rattle.table_shape.proofs.Places.{same_place, index_within}
use Rattle.atomic_step.specs.Table.{word_at}
use Rattle.cht_core.specs.Anew.{is_counted_in, with_word, length_at, text_at, HaveRoom, node_in, headed_by, with_first, with_slot, with_slots, with_heads}
use Rattle.cht_core.specs.Memory.{Memory, is_inside, memory_of}
use Rattle.cht_core.proofs.StateWords.{memory_at, memory_out, tested_inside}

-- one word is another one, and no other word is
pub record IsPut (m m' : Memory) (p : Place) (word : ℕ) : Type 0 where
  pub here : m' p ≡ word
  pub there : (q : Place) → q ≢ p → m' q ≡ m q

-- a word that is put at a place of the table
pub word_put : (shape : Shape) (words : List ℕ) (p : Place) (word : ℕ) → length words ≡ words_of shape → IsInside shape p → IsPut (memory_of shape words) (memory_of shape (with_word shape p word words)) p word
word_put shape words p word whole inside = record {
  here = memory_at shape (with_word shape p word words) p inside
      ∙ get_or-set_same words (index_of shape p) word 0 (let within = index_within shape p inside in omega (arith, whole, within));
  there = λ q differ. go q differ (is_inside shape q) refl;
}
  where
    go : (q : Place) → q ≢ p → (b : Bool) → is_inside shape q ≡ b → memory_of shape (with_word shape p word words) q ≡ memory_of shape words q
    go q differ true is =
        let within = tested_inside shape q is in
        memory_at shape (with_word shape p word words) q within
        ∙ get_or-set_other words (index_of shape p) (index_of shape q) word 0 (λ same. differ (same_place shape q p within inside same))
        ∙ sym (memory_at shape words q within)
    go q differ false is = memory_out shape (with_word shape p word words) q is ∙ sym (memory_out shape words q is)

-- THE HEADS ARE CLEARED

-- so many of the first heads have no node, and no other word is changed
pub record AreCleared (m m' : Memory) (level many : ℕ) : Type 0 where
  pub heads : (bucket : ℕ) → bucket < many → m' (place.Head level bucket) ≡ 0
  pub other : (p : Place) → ((bucket : ℕ) → bucket < many → p ≢ place.Head level bucket) → m' p ≡ m p

pub heads_sized : (shape : Shape) (level many : ℕ) (words : List ℕ) → length (with_heads shape level many words) ≡ length words
heads_sized shape level zero words = refl
heads_sized shape level (suc many) words = length-set (with_heads shape level many words) (index_of shape (place.Head level many)) 0 ∙ heads_sized shape level many words

pub heads_cleared : (shape : Shape) (level many : ℕ) (words : List ℕ) → length words ≡ words_of shape → shape.min_level ≤ level → level ≤ shape.max_level → many ≤ 2 ^ level
    → AreCleared (memory_of shape words) (memory_of shape (with_heads shape level many words)) level many
heads_cleared shape level zero words whole low high few = record { heads = λ bucket less. absurd (omega arith); other = λ p differs. refl }
heads_cleared shape level (suc many) words whole low high few =
    let before = heads_cleared shape level many words whole low high (omega (arith, few)) in
    let put : IsPut (memory_of shape (with_heads shape level many words)) (memory_of shape (with_heads shape level (suc many) words)) (place.Head level many) 0 =
    word_put shape (with_heads shape level many words) (place.Head level many) 0 (heads_sized shape level many words ∙ whole) (low, high, omega (arith, few)) in
    record {
      heads = λ bucket less. elim (cases_eq bucket many) [
        | inl same ↦ ap (λ b. memory_of shape (with_heads shape level (suc many) words) (place.Head level b)) same ∙ put.here
        | inr differ ↦
            put.there (place.Head level bucket) (λ e. differ (ap (λ q. bucket_number q) e)) ∙ before.heads bucket (omega (arith, less, differ))
      ];
      other = λ p differs. put.there p (differs many (omega arith)) ∙ before.other p (λ bucket less. differs bucket (omega (arith, less)));
    }
  where
    bucket_number : Place → ℕ
    bucket_number (place.Head row bucket) = bucket
    bucket_number _ = 0

-- A SLOT IS PUT BEFORE THE OTHERS OF ITS BUCKET

pub record IsFirstNow (m m' : Memory) (level slot hash bytes : ℕ) : Type 0 where
  pub meta : m' (place.Meta slot) ≡ meta_word (record { hash = hash; length = bytes })
  pub link : m' (place.Link slot) ≡ link_word (node_in (m (place.Head level (hash % 2 ^ level))))
  pub head : m' (place.Head level (hash % 2 ^ level)) ≡ headed_by slot
  pub other : (p : Place) → p ≢ place.Meta slot → p ≢ place.Link slot → p ≢ place.Head level (hash % 2 ^ level) → m' p ≡ m p

pub first_sized : (shape : Shape) (level slot hash : ℕ) (words : List ℕ) → length (with_first shape level slot hash words) ≡ length words
first_sized shape level slot hash words = simp length-set refl

pub first_put : (shape : Shape) (level slot hash : ℕ) (words : List ℕ) → length words ≡ words_of shape → shape.min_level ≤ level → level ≤ shape.max_level → slot < shape.slots
    → IsFirstNow (memory_of shape words) (memory_of shape (with_first shape level slot hash words)) level slot hash (length_at shape words slot)
first_put shape level slot hash words whole low high inside =
    let bucket : ℕ = hash % 2 ^ level in
    let within : IsInside shape (place.Head level bucket) = (low, high, mod-lt hash (pow_pos level)) in
    let link : ℕ = link_word (node_in (word_at shape (place.Head level bucket) words)) in
    let one : List ℕ = with_word shape (place.Meta slot) (meta_word (record { hash = hash; length = length_at shape words slot })) words in
    let two : List ℕ = with_word shape (place.Link slot) link one in
    let one_whole : length one ≡ words_of shape = length-set words (index_of shape (place.Meta slot)) (meta_word (record { hash = hash; length = length_at shape words slot })) ∙ whole in
    let two_whole : length two ≡ words_of shape = length-set one (index_of shape (place.Link slot)) link ∙ one_whole in
    let first = word_put shape words (place.Meta slot) (meta_word (record { hash = hash; length = length_at shape words slot })) whole inside in
    let second = word_put shape one (place.Link slot) link one_whole inside in
    let third = word_put shape two (place.Head level bucket) (headed_by slot) two_whole within in
    record {
      meta = third.there (place.Meta slot) (λ e. cc) ∙ second.there (place.Meta slot) (λ e. cc) ∙ first.here;
      link = third.there (place.Link slot) (λ e. cc) ∙ second.here ∙ ap (λ word. link_word (node_in word)) (sym (memory_at shape words (place.Head level bucket) within));
      head = third.here;
      other = λ p meta link head. third.there p head ∙ second.there p link ∙ first.there p meta;
    }

-- the slot is put before the others, or it is not counted
pub slot_sized : (shape : Shape) (level seed slot : ℕ) (words : List ℕ) → length (with_slot shape level seed slot words) ≡ length words
slot_sized shape level seed slot words = go (is_counted_in shape words slot)
  where
    go : (b : Bool) → length (cond b (with_first shape level slot (hash_of seed (text_at shape words slot)) words) words) ≡ length words
    go true = first_sized shape level slot (hash_of seed (text_at shape words slot)) words
    go false = refl

pub slots_sized : (shape : Shape) (level seed done : ℕ) (words : List ℕ) → length (with_slots shape level seed done words) ≡ length words
slots_sized shape level seed zero words = refl
slots_sized shape level seed (suc done) words = slot_sized shape level seed (shape.slots - suc done) (with_slots shape level seed done words) ∙ slots_sized shape level seed done words

-- NO LENGTH OF A TEXT CHANGES

same_length : (shape : Shape) (words words' : List ℕ) (slot : ℕ) → slot < shape.slots → memory_of shape words' (place.Meta slot) ≡ memory_of shape words (place.Meta slot)
    → length_at shape words' slot ≡ length_at shape words slot
same_length shape words words' slot inside same =
    ap length_in (sym (memory_at shape words' (place.Meta slot) inside) ∙ same ∙ memory_at shape words (place.Meta slot) inside)

heads_rooms : (shape : Shape) (level many : ℕ) (words : List ℕ) → length words ≡ words_of shape → shape.min_level ≤ level → level ≤ shape.max_level → many ≤ 2 ^ level
    → HaveRoom shape words → HaveRoom shape (with_heads shape level many words)
heads_rooms shape level many words whole low high few rooms slot inside =
    let cleared = heads_cleared shape level many words whole low high few in
    let same = same_length shape words (with_heads shape level many words) slot inside (cleared.other (place.Meta slot) (λ bucket less e. cc)) in
    let room = rooms slot inside in
    omega (arith, same, room)

first_rooms : (shape : Shape) (level at hash : ℕ) (words : List ℕ) → length words ≡ words_of shape → shape.min_level ≤ level → level ≤ shape.max_level → at < shape.slots
    → HaveRoom shape words → HaveRoom shape (with_first shape level at hash words)
first_rooms shape level at hash words whole low high within rooms slot inside =
    let put = first_put shape level at hash words whole low high within in
    let room = rooms slot inside in
    elim (cases_eq slot at) [
      | inl same ↦
          let here : word_at shape (place.Meta slot) (with_first shape level at hash words) ≡ meta_word (record { hash = hash; length = length_at shape words at }) =
          sym (memory_at shape (with_first shape level at hash words) (place.Meta slot) inside) ∙ ap (λ s. memory_of shape (with_first shape level at hash words) (place.Meta s)) same ∙ put.meta in
          let long : (hash * 65536 + length_at shape words at) % 65536 ≡ length_at shape words at = omega arith in
          let all : length_at shape (with_first shape level at hash words) slot ≡ length_at shape words slot =
          ap length_in here ∙ long ∙ ap (length_at shape words) (sym same) in
          omega (arith, all, room)
      | inr differ ↦
          let same = same_length shape words (with_first shape level at hash words) slot inside
          (put.other (place.Meta slot) (λ e. differ (ap slot_number e)) (λ e. cc) (λ e. cc)) in
          omega (arith, same, room)
    ]
  where
    slot_number : Place → ℕ
    slot_number (place.Meta s) = s
    slot_number _ = 0

slot_rooms : (shape : Shape) (level seed at : ℕ) (words : List ℕ) → length words ≡ words_of shape → shape.min_level ≤ level → level ≤ shape.max_level → at < shape.slots
    → HaveRoom shape words → HaveRoom shape (with_slot shape level seed at words)
slot_rooms shape level seed at words whole low high within rooms = go (is_counted_in shape words at)
  where
    go : (b : Bool) → HaveRoom shape (cond b (with_first shape level at (hash_of seed (text_at shape words at)) words) words)
    go true = first_rooms shape level at (hash_of seed (text_at shape words at)) words whole low high within rooms
    go false = rooms

slots_rooms : (shape : Shape) (level seed done : ℕ) (words : List ℕ) → length words ≡ words_of shape → shape.min_level ≤ level → level ≤ shape.max_level → done ≤ shape.slots
    → HaveRoom shape words → HaveRoom shape (with_slots shape level seed done words)
slots_rooms shape level seed zero words whole low high few rooms = rooms
slots_rooms shape level seed (suc done) words whole low high few rooms =
    slot_rooms shape level seed (shape.slots - suc done) (with_slots shape level seed done words) (slots_sized shape level seed done words ∙ whole) low high (omega (arith, few))
    (slots_rooms shape level seed done words whole low high (omega (arith, few)) rooms)

-- the lengths leave room while the chains are made anew
pub rooms_stay : (shape : Shape) (level seed done : ℕ) (words : List ℕ) → length words ≡ words_of shape → shape.min_level ≤ level → level ≤ shape.max_level → done ≤ shape.slots
    → HaveRoom shape words → HaveRoom shape (with_slots shape level seed done (with_heads shape level (2 ^ level) words))
rooms_stay shape level seed done words whole low high few rooms =
    slots_rooms shape level seed done (with_heads shape level (2 ^ level) words) (heads_sized shape level (2 ^ level) words ∙ whole) low high few
    (heads_rooms shape level (2 ^ level) words whole low high (omega arith) rooms)

-- one more slot
pub one_more_slot : (shape : Shape) (level seed done next slot : ℕ) (words words' : List ℕ) → next ≡ done + 1 → slot ≡ shape.slots - 1 - done
    → words' ≡ with_slot shape level seed slot (with_slots shape level seed done words) → words' ≡ with_slots shape level seed next words
one_more_slot shape level seed done next slot words words' is at made =
    let suc_is : suc done ≡ next = omega (arith, is) in
    let same : slot ≡ shape.slots - suc done = omega (arith, at) in
    made ∙ ap (λ s. with_slot shape level seed s (with_slots shape level seed done words)) same ∙ ap (λ d. with_slots shape level seed d words) suc_is
