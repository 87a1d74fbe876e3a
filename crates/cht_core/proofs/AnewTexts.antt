-- The text of a slot, from the words of a table.
use Rattle.std.proofs.Common.{◌≡◌, ℕ, ◌+◌, ◌-◌, ◌*◌, ◌<◌, ◌≤◌, List, All, length, get_or, take, drop, sym, ap, ◌∙◌, arith, w64}
use Rattle.std.proofs.lemmas.Grind.{same_number_lists}
use Rattle.std.proofs.lemmas.List.{get_or-drop, get_or-take, length-drop, length-take-le, take-take}
use Rattle.std.proofs.lemmas.List.FromFn.{get_or-map-range_with_len, length-map-range_with_len}
use Rattle.std.specs.Int.{to_le_bytes}
use Rattle.std.specs.List.{flat_map}
use Rattle.text_words.specs.Words.{packed_words, unpacked}
use Rattle.text_words.specs.Words.{words_of as words_for}
use Rattle.text_words.specs.Words.{word_at as text_word}
use Rattle.text_words.proofs.Packing.{take-whole_bytes}
use Rattle.text_words.proofs.RoundTrip.{unpacked-packed_words}
use Rattle.table_shape.specs.declared.place.Place.TheVariants as place
use Rattle.table_shape.specs.declared.shape.Shape.{Shape}
use Rattle.table_shape.specs.Place.{index_of}
use Rattle.table_shape.specs.Shape.{IsSound, words_of}
use Rattle.table_shape.proofs.Places.{index_within}
use Rattle.cht_core.specs.Anew.{length_at, text_at}
use Rattle.cht_core.specs.Memory.{memory_of}
use Rattle.cht_core.specs.Slots.{HasText, IsStorable}
use Rattle.cht_core.proofs.StateWords.{memory_at}

-- words that begin with those of a text give the text
text_of_words : (words text : List ℕ) → All (λ byte. byte < 256) text → words_for (length text) ≤ length words
    → ((at : ℕ) → at < words_for (length text) → get_or words at 0 ≡ text_word text at) → unpacked words (length text) ≡ text
text_of_words words text bytes enough same =
    let count : ℕ = words_for (length text) in
    let taken : length (take count words) ≡ count = length-take-le count words enough in
    let packed : length (packed_words text) ≡ count = length-map-range_with_len (text_word text) 0 count in
    let are : take count words ≡ packed_words text =
    same_number_lists (take count words) (packed_words text) (taken ∙ sym packed)
    (λ k within. let inside : k < count = omega (arith, within, taken) in
    get_or-take count words k 0 inside ∙ same k inside ∙ sym (get_or-map-range_with_len (text_word text) 0 count k k 0 inside (omega arith))) in
    sym (take-take (length text) (8 * count) (flat_map (to_le_bytes w64) words) (omega arith))
    ∙ ap (take (length text)) (take-whole_bytes words count enough ∙ ap (flat_map (to_le_bytes w64)) are)
    ∙ unpacked-packed_words text bytes

-- the last text word of a slot is one of the table
text_inside : (shape : Shape) (slot : ℕ) → IsSound shape → slot < shape.slots → index_of shape (place.Text slot 0) + shape.text_words ≤ words_of shape
text_inside shape slot sound inside =
    let some = sound.text.0 in
    let last = index_within shape (place.Text slot (shape.text_words - 1)) (inside, omega (arith, some)) in
    omega (arith, last, some)

-- the text of a slot whose words have it
pub text_read : (shape : Shape) (words : List ℕ) (slot : ℕ) (text : List ℕ) → IsSound shape → length words ≡ words_of shape → slot < shape.slots → IsStorable shape text
    → length_at shape words slot ≡ length text → HasText (memory_of shape words) slot text (words_for (length text)) → text_at shape words slot ≡ text
text_read shape words slot text sound whole inside storable long has =
    let from : ℕ = index_of shape (place.Text slot 0) in
    let rest : List ℕ = drop from words in
    let within = text_inside shape slot sound inside in
    let room = storable.0.1 in
    let left : length rest ≡ length words - from = length-drop from words in
    let taken : length (take shape.text_words rest) ≡ shape.text_words = length-take-le shape.text_words rest (omega (arith, left, whole, within)) in
    ap (unpacked (take shape.text_words rest)) long
    ∙ text_of_words (take shape.text_words rest) text storable.1 (omega (arith, taken, room))
    (λ at below. get_or-take shape.text_words rest at 0 (omega (arith, below, room)) ∙ get_or-drop from words at 0
    ∙ ap (λ k. get_or words k 0) (let same : from + at ≡ index_of shape (place.Text slot at) = omega arith in same)
    ∙ sym (memory_at shape words (place.Text slot at) (inside, omega (arith, below, room))) ∙ has at below below)
