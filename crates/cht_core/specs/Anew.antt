-- The words of a table while its chains are made anew: the heads are cleared, and then each counted slot is put before the others of its bucket, from the last slot down.
use Rattle.std.specs.Prelude.{ℕ, zero, suc, ◌-◌, ◌*◌, ◌%◌, ◌^◌, ◌<◌, ◌≤◌, ◌==◌, ◌&&◌, Bool, true, false, nat_lt, nat_eq, if◌then◌else◌, List, take, drop, fold, set, Option, Some, option_and_then}
use Rattle.text_words.specs.Hash.{hash_of}
use Rattle.text_words.specs.Words.{unpacked}
use Rattle.marked_word.specs.declared.head.Head.{Head}
use Rattle.marked_word.specs.Head.{head_word, head_of}
use Rattle.marked_word.specs.Link.{link_word}
use Rattle.marked_word.specs.Meta.{meta_word, length_in}
use Rattle.table_shape.specs.declared.shape.Shape.{Shape}
use Rattle.table_shape.specs.declared.place.Place.{Place}
use Rattle.table_shape.specs.declared.place.Place.TheVariants as place
use Rattle.table_shape.specs.Place.{index_of}
use Rattle.intern_log.specs.declared.event.Event.{Event}
use Rattle.intern_log.specs.declared.event.What.{What}
use Rattle.intern_log.specs.declared.event.What.TheVariants as what
use Rattle.atomic_step.specs.Count.{holds_of}
use Rattle.atomic_step.specs.Table.{word_at}

-- WHICH SLOTS ARE LINKED

-- whether a slot is linked after one more event
abbrev pub linked_after : ℕ → Bool → What → Bool
linked_after slot linked (what.Create text h) = if nat_eq slot h.slot then true else linked
linked_after slot linked (what.Claim s) = if nat_eq slot s then false else linked
linked_after slot linked (what.Free s) = if nat_eq slot s then false else linked
linked_after slot linked (what.Unlink s) = if nat_eq slot s then false else linked
linked_after slot linked _ = linked

-- whether a slot is linked at the end of a log
abbrev pub is_linked_in : List Event → ℕ → Bool
is_linked_in log slot = fold (λ linked (e : Event). linked_after slot linked e.what) false log

-- whether a slot is taken and its count is above 0; and whether it is taken, its count is 0 and the log has it linked
abbrev pub is_counted_in : Shape → List ℕ → ℕ → Bool
is_counted_in shape words slot = (word_at shape (place.Claim slot) words == 1) && nat_lt 0 (holds_of (word_at shape (place.Count slot) words))

abbrev pub is_dead_in : Shape → List ℕ → List Event → ℕ → Bool
is_dead_in shape words log slot = (word_at shape (place.Claim slot) words == 1) && (holds_of (word_at shape (place.Count slot) words) == 0) && is_linked_in log slot

-- THE WORDS

-- the words with another one at a place
abbrev pub with_word : Shape → Place → ℕ → List ℕ → List ℕ
with_word shape p word words = set words (index_of shape p) word

-- the length of a slot's text by its meta word, and the text
abbrev pub length_at : Shape → List ℕ → ℕ → ℕ
length_at shape words slot = length_in (word_at shape (place.Meta slot) words)

abbrev pub text_at : Shape → List ℕ → ℕ → List ℕ
text_at shape words slot = unpacked (take shape.text_words (drop (index_of shape (place.Text slot 0)) words)) (length_at shape words slot)

-- each slot has room for a text of the length that its meta word has
abbrev pub HaveRoom : Shape → List ℕ → Type 0
HaveRoom shape words = (slot : ℕ) → slot < shape.slots → length_at shape words slot ≤ 8 * shape.text_words

-- the first node of a head
abbrev pub node_in : ℕ → Option ℕ
node_in word = option_and_then (λ (head : Head). head.node) (head_of word)

-- the head of a bucket whose first node is the slot, and which is not locked
abbrev pub headed_by : ℕ → ℕ
headed_by slot = head_word (record { node = Some slot; lock = false; redirect = false })

-- a slot is put before the others of the bucket of its hash
abbrev pub with_first : Shape → ℕ → ℕ → ℕ → List ℕ → List ℕ
with_first shape level slot hash words =
    with_word shape (place.Head level (hash % 2 ^ level)) (headed_by slot)
    (with_word shape (place.Link slot) (link_word (node_in (word_at shape (place.Head level (hash % 2 ^ level)) words)))
    (with_word shape (place.Meta slot) (meta_word (record { hash = hash; length = length_at shape words slot })) words))

-- a slot that is counted, by the hash of its text by a seed
abbrev pub with_slot : Shape → ℕ → ℕ → ℕ → List ℕ → List ℕ
with_slot shape level seed slot words = if is_counted_in shape words slot then with_first shape level slot (hash_of seed (text_at shape words slot)) words else words

-- so many of the last slots, one after the other
abbrev pub with_slots : Shape → ℕ → ℕ → ℕ → List ℕ → List ℕ
with_slots shape level seed zero words = words
with_slots shape level seed (suc done) words = with_slot shape level seed (shape.slots - suc done) (with_slots shape level seed done words)

-- so many of the first heads of a row have no node
abbrev pub with_heads : Shape → ℕ → ℕ → List ℕ → List ℕ
with_heads shape level zero words = words
with_heads shape level (suc bucket) words = with_word shape (place.Head level bucket) 0 (with_heads shape level bucket words)

-- all heads of the row, and all slots
abbrev pub made_anew : Shape → ℕ → ℕ → List ℕ → List ℕ
made_anew shape level seed words = with_slots shape level seed shape.slots (with_heads shape level (2 ^ level) words)
