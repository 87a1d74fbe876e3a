-- What the words of the slots show of the log.
use Rattle.std.specs.Prelude.{◌≡◌, ℕ, ◌+◌, ◌<◌, ◌≤◌, ◌⊎◌, true, if◌then◌else◌, List, All, Option, Some, None}
use Rattle.text_words.specs.Words.{words_of, word_at}
use Rattle.marked_word.specs.Meta.{meta_word}
use Rattle.table_shape.specs.declared.place.Place.TheVariants as place
use Rattle.table_shape.specs.declared.shape.Shape.{Shape}
use Rattle.intern_log.specs.declared.event.Entry.{Entry}
use Rattle.intern_log.specs.declared.event.Handle.{Handle}
use Rattle.intern_log.specs.Now.{Phase, Vacant, Linked, Unlinked}
use Rattle.intern_log.specs.TextMap.{entry_of, handle_eq}
use Rattle.atomic_step.specs.Count.{generation_of, holds_of, holds_word}
use Rattle.call_machine.specs.SoundCall.{HasRoom}
use Rattle.call_machine.specs.Sought.{meta_of}
use Rattle.cht_core.specs.declared.table.Table.{Table}
use Rattle.cht_core.specs.Memory.{Memory}
use Rattle.cht_core.specs.Past.{Past}
use Rattle.std.specs.Prelude.{length}

-- the claim word of a slot
abbrev pub claim_word : Phase → ℕ
claim_word Vacant = 0
claim_word _ = 1

-- how often a handle is counted, by the entry of its text: 0 where that is gone, or another's
abbrev pub count_in : Option Entry → Handle → ℕ
count_in None h = 0
count_in (Some e) h = if handle_eq e.handle h then e.count else 0

-- the handle is the one with which the slot is linked, or was last
abbrev pub IsLastOf : Handle → Phase → Type 0
IsLastOf h (Linked text k born) = k ≡ h
IsLastOf h (Unlinked seat at) = Unit {0}
IsLastOf h _ = ⊥

-- a handle that was created is of a generation that has passed, or the last one of its slot
abbrev pub IsPast : ℕ → Handle → Phase → Type 0
IsPast generation h phase = (h.generation < generation) ⊎ ((h.generation ≡ generation) × IsLastOf h phase)

-- the text is in the words of the slot up to a word
abbrev pub HasText : Memory → ℕ → List ℕ → ℕ → Type 0
HasText m s text bound = (at : ℕ) → at < bound → at < words_of (length text) → m (place.Text s at) ≡ word_at text at

-- the text is one of bytes
abbrev pub AreBytes : List ℕ → Type 0
AreBytes text = All (λ byte. byte < 256) text

-- a text that an entry may have: a slot has room for it, and its words tell it from every other one
abbrev pub IsStorable : Shape → List ℕ → Type 0
IsStorable shape text = HasRoom shape text × AreBytes text

pub record Slots (t : Table) (m : Memory) (p : Past) : Type 0 where
  -- a claim word is 1 exactly where the slot is taken
  pub claims : (s : ℕ) → m (place.Claim s) ≡ claim_word (p.now.slot s)
  -- the count word of a linked slot has its handle's generation and the map's count, or 0 where its entry is gone
  pub counts : (s : ℕ) (text : List ℕ) (h : Handle) (born : ℕ) → p.now.slot s ≡ Linked text h born → m (place.Count s) ≡ holds_word h (count_in (entry_of p.now.texts text) h)
  pub gone : (s seat at : ℕ) → p.now.slot s ≡ Unlinked seat at → holds_of (m (place.Count s)) ≡ 0
  -- its meta word and its text words are those of its text, which is one of bytes and has room
  pub metas : (s : ℕ) (text : List ℕ) (h : Handle) (born : ℕ) → p.now.slot s ≡ Linked text h born → m (place.Meta s) ≡ meta_word (meta_of p.now.seed text)
  pub texts : (s : ℕ) (text : List ℕ) (h : Handle) (born : ℕ) → p.now.slot s ≡ Linked text h born → HasText m s text (words_of (length text))
  pub rooms : (s : ℕ) (text : List ℕ) (h : Handle) (born : ℕ) → p.now.slot s ≡ Linked text h born → IsStorable t.shape text
  -- generations only rise, and no faster than entries are made
  pub made : (h : Handle) → p.made h ≡ true → IsPast (generation_of (m (place.Count h.slot))) h (p.now.slot h.slot)
  pub uses : (s : ℕ) → generation_of (m (place.Count s)) ≤ p.uses s
  pub used : (s : ℕ) (text : List ℕ) (h : Handle) (born : ℕ) → p.now.slot s ≡ Linked text h born → h.generation + 1 ≤ p.uses s
