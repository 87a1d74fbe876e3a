-- The words of a table show its log: four points, over places and words.
use Rattle.std.specs.Prelude.{◌≡◌, ℕ, ◌+◌, ◌*◌, ◌%◌, ◌^◌, ◌<◌, ◌↔◌, List, length, Some, None}
use Rattle.chain_core.specs.Nodes.{On, Once}
use Rattle.chain_core.specs.Path.{IsPath}
use Rattle.text_words.specs.Hash.{hash_of}
use Rattle.text_words.specs.Words.{words_of, word_at}
use Rattle.marked_word.specs.Head.{first_of}
use Rattle.table_shape.specs.declared.place.Place.TheVariants as place
use Rattle.intern_log.specs.declared.event.Entry.{Entry}
use Rattle.intern_log.specs.declared.event.Handle.{Handle}
use Rattle.intern_log.specs.Buckets.{bucket_of}
use Rattle.intern_log.specs.Now.{Now, OpenSection, Resizing, Vacant, Linked}
use Rattle.intern_log.specs.TextMap.{entry_of, IsLive}
use Rattle.cht_core.specs.declared.table.Table.{Table}
use Rattle.cht_core.specs.Memory.{Memory, links}
use Rattle.cht_core.specs.TableState.{IsSettled}

-- the counter is the first one plus twice the graces, the level word is the level, and the resize lock is 0 or its owner's number plus 1
pub record ShowsTable (t : Table) (m : Memory) (n : Now) : Type 0 where
  pub counter : m place.Counter ≡ t.first_counter + 2 * n.graces
  pub level : m place.Level ≡ n.level
  pub free : n.resizing ≡ None → m place.ResizeLock ≡ 0
  pub owned : (r : Resizing) → n.resizing ≡ Some r → m place.ResizeLock ≡ r.seat + 1

-- a claim word is 1 exactly where the slot is taken; a section word is odd exactly where the section is open, and then it is the counter
-- of its Open plus 1; a head of the level's row has its lock bit exactly where its bucket is locked
pub record ShowsMarks (m : Memory) (n : Now) : Type 0 where
  pub claims : (s : ℕ) → (m (place.Claim s) ≡ 1) ↔ ¬ (n.slot s ≡ Vacant)
  pub sections : (k : ℕ) → (m (place.Section k) % 2 ≡ 1) ↔ ((o : OpenSection) × (n.section k ≡ Some o))
  pub counters : (k : ℕ) (o : OpenSection) → n.section k ≡ Some o → m (place.Section k) ≡ o.counter + 1
  pub locks : (bucket : ℕ) → bucket < 2 ^ n.level → (m (place.Head n.level bucket) % 2 ≡ 1) ↔ ((k : ℕ) × (n.lock n.level bucket ≡ Some k))

-- the count word of a linked slot has its handle's generation and the map's count, or 0 where its entry is gone; its meta word has the
-- hash and the length of its text, and its text words are those of the text
pub record ShowsEntry (m : Memory) (n : Now) (s : ℕ) (text : List ℕ) (h : Handle) : Type 0 where
  pub live : (e : Entry) → entry_of n.texts text ≡ Some e → e.handle ≡ h → m (place.Count s) ≡ 65536 * h.generation + e.count
  pub gone : ¬ (IsLive n.texts h) → m (place.Count s) ≡ 65536 * h.generation
  pub meta : m (place.Meta s) ≡ 65536 * hash_of n.seed text + length text
  pub words : (at : ℕ) → at < words_of (length text) → m (place.Text s at) ≡ word_at text at

abbrev pub ShowsEntries : Memory → Now → Type 0
ShowsEntries m n = (s : ℕ) (text : List ℕ) (h : Handle) (born : ℕ) → n.slot s ≡ Linked text h born → ShowsEntry m n s text h

-- the slot is linked with a text of the bucket
abbrev pub IsOfBucket : Now → ℕ → ℕ → Type 0
IsOfBucket n bucket s = (text : List ℕ) × (h : Handle) × (born : ℕ) × (n.slot s ≡ Linked text h born) × (bucket_of n.seed n.level text ≡ bucket)

-- where no row is being replaced, the path from each head of the level's row is made of exactly the linked slots of its bucket, each once
abbrev pub ShowsChains : Memory → Now → Type 0
ShowsChains m n = IsSettled n → (bucket : ℕ) → bucket < 2 ^ n.level →
    (nodes : List ℕ) × IsPath (links m) (first_of (m (place.Head n.level bucket))) nodes × Once nodes × ((s : ℕ) → On s nodes ↔ IsOfBucket n bucket s)

-- all four
pub record ShowsLog (t : Table) (m : Memory) (n : Now) : Type 0 where
  pub table : ShowsTable t m n
  pub marks : ShowsMarks m n
  pub entries : ShowsEntries m n
  pub chains : ShowsChains m n
