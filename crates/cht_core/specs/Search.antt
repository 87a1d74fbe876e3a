-- What a walker knows of the nodes before it and of those that it passed.
use Rattle.std.specs.Prelude.{◌≡◌, ◌≢◌, ℕ, ◌+◌, ◌<◌, ◌≤◌, ◌⊎◌, List, length, Option, Some, None}
use Rattle.chain_core.specs.Nodes.{On, Once}
use Rattle.chain_core.specs.Path.{IsPath}
use Rattle.text_words.specs.Hash.{hash_of}
use Rattle.text_words.specs.Words.{word_at}
use Rattle.intern_log.specs.declared.event.Entry.{Entry}
use Rattle.intern_log.specs.declared.event.Handle.{Handle}
use Rattle.intern_log.specs.Now.{Now, OpenSection, Linked, Unlinked}
use Rattle.intern_log.specs.TextMap.{entry_of}
use Rattle.cht_core.specs.Flow.{Flow}
use Rattle.cht_core.specs.Stage.{bucket_in, next_row, IsSent, IsNearIn, IsSpared}
use Rattle.cht_core.specs.Memory.{Memory, links}

abbrev pub IsLinked : Now → ℕ → Type 0
IsLinked n s = (text : List ℕ) × (h : Handle) × (born : ℕ) × (n.slot s ≡ Linked text h born)

-- the slot was unlinked since a place
abbrev pub IsUnlinkedSince : Now → ℕ → ℕ → Type 0
IsUnlinkedSince n since s = (seat : ℕ) × (at : ℕ) × (n.slot s ≡ Unlinked seat at) × (since < at)

-- a reader whose section was opened at the place may stand on it: it is linked, or was unlinked since
abbrev pub IsHeld : Now → ℕ → ℕ → Type 0
IsHeld n since s = IsLinked n s ⊎ IsUnlinkedSince n since s

-- a node of a text with one hash may stand on a walk for a text with another, in a section that was opened at the place
abbrev pub IsNear : Now → Flow → ℕ → ℕ → ℕ → Type 0
IsNear n f since sought hash = IsNearIn f.stage n.level n.since since sought hash

-- the node may be on a walk for a text with this hash, in a section that was opened at the place: one of the other side, only where it was not
-- moved past, or the counter was raised after that with the section open
pub record IsFit (n : Now) (f : Flow) (since hash s : ℕ) : Type 0 where
  pub held : IsHeld n since s
  pub near : (text : List ℕ) (h : Handle) (born : ℕ) → n.slot s ≡ Linked text h born → IsNear n f since hash (hash_of n.seed text)
  pub side : (text : List ℕ) (h : Handle) (born : ℕ) → n.slot s ≡ Linked text h born → bucket_in (n.level + 1) (hash_of n.seed text) ≢ bucket_in (n.level + 1) hash →
      IsSpared (f.parted s) since

-- a walker for a text with this hash, in a section that was opened at the place, was sent to the row
abbrev pub IsRouted : Now → Flow → ℕ → ℕ → ℕ → Type 0
IsRouted n f since hash row = (row ≡ n.level) ⊎ (((row ≡ next_row f.stage n.level) × IsSent f.stage n.level hash) ⊎ ((row ≡ f.before) × (since < n.since)))

-- and found its head redirected
abbrev pub IsSentOn : Now → Flow → ℕ → ℕ → ℕ → Type 0
IsSentOn n f since hash row = ((row ≡ n.level) × IsSent f.stage n.level hash) ⊎ ((row ≡ f.before) × (since < n.since))

-- no node; or one that was linked before the load, or was unlinked since
abbrev pub IsAnchor : Now → ℕ → ℕ → Option ℕ → Type 0
IsAnchor n since load None = Unit {0}
IsAnchor n since load (Some s) = ((text : List ℕ) × (h : Handle) × (born : ℕ) × (n.slot s ≡ Linked text h born) × (born < load)) ⊎ IsUnlinkedSince n since s

-- the text's entry in the slot was made at or after the load
abbrev pub IsLate : Now → List ℕ → ℕ → ℕ → Type 0
IsLate n text load s = (h : Handle) × (born : ℕ) × (n.slot s ≡ Linked text h born) × (load ≤ born)

-- the slot has no live entry of the text from before the load
abbrev pub IsNoMatch : Now → List ℕ → ℕ → ℕ → Type 0
IsNoMatch n text load s = (e : Entry) → entry_of n.texts text ≡ Some e → e.handle.slot ≡ s → IsLate n text load s

-- a walk of a seat for a text, in a row, that began as its head was loaded with this first node, and has these nodes before it
-- and those behind it
pub record Searched (n : Now) (f : Flow) (i : ℕ) (text : List ℕ) (hash row load : ℕ) (first : Option ℕ) (passed ahead : List ℕ) : Type 0 where
  pub hashed : hash ≡ hash_of n.seed text
  pub section : OpenSection
  pub inside : n.section i ≡ Some section
  pub early : load ≤ n.place
  pub based : f.base row (bucket_in row hash) ≤ load
  pub routed : IsRouted n f section.place hash row
  pub anchor : IsAnchor n section.place load first
  pub fit : (s : ℕ) → On s ahead → IsFit n f section.place hash s
  pub once : Once passed
  pub apart : (s : ℕ) → On s passed → On s ahead → ⊥
  pub been : (s : ℕ) → On s passed → IsFit n f section.place hash s
  -- the live entry was made since the load, or is ahead
  pub live : (e : Entry) → entry_of n.texts text ≡ Some e → IsLate n text load e.handle.slot ⊎ On e.handle.slot ahead

-- the same, where the walk goes on to a node, or is at its end
pub record Walking (m : Memory) (n : Now) (f : Flow) (i : ℕ) (text : List ℕ) (hash row load : ℕ) (first : Option ℕ) (passed : List ℕ) (node : Option ℕ) : Type 0 where
  pub ahead : List ℕ
  pub path : IsPath (links m) node ahead
  pub searched : Searched n f i text hash row load first passed ahead

-- the seat's section is open; or it is closed
abbrev pub IsInside : Now → ℕ → Type 0
IsInside n i = (o : OpenSection) × (n.section i ≡ Some o)

abbrev pub IsOutside : Now → ℕ → Type 0
IsOutside n i = n.section i ≡ None

-- what the slot is linked with has this property, or it was unlinked while the seat was inside
abbrev pub IsSeen : Now → ℕ → ℕ → (List ℕ → Handle → Type 0) → Type 0
IsSeen n i s P = (o : OpenSection) × (n.section i ≡ Some o)
    × (((text : List ℕ) × (h : Handle) × (born : ℕ) × (n.slot s ≡ Linked text h born) × P text h) ⊎ IsUnlinkedSince n o.place s)

-- the slot is seen with the text; and with a text of the same length that is equal in the words up to one
abbrev pub IsSeenWith : Now → ℕ → ℕ → List ℕ → Type 0
IsSeenWith n i s text = IsSeen n i s (λ other h. other ≡ text)

abbrev pub IsSeenLike : Now → ℕ → ℕ → List ℕ → ℕ → Type 0
IsSeenLike n i s text bound = IsSeen n i s (λ other h. (length other ≡ length text) × ((at : ℕ) → at < bound → word_at other at ≡ word_at text at))
