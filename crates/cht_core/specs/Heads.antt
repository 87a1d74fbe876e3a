-- What the heads, the links, the levels, the sections, the counter and the resize lock show of the log.
use Rattle.std.specs.Prelude.{◌≡◌, ℕ, ◌+◌, ◌*◌, ◌<◌, ◌⊎◌, Option, Some, false, is_some}
use Rattle.std.specs.Option.{option_map}
use Rattle.chain_core.specs.Path.{IsPath}
use Rattle.marked_word.specs.Head.{head_word}
use Rattle.marked_word.specs.Number.{section_word, owner_word, new_level_word}
use Rattle.table_shape.specs.declared.place.Place.TheVariants as place
use Rattle.intern_log.specs.Now.{Now, OpenSection, owner_of}
use Rattle.cht_core.specs.declared.table.Table.{Table}
use Rattle.atomic_step.specs.Step.{redirected_head}
use Rattle.cht_core.specs.Flow.{Flow, IsUsed}
use Rattle.cht_core.specs.Stage.{IsGone, IsBehind, IsPinned, named_level}
use Rattle.cht_core.specs.Memory.{Memory, links}

-- the word of a head with this first node, which is locked or not
abbrev pub used_head : Option ℕ → Option ℕ → ℕ
used_head first lock = head_word (record { node = first; lock = is_some lock; redirect = false })

pub record Heads (m : Memory) (n : Now) (f : Flow) : Type 0 where
  pub level : m place.Level ≡ n.level
  pub new_level : m place.NewLevel ≡ new_level_word (named_level f.stage n.level)
  pub owner : m place.ResizeLock ≡ owner_word (owner_of n.resizing)
  -- a head to which callers come is locked exactly where its bucket is, and its path is its chain
  pub paths : (row bucket : ℕ) → IsUsed n f row bucket →
      (first : Option ℕ) × (m (place.Head row bucket) ≡ used_head first (n.lock row bucket)) × IsPath (links m) first (f.chain row bucket)
  -- a head of the row that is left is redirected
  pub behind : (row bucket : ℕ) → IsBehind f.stage n.level f.before row bucket → (first : Option ℕ) × (m (place.Head row bucket) ≡ redirected_head first)
  -- who has locked a head to which no callers come has the resize lock; it has locked those that are redirected, and those whose nodes are on two chains
  pub held : (row bucket k : ℕ) → n.lock row bucket ≡ Some k → IsUsed n f row bucket ⊎ (owner_of n.resizing ≡ Some k)
  pub gone : (bucket : ℕ) → IsGone f.stage bucket → (k : ℕ) × (owner_of n.resizing ≡ Some k) × (n.lock n.level bucket ≡ Some k)
  pub pinned : (row bucket : ℕ) → IsPinned f.stage n.level row bucket → (k : ℕ) × (owner_of n.resizing ≡ Some k) × (n.lock row bucket ≡ Some k)

pub record Sections (t : Table) (m : Memory) (n : Now) : Type 0 where
  pub counter : m place.Counter ≡ t.first_counter + 2 * n.graces
  -- a section word is 0 where the section is closed, and else the counter of its Open plus 1
  pub words : (k : ℕ) → m (place.Section k) ≡ section_word (option_map (λ (o : OpenSection). o.counter) (n.section k))
  pub seats : (k : ℕ) (o : OpenSection) → n.section k ≡ Some o → k < t.shape.seats
