-- The chains against the log: which slots are on which chain, and in which order.
use Rattle.std.specs.Prelude.{◌≡◌, ℕ, ◌+◌, ◌<◌, ◌≤◌, ◌⊎◌, List, [], ◌∷◌}
use Rattle.chain_core.specs.Nodes.{On, Once}
use Rattle.text_words.specs.Hash.{hash_of}
use Rattle.intern_log.specs.declared.event.Handle.{Handle}
use Rattle.intern_log.specs.Now.{Now, Phase, Linked}
use Rattle.cht_core.specs.Flow.{Flow, IsUsed, ComesTo, IsHome}
use Rattle.cht_core.specs.Stage.{Whole, bucket_in, IsJoined, IsUnzipped, IsWithin}

-- the place at which the entry of a slot was made
abbrev pub birth : Phase → ℕ
birth (Linked text h born) = born
birth _ = 0

abbrev pub born : (ℕ → Phase) → ℕ → ℕ
born slot s = birth (slot s)

-- later nodes were made no later, or before a base
abbrev pub AreEarlier : ℕ → (ℕ → ℕ) → ℕ → List ℕ → Type 0
AreEarlier base births at [] = Unit {0}
AreEarlier base births at (s ∷ nodes) = ((births s ≤ at) ⊎ (births s < base)) × AreEarlier base births at nodes

abbrev pub AreRanked : ℕ → (ℕ → ℕ) → List ℕ → Type 0
AreRanked base births [] = Unit {0}
AreRanked base births (s ∷ nodes) = AreEarlier base births (births s) nodes × AreRanked base births nodes

pub record Chains (n : Now) (f : Flow) : Type 0 where
  -- the nodes of a chain are linked, and it is the chain of their bucket
  pub on_linked : (row bucket s : ℕ) → IsUsed n f row bucket → On s (f.chain row bucket) →
      (text : List ℕ) × (h : Handle) × (at : ℕ) × (n.slot s ≡ Linked text h at) × IsHome n f row bucket (hash_of n.seed text)
  -- a linked slot is on the chain to which callers of its text come
  pub linked_on : (s : ℕ) (text : List ℕ) (h : Handle) (at row : ℕ) → n.slot s ≡ Linked text h at → ComesTo n f (hash_of n.seed text) row →
      On s (f.chain row (bucket_in row (hash_of n.seed text)))
  pub once : (row bucket : ℕ) → IsUsed n f row bucket → Once (f.chain row bucket)
  -- the newest come first, except for those that were there before callers came, and behind a chain that leads on to another
  pub ranked : (row bucket : ℕ) → IsUsed n f row bucket → IsJoined f.stage row bucket ⊎ AreRanked (f.base row bucket) (born n.slot) (f.chain row bucket)
  pub bases : (row bucket : ℕ) → f.base row bucket ≤ n.place
  -- a slot that was moved past is linked with a text of the bucket that is unzipped, and is on the chain of its own side alone
  pub sides : (row bucket s : ℕ) (text : List ℕ) (h : Handle) (at : ℕ) → IsUsed n f row bucket → On s (f.chain row bucket) → n.slot s ≡ Linked text h at →
      (f.parted s ≡ Whole) ⊎ ((row ≡ n.level + 1) × (bucket_in row (hash_of n.seed text) ≡ bucket))
  pub loose : (s : ℕ) → (f.parted s ≡ Whole) ⊎ ((text : List ℕ) × (h : Handle) × (at : ℕ) × (n.slot s ≡ Linked text h at) × IsUnzipped f.stage n.level (hash_of n.seed text))
  pub within : IsWithin f.stage n.level
