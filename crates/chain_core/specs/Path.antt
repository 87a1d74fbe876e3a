-- Which nodes a chain meets. A chain is a function that gives the next node of each node, if there is one; the words of a
-- table give such a function as well as a slice of links does.
use Rattle.std.specs.Prelude.{◌≡◌, ◌<◌, ℕ, Option, Some, None, List, [], ◌∷◌, All, filter, length, slice_index_or, nat_eq, not, if◌then◌else◌}

-- from here on the chain meets these nodes, each the next of the one before, and then comes to `to`
abbrev pub Leads : (ℕ → Option ℕ) → Option ℕ → List ℕ → Option ℕ → Type 0
Leads next from [] to = from ≡ to
Leads next from (node ∷ nodes) to = (from ≡ Some node) × Leads next (next node) nodes to

-- the path from `first`: the nodes that the chain meets until there is no next one
abbrev pub IsPath : (ℕ → Option ℕ) → Option ℕ → List ℕ → Type 0
IsPath next first nodes = Leads next first nodes None

-- the same path, where the nodes below a bound are those that have a link, and each node of the path is one of them
pub record IsPathWithin (next : ℕ → Option ℕ) (bound : ℕ) (first : Option ℕ) (nodes : List ℕ) : Type 0 where
  pub path : IsPath next first nodes
  pub inside : All (λ node. node < bound) nodes

-- the next node by a list of links; a node without a link has none
abbrev pub next_in : List (Option ℕ) → ℕ → Option ℕ
next_in links node = slice_index_or links node None

-- the path from `first` by a list of links, in which each node of the path has one
abbrev pub IsPathIn : List (Option ℕ) → Option ℕ → List ℕ → Type 0
IsPathIn links first nodes = IsPathWithin (next_in links) (length links) first nodes

-- the function that gives another value at one node: a chain after one link was stored
abbrev pub next_with : (ℕ → Option ℕ) → ℕ → Option ℕ → ℕ → Option ℕ
next_with next node to other = if nat_eq other node then to else next other

-- these nodes, except for one
abbrev pub without : ℕ → List ℕ → List ℕ
without node nodes = filter (λ met. not (nat_eq met node)) nodes
