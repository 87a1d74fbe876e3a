-- Where a chain has no path to its end.
use Rattle.std.specs.Prelude.{◌≡◌, ◌≢◌, ◌<◌, ◌≤◌, ◌⊎◌, ℕ, Option, Some, List, All, AllPairs, Contains, Result, Ok, Err, length}
use Rattle.chain_core.specs.declared.chain.PathFault.{PathFault}
use Rattle.chain_core.specs.declared.chain.PathFault.TheVariants.{Outside, Loop, OutOfMemory}
use Rattle.chain_core.specs.Path.{Leads, next_in}

-- the way to a node: these nodes are met before it, each is below the bound, so it has a link, and none is met twice
pub record IsWay (next : ℕ → Option ℕ) (bound : ℕ) (first : Option ℕ) (seen : List ℕ) (node : ℕ) : Type 0 where
  pub leads : Leads next first seen (Some node)
  pub inside : All (λ met. met < bound) seen
  pub once : AllPairs (λ earlier later. earlier ≢ later) seen

-- the first fault on the way is a node without a link
abbrev pub IsFirstOutside : (ℕ → Option ℕ) → ℕ → Option ℕ → ℕ → Type 0
IsFirstOutside next bound first node = (seen : List ℕ) × IsWay next bound first seen node × (bound ≤ node)

-- the first fault on the way is a node that was met before
abbrev pub IsFirstMetAgain : (ℕ → Option ℕ) → ℕ → Option ℕ → ℕ → Type 0
IsFirstMetAgain next bound first node = (seen : List ℕ) × IsWay next bound first seen node × Contains seen node

-- the first fault of a chain, where the nodes below a bound are those that have a link
abbrev pub IsFaultWithin : (ℕ → Option ℕ) → ℕ → Option ℕ → PathFault → Type 0
IsFaultWithin next bound first (Outside node) = IsFirstOutside next bound first node
IsFaultWithin next bound first (Loop node) = IsFirstMetAgain next bound first node
IsFaultWithin next bound first OutOfMemory = ⊥

-- the first fault of a chain by a list of links
abbrev pub IsFaultOf : List (Option ℕ) → Option ℕ → PathFault → Type 0
IsFaultOf links first fault = IsFaultWithin (next_in links) (length links) first fault

-- the answer is this fault, or that there was no memory
abbrev pub IsRefused : {X : Type 0} → PathFault → Result X PathFault → Type 0
IsRefused fault (Ok answer) = ⊥
IsRefused fault (Err other) = (other ≡ fault) ⊎ (other ≡ OutOfMemory)
