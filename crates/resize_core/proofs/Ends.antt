-- The last link of a way, and where a way goes in the middle.
use Rattle.std.proofs.Common.{◌≡◌, ℕ, List, [], ◌∷◌, ◌++◌, ◌⊎◌, ⊎_elim, inl, inr, Option, Some, None, refl, ap}
use Rattle.chain_core.specs.Path.{Leads, IsPath}
use Rattle.chain_core.specs.Nodes.{On}
use Rattle.resize_core.specs.declared.moves.Place.{Place}
use Rattle.resize_core.specs.declared.moves.Place.TheVariants.{Link}
use Rattle.resize_core.specs.Moves.{end_of}

-- the end of a way with one more node
pub end_of-push : (head : Place) (nodes : List ℕ) (node : ℕ) → end_of head (nodes ++ node ∷ []) ≡ Link node
end_of-push head [] node = refl
end_of-push head (x ∷ nodes) node = end_of-push (Link x) nodes node

-- either there is no node, or there is a last one
pub end_cases : (head : Place) (nodes : List ℕ) → ((nodes ≡ []) × (end_of head nodes ≡ head)) ⊎ ((front : List ℕ) × (last : ℕ) × (nodes ≡ front ++ last ∷ []) × (end_of head nodes ≡ Link last))
end_cases head [] = inl (refl, refl)
end_cases head (x ∷ nodes) = inr (⊎_elim
    (λ none. ([], x, ap (λ l. x ∷ l) none.0, none.1))
    (λ some. (x ∷ some.0, some.1, ap (λ l. x ∷ l) some.2, some.3))
    (end_cases (Link x) nodes))

pub on_last : (front : List ℕ) (last : ℕ) → On last (front ++ last ∷ [])
on_last [] last = inl refl
on_last (x ∷ front) last = inr (on_last front last)

-- a way ends where the last of its nodes leads
pub leads_last : (next : ℕ → Option ℕ) (from to : Option ℕ) (front : List ℕ) (last : ℕ) → Leads next from (front ++ last ∷ []) to → next last ≡ to
leads_last next from to [] last way = way.1
leads_last next from to (x ∷ front) last way = leads_last next (next x) to front last way.1

-- the two parts of a way that meets a node
pub leads_to_node : (next : ℕ → Option ℕ) (from to : Option ℕ) (xs ys : List ℕ) (node : ℕ) → Leads next from (xs ++ node ∷ ys) to → Leads next from xs (Some node) × Leads next (next node) ys to
leads_to_node next from to [] ys node way = way
leads_to_node next from to (x ∷ xs) ys node way = let rest = leads_to_node next (next x) to xs ys node way.1 in ((way.0, rest.0), rest.1)

-- the first of these nodes
abbrev pub first_of : List ℕ → Option ℕ
first_of [] = None
first_of (node ∷ nodes) = Some node

-- a path begins at the first of its nodes
pub begins : (next : ℕ → Option ℕ) (from : Option ℕ) (nodes : List ℕ) → IsPath next from nodes → from ≡ first_of nodes
begins next from [] path = path
begins next from (node ∷ nodes) path = path.0
