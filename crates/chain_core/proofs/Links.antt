-- The laws of paths by a list of links, from those of functions.
use Rattle.std.proofs.Common.{◌≡◌, ◌<◌, ℕ, List, ◌++◌, length, Option, Some, None, sym, subst, set, not}
use Rattle.std.specs.List.{Contains, All, slice_get}
use Rattle.std.specs.Prelude.{nat_eq}
use Rattle.std.proofs.lemmas.List.{get_or-set_same, get_or-set_other, length-set}
use Rattle.std.proofs.lemmas.List.Elements.{All-filter, All-append}
use Rattle.std.proofs.lemmas.Option.{slice_get_within, get_or_from_slice_get}
use Rattle.chain_core.specs.Path.{IsPath, IsPathIn, next_in, next_with, without}
use Rattle.chain_core.proofs.Ways.{path_one}
use Rattle.chain_core.proofs.Stores.{with_is, way_elsewhere, path_past, path_joined}

-- a store in a list of links is one in the function that they give
pub next_in-set : (links : List (Option ℕ)) (node : ℕ) (to : Option ℕ) → node < length links → next_in (set links node to) ≡ next_with (next_in links) node to
next_in-set links node to within = with_is (next_in links) (next_in (set links node to)) node to (get_or-set_same links node to None within) (λ other apart. get_or-set_other links node other to None apart)

-- a path by a list of links in which one was stored, by the path of the function and the bound of its nodes
stored_path : (links : List (Option ℕ)) (at : ℕ) (to : Option ℕ) → at < length links → (first : Option ℕ) (nodes : List ℕ) → IsPath (next_with (next_in links) at to) first nodes → All (λ node. node < length links) nodes →
    IsPathIn (set links at to) first nodes
stored_path links at to within first nodes path inside = record {
  path = subst (λ next. IsPath next first nodes) (sym (next_in-set links at to within)) path;
  inside = subst (λ n. All (λ node. node < n) nodes) (sym (length-set links at to)) inside;
}

-- a path that does not pass the node whose link is stored
pub path_elsewhere : (links : List (Option ℕ)) (at : ℕ) (to link : Option ℕ) → slice_get links at ≡ Some link → (first : Option ℕ) (nodes : List ℕ) → IsPathIn links first nodes → (Contains nodes at → ⊥) → IsPathIn (set links at to) first nodes
path_elsewhere links at to link is first nodes path absent =
    stored_path links at to (slice_get_within links at link is) first nodes (way_elsewhere (next_in links) at to first None nodes path.path absent) path.inside

pub path_unlinked : (links : List (Option ℕ)) (before node : ℕ) → slice_get links before ≡ Some (Some node) → (first : Option ℕ) (nodes : List ℕ) →
    IsPathIn links first nodes → Contains nodes before → IsPathIn (set links before (next_in links node)) first (without node nodes)
path_unlinked links before node follows first nodes is has =
    stored_path links before (next_in links node) (slice_get_within links before (Some node) follows) first (without node nodes)
    (path_past (next_in links) before node (get_or_from_slice_get links before (Some node) None follows) first nodes is.path has)
    (All-filter (λ met. not (nat_eq met node)) (λ n. n < length links) nodes is.inside)

pub path_append : (links : List (Option ℕ)) (last : ℕ) (other : Option ℕ) → slice_get links last ≡ Some None → (first : Option ℕ) (nodes rest : List ℕ) →
    IsPathIn links first nodes → Contains nodes last → IsPathIn links other rest → (Contains rest last → ⊥) → IsPathIn (set links last other) first (nodes ++ rest)
path_append links last other ends first nodes rest is has after absent =
    stored_path links last other (slice_get_within links last None ends) first (nodes ++ rest)
    (path_joined (next_in links) last other (get_or_from_slice_get links last None None ends) first nodes rest is.path has after.path absent)
    (All-append (λ n. n < length links) nodes rest is.inside after.inside)

pub path_in_one : (links : List (Option ℕ)) (first : Option ℕ) (xs ys : List ℕ) → IsPathIn links first xs → IsPathIn links first ys → ys ≡ xs
path_in_one links first xs ys one other = path_one (next_in links) first xs ys one.path other.path
