-- Lists of nodes without one, and paths of other links.
use Rattle.std.proofs.Common.{◌≡◌, ◌≢◌, ℕ, ◌⊎◌, inl, inr, List, [], ◌∷◌, Option, Some, sym, ap, subst, ◌∙◌}
use Rattle.std.proofs.lemmas.Bool.{cases_eq}
use Rattle.chain_core.specs.Nodes.{On, Once}
use Rattle.chain_core.specs.Path.{IsPath, next_with, without}
use Rattle.chain_core.proofs.Members.{On-from_Contains, Contains-from_On, on_or_not, without-here, without-other}
use Rattle.chain_core.proofs.Ways.{path_begins, path_once}
use Rattle.chain_core.proofs.Stores.{contains_without, path_past, with_is}
use Rattle.cht_core.specs.Chains.{AreEarlier, AreRanked}
use Rattle.cht_core.proofs.CalmParts.{path_kept}

-- what is on a list without a node is on the list, and is another node
pub on_within : (node other : ℕ) (nodes : List ℕ) → On other (without node nodes) → On other nodes × (other ≢ node)
on_within node other nodes on =
    let rest = (contains_without node other nodes).0 (Contains-from_On (without node nodes) other on) in
    (On-from_Contains nodes other rest.0, rest.1)

-- another node of the list stays on it
pub on_without : (node other : ℕ) (nodes : List ℕ) → On other nodes → other ≢ node → On other (without node nodes)
on_without node other nodes on differ =
    On-from_Contains (without node nodes) other ((contains_without node other nodes).1 (Contains-from_On nodes other on, differ))

-- what holds of a list without its first node, or with it, holds of the list without a node
without_first : (P : List ℕ → Type 0) (node x : ℕ) (nodes : List ℕ) → (x ≡ node → P (without node nodes)) → (x ≢ node → P (x ∷ without node nodes)) → P (without node (x ∷ nodes))
without_first P node x nodes left stays = elim (cases_eq x node) [
  | inl same ↦ subst P (sym (ap (λ y. without node (y ∷ nodes)) same ∙ without-here node nodes)) (left same)
  | inr differ ↦ subst P (sym (without-other node x nodes differ)) (stays differ)
]

-- no node comes twice to a list by one being left out
pub once_without : (node : ℕ) (nodes : List ℕ) → Once nodes → Once (without node nodes)
once_without node [] once = tt
once_without node (x ∷ nodes) once = without_first Once node x nodes
    (λ same. once_without node nodes once.1)
    (λ differ. ((λ on. once.0 (on_within node x nodes on).0), once_without node nodes once.1))

earlier_without : (base : ℕ) (births : ℕ → ℕ) (at node : ℕ) (nodes : List ℕ) → AreEarlier base births at nodes → AreEarlier base births at (without node nodes)
earlier_without base births at node [] earlier = tt
earlier_without base births at node (x ∷ nodes) earlier = without_first (AreEarlier base births at) node x nodes
    (λ same. earlier_without base births at node nodes earlier.1)
    (λ differ. (earlier.0, earlier_without base births at node nodes earlier.1))

-- a list stays in the order of births where one node is left out
pub ranked_without : (base : ℕ) (births : ℕ → ℕ) (node : ℕ) (nodes : List ℕ) → AreRanked base births nodes → AreRanked base births (without node nodes)
ranked_without base births node [] ranked = tt
ranked_without base births node (x ∷ nodes) ranked = without_first (AreRanked base births) node x nodes
    (λ same. ranked_without base births node nodes ranked.1)
    (λ differ. (earlier_without base births (births x) node nodes ranked.0, ranked_without base births node nodes ranked.1))

-- the node after one of a path is on the path
pub next_on_path : (next : ℕ → Option ℕ) (from : Option ℕ) (nodes : List ℕ) (before node : ℕ) → IsPath next from nodes → next before ≡ Some node → On before nodes → On node nodes
next_on_path next from [] before node path leads on = on
next_on_path next from (x ∷ nodes) before node path leads on = inr (elim on [
  | inl here ↦ path_begins next node nodes (subst (λ (start : Option ℕ). IsPath next start nodes) (ap next here ∙ leads) path.1)
  | inr later ↦ next_on_path next (next x) nodes before node path.1 leads later
])

-- no node of a path leads to itself
pub no_loop : (next : ℕ → Option ℕ) (from : Option ℕ) (nodes : List ℕ) (node : ℕ) → IsPath next from nodes → On node nodes → next node ≡ Some node → ⊥
no_loop next from [] node path on leads = on
no_loop next from (x ∷ nodes) node path on leads = elim on [
  | inl here ↦ (path_once next from (x ∷ nodes) path).0
      (subst (λ y. On y nodes) (sym here) (path_begins next node nodes (subst (λ (start : Option ℕ). IsPath next start nodes) (ap next here ∙ leads) path.1)))
  | inr later ↦ no_loop next (next x) nodes node path.1 later leads
]

-- the nodes that a path meets once a link that led to a node leads past it
pub record WayPast (new : ℕ → Option ℕ) (node : ℕ) (from : Option ℕ) (nodes : List ℕ) : Type 0 where
  pub left : List ℕ
  pub path : IsPath new from left
  pub fresh : (s : ℕ) → On s left → On s nodes
  pub kept : (s : ℕ) → On s nodes → On s left ⊎ (s ≡ node)

module _ (next new : ℕ → Option ℕ) (before node : ℕ) (leads : next before ≡ Some node) (stored : new before ≡ next node) (others : (s : ℕ) → s ≢ before → new s ≡ next s)
    (from : Option ℕ) (nodes : List ℕ) (path : IsPath next from nodes) where
  -- a path that meets the node before it goes on without it
  pub path_without : On before nodes → IsPath new from (without node nodes)
  path_without on =
      let is : new ≡ next_with next before (next node) = with_is next new before (next node) stored others in
      subst (λ (links : ℕ → Option ℕ). IsPath links from (without node nodes)) (sym is) (path_past next before node leads from nodes path (Contains-from_On nodes before on))

  -- any path goes on, with or without it
  pub goes_past : WayPast new node from nodes
  goes_past = elim (on_or_not nodes before) [
    | inl on ↦ record {
      left = without node nodes;
      path = path_without on;
      fresh = λ s there. (on_within node s nodes there).0;
      kept = λ s there. elim (cases_eq s node) [ inl same ↦ inr same | inr differ ↦ inl (on_without node s nodes there differ) ];
    }
    | inr off ↦ record {
      left = nodes;
      path = path_kept next new from nodes (λ s on. others s (λ same. off (subst (λ y. On y nodes) same on))) path;
      fresh = λ s there. there;
      kept = λ s there. inl there;
    }
  ]
