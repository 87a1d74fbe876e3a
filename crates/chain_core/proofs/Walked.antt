-- What one more node of a walk leaves.
use Rattle.std.proofs.Common.{◌≡◌, ◌≢◌, ◌<◌, ℕ, List, [], ◌∷◌, ◌++◌, ⊎_elim, length, get_or, Option, Some, None, refl, sym, ap, subst, ◌∙◌, set, Bool, true, false, not, cond, ◌≤◌, ◌↔◌}
use native.Mathlib.Omega.{arith}
use Rattle.std.specs.List.{Contains, All, AllPairs, count_by}
use Rattle.std.proofs.lemmas.List.{get_or-set_same, get_or-set_other, length-set}
use Rattle.std.proofs.lemmas.List.Elements.{All-push, Contains-get_or, Contains-push, Contains-append_left, Contains-push_cases}
use Rattle.std.proofs.lemmas.List.Sums.{sum_by-set}
use Rattle.std.proofs.lemmas.List.Quantifiers.{all_pairs_push}
use Rattle.std.proofs.lemmas.Bool.{cases_eq}
use Rattle.std.proofs.lemmas.Option.{slice_get_read, get_or_from_slice_get}
use Rattle.chain_core.specs.Path.{Leads, IsPathIn, next_in}
use Rattle.chain_core.specs.Faults.{IsWay, IsFirstOutside, IsFirstMetAgain}
use Rattle.chain_core.proofs.Ways.{leads_on}

-- what a walk knows: the nodes so far, and which of them were seen
pub record Walk (links : List (Option ℕ)) (first : Option ℕ) (seen : List Bool) (nodes : List ℕ) (at : Option ℕ) : Type 0 where
  pub size : length seen ≡ length links
  pub leads : Leads (next_in links) first nodes at
  pub inside : All (λ node. node < length links) nodes
  pub once : AllPairs (λ earlier later. earlier ≢ later) nodes
  pub marked : (k : ℕ) → k < length links → (get_or seen k false ≡ true) ↔ Contains nodes k

-- one more node, which was not seen before
pub walk_on : (links : List (Option ℕ)) (first : Option ℕ) (seen : List Bool) (nodes : List ℕ) (node : ℕ) → Walk links first seen nodes (Some node) → node < length links →
    get_or seen node false ≡ false → Walk links first (set seen node true) (nodes ++ node ∷ []) (next_in links node)
walk_on links first seen nodes node walk below new =
    let within : node < length seen = omega (arith, below, walk.size) in
    let absent : Contains nodes node → ⊥ = (λ has. let is = (walk.marked node below).1 has in absurd (cc)) in
    record {
      size = length-set seen node true ∙ walk.size;
      leads = leads_on (next_in links) first (Some node) (next_in links node) nodes (node ∷ []) walk.leads (refl, refl);
      inside = All-push (λ n. n < length links) nodes node walk.inside below;
      once = all_pairs_push (λ earlier later. earlier ≢ later) nodes node walk.once (λ k d short same. absent (subst (Contains nodes) same (Contains-get_or nodes k d short)));
      marked = (λ k short. ⊎_elim
          (λ here. (
            (λ _. subst (Contains (nodes ++ node ∷ [])) (sym here) (Contains-push nodes node)),
            (λ _. ap (λ n. get_or (set seen node true) n false) here ∙ get_or-set_same seen node true false within),
          ))
          (λ there. (
            (λ is. Contains-append_left nodes (node ∷ []) k ((walk.marked k short).0 (sym (get_or-set_other seen node k true false there) ∙ is))),
            (λ has. get_or-set_other seen node k true false there ∙ (walk.marked k short).1 (⊎_elim (λ before. before) (λ same. absurd (there (sym same))) (Contains-push_cases nodes node k has))),
          ))
          (cases_eq k node));
    }

-- how many nodes are not seen falls
pub unseen_falls : (seen : List Bool) (node : ℕ) → node < length seen → get_or seen node false ≡ false → count_by not (set seen node true) < count_by not seen
unseen_falls seen node within new =
    let count : Bool → ℕ = (λ x. cond (not x) 1 0) in
    let one : count (get_or seen node false) ≡ 1 = ap count new in
    let sums = sum_by-set count seen node true false within in
    omega (arith, sums, one)

-- the way to the node at which a walk stands, and the path of a walk that is at its end
pub way_of : (links : List (Option ℕ)) (first : Option ℕ) (seen : List Bool) (nodes : List ℕ) (at : Option ℕ) (node : ℕ) → Walk links first seen nodes at → at ≡ Some node → IsWay (next_in links) (length links) first nodes node
way_of links first seen nodes at node walk is = record { leads = subst (Leads (next_in links) first nodes) is walk.leads; inside = walk.inside; once = walk.once }

pub path_of : (links : List (Option ℕ)) (first : Option ℕ) (seen : List Bool) (nodes : List ℕ) (at : Option ℕ) → Walk links first seen nodes at → at ≡ None → IsPathIn links first nodes
path_of links first seen nodes at walk is = record { path = subst (Leads (next_in links) first nodes) is walk.leads; inside = walk.inside }

-- a walk that stands at a node without a link, or at one that was seen
pub walk_outside : (links : List (Option ℕ)) (first : Option ℕ) (seen : List Bool) (nodes : List ℕ) (at : Option ℕ) (node : ℕ) → Walk links first seen nodes at → at ≡ Some node →
    length links ≤ node → IsFirstOutside (next_in links) (length links) first node
walk_outside links first seen nodes at node walk is past = (nodes, way_of links first seen nodes at node walk is, past)

pub walk_met : (links : List (Option ℕ)) (first : Option ℕ) (seen : List Bool) (nodes : List ℕ) (at : Option ℕ) (node : ℕ) → Walk links first seen nodes at → at ≡ Some node →
    node < length links → get_or seen node false ≡ true → IsFirstMetAgain (next_in links) (length links) first node
walk_met links first seen nodes at node walk is below marked = (nodes, way_of links first seen nodes at node walk is, (walk.marked node below).0 marked)

-- what was read of the marks
pub mark_read : (links : List (Option ℕ)) (first : Option ℕ) (seen : List Bool) (nodes : List ℕ) (at : Option ℕ) (node : ℕ) (read value : Bool) → Walk links first seen nodes at →
    node < length links → read ≡ get_or seen node read → read ≡ value → get_or seen node false ≡ value
mark_read links first seen nodes at node read value walk below is same =
    get_or_from_slice_get seen node read false (slice_get_read seen (length links) node read (sym walk.size) below is) ∙ same
