-- What one store leaves of the ways of a chain, given by a function.
use Rattle.std.proofs.Common.{◌≡◌, ℕ, List, [], ◌∷◌, ◌++◌, ⊎_elim, Option, Some, None, refl, sym, ap, subst, ◌∙◌, cond, ◌↔◌, inl, inr}
use Rattle.std.specs.List.{Contains, AllPairs}
use Rattle.std.specs.Prelude.{◌≢◌}
use Rattle.std.proofs.lemmas.Bool.{cases_eq, eq-eqb, ne_eqb}
use Rattle.chain_core.specs.Path.{Leads, IsPath, next_with, without}
use Rattle.chain_core.specs.Nodes.{On}
use Rattle.chain_core.proofs.Members.{On-from_Contains, Contains-from_On, Once-from_AllPairs, without-here, without-other, without-absent}
use Rattle.chain_core.proofs.Ways.{leads_stays, way_without, path_once, path_appended}

pub with_here : (next : ℕ → Option ℕ) (node : ℕ) (to : Option ℕ) → next_with next node to node ≡ to
with_here next node to = ap (λ same. cond same to (next node)) (eq-eqb node node refl)

pub with_other : (next : ℕ → Option ℕ) (node : ℕ) (to : Option ℕ) (other : ℕ) → (other ≡ node → ⊥) → next_with next node to other ≡ next other
with_other next node to other apart = ap (λ same. cond same to (next other)) (ne_eqb other node apart)

-- a function that has the value there, and elsewhere what it had
pub with_is : (next new : ℕ → Option ℕ) (node : ℕ) (to : Option ℕ) → new node ≡ to → ((other : ℕ) → (other ≡ node → ⊥) → new other ≡ next other) → new ≡ next_with next node to
with_is next new node to here others = λ i n. at n i
  where
    at : (n : ℕ) → new n ≡ next_with next node to n
    at n = ⊎_elim
        (λ same. ap new same ∙ here ∙ sym (with_here next node to) ∙ ap (next_with next node to) (sym same))
        (λ apart. others n apart ∙ sym (with_other next node to n apart))
        (cases_eq n node)

-- a way that does not pass the node whose link is stored
pub way_elsewhere : (next : ℕ → Option ℕ) (at : ℕ) (stored : Option ℕ) (first to : Option ℕ) (nodes : List ℕ) → Leads next first nodes to → (Contains nodes at → ⊥) → Leads (next_with next at stored) first nodes to
way_elsewhere next at stored first to nodes way absent =
    leads_stays next (next_with next at stored) at (with_other next at stored) first to nodes (λ on. absent (Contains-from_On nodes at on)) way

-- the link of `before` is led past the node after it
pub way_past : (next : ℕ → Option ℕ) (before node : ℕ) → next before ≡ Some node → (first to : Option ℕ) (nodes : List ℕ) → Leads next first nodes to → AllPairs (λ earlier later. earlier ≢ later) nodes →
    (to ≡ Some node → ⊥) → Contains nodes before → Leads (next_with next before (next node)) first (without node nodes) to
way_past next before node follows first to nodes way once ends has =
    way_without next (next_with next before (next node)) before node follows (with_here next before (next node)) (with_other next before (next node)) first to nodes ends way (Once-from_AllPairs nodes once) (On-from_Contains nodes before has)

pub path_past : (next : ℕ → Option ℕ) (before node : ℕ) → next before ≡ Some node → (first : Option ℕ) (nodes : List ℕ) → IsPath next first nodes → Contains nodes before →
    IsPath (next_with next before (next node)) first (without node nodes)
path_past next before node follows first nodes path has =
    way_without next (next_with next before (next node)) before node follows (with_here next before (next node)) (with_other next before (next node)) first None nodes (λ ends. absurd (cc)) path (path_once next first nodes path) (On-from_Contains nodes before has)

-- a head is led past its first node
pub head_past : (next : ℕ → Option ℕ) (node : ℕ) (nodes : List ℕ) → IsPath next (Some node) nodes → IsPath next (next node) (without node nodes)
head_past next node [] path = absurd (cc)
head_past next node (x ∷ nodes) path =
    let same : x ≡ node = same_first path.0 in
    let once = path_once next (Some node) (x ∷ nodes) path in
    let left : without node (x ∷ nodes) ≡ nodes = ap (λ n. without node (n ∷ nodes)) same ∙ without-here node nodes ∙ without-absent node nodes (subst (λ n. On n nodes → ⊥) same once.0) in
    subst (λ l. IsPath next (next node) l) (sym left) (subst (λ n. IsPath next (next n) nodes) same path.1)
  where
    same_first : Some node ≡ Some x → x ≡ node
    same_first is = cc

-- the link of a node that has no next one is led to another chain
pub path_joined : (next : ℕ → Option ℕ) (last : ℕ) (other : Option ℕ) → next last ≡ None → (first : Option ℕ) (nodes rest : List ℕ) → IsPath next first nodes → Contains nodes last →
    IsPath next other rest → (Contains rest last → ⊥) → IsPath (next_with next last other) first (nodes ++ rest)
path_joined next last other ends first nodes rest path has after absent =
    path_appended next (next_with next last other) last other ends (with_here next last other) (with_other next last other) first nodes rest path (On-from_Contains nodes last has) after (λ on. absent (Contains-from_On rest last on))

-- which nodes are left without one
on_without : (node other : ℕ) (nodes : List ℕ) → On other (without node nodes) → On other nodes × (other ≡ node → ⊥)
on_without node other [] on = absurd on
on_without node other (x ∷ nodes) on = ⊎_elim
    (λ here. let rest = on_without node other nodes (subst (On other) (ap (λ n. without node (n ∷ nodes)) here ∙ without-here node nodes) on) in (inr rest.0, rest.1))
    (λ apart. ⊎_elim
    (λ first. (inl first, (λ same. apart (first ∙ same))))
    (λ later. let rest = on_without node other nodes later in (inr rest.0, rest.1))
    (subst (On other) (without-other node x nodes apart) on))
    (cases_eq x node)

on_kept : (node other : ℕ) (nodes : List ℕ) → On other nodes → (other ≡ node → ⊥) → On other (without node nodes)
on_kept node other [] on apart = absurd on
on_kept node other (x ∷ nodes) on apart = ⊎_elim
    (λ here. subst (On other) (sym (ap (λ n. without node (n ∷ nodes)) here ∙ without-here node nodes))
    (on_kept node other nodes (⊎_elim (λ first. absurd (apart (sym first ∙ here))) (λ later. later) on) apart))
    (λ there. subst (On other) (sym (without-other node x nodes there)) (⊎_elim (λ first. inl first) (λ later. inr (on_kept node other nodes later apart)) on))
    (cases_eq x node)

pub contains_without : (node other : ℕ) (nodes : List ℕ) → Contains (without node nodes) other ↔ (Contains nodes other × (other ≢ node))
contains_without node other nodes = (
  (λ has. let rest = on_without node other nodes (On-from_Contains (without node nodes) other has) in (Contains-from_On nodes other rest.0, rest.1)),
  (λ has. Contains-from_On (without node nodes) other (on_kept node other nodes (On-from_Contains nodes other has.0) has.1)),
)
