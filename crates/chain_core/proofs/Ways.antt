-- The laws of paths of a chain, given by a function.
use Rattle.std.proofs.Common.{◌≡◌, ◌≤◌, ℕ, suc, List, [], ◌∷◌, ◌++◌, ◌⊎◌, ⊎_elim, inl, inr, length, Option, Some, None, refl, sym, ap, subst, ◌∙◌}
use native.Mathlib.Omega.{arith}
use Rattle.std.proofs.lemmas.Bool.{cases_eq}
use Rattle.chain_core.specs.Path.{Leads, IsPath, without}
use Rattle.chain_core.specs.Nodes.{On, Once}
use Rattle.chain_core.proofs.Members.{without-absent, without-here, without-other}

same_node : (a b : ℕ) → Some a ≡ Some b → a ≡ b
same_node a b same = cc

-- two ways, one after the other
pub leads_on : (next : ℕ → Option ℕ) (from middle to : Option ℕ) (xs ys : List ℕ) → Leads next from xs middle → Leads next middle ys to → Leads next from (xs ++ ys) to
leads_on next from middle to [] ys first second = subst (λ a. Leads next a ys to) (sym first) second
leads_on next from middle to (x ∷ xs) ys first second = (first.0, leads_on next (next x) middle to xs ys first.1 second)

-- a way and a path from one start: the path goes on from where the way ends
pub path_after : (next : ℕ → Option ℕ) (from to : Option ℕ) (xs ys : List ℕ) → Leads next from xs to → IsPath next from ys → (zs : List ℕ) × (ys ≡ xs ++ zs) × IsPath next to zs
path_after next from to [] ys way path = (ys, refl, subst (λ a. IsPath next a ys) way path)
path_after next from to (x ∷ xs) [] way path = absurd (ends (way.0) path)
  where
    ends : from ≡ Some x → from ≡ None → ⊥
    ends some none = cc
path_after next from to (x ∷ xs) (y ∷ ys) way path =
    let same : x ≡ y = same_node x y (sym way.0 ∙ path.0) in
    let rest = path_after next (next x) to xs ys way.1 (subst (λ n. IsPath next (next n) ys) (sym same) path.1) in
    (rest.0, ap (λ n. n ∷ ys) (sym same) ∙ ap (λ l. x ∷ l) rest.1, rest.2)

no_path : (next : ℕ → Option ℕ) (zs : List ℕ) → IsPath next None zs → zs ≡ []
no_path next [] path = refl
no_path next (z ∷ zs) path = absurd (ends path.0)
  where
    ends : None ≡ Some z → ⊥
    ends none = cc

append_nil : (xs : List ℕ) → xs ++ [] ≡ xs
append_nil [] = refl
append_nil (x ∷ xs) = ap (λ l. x ∷ l) (append_nil xs)

-- a chain has one path at the most
pub path_one : (next : ℕ → Option ℕ) (from : Option ℕ) (xs ys : List ℕ) → IsPath next from xs → IsPath next from ys → ys ≡ xs
path_one next from xs ys first second =
    let rest = path_after next from None xs ys first second in
    rest.1 ∙ ap (λ l. xs ++ l) (no_path next rest.0 rest.2) ∙ append_nil xs

-- the path from a node of a path is a part of it
pub path_from : (next : ℕ → Option ℕ) (from : Option ℕ) (xs : List ℕ) (node : ℕ) → IsPath next from xs → On node xs → (zs : List ℕ) × IsPath next (Some node) (node ∷ zs) × (suc (length zs) ≤ length xs)
path_from next from [] node path on = absurd on
path_from next from (x ∷ xs) node path on = ⊎_elim
    (λ here. (xs, (refl, subst (λ n. IsPath next (next n) xs) here path.1), omega arith))
    (λ later. let rest = path_from next (next x) xs node path.1 later in (rest.0, rest.1, omega (arith, rest.2)))
    on

-- no node is met twice on a path
pub path_once : (next : ℕ → Option ℕ) (from : Option ℕ) (xs : List ℕ) → IsPath next from xs → Once xs
path_once next from [] path = tt
path_once next from (x ∷ xs) path = (
  (λ on. let rest = path_from next (next x) xs x path.1 on in
      let one = ap length (path_one next (Some x) (x ∷ xs) (x ∷ rest.0) (refl, path.1) rest.1) in
      omega (arith, one, rest.2)),
  path_once next (next x) xs path.1,
)

-- a way stays where another link is stored at a node that is not on it
pub leads_stays : (next new : ℕ → Option ℕ) (changed : ℕ) → ((node : ℕ) → (node ≡ changed → ⊥) → new node ≡ next node) →
    (from to : Option ℕ) (xs : List ℕ) → (On changed xs → ⊥) → Leads next from xs to → Leads new from xs to
leads_stays next new changed other from to [] absent way = way
leads_stays next new changed other from to (x ∷ xs) absent way =
    (way.0, subst (λ a. Leads new a xs to) (sym (other x (λ same. absent (inl same)))) (leads_stays next new changed other (next x) to xs (λ on. absent (inr on)) way.1))

-- the node after a node of a way is on it too, unless the way ends there
next_on : (next : ℕ → Option ℕ) (from to : Option ℕ) (xs : List ℕ) (before node : ℕ) → Leads next from xs to → (to ≡ Some node → ⊥) → next before ≡ Some node → On before xs → On node xs
next_on next from to [] before node way ends follows on = absurd on
next_on next from to (x ∷ xs) before node way ends follows on = ⊎_elim
    (λ here. inr (begins (next x) xs (ap next here ∙ follows) way.1))
    (λ later. inr (next_on next (next x) to xs before node way.1 ends follows later))
    on
  where
    begins : (a : Option ℕ) (ys : List ℕ) → a ≡ Some node → Leads next a ys to → On node ys
    begins a [] is way = absurd (ends (sym way ∙ is))
    begins a (y ∷ ys) is way = inl (same_node y node (sym way.0 ∙ is))

-- what is left after `before` when the node after it is taken out
left_after : (next new : ℕ → Option ℕ) (before node : ℕ) → next before ≡ Some node → new before ≡ next node → ((n : ℕ) → (n ≡ before → ⊥) → new n ≡ next n) →
    (to : Option ℕ) (xs : List ℕ) → (to ≡ Some node → ⊥) → Leads next (next before) xs to → Once (before ∷ xs) → Leads new (new before) (without node xs) to × (before ≡ node → ⊥)
left_after next new before node follows stored other to [] ends way once = absurd (ends (sym way ∙ follows))
left_after next new before node follows stored other to (y ∷ ys) ends way once =
    let same : y ≡ node = same_node y node (sym way.0 ∙ follows) in
    let left : without node (y ∷ ys) ≡ ys = ap (λ n. without node (n ∷ ys)) same ∙ without-here node ys ∙ without-absent node ys (subst (λ n. On n ys → ⊥) same once.1.0) in
    let stays : Leads new (next node) ys to = leads_stays next new before other (next node) to ys (λ at. once.0 (inr at)) (subst (λ n. Leads next (next n) ys to) same way.1) in (
      subst (λ l. Leads new (new before) l to) (sym left) (subst (λ a. Leads new a ys to) (sym stored) stays),
      (λ equal. once.0 (inl (same ∙ sym equal))),
    )

-- a way on which the node after `before` is taken out: no node is met twice, and the way does not end at that node
pub way_without : (next new : ℕ → Option ℕ) (before node : ℕ) → next before ≡ Some node → new before ≡ next node → ((n : ℕ) → (n ≡ before → ⊥) → new n ≡ next n) →
    (from to : Option ℕ) (xs : List ℕ) → (to ≡ Some node → ⊥) → Leads next from xs to → Once xs → On before xs → Leads new from (without node xs) to
way_without next new before node follows stored other from to [] ends way once on = absurd on
way_without next new before node follows stored other from to (x ∷ xs) ends way once on = ⊎_elim
    (λ here.
    let left = left_after next new before node follows stored other to xs ends (subst (λ n. Leads next (next n) xs to) here way.1) (subst (λ n. Once (n ∷ xs)) here once) in
    subst (λ l. Leads new from l to) (sym (without-other node x xs (λ same. left.1 (sym here ∙ same))))
    (way.0, subst (λ n. Leads new (new n) (without node xs) to) (sym here) left.0))
    (λ there.
    let later : On before xs = ⊎_elim (λ here. absurd (there here)) (λ later. later) on in
    let apart : x ≡ node → ⊥ = (λ same. once.0 (subst (λ n. On n xs) (sym same) (next_on next (next x) to xs before node way.1 ends follows later))) in
    subst (λ l. Leads new from l to) (sym (without-other node x xs apart))
    (way.0, subst (λ a. Leads new a (without node xs) to) (sym (other x there)) (way_without next new before node follows stored other (next x) to xs ends way.1 once.1 later)))
    (cases_eq x before)

-- a path that passes a node without a next one, when another path is put after that node
pub path_appended : (next new : ℕ → Option ℕ) (last : ℕ) (after : Option ℕ) → next last ≡ None → new last ≡ after → ((n : ℕ) → (n ≡ last → ⊥) → new n ≡ next n) →
    (from : Option ℕ) (xs ys : List ℕ) → IsPath next from xs → On last xs → IsPath next after ys → (On last ys → ⊥) → IsPath new from (xs ++ ys)
path_appended next new last after ends stored other from [] ys path on rest absent = absurd on
path_appended next new last after ends stored other from (x ∷ xs) ys path on rest absent = ⊎_elim
    (λ here.
    let none : xs ≡ [] = no_path next xs (subst (λ a. IsPath next a xs) (ap next here ∙ ends) path.1) in
    let stays : IsPath new after ys = leads_stays next new last other after None ys absent rest in
    (path.0, subst (λ l. IsPath new (new x) (l ++ ys)) (sym none) (subst (λ a. IsPath new a ys) (sym (ap new here ∙ stored)) stays)))
    (λ there.
    let later : On last xs = ⊎_elim (λ here. absurd (there here)) (λ later. later) on in
    (path.0, subst (λ a. IsPath new a (xs ++ ys)) (sym (other x there)) (path_appended next new last after ends stored other (next x) xs ys path.1 later rest absent)))
    (cases_eq x last)

-- of two ways from one start, one goes on from where the other ends
pub ways_meet : (next : ℕ → Option ℕ) (from a b : Option ℕ) (xs ys : List ℕ) → Leads next from xs a → Leads next from ys b →
    ((zs : List ℕ) × (ys ≡ xs ++ zs) × Leads next a zs b) ⊎ ((zs : List ℕ) × (xs ≡ ys ++ zs) × Leads next b zs a)
ways_meet next from a b [] ys first second = inl (ys, refl, subst (λ n. Leads next n ys b) first second)
ways_meet next from a b (x ∷ xs) [] first second = inr (x ∷ xs, refl, subst (λ n. Leads next n (x ∷ xs) a) second first)
ways_meet next from a b (x ∷ xs) (y ∷ ys) first second =
    let same : x ≡ y = same_node x y (sym first.0 ∙ second.0) in
    ⊎_elim
    (λ longer. inl (longer.0, ap (λ n. n ∷ ys) (sym same) ∙ ap (λ l. x ∷ l) longer.1, longer.2))
    (λ shorter. inr (shorter.0, ap (λ n. n ∷ xs) same ∙ ap (λ l. y ∷ l) shorter.1, shorter.2))
    (ways_meet next (next x) a b xs ys first.1 (subst (λ n. Leads next (next n) ys b) (sym same) second.1))

-- a path from a node begins with it
pub path_begins : (next : ℕ → Option ℕ) (node : ℕ) (zs : List ℕ) → IsPath next (Some node) zs → On node zs
path_begins next node [] path = absurd (cc)
path_begins next node (z ∷ zs) path = inl (same_node z node (sym path.0))

-- a way that goes on from a node, and not at once to its end, meets it
pub way_begins : (next : ℕ → Option ℕ) (node to : ℕ) (zs : List ℕ) → Leads next (Some node) zs (Some to) → (node ≡ to) ⊎ On node zs
way_begins next node to [] way = inl (same_node node to way)
way_begins next node to (z ∷ zs) way = inr (inl (same_node z node (sym way.0)))
