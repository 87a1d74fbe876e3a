-- Which nodes stand on a list, and that none stands on it twice, by recursion on the list.
use Rattle.std.proofs.Common.{◌≡◌, ◌≢◌, ◌<◌, ◌≤◌, ℕ, zero, suc, List, [], ◌∷◌, ◌++◌, ◌⊎◌, ⊎_elim, inl, inr, length, get_or, refl, sym, ap, subst, ◌∙◌, false, not, cond}
use native.Mathlib.Omega.{arith}
use Rattle.std.specs.List.{Contains, All, AllPairs, AllByRecursion, IsDistinct}
use Rattle.std.specs.Prelude.{nat_eq}
use Rattle.std.proofs.Math.Dec.{eqb}
use Rattle.std.proofs.lemmas.Bool.{eq-eqb, ne_eqb, eqb-true, cases_eq}
use Rattle.std.proofs.lemmas.Map.Views.{Contains-from_any}
use Rattle.std.proofs.lemmas.Map.Steps.{length-le_from_distinct_below}
use Rattle.chain_core.specs.Nodes.{On, Once}
use Rattle.chain_core.specs.Path.{without}

on_at : (xs : List ℕ) (k node : ℕ) → k < length xs → get_or xs k node ≡ node → On node xs
on_at [] k node below is = absurd (omega (arith, below))
on_at (x ∷ xs) zero node below is = inl is
on_at (x ∷ xs) (suc k) node below is = inr (on_at xs k node (omega (arith, below)) is)

pub On-from_Contains : (xs : List ℕ) (node : ℕ) → Contains xs node → On node xs
On-from_Contains xs node has = on_at xs has.0 node has.1 has.2

pub Contains-from_On : (xs : List ℕ) (node : ℕ) → On node xs → Contains xs node
Contains-from_On [] node on = absurd on
Contains-from_On (x ∷ xs) node on = ⊎_elim (λ here. (zero, omega arith, here)) (λ later. let rest = Contains-from_On xs node later in (suc rest.0, omega (arith, rest.1), rest.2)) on

pub on_left : (xs ys : List ℕ) (node : ℕ) → On node xs → On node (xs ++ ys)
on_left [] ys node on = absurd on
on_left (x ∷ xs) ys node on = ⊎_elim (λ here. inl here) (λ later. inr (on_left xs ys node later)) on

pub on_right : (xs ys : List ℕ) (node : ℕ) → On node ys → On node (xs ++ ys)
on_right [] ys node on = on
on_right (x ∷ xs) ys node on = inr (on_right xs ys node on)

pub Once-from_AllPairs : (xs : List ℕ) → AllPairs (λ earlier later. earlier ≢ later) xs → Once xs
Once-from_AllPairs [] apart = tt
Once-from_AllPairs (x ∷ xs) apart = (
  (λ on. let has = Contains-from_On xs x on in apart 0 (suc has.0) x (omega arith) (omega (arith, has.1)) (sym has.2)),
  Once-from_AllPairs xs (λ i j d less within. apart (suc i) (suc j) d (omega (arith, less)) (omega (arith, within))),
)

pub AllPairs-from_Once : (xs : List ℕ) → Once xs → AllPairs (λ earlier later. earlier ≢ later) xs
AllPairs-from_Once [] once i j d less within same = omega (arith, within)
AllPairs-from_Once (x ∷ xs) once i zero d less within same = omega (arith, less)
AllPairs-from_Once (x ∷ xs) once zero (suc j) d less within same =
    once.0 (on_at xs j x (omega (arith, within)) (get_default xs j x d (omega (arith, within)) ∙ sym same))
  where
    get_default : (ys : List ℕ) (k a b : ℕ) → k < length ys → get_or ys k a ≡ get_or ys k b
    get_default [] k a b below = absurd (omega (arith, below))
    get_default (y ∷ ys) zero a b below = refl
    get_default (y ∷ ys) (suc k) a b below = get_default ys k a b (omega (arith, below))
AllPairs-from_Once (x ∷ xs) once (suc i) (suc j) d less within same = AllPairs-from_Once xs once.1 i j d (omega (arith, less)) (omega (arith, within)) same

-- what holds of each node holds of one that stands there
pub on_all : (P : ℕ → Type 0) (xs : List ℕ) (node : ℕ) → All P xs → On node xs → P node
on_all P [] node all on = absurd on
on_all P (x ∷ xs) node all on = ⊎_elim (λ here. subst P here (all 0 x (omega arith))) (λ later. on_all P xs node (λ k d below. all (suc k) d (omega (arith, below))) later) on

-- a node that does not stand on a list can be left out
pub without-absent : (node : ℕ) (xs : List ℕ) → (On node xs → ⊥) → without node xs ≡ xs
without-absent node [] absent = refl
without-absent node (x ∷ xs) absent =
    let other : nat_eq x node ≡ false = ne_eqb x node (λ same. absent (inl same)) in
    let rest = without-absent node xs (λ on. absent (inr on)) in
    ap (λ b. cond (not b) (x ∷ without node xs) (without node xs)) other ∙ ap (λ ys. x ∷ ys) rest

pub without-here : (node : ℕ) (xs : List ℕ) → without node (node ∷ xs) ≡ without node xs
without-here node xs = ap (λ b. cond (not b) (node ∷ without node xs) (without node xs)) (eq-eqb node node refl)

pub without-other : (node x : ℕ) (xs : List ℕ) → (x ≡ node → ⊥) → without node (x ∷ xs) ≡ x ∷ without node xs
without-other node x xs other = ap (λ b. cond (not b) (x ∷ without node xs) (without node xs)) (ne_eqb x node other)

-- where no node stands twice, none stands on both of two parts
pub once_parts : (xs ys : List ℕ) (node : ℕ) → Once (xs ++ ys) → On node xs → On node ys → ⊥
once_parts [] ys node once left right = left
once_parts (x ∷ xs) ys node once left right = ⊎_elim
    (λ here. once.0 (subst (λ n. On n (xs ++ ys)) (sym here) (on_right xs ys node right)))
    (λ later. once_parts xs ys node once.1 later right)
    left

pub on_either : (xs ys : List ℕ) (node : ℕ) → On node (xs ++ ys) → On node xs ⊎ On node ys
on_either [] ys node on = inr on
on_either (x ∷ xs) ys node on = ⊎_elim (λ here. inl (inl here)) (λ later. ⊎_elim (λ left. inl (inr left)) (λ right. inr right) (on_either xs ys node later)) on

-- what is on a list with one more node
pub on_push : (nodes : List ℕ) (node other : ℕ) → On other (nodes ++ node ∷ []) → On other nodes ⊎ (other ≡ node)
on_push [] node other on = ⊎_elim (λ same. inr (sym same)) (λ none. absurd none) on
on_push (x ∷ nodes) node other on = ⊎_elim (λ here. inl (inl here)) (λ later. ⊎_elim (λ before. inl (inr before)) (λ same. inr same) (on_push nodes node other later)) on

-- no node of a list with one more is there twice
pub once_push : (nodes : List ℕ) (node : ℕ) → Once nodes → (On node nodes → ⊥) → Once (nodes ++ node ∷ [])
once_push [] node once absent = ((λ on. on), tt)
once_push (x ∷ nodes) node once absent =
    ((λ on. ⊎_elim once.0 (λ same. absent (inl same)) (on_push nodes node x on)), once_push nodes node once.1 (λ on. absent (inr on)))

-- a node is on a list or not
pub on_or_not : (xs : List ℕ) (node : ℕ) → On node xs ⊎ (On node xs → ⊥)
on_or_not [] node = inr (λ on. on)
on_or_not (x ∷ xs) node = ⊎_elim
    (λ here. inl (inl here))
    (λ there. ⊎_elim (λ later. inl (inr later)) (λ absent. inr (λ on. ⊎_elim there absent on)) (on_or_not xs node))
    (cases_eq x node)

-- the same in the words of a list of keys
distinct_from_once : (xs : List ℕ) → Once xs → IsDistinct eqb xs
unfolding IsDistinct
distinct_from_once [] once = tt
distinct_from_once (x ∷ xs) once = (each_apart xs once.0, distinct_from_once xs once.1)
  where
    each_apart : (ys : List ℕ) → (On x ys → ⊥) → AllByRecursion (λ y. eqb x y ≡ false) ys
    each_apart [] absent = tt
    each_apart (y ∷ ys) absent = (ne_eqb x y (λ same. absent (inl (sym same))), each_apart ys (λ on. absent (inr on)))

-- a list of nodes below a bound, none of them twice, is no longer than the bound
pub once_within : (bound : ℕ) (xs : List ℕ) → Once xs → All (λ node. node < bound) xs → length xs ≤ bound
once_within bound xs once inside = length-le_from_distinct_below xs bound (distinct_from_once xs once)
    (λ node found. on_all (λ n. n < bound) xs node inside (On-from_Contains xs node (Contains-from_any eqb-true node xs found)))
