-- Sums over two lists of which the items of the one stand for items of the other.
use Rattle.std.proofs.Common.{◌≡◌, ◌≢◌, ℕ, ◌+◌, ◌≤◌, ◌*◌, Bool, true, false, cond, ◌⊎◌, List, [], ◌∷◌, map, length, inl, inr, refl, sym, ap, subst, ◌∙◌, arith}
use Rattle.std.specs.Prelude.{sum_by}
use Rattle.std.proofs.lemmas.Bool.{cases_eq}
use Rattle.std.proofs.lemmas.List.Sums.{sum_by-cons}
use Rattle.chain_core.specs.Nodes.{On, Once}
use Rattle.chain_core.specs.Path.{without}
use Rattle.chain_core.proofs.Members.{On-from_Contains, Contains-from_On, without-absent, without-here, without-other}
use Rattle.chain_core.proofs.Stores.{contains_without}

-- the item stands on the list
abbrev pub Stands : {A : Type 0} → A → List A → Type 0
Stands a [] = ⊥
Stands a (x ∷ xs) = (x ≡ a) ⊎ Stands a xs

-- LEAVING A NODE OUT

on_without : (node n : ℕ) (xs : List ℕ) → On n xs → n ≢ node → On n (without node xs)
on_without node n xs on differ = On-from_Contains (without node xs) n ((contains_without node n xs).1 (Contains-from_On xs n on, differ))

without_on : (node n : ℕ) (xs : List ℕ) → On n (without node xs) → On n xs × (n ≢ node)
without_on node n xs on = let has = (contains_without node n xs).0 (Contains-from_On (without node xs) n on) in (On-from_Contains xs n has.0, has.1)

once_without : (node : ℕ) (xs : List ℕ) → Once xs → Once (without node xs)
once_without node [] once = tt
once_without node (x ∷ xs) once = elim (cases_eq x node) [
  | inl same ↦ subst (λ y. Once (without node (y ∷ xs))) (sym same) (subst Once (sym (without-here node xs)) (once_without node xs once.1))
  | inr differ ↦ subst Once (sym (without-other node x xs differ)) ((λ on. once.0 (without_on node x xs on).0), once_without node xs once.1)
]

-- a sum is that of a node and of the others
sum_out : (h : ℕ → ℕ) (node : ℕ) (xs : List ℕ) → Once xs → On node xs → sum_by h xs ≡ h node + sum_by h (without node xs)
sum_out h node [] once on = absurd on
sum_out h node (x ∷ xs) once (inl here) =
    let rest : without node (x ∷ xs) ≡ xs = ap (λ y. without node (y ∷ xs)) here ∙ without-here node xs ∙ without-absent node xs (λ on. once.0 (subst (λ n. On n xs) (sym here) on)) in
    sum_by-cons h x xs ∙ ap (λ n. h n + sum_by h xs) here ∙ ap (λ l. h node + sum_by h l) (sym rest)
sum_out h node (x ∷ xs) once (inr later) =
    let differ : x ≢ node = λ same. once.0 (subst (λ n. On n xs) (sym same) later) in
    let rest : without node (x ∷ xs) ≡ x ∷ without node xs = without-other node x xs differ in
    let whole = sum_by-cons h x xs in
    let part = sum_by-cons h x (without node xs) in
    let more = sum_out h node xs once.1 later in
    let same : sum_by h (without node (x ∷ xs)) ≡ sum_by h (x ∷ without node xs) = ap (sum_by h) rest in
    omega (arith, whole, part, more, same)

sum_none : (h : ℕ → ℕ) (xs : List ℕ) → ((n : ℕ) → On n xs → h n ≡ 0) → sum_by h xs ≡ 0
sum_none h [] none = refl
sum_none h (x ∷ xs) none = let whole = sum_by-cons h x xs in let first = none x (inl refl) in let rest = sum_none h xs (λ n on. none n (inr on)) in omega (arith, whole, first, rest)

-- ITEMS THAT STAND FOR NODES

-- each item that passes the test stands for a node with its weight, and each other node has no weight
pub record Matches {A : Type 0} (node : A → ℕ) (p : A → Bool) (w : A → ℕ) (h : ℕ → ℕ) (items : List A) (nodes : List ℕ) : Type 0 where
  pub once : Once nodes
  pub apart : Once (map node items)
  pub on : (a : A) → Stands a items → p a ≡ true → On (node a) nodes × (h (node a) ≡ w a)
  pub rest : (n : ℕ) → On n nodes → ((a : A) → Stands a items → p a ≡ true → node a ≢ n) → h n ≡ 0

stands_map : {A : Type 0} (node : A → ℕ) (a : A) (items : List A) → Stands a items → On (node a) (map node items)
stands_map node a [] stands = absurd stands
stands_map node a (x ∷ items) (inl here) = inl (ap node here)
stands_map node a (x ∷ items) (inr later) = inr (stands_map node a items later)

module _ {A : Type 0} (node : A → ℕ) (p : A → Bool) (w : A → ℕ) (h : ℕ → ℕ) where
  abbrev weight : A → ℕ
  weight a = cond (p a) (w a) 0

  -- the first item stands for none
  not_first : (x : A) (items : List A) (nodes : List ℕ) → p x ≡ false → Matches node p w h (x ∷ items) nodes → Matches node p w h items nodes
  not_first x items nodes fails m = record {
    once = m.once;
    apart = m.apart.1;
    on = λ a stands. m.on a (inr stands);
    rest = λ n on others. m.rest n on (λ a stands passes. go a stands passes others);
  }
    where
      go : {n : ℕ} (a : A) → Stands a (x ∷ items) → p a ≡ true → ((b : A) → Stands b items → p b ≡ true → node b ≢ n) → node a ≢ n
      go a (inl here) passes others = let never : true ≡ false = sym passes ∙ ap p (sym here) ∙ fails in absurd (cc)
      go a (inr later) passes others = others a later passes

  -- or for one that is left out
  but_first : (x : A) (items : List A) (nodes : List ℕ) → p x ≡ true → Matches node p w h (x ∷ items) nodes → Matches node p w h items (without (node x) nodes)
  but_first x items nodes passes m = record {
    once = once_without (node x) nodes m.once;
    apart = m.apart.1;
    on = λ a stands passes_a. let was = m.on a (inr stands) passes_a in (on_without (node x) (node a) nodes was.0 (λ same. m.apart.0 (subst (λ n. On n (map node items)) same (stands_map node a items stands))), was.1);
    rest = λ n on others. let was = without_on (node x) n nodes on in m.rest n was.0 (λ a stands passes_a. go n a stands passes_a was.1 others);
  }
    where
      go : (n : ℕ) (a : A) → Stands a (x ∷ items) → p a ≡ true → n ≢ node x → ((b : A) → Stands b items → p b ≡ true → node b ≢ n) → node a ≢ n
      go n a (inl here) passes_a differ others same = differ (sym same ∙ ap node (sym here))
      go n a (inr later) passes_a differ others same = others a later passes_a same

  -- so the nodes have the weights of the items
  pub sums_match : (items : List A) (nodes : List ℕ) → Matches node p w h items nodes → sum_by h nodes ≡ sum_by weight items
  sums_match [] nodes m = sum_none h nodes (λ n on. m.rest n on (λ a never. absurd never))
  sums_match (x ∷ items) nodes m = by (p x) refl (λ ns others. sums_match items ns others)
    where
      by : (b : Bool) → p x ≡ b → ((ns : List ℕ) → Matches node p w h items ns → sum_by h ns ≡ sum_by weight items) → sum_by h nodes ≡ sum_by weight (x ∷ items)
      by false fails later =
          let rest = later nodes (not_first x items nodes fails m) in
          let whole = sum_by-cons weight x items in
          let none : weight x ≡ 0 = ap (λ b. cond b (w x) 0) fails in
          omega (arith, rest, whole, none)
      by true passes later =
          let first = m.on x (inl refl) passes in
          let rest = later (without (node x) nodes) (but_first x items nodes passes m) in
          let out = sum_out h (node x) nodes m.once first.0 in
          let whole = sum_by-cons weight x items in
          let same : weight x ≡ w x = ap (λ b. cond b (w x) 0) passes in
          let equal = first.1 in
          omega (arith, rest, out, whole, same, equal)

-- SUMS OF OTHER WEIGHTS

pub sum_alike : {A : Type 0} (f g : A → ℕ) (xs : List A) → ((a : A) → Stands a xs → f a ≡ g a) → sum_by f xs ≡ sum_by g xs
sum_alike f g [] same = refl
sum_alike f g (x ∷ xs) same =
    let left = sum_by-cons f x xs in let right = sum_by-cons g x xs in let first = same x (inl refl) in let rest = sum_alike f g xs (λ a stands. same a (inr stands)) in
    omega (arith, left, right, first, rest)

pub sum_together : {A : Type 0} (f g h : A → ℕ) (xs : List A) → ((a : A) → h a ≡ f a + g a) → sum_by h xs ≡ sum_by f xs + sum_by g xs
sum_together f g h [] same = refl
sum_together f g h (x ∷ xs) same =
    let whole = sum_by-cons h x xs in let left = sum_by-cons f x xs in let right = sum_by-cons g x xs in let first = same x in let rest = sum_together f g h xs same in
    omega (arith, whole, left, right, first, rest)

pub sum_few : {A : Type 0} (f : A → ℕ) (most : ℕ) (xs : List A) → ((a : A) → f a ≤ most) → sum_by f xs ≤ most * length xs
sum_few f most [] few = omega arith
sum_few f most (x ∷ xs) few =
    let whole = sum_by-cons f x xs in let first = few x in let rest = sum_few f most xs few in omega (arith, whole, first, rest)
