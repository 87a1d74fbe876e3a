-- The nodes that an unzipping has passed, by their sides.
use Rattle.std.proofs.Common.{◌≡◌, ◌≢◌, ℕ, ◌+◌, ◌^◌, ◌⊎◌, List, [], ◌∷◌, ◌++◌, Bool, true, false, not, cond, refl, sym, ap, subst, ◌∙◌, inl, inr, arith, ◌<◌}
use Rattle.std.specs.Prelude.{filter}
use Rattle.std.proofs.lemmas.Bool.{eq-eqb, ne_eqb}
use Rattle.chain_core.specs.Nodes.{On}
use Rattle.text_words.specs.Hash.{hash_of}
use Rattle.intern_log.specs.declared.event.Handle.{Handle}
use Rattle.intern_log.specs.Now.{Now, Phase, Linked}
use Rattle.call_machine.specs.declared.resize.Side as sides
use Rattle.call_machine.specs.declared.resize.Side.TheVariants.{Even, Odd}
use Rattle.call_machine.specs.Resize.{other}
use Rattle.cht_core.specs.KnowsResize.{is_phase_of, is_odd_in, side_bucket}
use Rattle.cht_core.specs.Stage.{bucket_in}
use Rattle.cht_core.proofs.Stages.{row_up}
use Rattle.resize_core.proofs.Sides.{filter_mine, filter_other}

-- LISTS

filter_head : (p q : ℕ → Bool) (x : ℕ) (xs : List ℕ) → p x ≡ q x → filter p xs ≡ filter q xs → filter p (x ∷ xs) ≡ filter q (x ∷ xs)
filter_head p q x xs here rest = ap (λ (b : Bool). cond b (x ∷ filter p xs) (filter p xs)) here ∙ ap (λ (nodes : List ℕ). cond (q x) (x ∷ nodes) nodes) rest

-- two tests that agree on the nodes of a list take the same ones of it
pub filter_same : (p q : ℕ → Bool) (xs : List ℕ) → ((s : ℕ) → On s xs → p s ≡ q s) → filter p xs ≡ filter q xs
filter_same p q [] same = refl
filter_same p q (x ∷ xs) same = filter_head p q x xs (same x (inl refl)) (filter_same p q xs (λ s on. same s (inr on)))

-- what a test takes of a list is on it, and meets the test
pub on_filter : (p : ℕ → Bool) (xs : List ℕ) (s : ℕ) → On s xs → p s ≡ true → On s (filter p xs)
on_filter p [] s on is = absurd on
on_filter p (x ∷ xs) s on is = elim on [
  | inl same ↦ subst (λ (b : Bool). On s (cond b (x ∷ filter p xs) (filter p xs))) (sym (ap p same ∙ is)) (inl same)
  | inr later ↦ taken (p x) (on_filter p xs s later is)
]
  where
    taken : (b : Bool) → On s (filter p xs) → On s (cond b (x ∷ filter p xs) (filter p xs))
    taken true on = inr on
    taken false on = on

pub filter_on : (p : ℕ → Bool) (xs : List ℕ) (s : ℕ) → On s (filter p xs) → On s xs × (p s ≡ true)
filter_on p [] s on = absurd on
filter_on p (x ∷ xs) s on = by_test (p x) refl (filter_on p xs s) on
  where
    by_test : (b : Bool) → p x ≡ b → (On s (filter p xs) → On s xs × (p s ≡ true)) → On s (cond b (x ∷ filter p xs) (filter p xs)) → On s (x ∷ xs) × (p s ≡ true)
    by_test true is rest on = elim on [
      | inl same ↦ (inl same, ap p (sym same) ∙ is)
      | inr later ↦ (let found : On s xs × (p s ≡ true) = rest later in (inr found.0, found.1))
    ]
    by_test false is rest on = let found : On s xs × (p s ≡ true) = rest on in (inr found.0, found.1)

-- each node of a list meets a test or does not
pub on_sides : (p : ℕ → Bool) (xs : List ℕ) (s : ℕ) → On s xs → On s (filter (λ (x : ℕ). not (p x)) xs) ⊎ On s (filter p xs)
on_sides p xs s on = by_test (p s) refl
  where
    by_test : (b : Bool) → p s ≡ b → On s (filter (λ (x : ℕ). not (p x)) xs) ⊎ On s (filter p xs)
    by_test true is = inr (on_filter p xs s on is)
    by_test false is = inl (on_filter (λ (x : ℕ). not (p x)) xs s on (ap not is))

-- THE SIDES OF NODES

-- the side of a linked node is that of its text
pub odd_of : (n : Now) (level b s : ℕ) (text : List ℕ) (h : Handle) (at : ℕ) → n.slot s ≡ Linked text h at → bucket_in (level + 1) (hash_of n.seed text) ≡ b + 2 ^ level → is_odd_in n level b s ≡ true
odd_of n level b s text h at is odd =
    ap (is_phase_of n.seed (level + 1) (b + 2 ^ level)) is ∙ eq-eqb (bucket_in (level + 1) (hash_of n.seed text)) (b + 2 ^ level) odd

pub even_of : (n : Now) (level b s : ℕ) (text : List ℕ) (h : Handle) (at : ℕ) → n.slot s ≡ Linked text h at → bucket_in (level + 1) (hash_of n.seed text) ≢ b + 2 ^ level → is_odd_in n level b s ≡ false
even_of n level b s text h at is even =
    ap (is_phase_of n.seed (level + 1) (b + 2 ^ level)) is ∙ ne_eqb (bucket_in (level + 1) (hash_of n.seed text)) (b + 2 ^ level) even

-- and stays that while the slot is linked with the text
pub odd_stays : (n n' : Now) (level b s : ℕ) (text : List ℕ) (h : Handle) (at : ℕ) → n'.seed ≡ n.seed → n.slot s ≡ Linked text h at → n'.slot s ≡ Linked text h at → is_odd_in n level b s ≡ is_odd_in n' level b s
odd_stays n n' level b s text h at seed is now =
    ap (λ (phase : Phase). is_phase_of n.seed (level + 1) (b + 2 ^ level) phase) (is ∙ sym now) ∙ ap (λ (g : ℕ). is_phase_of g (level + 1) (b + 2 ^ level) (n'.slot s)) (sym seed)

-- where no slot changes no side does
pub odd_same : (n n' : Now) (level b : ℕ) → n'.seed ≡ n.seed → n'.slot ≡ n.slot → is_odd_in n level b ≡ is_odd_in n' level b
odd_same n n' level b seed slots =
    ap (λ (slot : ℕ → Phase). λ (s : ℕ). is_phase_of n.seed (level + 1) (b + 2 ^ level) (slot s)) (sym slots) ∙ ap (λ (g : ℕ). λ (s : ℕ). is_phase_of g (level + 1) (b + 2 ^ level) (n'.slot s)) (sym seed)

-- the passed nodes of a side
abbrev pub evens_of : Now → ℕ → ℕ → List ℕ → List ℕ
evens_of n level b done = filter (λ s. not (is_odd_in n level b s)) done

abbrev pub odds_of : Now → ℕ → ℕ → List ℕ → List ℕ
odds_of n level b done = filter (is_odd_in n level b) done

-- they are the same ones while the nodes of both sides stay linked as they are
abbrev pub StaysLinked : Now → Now → ℕ → Type 0
StaysLinked n n' s = (text : List ℕ) × (h : Handle) × (at : ℕ) × (n.slot s ≡ Linked text h at) × (n'.slot s ≡ Linked text h at)

pub sides_stay : (n n' : Now) (level b : ℕ) (evens odds done : List ℕ) → n'.seed ≡ n.seed → ((s : ℕ) → On s evens ⊎ On s odds → StaysLinked n n' s)
    → evens ≡ evens_of n level b done → odds ≡ odds_of n level b done → (evens ≡ evens_of n' level b done) × (odds ≡ odds_of n' level b done)
sides_stay n n' level b evens odds done seed linked is_even is_odd = (
  is_even ∙ filter_same (λ s. not (is_odd_in n level b s)) (λ s. not (is_odd_in n' level b s)) done (λ s on. ap not (each s on)),
  is_odd ∙ filter_same (is_odd_in n level b) (is_odd_in n' level b) done each,
)
  where
    each : (s : ℕ) → On s done → is_odd_in n level b s ≡ is_odd_in n' level b s
    each s on =
        let here : On s evens ⊎ On s odds = elim (on_sides (is_odd_in n level b) done s on) [
          | inl e ↦ inl (subst (λ (nodes : List ℕ). On s nodes) (sym is_even) e)
          | inr o ↦ inr (subst (λ (nodes : List ℕ). On s nodes) (sym is_odd) o)
        ] in
        let k : StaysLinked n n' s = linked s here in
        odd_stays n n' level b s k.0 k.1 k.2 seed k.3 k.4

abbrev pub passed_of : Now → ℕ → ℕ → sides.Side → List ℕ → List ℕ
passed_of n level b Even = evens_of n level b
passed_of n level b Odd = odds_of n level b

-- ONE MORE

abbrev pub is_odd_side : sides.Side → Bool
is_odd_side Even = false
is_odd_side Odd = true

-- a node with a text of a side's bucket is of that side
pub side_of_node : (n : Now) (level b s : ℕ) (side : sides.Side) (text : List ℕ) (h : Handle) (at : ℕ) → n.slot s ≡ Linked text h at → bucket_in (level + 1) (hash_of n.seed text) ≡ side_bucket level b side
    → is_odd_in n level b s ≡ is_odd_side side
side_of_node n level b s Even text h at is mine = even_of n level b s text h at is (λ e. let up : 0 < 2 ^ level = row_up level in omega (arith, up, mine, e))
side_of_node n level b s Odd text h at is mine = odd_of n level b s text h at is mine

-- it is one more of that side, and of the other there are no more
pub one_more_won : (n : Now) (level b s : ℕ) (side : sides.Side) (done : List ℕ) → is_odd_in n level b s ≡ is_odd_side side
    → passed_of n level b side (done ++ s ∷ []) ≡ passed_of n level b side done ++ s ∷ []
one_more_won n level b s Even done is = filter_mine (λ x. not (is_odd_in n level b x)) done s (ap not is)
one_more_won n level b s Odd done is = filter_mine (is_odd_in n level b) done s is

pub one_more_lost : (n : Now) (level b s : ℕ) (side : sides.Side) (done : List ℕ) → is_odd_in n level b s ≡ is_odd_side side
    → passed_of n level b (other side) (done ++ s ∷ []) ≡ passed_of n level b (other side) done
one_more_lost n level b s Even done is = filter_other (is_odd_in n level b) done s is
one_more_lost n level b s Odd done is = filter_other (λ x. not (is_odd_in n level b x)) done s (ap not is)
