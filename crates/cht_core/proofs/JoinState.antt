-- A join of a pair's chains: the last even node is led to the odd ones. The chains and the heads after it.
use Rattle.std.proofs.Common.{◌≡◌, ◌≢◌, ℕ, ◌+◌, ◌^◌, ◌<◌, List, ◌++◌, Option, Some, None, refl, sym, ap, subst, ◌∙◌, inl, inr, arith}
use Rattle.chain_core.specs.Nodes.{On, Once}
use Rattle.chain_core.specs.Path.{IsPath}
use Rattle.chain_core.proofs.Members.{on_left, on_either}
use Rattle.chain_core.proofs.Ways.{path_appended, path_once}
use Rattle.text_words.specs.Hash.{hash_of}
use Rattle.marked_word.specs.Link.{link_word, node_of}
use Rattle.table_shape.specs.declared.place.Place.{Place}
use Rattle.table_shape.specs.declared.place.Place.TheVariants as place
use Rattle.intern_log.specs.declared.event.Handle.{Handle}
use Rattle.intern_log.specs.Now.{Now, Phase, Linked, owner_of}
use Rattle.atomic_step.specs.Step.{redirected_head}
use Rattle.cht_core.specs.Chains.{Chains, AreRanked, born}
use Rattle.cht_core.specs.Flow.{Flow, IsUsed, IsHome, with_chain, joined}
use Rattle.cht_core.specs.Heads.{Heads, used_head}
use Rattle.cht_core.specs.KnowsResize.{HasLocked}
use Rattle.cht_core.specs.Memory.{Memory, links}
use Rattle.cht_core.specs.Stage.{Shrinking, Joining, Whole, bucket_in}
use Rattle.cht_core.proofs.Buckets.{bucket_cases}
use Rattle.cht_core.proofs.CalmParts.{path_kept}
use Rattle.cht_core.proofs.CreateParts.{chain_here, chain_elsewhere}
use Rattle.cht_core.proofs.HeadWords.{one_first, node_of_link}
use Rattle.cht_core.proofs.Stages.{row_up, next_row_size, halves_low, halves_high}

-- what a log says at a level, and a flow at a stage of a shrink
abbrev pub at_row : Now → ℕ → Now
at_row n k = record n { level = k + 1 }

abbrev pub shrinking : Flow → ℕ → ℕ → Flow
shrinking f k b = record f { stage = Shrinking k b }

-- the flow after the join
abbrev pub joining : Flow → ℕ → ℕ → Flow
joining f k b = record f { chain = with_chain f.chain (k + 1) b (joined f.chain k b); stage = Joining k b }

-- a locked head to which callers come leads along its chain
pub head_path : (m : Memory) (n : Now) (f : Flow) (i row bucket : ℕ) (first : Option ℕ) → Heads m n f → IsUsed n f row bucket → HasLocked m n i row bucket first → IsPath (links m) first (f.chain row bucket)
head_path m n f i row bucket first heads used at =
    let along : (start : Option ℕ) × (m (place.Head row bucket) ≡ used_head start (n.lock row bucket)) × IsPath (links m) start (f.chain row bucket) = heads.paths row bucket used in
    let word : used_head along.0 (Some i) ≡ used_head first (Some i) = sym (along.1 ∙ ap (used_head along.0) at.0) ∙ at.1 in
    subst (λ (start : Option ℕ). IsPath (links m) start (f.chain row bucket)) (one_first along.0 first (Some i) word) along.2

-- a slot is linked with one text
pub one_text : (slot : ℕ → Phase) (s : ℕ) (text : List ℕ) (h : Handle) (at : ℕ) (other : List ℕ) (g : Handle) (since : ℕ) → slot s ≡ Linked text h at → slot s ≡ Linked other g since → text ≡ other
one_text slot s text h at other g since is too = let same : Linked text h at ≡ Linked other g since = sym is ∙ too in cc

-- both old heads of a pair, which are locked
module _ (m : Memory) (n : Now) (f : Flow) (i k b : ℕ) (even odd : Option ℕ) (below : b < 2 ^ k) (c0 : Chains (at_row n k) (shrinking f k b)) (h0 : Heads m (at_row n k) (shrinking f k b))
    (low : HasLocked m n i (k + 1) b even) (high : HasLocked m n i (k + 1) (b + 2 ^ k) odd) where
  pub low_used : IsUsed (at_row n k) (shrinking f k b) (k + 1) b
  low_used = inl (refl, (omega arith, inl below), (let size : 2 ^ (k + 1) ≡ 2 ^ k + 2 ^ k = next_row_size k in omega (arith, size, below)))

  pub high_used : IsUsed (at_row n k) (shrinking f k b) (k + 1) (b + 2 ^ k)
  high_used = inl (refl, (omega arith, inr (omega arith)), (let size : 2 ^ (k + 1) ≡ 2 ^ k + 2 ^ k = next_row_size k in omega (arith, size, below)))

  pub even_path : IsPath (links m) even (f.chain (k + 1) b)
  even_path = head_path m (at_row n k) (shrinking f k b) i (k + 1) b even h0 low_used low

  pub odd_path : IsPath (links m) odd (f.chain (k + 1) (b + 2 ^ k))
  odd_path = head_path m (at_row n k) (shrinking f k b) i (k + 1) (b + 2 ^ k) odd h0 high_used high

  pub even_text : (s : ℕ) → On s (f.chain (k + 1) b) → (text : List ℕ) × (h : Handle) × (at : ℕ) × (n.slot s ≡ Linked text h at) × (bucket_in (k + 1) (hash_of n.seed text) ≡ b)
  even_text s on =
      let a : (text : List ℕ) × (h : Handle) × (at : ℕ) × (n.slot s ≡ Linked text h at) × IsHome (at_row n k) (shrinking f k b) (k + 1) b (hash_of n.seed text) = c0.on_linked (k + 1) b s low_used on in
      (a.0, a.1, a.2, a.3, elim a.4 [ inl e ↦ e | inr z ↦ absurd z ])

  pub odd_text : (s : ℕ) → On s (f.chain (k + 1) (b + 2 ^ k)) → (text : List ℕ) × (h : Handle) × (at : ℕ) × (n.slot s ≡ Linked text h at) × (bucket_in (k + 1) (hash_of n.seed text) ≡ b + 2 ^ k)
  odd_text s on =
      let a : (text : List ℕ) × (h : Handle) × (at : ℕ) × (n.slot s ≡ Linked text h at) × IsHome (at_row n k) (shrinking f k b) (k + 1) (b + 2 ^ k) (hash_of n.seed text) = c0.on_linked (k + 1) (b + 2 ^ k) s high_used on in
      (a.0, a.1, a.2, a.3, elim a.4 [ inl e ↦ e | inr z ↦ absurd z ])

  pub pair_apart : (s : ℕ) → On s (f.chain (k + 1) b) → On s (f.chain (k + 1) (b + 2 ^ k)) → ⊥
  pair_apart s on too =
      let a : (text : List ℕ) × (h : Handle) × (at : ℕ) × (n.slot s ≡ Linked text h at) × (bucket_in (k + 1) (hash_of n.seed text) ≡ b) = even_text s on in
      let c : (text : List ℕ) × (h : Handle) × (at : ℕ) × (n.slot s ≡ Linked text h at) × (bucket_in (k + 1) (hash_of n.seed text) ≡ b + 2 ^ k) = odd_text s too in
      let e : a.0 ≡ c.0 = one_text n.slot s a.0 a.1 a.2 c.0 c.1 c.2 a.3 c.3 in
      let d : b ≡ b + 2 ^ k = sym a.4 ∙ ap (λ (y : List ℕ). bucket_in (k + 1) (hash_of n.seed y)) e ∙ c.4 in
      let up : 0 < 2 ^ k = row_up k in
      omega (arith, d, up)

  pub all_whole : (s : ℕ) → f.parted s ≡ Whole
  all_whole s = elim (c0.loose s) [ inl e ↦ e | inr e ↦ absurd e.4 ]

  -- an even node is on its chain alone
  pub even_only : (x : ℕ) → On x (f.chain (k + 1) b) → (r c : ℕ) → IsUsed (at_row n k) (shrinking f k b) r c → On x (f.chain r c) → (r ≡ k + 1) × (c ≡ b)
  even_only x on_x r c used on =
      let a : (text : List ℕ) × (h : Handle) × (at : ℕ) × (n.slot x ≡ Linked text h at) × (bucket_in (k + 1) (hash_of n.seed text) ≡ b) = even_text x on_x in
      let d : (text : List ℕ) × (h : Handle) × (at : ℕ) × (n.slot x ≡ Linked text h at) × IsHome (at_row n k) (shrinking f k b) r c (hash_of n.seed text) = c0.on_linked r c x used on in
      let e : d.0 ≡ a.0 = one_text n.slot x d.0 d.1 d.2 a.0 a.1 a.2 d.3 a.3 in
      let exact : bucket_in r (hash_of n.seed a.0) ≡ c = subst (λ (t : List ℕ). bucket_in r (hash_of n.seed t) ≡ c) e (elim d.4 [ inl y ↦ y | inr z ↦ absurd z ]) in
      elim used [
        | inl o ↦ (o.0, (let y : bucket_in (k + 1) (hash_of n.seed a.0) ≡ c = subst (λ (z : ℕ). bucket_in z (hash_of n.seed a.0) ≡ c) o.0 exact in sym y ∙ a.4))
        | inr o ↦ absurd (
            let y : bucket_in k (hash_of n.seed a.0) ≡ c = subst (λ (z : ℕ). bucket_in z (hash_of n.seed a.0) ≡ c) o.0 exact in
            let w : bucket_in k (hash_of n.seed a.0) ≡ b = halves_low (hash_of n.seed a.0) k b below a.4 in
            let lt : c < b = o.1 in
            omega (arith, y, w, lt))
      ]

  pub joined_here : (r c : ℕ) → r ≡ k + 1 → c ≡ b → (joining f k b).chain r c ≡ joined f.chain k b
  joined_here r c = chain_here f.chain (k + 1) b (joined f.chain k b) r c

  pub joined_elsewhere : (r c : ℕ) → (r ≡ k + 1 → c ≡ b → ⊥) → (joining f k b).chain r c ≡ f.chain r c
  joined_elsewhere r c = chain_elsewhere f.chain (k + 1) b (joined f.chain k b) r c

  on_more : (r c s : ℕ) → On s (f.chain r c) → On s ((joining f k b).chain r c)
  on_more r c s on = elim (bucket_cases (k + 1) b r c) [
    | inl e ↦ subst (On s) (sym (joined_here r c e.0 e.1))
        (on_left (f.chain (k + 1) b) (f.chain (k + 1) (b + 2 ^ k)) s (subst (λ (a : ℕ). On s (f.chain (k + 1) a)) e.1 (subst (λ (a : ℕ). On s (f.chain a c)) e.0 on)))
    | inr differ ↦ subst (On s) (sym (joined_elsewhere r c differ)) on
  ]

  pub join_chains : Once (joined f.chain k b) → Chains (at_row n k) (joining f k b)
  join_chains once = record {
    on_linked = λ r c s used on. elim (bucket_cases (k + 1) b r c) [
      | inl e ↦ elim (on_either (f.chain (k + 1) b) (f.chain (k + 1) (b + 2 ^ k)) s (subst (On s) (joined_here r c e.0 e.1) on)) [
        | inl o ↦ (
            let a : (text : List ℕ) × (h : Handle) × (at : ℕ) × (n.slot s ≡ Linked text h at) × (bucket_in (k + 1) (hash_of n.seed text) ≡ b) = even_text s o in
            (a.0, a.1, a.2, a.3, inl (ap (λ (y : ℕ). bucket_in y (hash_of n.seed a.0)) e.0 ∙ a.4 ∙ sym e.1)))
        | inr o ↦ (
            let a : (text : List ℕ) × (h : Handle) × (at : ℕ) × (n.slot s ≡ Linked text h at) × (bucket_in (k + 1) (hash_of n.seed text) ≡ b + 2 ^ k) = odd_text s o in
            (a.0, a.1, a.2, a.3, inr (e.0, halves_high (hash_of n.seed a.0) k b a.4, e.1)))
      ]
      | inr differ ↦ (
          let a : (text : List ℕ) × (h : Handle) × (at : ℕ) × (n.slot s ≡ Linked text h at) × IsHome (at_row n k) (shrinking f k b) r c (hash_of n.seed text) =
          c0.on_linked r c s used (subst (On s) (joined_elsewhere r c differ) on) in
          (a.0, a.1, a.2, a.3, elim a.4 [ inl e ↦ inl e | inr z ↦ absurd z ]))
    ];
    linked_on = λ s text h at r is to. on_more r (bucket_in r (hash_of n.seed text)) s (c0.linked_on s text h at r is to);
    once = λ r c used. elim (bucket_cases (k + 1) b r c) [
      | inl e ↦ subst Once (sym (joined_here r c e.0 e.1)) once
      | inr differ ↦ subst Once (sym (joined_elsewhere r c differ)) (c0.once r c used)
    ];
    ranked = λ r c used. elim (bucket_cases (k + 1) b r c) [
      | inl e ↦ inl e
      | inr differ ↦ elim (c0.ranked r c used) [ inl z ↦ absurd z | inr y ↦ inr (subst (AreRanked (f.base r c) (born n.slot)) (sym (joined_elsewhere r c differ)) y) ]
    ];
    bases = c0.bases;
    sides = λ r c s text h at used on is. inl (all_whole s);
    loose = λ s. inl (all_whole s);
    within = (refl, below);
  }

-- the link of the last even node is stored
module _ (m m' : Memory) (n : Now) (f : Flow) (i k b x : ℕ) (even odd : Option ℕ) (below : b < 2 ^ k) (c0 : Chains (at_row n k) (shrinking f k b)) (h0 : Heads m (at_row n k) (shrinking f k b))
    (owner : owner_of n.resizing ≡ Some i) (low : HasLocked m n i (k + 1) b even) (high : HasLocked m n i (k + 1) (b + 2 ^ k) odd)
    (on_x : On x (f.chain (k + 1) b)) (last : m (place.Link x) ≡ link_word None) (here : m' (place.Link x) ≡ link_word odd) (there : (q : Place) → q ≢ place.Link x → m' q ≡ m q) where
  pub link_was : links m x ≡ None
  link_was = ap node_of last

  pub link_is : links m' x ≡ odd
  link_is = ap node_of here ∙ node_of_link odd

  pub other_link : (s : ℕ) → s ≢ x → m' (place.Link s) ≡ m (place.Link s)
  other_link s differ = there (place.Link s) (λ (same : place.Link s ≡ place.Link x). differ cc)

  pub other_links : (s : ℕ) → s ≢ x → links m' s ≡ links m s
  other_links s differ = ap node_of (other_link s differ)

  -- a walk that meets the node goes on along the odd chain
  pub walk_joined : (node : Option ℕ) (ahead : List ℕ) → IsPath (links m) node ahead → On x ahead → IsPath (links m') node (ahead ++ f.chain (k + 1) (b + 2 ^ k))
  walk_joined node ahead path on = path_appended (links m) (links m') x odd link_was link_is other_links node ahead (f.chain (k + 1) (b + 2 ^ k)) path on
      (odd_path m n f i k b even odd below c0 h0 low high) (pair_apart m n f i k b even odd below c0 h0 low high x on_x)

  pub long_path : IsPath (links m') even (joined f.chain k b)
  long_path = walk_joined even (f.chain (k + 1) b) (even_path m n f i k b even odd below c0 h0 low high) on_x

  pub chain_links : (r c s : ℕ) → IsUsed (at_row n k) (shrinking f k b) r c → On s (f.chain r c) → (r ≡ k + 1 → c ≡ b → ⊥) → m' (place.Link s) ≡ m (place.Link s)
  chain_links r c s used on differ = other_link s (λ same.
      let only : (r ≡ k + 1) × (c ≡ b) = even_only m n f i k b even odd below c0 h0 low high x on_x r c used (subst (λ (y : ℕ). On y (f.chain r c)) same on) in
      differ only.0 only.1)

  pub join_chains_after : Chains (at_row n k) (joining f k b)
  join_chains_after = join_chains m n f i k b even odd below c0 h0 low high (path_once (links m') even (joined f.chain k b) long_path)

  pub join_heads : Heads m' (at_row n k) (joining f k b)
  join_heads = record {
    level = there place.Level (λ same. cc) ∙ h0.level;
    new_level = there place.NewLevel (λ same. cc) ∙ h0.new_level;
    owner = there place.ResizeLock (λ same. cc) ∙ h0.owner;
    paths = λ r c used. elim (bucket_cases (k + 1) b r c) [
      | inl e ↦ (
        even,
        there (place.Head r c) (λ same. cc) ∙ ap (λ (a : ℕ). m (place.Head a c)) e.0 ∙ ap (λ (a : ℕ). m (place.Head (k + 1) a)) e.1 ∙ low.1
            ∙ sym (ap (used_head even) (ap (λ (a : ℕ). n.lock a c) e.0 ∙ ap (n.lock (k + 1)) e.1 ∙ low.0)),
        subst (IsPath (links m') even) (sym (joined_here m n f i k b even odd below c0 h0 low high r c e.0 e.1)) long_path,
      )
      | inr differ ↦ (
          let along : (first : Option ℕ) × (m (place.Head r c) ≡ used_head first (n.lock r c)) × IsPath (links m) first (f.chain r c) = h0.paths r c used in (
            along.0,
            there (place.Head r c) (λ same. cc) ∙ along.1,
            subst (IsPath (links m') along.0) (sym (joined_elsewhere m n f i k b even odd below c0 h0 low high r c differ))
                (path_kept (links m) (links m') along.0 (f.chain r c) (λ s on. ap node_of (chain_links r c s used on differ)) along.2),
          ))
    ];
    behind = λ r c old. let was : (first : Option ℕ) × (m (place.Head r c) ≡ redirected_head first) = h0.behind r c old in (was.0, there (place.Head r c) (λ same. cc) ∙ was.1);
    held = h0.held;
    gone = h0.gone;
    pinned = λ r c pin. (i, owner, ap (λ (a : ℕ). n.lock a c) pin.0 ∙ elim pin.1 [ inl e ↦ ap (n.lock (k + 1)) e ∙ low.0 | inr e ↦ ap (n.lock (k + 1)) e ∙ high.0 ]);
  }
