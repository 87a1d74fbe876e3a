-- The edge to a node of the other side leads past it.
use Rattle.std.proofs.Common.{◌≡◌, ◌≢◌, ℕ, ◌+◌, ◌*◌, ◌/◌, ◌%◌, ◌^◌, ◌<◌, ◌⊎◌, ◌&&◌, inl, inr, Bool, true, false, cond, List, [], ◌∷◌, ◌++◌, Option, Some, None, refl, sym, ap, subst, ◌∙◌, arith}
use Rattle.std.proofs.Math.Nat.{add-mul-mod_self_left, mod-add-div, mod-eq_of_lt, mod-lt}
use Rattle.std.proofs.lemmas.Bool.{cases_eq, eq-eqb, ne_eqb, eqb-true, eqb-false}
use Rattle.std.specs.Prelude.{◌==◌, nat_eq}
use Rattle.chain_core.specs.Nodes.{On}
use Rattle.chain_core.specs.Path.{IsPath, without}
use Rattle.chain_core.proofs.Members.{on_left, on_right}
use Rattle.chain_core.proofs.Stores.{head_past}
use Rattle.text_words.specs.Hash.{hash_of}
use Rattle.marked_word.specs.Head.{first_of}
use Rattle.marked_word.specs.Link.{link_word, node_of}
use Rattle.table_shape.specs.declared.place.Place.TheVariants as place
use Rattle.intern_log.specs.Now.{Now}
use Rattle.atomic_step.specs.declared.step.Step.TheVariants as step
use Rattle.atomic_step.specs.Step.{locked_head, edge_place}
use Rattle.call_machine.specs.declared.resize.Chain.{Chain}
use Rattle.call_machine.specs.declared.resize.Chains as pairs
use Rattle.call_machine.specs.declared.resize.Side as sides
use Rattle.call_machine.specs.declared.resize.Side.TheVariants.{Even, Odd}
use Rattle.call_machine.specs.Pass.{first_behind}
use Rattle.call_machine.specs.Resize.{side_of, other, chain_at, edge_from}
use Rattle.cht_core.specs.Chains.{Chains}
use Rattle.cht_core.specs.Flow.{Flow, IsUsed, IsHome, with_chain, is_on, leaves, chain_moved, with_parted, parted_moved}
use Rattle.cht_core.specs.Heads.{Heads, used_head}
use Rattle.cht_core.specs.KnowsResize.{Side, Unzipping, Grade, Over, IsLast, IsOfSide, side_bucket}
use Rattle.cht_core.specs.Memory.{Memory, IsMade, links}
use Rattle.cht_core.specs.Stage.{Stage, Splitting, Pending, bucket_in, IsMixed}
use Rattle.cht_core.proofs.Basics.{with_here, with_other}
use Rattle.cht_core.proofs.Buckets.{head_of_bucket}
use Rattle.cht_core.proofs.HeadWords.{node_of_link, first_of_head, one_first}
use Rattle.cht_core.proofs.MoveParts.{IsHalf, Moving, Moved, half_in, half_used, one_text, only_lost}
use Rattle.cht_core.proofs.MoveTable.{Passed}
use Rattle.cht_core.proofs.Relinks.{IsNoEdge}
use Rattle.cht_core.proofs.Stages.{row_up, bucket_below, next_row_size}
use Rattle.cht_core.proofs.Withouts.{path_without, goes_past}

-- SIDES

-- the bit of a hash tells in which half of its bucket it is
bit_low : (hash level : ℕ) → hash / 2 ^ level % 2 ≡ 0 → bucket_in (level + 1) hash ≡ bucket_in level hash
bit_low hash level is = subst (λ (size : ℕ). hash % size ≡ bucket_in level hash) (sym (next_row_size level)) (low (2 ^ level) (hash / 2 ^ level) (hash / 2 ^ level / 2) (hash % 2 ^ level)
    (mod-add-div hash (2 ^ level)) (mod-add-div (hash / 2 ^ level) 2) (bucket_below level hash))
  where
    twice : (c r e : ℕ) → r + c * (0 + 2 * e) ≡ r + (c + c) * e
    twice c r e = grind arith

    low : (c q e r : ℕ) → r + c * q ≡ hash → hash / 2 ^ level % 2 + 2 * e ≡ q → r < c → hash % (c + c) ≡ r
    low c q e r whole parts less =
        let even : 0 + 2 * e ≡ q = ap (λ (k : ℕ). k + 2 * e) (sym is) ∙ parts in
        let sum : hash ≡ r + (c + c) * e = sym whole ∙ ap (λ (k : ℕ). r + c * k) (sym even) ∙ twice c r e in
        ap (λ (k : ℕ). k % (c + c)) sum ∙ add-mul-mod_self_left r (c + c) e ∙ mod-eq_of_lt (omega (arith, less))

bit_high : (hash level : ℕ) → hash / 2 ^ level % 2 ≡ 1 → bucket_in (level + 1) hash ≡ bucket_in level hash + 2 ^ level
bit_high hash level is = subst (λ (size : ℕ). hash % size ≡ bucket_in level hash + 2 ^ level) (sym (next_row_size level)) (high (2 ^ level) (hash / 2 ^ level) (hash / 2 ^ level / 2) (hash % 2 ^ level)
    (mod-add-div hash (2 ^ level)) (mod-add-div (hash / 2 ^ level) 2) (bucket_below level hash))
  where
    twice : (c r e : ℕ) → r + c * (1 + 2 * e) ≡ (r + c) + (c + c) * e
    twice c r e = grind arith

    high : (c q e r : ℕ) → r + c * q ≡ hash → hash / 2 ^ level % 2 + 2 * e ≡ q → r < c → hash % (c + c) ≡ r + c
    high c q e r whole parts less =
        let odd : 1 + 2 * e ≡ q = ap (λ (k : ℕ). k + 2 * e) (sym is) ∙ parts in
        let sum : hash ≡ (r + c) + (c + c) * e = sym whole ∙ ap (λ (k : ℕ). r + c * k) (sym odd) ∙ twice c r e in
        ap (λ (k : ℕ). k % (c + c)) sum ∙ add-mul-mod_self_left (r + c) (c + c) e ∙ mod-eq_of_lt (omega (arith, less))

-- a text of a side is in the bucket of that side
pub side_is : (level b hash : ℕ) (side : sides.Side) → side_of level hash ≡ side → bucket_in level hash ≡ b → bucket_in (level + 1) hash ≡ side_bucket level b side
side_is level b hash side is mine = go side (hash / 2 ^ level % 2 == 1) refl is
  where
    go : (side : sides.Side) (c : Bool) → (hash / 2 ^ level % 2 == 1) ≡ c → cond c Odd Even ≡ side → bucket_in (level + 1) hash ≡ side_bucket level b side
    go Even true at e = absurd (cc)
    go Odd false at e = absurd (cc)
    go Odd true at e = bit_high hash level (eqb-true (hash / 2 ^ level % 2) 1 at) ∙ ap (λ (k : ℕ). k + 2 ^ level) mine
    go Even false at e =
        let ne : hash / 2 ^ level % 2 ≢ 1 = eqb-false (hash / 2 ^ level % 2) 1 at in
        let less : hash / 2 ^ level % 2 < 2 = mod-lt (hash / 2 ^ level) (omega arith) in
        bit_low hash level (omega (arith, ne, less)) ∙ mine

pub side_half : (level b : ℕ) (side : sides.Side) → IsHalf level b (side_bucket level b side)
side_half level b Even = inl refl
side_half level b Odd = inr refl

pub side_two : (level b : ℕ) (side : sides.Side) → side_bucket level b side ≢ side_bucket level b (other side)
side_two level b Even same = let up : 0 < 2 ^ level = row_up level in omega (arith, up, same)
side_two level b Odd same = let up : 0 < 2 ^ level = row_up level in omega (arith, up, same)

abbrev pub side_at : (m : Memory) (n : Now) (f : Flow) (i level b : ℕ) (chains : pairs.Chains) (node : Option ℕ) (grade : Grade) (u : Unzipping m n f i level b chains node grade) (side : sides.Side)
    → Side m n f i level (side_bucket level b side) (chain_at chains side) u.rest grade
side_at m n f i level b chains at grade u Even = u.even
side_at m n f i level b chains at grade u Odd = u.odd

-- what is on a chain of the bucket is of the bucket
pub home_in : (n : Now) (f : Flow) (b c hash : ℕ) → f.stage ≡ Splitting b → b < 2 ^ n.level → IsHalf n.level b c → IsHome n f (n.level + 1) c hash → bucket_in n.level hash ≡ b
home_in n f b c hash stage below half home = elim (subst (λ (st : Stage). (bucket_in (n.level + 1) hash ≡ c) ⊎ IsMixed st n.level (n.level + 1) c hash) stage home) [
  | inl exact ↦ half_in n.level b c hash below half exact
  | inr mixed ↦ mixed.1
]

-- a path from a node begins with it
pub path_starts : (next : ℕ → Option ℕ) (x : ℕ) (nodes : List ℕ) → IsPath next (Some x) nodes → (rest : List ℕ) × (nodes ≡ x ∷ rest)
path_starts next x [] path = absurd (cc)
path_starts next x (y ∷ nodes) path = (nodes, let same : Some x ≡ Some y = path.0 in let e : y ≡ x = cc in ap (λ (a : ℕ). a ∷ nodes) e)

-- a side has the nodes of its own however the rest is named
pub with_rest : (m : Memory) (n : Now) (f : Flow) (i level c : ℕ) (chain : Chain) (rest other : List ℕ) → rest ≡ other → (side : Side m n f i level c chain rest Over)
    → (same : Side m n f i level c chain other Over) × (same.own ≡ side.own)
with_rest m n f i level c chain rest other is side = subst (λ (nodes : List ℕ). (same : Side m n f i level c chain nodes Over) × (same.own ≡ side.own)) is (side, refl)

-- the two sides as the mover has them
abbrev pub MovesAt : Memory → Now → Flow → ℕ → ℕ → pairs.Chains → ℕ → sides.Side → List ℕ → List ℕ → List ℕ → Type 0
MovesAt m n f i b chains x side rest won lost = (later : List ℕ) × (rest ≡ x ∷ later)
    × (h : Moving m n f i b (side_bucket n.level b side) (side_bucket n.level b (other side)) x (chain_at chains side) (chain_at chains (other side)) later)
    × (h.won.own ≡ won) × (h.lost.own ≡ lost)

pub moving : (m : Memory) (n : Now) (f : Flow) (i b : ℕ) (chains : pairs.Chains) (x : ℕ) (side : sides.Side) → Chains n f → (u : Unzipping m n f i n.level b chains (Some x) Over) → IsOfSide n n.level x side
    → MovesAt m n f i b chains x side u.rest (side_at m n f i n.level b chains (Some x) Over u side).own (side_at m n f i n.level b chains (Some x) Over u (other side)).own
moving m n f i b chains x side has u of_side =
    let begins : (rest : List ℕ) × (u.rest ≡ x ∷ rest) = path_starts (links m) x u.rest u.path in
    let stage : f.stage ≡ Splitting b = u.resizing.at_stage in
    let low : On x (f.chain (n.level + 1) b) = subst (λ (nodes : List ℕ). On x nodes) (sym u.even.order) (on_right u.even.own u.rest x (subst (λ (nodes : List ℕ). On x nodes) (sym begins.1) (inl refl))) in
    let there = has.on_linked (n.level + 1) b x (half_used n f b b stage (inl refl)) low in
    let texts : there.0 ≡ of_side.0 = one_text n.slot x there.0 there.1 there.2 of_side.0 of_side.1 of_side.2 there.3 of_side.3 in
    let mine : bucket_in n.level (hash_of n.seed of_side.0) ≡ b =
    home_in n f b b (hash_of n.seed of_side.0) stage u.below (inl refl) (subst (λ (text : List ℕ). IsHome n f (n.level + 1) b (hash_of n.seed text)) texts there.4) in
    let won = with_rest m n f i n.level (side_bucket n.level b side) (chain_at chains side) u.rest (x ∷ begins.0) begins.1 (side_at m n f i n.level b chains (Some x) Over u side) in
    let lost = with_rest m n f i n.level (side_bucket n.level b (other side)) (chain_at chains (other side)) u.rest (x ∷ begins.0) begins.1
    (side_at m n f i n.level b chains (Some x) Over u (other side)) in (
      begins.0,
      begins.1,
      record {
        stage = stage;
        below = u.below;
        owner = u.resizing.owner;
        win = side_half n.level b side;
        lose = side_half n.level b (other side);
        two = side_two n.level b side;
        text = of_side.0;
        handle = of_side.1;
        made = of_side.2;
        at = of_side.3;
        in_half = side_is n.level b (hash_of n.seed of_side.0) side of_side.4 mine;
        won = won.0;
        lost = lost.0;
      },
      won.1,
      lost.1,
    )

-- EDGES

is_on_true : (node : ℕ) (nodes : List ℕ) → On node nodes → is_on node nodes ≡ true
is_on_true node [] on = absurd on
is_on_true node (x ∷ nodes) on = elim (cases_eq x node) [
  | inl same ↦ ap (λ (c : Bool). cond c true (is_on node nodes)) (eq-eqb x node same)
  | inr differ ↦ ap (λ (c : Bool). cond c true (is_on node nodes)) (ne_eqb x node differ) ∙ elim on [ inl here ↦ absurd (differ here) | inr later ↦ is_on_true node nodes later ]
]

is_on_false : (node : ℕ) (nodes : List ℕ) → (On node nodes → ⊥) → is_on node nodes ≡ false
is_on_false node [] off = refl
is_on_false node (x ∷ nodes) off = ap (λ (c : Bool). cond c true (is_on node nodes)) (ne_eqb x node (λ same. off (inl same))) ∙ is_on_false node nodes (λ on. off (inr on))

-- the chain of a head, and those of the others
chain_here : (chain : ℕ → ℕ → List ℕ) (row bucket : ℕ) (nodes : List ℕ) → with_chain chain row bucket nodes row bucket ≡ nodes
chain_here chain row bucket nodes =
    ap (λ c. cond (c && nat_eq bucket bucket) nodes (chain row bucket)) (eq-eqb row row refl) ∙ ap (λ c. cond (true && c) nodes (chain row bucket)) (eq-eqb bucket bucket refl)

chain_away : (chain : ℕ → ℕ → List ℕ) (row bucket : ℕ) (nodes : List ℕ) (r b : ℕ) → (r ≡ row → b ≡ bucket → ⊥) → with_chain chain row bucket nodes r b ≡ chain r b
chain_away chain row bucket nodes r b differ = elim (cases_eq r row) [
  | inr rows ↦ ap (λ c. cond (c && nat_eq b bucket) nodes (chain r b)) (ne_eqb r row rows)
  | inl rows ↦ ap (λ c. cond (c && nat_eq b bucket) nodes (chain r b)) (eq-eqb r row rows) ∙ ap (λ c. cond (true && c) nodes (chain r b)) (ne_eqb b bucket (differ rows))
]

-- the last of some nodes leads to the first of the others
last_leads : (next : ℕ → Option ℕ) (first : Option ℕ) (front : List ℕ) (last x : ℕ) (rest : List ℕ) → IsPath next first ((front ++ last ∷ []) ++ x ∷ rest) → next last ≡ Some x
last_leads next first [] last x rest path = path.1.0
last_leads next first (y ∷ front) last x rest path = last_leads next (next y) front last x rest path.1

-- a head that is locked leads along its chain
pub half_path : (m : Memory) (n : Now) (f : Flow) (i row bucket : ℕ) (first : Option ℕ) → Heads m n f → IsUsed n f row bucket → n.lock row bucket ≡ Some i → m (place.Head row bucket) ≡ locked_head first
    → IsPath (links m) first (f.chain row bucket)
half_path m n f i row bucket first heads used lock head =
    let along = heads.paths row bucket used in
    let word : used_head along.0 (Some i) ≡ used_head first (Some i) = sym (along.1 ∙ ap (used_head along.0) lock) ∙ head in
    subst (λ (start : Option ℕ). IsPath (links m) start (f.chain row bucket)) (one_first along.0 first (Some i) word) along.2

module _ (m m' : Memory) (n : Now) (f : Flow) (i b winner loser x : ℕ) (won_chain lost_chain : Chain) (rest : List ℕ) (chains : Chains n f) (heads : Heads m n f)
    (h : Moving m n f i b winner loser x won_chain lost_chain rest) (next : Option ℕ) (link : m (place.Link x) ≡ link_word next) where
  lost_used : IsUsed n f (n.level + 1) loser
  lost_used = half_used n f b loser h.stage h.lose

  lost_path : IsPath (links m) lost_chain.first (f.chain (n.level + 1) loser)
  lost_path = half_path m n f i (n.level + 1) loser lost_chain.first heads lost_used h.lost.locked.0 h.lost.locked.1

  abbrev pub EdgeMade : Option ℕ → Type 0
  EdgeMade last = Moved n f loser x (chain_moved (edge_from (n.level + 1) loser last) (m (edge_place (edge_from (n.level + 1) loser last))) f.chain)
      (parted_moved (edge_from (n.level + 1) loser last) (m (edge_place (edge_from (n.level + 1) loser last))) f.parted)
      × Passed m m' h.lost.own (n.level + 1) loser x (f.chain (n.level + 1) loser) (first_behind last lost_chain.first next)

  pub edge_made : (last : Option ℕ) → IsLast last h.lost.own → IsMade (step.MoveEdge (edge_from (n.level + 1) loser last) next) m m' → EdgeMade last
  edge_made None is made =
      let same : links m' ≡ links m = λ k s. node_of (made.there (place.Link s) (λ e. cc) k) in
      let starts : lost_chain.first ≡ Some x =
      (subst (λ (nodes : List ℕ). IsPath (links m) lost_chain.first (nodes ++ x ∷ rest)) is (subst (λ (nodes : List ℕ). IsPath (links m) lost_chain.first nodes) h.lost.order lost_path)).0 in
      let found : first_of (m (place.Head (n.level + 1) loser)) ≡ Some x = ap first_of h.lost.locked.1 ∙ first_of_head lost_chain.first (Some i) ∙ starts in
      let after : links m x ≡ next = ap node_of link ∙ node_of_link next in (
        record {
          here = chain_here f.chain (n.level + 1) loser (leaves (first_of (m (place.Head (n.level + 1) loser))) (f.chain (n.level + 1) loser)) ∙ ap (λ (o : Option ℕ). leaves o (f.chain (n.level + 1) loser)) found;
          away = λ row bucket used differ. chain_away f.chain (n.level + 1) loser (leaves (first_of (m (place.Head (n.level + 1) loser))) (f.chain (n.level + 1) loser)) row bucket differ;
          pending = ap (λ (o : Option ℕ). with_parted f.parted o x) found ∙ with_here f.parted x Pending x refl;
          others = λ s differ. ap (λ (o : Option ℕ). with_parted f.parted o s) found ∙ with_other f.parted x Pending s differ;
        },
        record {
          heads = λ r c differ. made.there (place.Head r c) (λ e. let both = head_of_bucket (n.level + 1) loser r c e in differ both.0 both.1);
          elsewhere = λ s off. made.there (place.Link s) (λ e. cc);
          others = λ q none. made.there q (λ e. subst IsNoEdge e none);
          head = made.here;
          path = subst (λ (links' : ℕ → Option ℕ). IsPath links' next (without x (f.chain (n.level + 1) loser))) (sym same)
              (subst (λ (start : Option ℕ). IsPath (links m) start (without x (f.chain (n.level + 1) loser))) after
              (head_past (links m) x (f.chain (n.level + 1) loser) (subst (λ (start : Option ℕ). IsPath (links m) start (f.chain (n.level + 1) loser)) starts lost_path)));
          ways = λ from nodes way. record {
            left = nodes;
            path = subst (λ (links' : ℕ → Option ℕ). IsPath links' from nodes) (sym same) way;
            fresh = λ s on. on;
            kept = λ s on. inl on;
          };
        },
      )
  edge_made (Some last) is made =
      let others : (s : ℕ) → s ≢ last → m' (place.Link s) ≡ m (place.Link s) = λ s differ. made.there (place.Link s) (λ (e : place.Link s ≡ place.Link last). differ (cc)) in
      let other_links : (s : ℕ) → s ≢ last → links m' s ≡ links m s = λ s differ. ap node_of (others s differ) in
      let own : On last h.lost.own = subst (λ (nodes : List ℕ). On last nodes) (sym is.1) (on_right is.0 (last ∷ []) last (inl refl)) in
      let on : On last (f.chain (n.level + 1) loser) = subst (λ (nodes : List ℕ). On last nodes) (sym h.lost.order) (on_left h.lost.own (x ∷ rest) last own) in
      let before : links m last ≡ Some x = last_leads (links m) lost_chain.first is.0 last x rest
      (subst (λ (nodes : List ℕ). IsPath (links m) lost_chain.first (nodes ++ x ∷ rest)) is.1 (subst (λ (nodes : List ℕ). IsPath (links m) lost_chain.first nodes) h.lost.order lost_path)) in
      let after : links m' last ≡ links m x = ap node_of made.here ∙ ap node_of (sym link) in (
        record {
          here = ap (λ (c : Bool). cond c (leaves (links m last) (f.chain (n.level + 1) loser)) (f.chain (n.level + 1) loser)) (is_on_true last (f.chain (n.level + 1) loser) on)
              ∙ ap (λ (o : Option ℕ). leaves o (f.chain (n.level + 1) loser)) before;
          away = λ row bucket used differ. ap (λ (c : Bool). cond c (leaves (links m last) (f.chain row bucket)) (f.chain row bucket)) (is_on_false last (f.chain row bucket)
              (λ there. let both = only_lost m n f i b winner loser x won_chain lost_chain rest chains h last row bucket own used there in differ both.0 both.1));
          pending = ap (λ (o : Option ℕ). with_parted f.parted o x) before ∙ with_here f.parted x Pending x refl;
          others = λ s differ. ap (λ (o : Option ℕ). with_parted f.parted o s) before ∙ with_other f.parted x Pending s differ;
        },
        record {
          heads = λ r c differ. made.there (place.Head r c) (λ e. cc);
          elsewhere = λ s off. others s (λ same. off (subst (λ (a : ℕ). On a h.lost.own) (sym same) own));
          others = λ q none. made.there q (λ e. subst IsNoEdge e none);
          head = made.there (place.Head (n.level + 1) loser) (λ e. cc) ∙ h.lost.locked.1;
          path = path_without (links m) (links m') last x before after other_links lost_chain.first (f.chain (n.level + 1) loser) lost_path on;
          ways = λ from nodes way. goes_past (links m) (links m') last x before after other_links from nodes way;
        },
      )
