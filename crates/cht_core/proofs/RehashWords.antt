-- The words of a table that is made anew may stand in it, and show its slots by the new seed.
use Rattle.std.proofs.Common.{◌≡◌, ℕ, ◌+◌, ◌-◌, ◌*◌, ◌%◌, ◌^◌, ◌<◌, ◌≤◌, ◌⊎◌, Bool, true, false, ◌||◌, nat_lt, List, [], ◌∷◌, length, Option, Some, None, IfSome, inl, inr, refl, sym, ap, subst, ◌∙◌, arith}
use Rattle.std.proofs.Math.Nat.{mod-lt}
use Rattle.std.proofs.lemmas.Bool.{cases_eq}
use Rattle.std.proofs.lemmas.Bool.Decides.{nat_tests}
use Rattle.std.proofs.lemmas.Nat.{pow_pos}
use Rattle.chain_core.specs.Nodes.{On}
use Rattle.chain_core.specs.Path.{IsPath}
use Rattle.text_words.specs.Hash.{hash_of}
use Rattle.text_words.proofs.Hashes.{hash_of_32}
use Rattle.marked_word.specs.Link.{link_word}
use Rattle.marked_word.specs.Meta.{meta_word}
use Rattle.table_shape.specs.declared.place.Place.{Place}
use Rattle.table_shape.specs.declared.place.Place.TheVariants as place
use Rattle.intern_log.specs.declared.event.Handle.{Handle}
use Rattle.intern_log.specs.Buckets.{bucket_of}
use Rattle.intern_log.specs.Now.{Now, Phase, Vacant, Claimed, Linked, Unlinked}
use Rattle.atomic_step.specs.Count.{generation_of, holds_of}
use Rattle.atomic_step.specs.Table.{IsWordAt}
use Rattle.call_machine.specs.Sought.{meta_of}
use Rattle.cht_core.specs.declared.table.Table.{Table}
use Rattle.cht_core.specs.Flow.{Flow}
use Rattle.cht_core.specs.Heads.{used_head}
use Rattle.cht_core.specs.Memory.{Memory, links, is_inside}
use Rattle.cht_core.specs.Past.{Past, by, past_after}
use Rattle.cht_core.specs.Rehash.{IsRehashed, IsMadeAnew, IsAnew, by_next_seed, seeds}
use Rattle.cht_core.specs.Search.{IsLinked}
use Rattle.cht_core.specs.Shows.{IsOfBucket}
use Rattle.cht_core.specs.Slots.{Slots, IsPast}
use Rattle.cht_core.specs.TableState.{IsTable, Words}
use Rattle.cht_core.proofs.HeadWords.{link_of_node}
use Rattle.cht_core.proofs.Walks.{held_inside}
use Rattle.cht_core.proofs.WordsKept.{inside_is_true, slots_few}

-- the first node of a path is on it, if there is one
first_on : (next : ℕ → Option ℕ) (first : Option ℕ) (nodes : List ℕ) → IsPath next first nodes → IfSome first (λ x. On x nodes)
first_on next first [] path = subst (λ (o : Option ℕ). IfSome o (λ x. On x [])) (sym path) tt
first_on next first (x ∷ nodes) path = subst (λ (o : Option ℕ). IfSome o (λ y. On y (x ∷ nodes))) (sym path.0) (inl refl)

more_on : (o : Option ℕ) (x : ℕ) (nodes : List ℕ) → IfSome o (λ y. On y nodes) → IfSome o (λ y. On y (x ∷ nodes))
more_on None x nodes on = tt
more_on (Some y) x nodes on = inr on

-- and so is the node after each of its nodes
next_on : (next : ℕ → Option ℕ) (first : Option ℕ) (nodes : List ℕ) (s : ℕ) → IsPath next first nodes → On s nodes → IfSome (next s) (λ x. On x nodes)
next_on next first [] s path on = absurd on
next_on next first (x ∷ nodes) s path (inl is) = subst (λ y. IfSome (next y) (λ z. On z (x ∷ nodes))) is (more_on (next x) x nodes (first_on next (next x) nodes path.1))
next_on next first (x ∷ nodes) s path (inr on) = more_on (next s) x nodes (next_on next (next x) nodes s path.1 on)

some_more : (P Q : ℕ → Type 0) (o : Option ℕ) → ((x : ℕ) → P x → Q x) → IfSome o P → IfSome o Q
some_more P Q None more had = tt
some_more P Q (Some x) more had = more x had

-- a slot is linked or not
linked_or_not : (n : Now) (s : ℕ) → IsLinked n s ⊎ (IsLinked n s → ⊥)
linked_or_not n s = go (n.slot s) refl
  where
    go : (phase : Phase) → n.slot s ≡ phase → IsLinked n s ⊎ (IsLinked n s → ⊥)
    go (Linked text h born) is = inl (text, h, born, is)
    go Vacant is = inr (λ linked. let other : n.slot s ≡ Linked linked.0 linked.1 linked.2 = linked.3 in cc)
    go (Claimed i) is = inr (λ linked. let other : n.slot s ≡ Linked linked.0 linked.1 linked.2 = linked.3 in cc)
    go (Unlinked i at) is = inr (λ linked. let other : n.slot s ≡ Linked linked.0 linked.1 linked.2 = linked.3 in cc)

-- a number is below a bound or not
pub below_or_not : (number bound : ℕ) → (number < bound) ⊎ (number < bound → ⊥)
below_or_not number bound = go (nat_lt number bound) refl
  where
    go : (b : Bool) → nat_lt number bound ≡ b → (number < bound) ⊎ (number < bound → ⊥)
    go true is = inl (grind (arith, nat_tests))
    go false is = inr (λ below. absurd (grind (arith, nat_tests)))

-- a word is made anew or not
pub anew_or_not : (n : Now) (q : Place) → IsAnew n q ⊎ (IsAnew n q → ⊥)
anew_or_not n (place.Head row bucket) = elim (cases_eq row n.level) [
  | inr differ ↦ inr (λ new. differ new.0)
  | inl same ↦ elim (below_or_not bucket (2 ^ row)) [ inl below ↦ inl (same, below) | inr not ↦ inr (λ new. not new.1) ]
]
anew_or_not n (place.Link s) = linked_or_not n s
anew_or_not n (place.Meta s) = linked_or_not n s
anew_or_not n place.Draws = inr (λ new. new)
anew_or_not n place.Counter = inr (λ new. new)
anew_or_not n place.ResizeLock = inr (λ new. new)
anew_or_not n place.Level = inr (λ new. new)
anew_or_not n place.NewLevel = inr (λ new. new)
anew_or_not n (place.Section k) = inr (λ new. new)
anew_or_not n (place.Claim s) = inr (λ new. new)
anew_or_not n (place.Count s) = inr (λ new. new)
anew_or_not n (place.Text s at) = inr (λ new. new)

-- the bucket of a text is one of its row
pub bucket_below : (seed level : ℕ) (text : List ℕ) → bucket_of seed level text < 2 ^ level
bucket_below seed level text = mod-lt (hash_of seed text) (pow_pos level)

module _ (t : Table) (m m' : Memory) (p : Past) (f : Flow) (table : IsTable t m p f) (made : IsRehashed m m' (by_next_seed p.now)) where
  -- no node, or a slot of the table
  abbrev IsNode : Option ℕ → Type 0
  IsNode node = IfSome node (λ x. x < t.shape.slots)

  linked_inside : (s : ℕ) → IsLinked p.now s → s < t.shape.slots
  linked_inside s linked = held_inside t m p f table 0 s (inl linked)

  -- the nodes of a bucket are slots of the table
  node_inside : (bucket : ℕ) (r : IsMadeAnew m' (by_next_seed p.now) bucket) (x : ℕ) → On x r.nodes → x < t.shape.slots
  node_inside bucket r x on =
      let of : IsOfBucket (by_next_seed p.now) bucket x = (r.slots x).0 on in
      linked_inside x (of.0, of.1, of.2, of.3)

  head_node : (bucket : ℕ) (r : IsMadeAnew m' (by_next_seed p.now) bucket) → IsNode r.first
  head_node bucket r = some_more (λ x. On x r.nodes) (λ x. x < t.shape.slots) r.first (node_inside bucket r) (first_on (links m') r.first r.nodes r.path)

  -- the link of a linked slot leads to a slot of the table
  link_node : (s : ℕ) → IsLinked p.now s → IsNode (links m' s)
  link_node s linked =
      let bucket : ℕ = bucket_of (p.now.seed + 1) p.now.level linked.0 in
      let r : IsMadeAnew m' (by_next_seed p.now) bucket = made.chains bucket (bucket_below (p.now.seed + 1) p.now.level linked.0) in
      let on : On s r.nodes = (r.slots s).1 (linked.0, linked.1, linked.2, linked.3, refl) in
      some_more (λ x. On x r.nodes) (λ x. x < t.shape.slots) (links m' s) (node_inside bucket r) (next_on (links m') r.first r.nodes s r.path on)

  -- what holds of each word as it was, and of each that is made anew, holds of each word after it
  module _ (P : Place → ℕ → Type 0)
      (heads : (bucket : ℕ) (first : Option ℕ) → bucket < 2 ^ p.now.level → IsNode first → P (place.Head p.now.level bucket) (used_head first None))
      (nodes : (s : ℕ) (node : Option ℕ) → s < t.shape.slots → IsNode node → P (place.Link s) (link_word node))
      (metas : (s : ℕ) (text : List ℕ) (h : Handle) (born : ℕ) → s < t.shape.slots → p.now.slot s ≡ Linked text h born → P (place.Meta s) (meta_word (meta_of (p.now.seed + 1) text)))
      (before : (q : Place) → P q (m q)) where
    anew_word : (q : Place) → IsAnew (by_next_seed p.now) q → P q (m' q)
    anew_word (place.Head row bucket) new =
        let below : bucket < 2 ^ p.now.level = subst (λ r. bucket < 2 ^ r) new.0 new.1 in
        let r : IsMadeAnew m' (by_next_seed p.now) bucket = made.chains bucket below in
        subst (λ r. P (place.Head r bucket) (m' (place.Head r bucket))) (sym new.0)
        (subst (P (place.Head p.now.level bucket)) (sym r.head) (heads bucket r.first below (head_node bucket r)))
    anew_word (place.Link s) linked = subst (P (place.Link s)) (link_of_node (m' (place.Link s))) (nodes s (links m' s) (linked_inside s linked) (link_node s linked))
    anew_word (place.Meta s) linked =
        subst (P (place.Meta s)) (sym (made.metas s linked.0 linked.1 linked.2 linked.3)) (metas s linked.0 linked.1 linked.2 (linked_inside s linked) linked.3)
    anew_word place.Draws new = absurd new
    anew_word place.Counter new = absurd new
    anew_word place.ResizeLock new = absurd new
    anew_word place.Level new = absurd new
    anew_word place.NewLevel new = absurd new
    anew_word (place.Section k) new = absurd new
    anew_word (place.Claim s) new = absurd new
    anew_word (place.Count s) new = absurd new
    anew_word (place.Text s at) new = absurd new

    each_word : (q : Place) → P q (m' q)
    each_word q = elim (anew_or_not (by_next_seed p.now) q) [ inl new ↦ anew_word q new | inr old ↦ subst (P q) (sym (made.stay q old)) (before q) ]

  few : t.shape.slots ≤ 134217728
  few = slots_few t.shape table.shape

  head_sound : (row bucket : ℕ) (first : Option ℕ) → IsNode first → IsWordAt t.shape (place.Head row bucket) (used_head first None)
  head_sound row bucket None inside = (omega arith, (λ is. absurd (omega (arith, is))))
  head_sound row bucket (Some x) inside = (omega (arith, inside), (λ is. absurd (omega (arith, is))))

  head_small : (first : Option ℕ) → IsNode first → used_head first None < 2 ^ 64
  head_small None inside = omega arith
  head_small (Some x) inside = let most = few in omega (arith, inside, most)

  link_sound : (node : Option ℕ) → IsNode node → link_word node ≤ t.shape.slots
  link_sound None inside = omega arith
  link_sound (Some x) inside = omega (arith, inside)

  hash_small : (text : List ℕ) → hash_of (p.now.seed + 1) text < 4294967296
  hash_small text = let most : p.now.seed ≤ 2 = table.tidy.seed in hash_of_32 (p.now.seed + 1) text (omega (arith, most))

  meta_sound : (s : ℕ) (text : List ℕ) (h : Handle) (born : ℕ) → p.now.slot s ≡ Linked text h born → IsWordAt t.shape (place.Meta s) (meta_word (meta_of (p.now.seed + 1) text))
  meta_sound s text h born is =
      let hash = hash_small text in
      let room = table.slots.rooms s text h born is in
      let short : length text ≤ 65535 = room.0.0 in
      let fits : length text ≤ 8 * t.shape.text_words = room.0.1 in
      go (hash_of (p.now.seed + 1) text) (length text) (8 * t.shape.text_words) hash short fits
    where
      go : (hash bytes most : ℕ) → hash < 4294967296 → bytes ≤ 65535 → bytes ≤ most → (hash * 65536 + bytes < 2 ^ 48) × ((hash * 65536 + bytes) % 65536 ≤ most)
      go hash bytes most small short fits = (omega (arith, small, short), omega (arith, short, fits))

  -- each word may stand where it does
  pub words_anew : Words t m'
  words_anew = record {
    sound = each_word (λ q w. IsWordAt t.shape q w)
        (λ bucket first below inside. head_sound p.now.level bucket first inside)
        (λ s node within inside. link_sound node inside)
        (λ s text h born within is. meta_sound s text h born is)
        table.words.sound;
    small = each_word (λ q w. w < 2 ^ 64)
        (λ bucket first below inside. head_small first inside)
        (λ s node within inside. let most = few in let word = link_sound node inside in omega (arith, most, word))
        (λ s text h born within is. let word = (meta_sound s text h born is).0 in omega (arith, word))
        table.words.small;
    counter = subst (λ w. w ≤ 2 ^ 64 - 4) (sym (made.stay place.Counter (λ new. new))) table.words.counter;
    outside = each_word (λ q w. is_inside t.shape q ≡ false → w ≡ 0)
        (λ bucket first below inside out.
        let here : is_inside t.shape (place.Head p.now.level bucket) ≡ true = inside_is_true t.shape (place.Head p.now.level bucket) (table.tidy.level.0, table.tidy.level.1, below) in
        absurd (cc))
        (λ s node within inside out. let here : is_inside t.shape (place.Link s) ≡ true = inside_is_true t.shape (place.Link s) within in absurd (cc))
        (λ s text h born within is out. let here : is_inside t.shape (place.Meta s) ≡ true = inside_is_true t.shape (place.Meta s) within in absurd (cc))
        table.words.outside;
  }

  abbrev pub after : Past
  after = past_after p (by 0 (seeds p.now))

  -- no handle is created
  not_made : (h : Handle) → after.made h ≡ true → p.made h ≡ true
  not_made h is = go (p.made h) is
    where
      go : (b : Bool) → (b || false) ≡ true → b ≡ true
      go true is = refl
      go false is = is

  -- the words of each slot are those of its text by the new seed
  pub slots_anew : Slots t m' after
  slots_anew = record {
    claims = λ s. made.stay (place.Claim s) (λ new. new) ∙ table.slots.claims s;
    counts = λ s text h born is. made.stay (place.Count s) (λ new. new) ∙ table.slots.counts s text h born is;
    gone = λ s seat at is. ap holds_of (made.stay (place.Count s) (λ new. new)) ∙ table.slots.gone s seat at is;
    metas = λ s text h born is. made.metas s text h born is;
    texts = λ s text h born is at below inside. made.stay (place.Text s at) (λ new. new) ∙ table.slots.texts s text h born is at below inside;
    rooms = table.slots.rooms;
    made = λ h is. subst (λ w. IsPast (generation_of w) h (p.now.slot h.slot)) (sym (made.stay (place.Count h.slot) (λ new. new))) (table.slots.made h (not_made h is));
    uses = λ s.
        let word : generation_of (m' (place.Count s)) ≡ generation_of (m (place.Count s)) = ap generation_of (made.stay (place.Count s) (λ new. new)) in
        let before : generation_of (m (place.Count s)) ≤ p.uses s = table.slots.uses s in
        omega (arith, word, before);
    used = λ s text h born is. let before : h.generation + 1 ≤ p.uses s = table.slots.used s text h born is in omega (arith, before);
  }
