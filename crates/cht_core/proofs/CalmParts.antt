-- Steps that change no head, no link of a node, no chain and no entry of the map.
use Rattle.std.proofs.Common.{◌≡◌, ◌≢◌, ℕ, ◌+◌, ◌<◌, ◌≤◌, ◌⊎◌, true, List, [], ◌∷◌, Option, Some, None, refl, sym, ap, subst, ◌∙◌, inl, inr, arith}
use Rattle.chain_core.specs.Nodes.{On}
use Rattle.chain_core.specs.Path.{IsPath}
use Rattle.text_words.specs.Hash.{hash_of}
use Rattle.table_shape.specs.declared.place.Place.TheVariants as place
use Rattle.marked_word.specs.Link.{node_of}
use Rattle.marked_word.specs.Number.{owner_word}
use Rattle.intern_log.specs.declared.event.Handle.{Handle}
use Rattle.intern_log.specs.declared.event.What.{What}
use Rattle.intern_log.specs.Now.{Now, OpenSection, Claimed, Linked, Unlinked, owner_of}
use Rattle.atomic_step.specs.declared.step.Step.{Step}
use Rattle.atomic_step.specs.Count.{generation_of, holds_of}
use Rattle.cht_core.specs.declared.table.Table.{Table}
use Rattle.cht_core.specs.Backs.{LeadsOn, IsOfTry}
use Rattle.cht_core.specs.Chains.{Chains, AreRanked, AreEarlier, born, birth}
use Rattle.cht_core.specs.Flow.{Flow, IsUsed, IsHome}
use Rattle.cht_core.specs.Heads.{Heads, Sections, used_head}
use Rattle.cht_core.specs.Memory.{Memory, links}
use Rattle.cht_core.specs.Past.{Past, MayTell, kind_of}
use Rattle.cht_core.specs.Rely.{Grows, Leaves, Spares}
use Rattle.cht_core.specs.Search.{IsFit, IsHeld, IsLinked}
use Rattle.cht_core.specs.Slots.{Slots, IsPast, claim_word}
use Rattle.cht_core.specs.Stage.{Stage, Quiet, Growing, Splitting, Shrinking, Joining, Turning, Closing, Parted, Whole, IsSpared, IsGone, IsPinned, IsWhole}
use Rattle.cht_core.specs.TableState.{IsTable, Words, IsSettled, KeepsRow, IsClear}
use Rattle.cht_core.specs.Tidy.{IsTidy}

-- what is told, but for the map, the locks, the level and the seed, which are as they were
abbrev pub calm_now : Now → Now → Now
calm_now n n' = record n' { texts = n.texts; lock = n.lock; level = n.level; since = n.since; seed = n.seed }

abbrev pub calm_past : Past → Past → Past
calm_past p q = record q { now = calm_now p.now q.now }

-- the words that such a step of seat i leaves as they are: those of heads, and those of slots that are not its own
pub record SameWords (i : ℕ) (m m' : Memory) (n : Now) : Type 0 where
  pub counter : m place.Counter ≤ m' place.Counter
  pub level : m' place.Level ≡ m place.Level
  pub new_level : m' place.NewLevel ≡ m place.NewLevel
  pub heads : (row bucket : ℕ) → m' (place.Head row bucket) ≡ m (place.Head row bucket)
  pub link : (s : ℕ) → n.slot s ≢ Claimed i → m' (place.Link s) ≡ m (place.Link s)
  pub meta : (s : ℕ) → n.slot s ≢ Claimed i → m' (place.Meta s) ≡ m (place.Meta s)
  pub text : (s at : ℕ) → n.slot s ≢ Claimed i → m' (place.Text s at) ≡ m (place.Text s at)
  pub count : (s : ℕ) → n.slot s ≢ Claimed i → ((at : ℕ) → n.slot s ≢ Unlinked i at) → m' (place.Count s) ≡ m (place.Count s)

-- the slots that it leaves as they are: linked ones, those that a reader may hold, and those of other seats
pub record SameSlots (i : ℕ) (n n' : Now) : Type 0 where
  pub linked : (s : ℕ) (text : List ℕ) (h : Handle) (at : ℕ) → n.slot s ≡ Linked text h at → n'.slot s ≡ Linked text h at
  pub linked_back : (s : ℕ) (text : List ℕ) (h : Handle) (at : ℕ) → n'.slot s ≡ Linked text h at → n.slot s ≡ Linked text h at
  pub held : (s seat at k : ℕ) (o : OpenSection) → n.slot s ≡ Unlinked seat at → n.section k ≡ Some o → o.place < at → n'.slot s ≡ Unlinked seat at
  pub claimed : (k s : ℕ) → k ≢ i → n.slot s ≡ Claimed k → n'.slot s ≡ Claimed k
  pub claimed_back : (k s : ℕ) → k ≢ i → n'.slot s ≡ Claimed k → n.slot s ≡ Claimed k
  pub unlinked : (k s at : ℕ) → k ≢ i → n.slot s ≡ Unlinked k at → n'.slot s ≡ Unlinked k at
  pub unlinked_back : (k s at : ℕ) → k ≢ i → n'.slot s ≡ Unlinked k at → n.slot s ≡ Unlinked k at

-- the sections and the resize lock of the others
pub record SameSeats (i : ℕ) (m : Memory) (n n' : Now) : Type 0 where
  pub section : (k : ℕ) → k ≢ i → n'.section k ≡ n.section k
  pub opened : (k : ℕ) (o : OpenSection) → n'.section k ≡ Some o → (n.section k ≡ Some o) ⊎ ((n.place ≤ o.place) × (o.counter ≤ m place.Counter))
  pub owner : (k : ℕ) → k ≢ i → owner_of n.resizing ≡ Some k → owner_of n'.resizing ≡ Some k
  pub owner_back : (k : ℕ) → k ≢ i → owner_of n'.resizing ≡ Some k → owner_of n.resizing ≡ Some k

-- all of it
pub record Calm (i : ℕ) (m m' : Memory) (p q : Past) : Type 0 where
  pub later : p.now.place ≤ q.now.place
  pub made : (h : Handle) → q.made h ≡ p.made h
  pub uses : (s : ℕ) → q.uses s ≡ p.uses s
  pub words : SameWords i m m' p.now
  pub slots : SameSlots i p.now q.now
  pub seats : SameSeats i m p.now q.now

-- what it leaves a seat of its unlinked slots and of the resize lock
pub record SameWorks (k : ℕ) (m m' : Memory) (n n' : Now) : Type 0 where
  pub unlinked : (s at : ℕ) → n.slot s ≡ Unlinked k at → n'.slot s ≡ Unlinked k at
  pub unlinked_back : (s at : ℕ) → n'.slot s ≡ Unlinked k at → n.slot s ≡ Unlinked k at
  pub counts : (s at : ℕ) → n.slot s ≡ Unlinked k at → m' (place.Count s) ≡ m (place.Count s)
  pub owner : owner_of n.resizing ≡ Some k → owner_of n'.resizing ≡ Some k
  pub owner_back : owner_of n'.resizing ≡ Some k → owner_of n.resizing ≡ Some k

-- what it leaves of the slots that were moved past on the chain of the other side
pub record SameParted (i : ℕ) (n : Now) (f : Flow) (parted : ℕ → Parted) : Type 0 where
  pub spared : (k s : ℕ) (o : OpenSection) → n.section k ≡ Some o → IsSpared (f.parted s) o.place → IsSpared (parted s) o.place
  pub whole : (s : ℕ) → f.parted s ≡ Whole → parted s ≡ Whole
  pub others : (k : ℕ) → k ≢ i → owner_of n.resizing ≡ Some k → (s : ℕ) → parted s ≡ f.parted s

-- what it leaves of what the resize lock says
pub record SameResize (n n' : Now) (f : Flow) : Type 0 where
  pub held : (row bucket k : ℕ) → n.lock row bucket ≡ Some k → IsUsed n f row bucket ⊎ (owner_of n'.resizing ≡ Some k)
  pub gone : (bucket : ℕ) → IsGone f.stage bucket → (k : ℕ) × (owner_of n'.resizing ≡ Some k) × (n.lock n.level bucket ≡ Some k)
  pub pinned : (row bucket : ℕ) → IsPinned f.stage n.level row bucket → (k : ℕ) × (owner_of n'.resizing ≡ Some k) × (n.lock row bucket ≡ Some k)
  pub idle : n'.resizing ≡ None → f.stage ≡ Quiet
  pub whole : IsSettled n' → IsWhole f.stage
  pub row : KeepsRow (calm_now n n')

pub same_parted : (i : ℕ) (n : Now) (f : Flow) → SameParted i n f f.parted
same_parted i n f = record { spared = λ k s o is spared. spared; whole = λ s is. is; others = λ k differs is s. refl }

-- a step that leaves the resize lock leaves what it says
pub same_resize : (t : Table) (m : Memory) (p : Past) (f : Flow) (n' : Now) → IsTable t m p f → n'.resizing ≡ p.now.resizing → SameResize p.now n' f
same_resize t m p f n' table same = record {
  held = λ row bucket k is. elim (table.heads.held row bucket k is) [ inl used ↦ inl used | inr owner ↦ inr (ap owner_of same ∙ owner) ];
  gone = λ bucket is. let lock = table.heads.gone bucket is in (lock.0, ap owner_of same ∙ lock.1, lock.2);
  pinned = λ row bucket is. let lock = table.heads.pinned row bucket is in (lock.0, ap owner_of same ∙ lock.1, lock.2);
  idle = λ none. table.idle (sym same ∙ none);
  whole = λ settled. table.whole (λ r is. settled r (same ∙ is));
  row = λ r is. table.row r (sym same ∙ is);
}

-- while no section is opened from before the last Level, none is open from before it
pub clear_kept : (st : Stage) (n n' : Now) → n'.since ≡ n.since → n.since ≤ n.place
    → ((k : ℕ) (o : OpenSection) → n'.section k ≡ Some o → (n.section k ≡ Some o) ⊎ (n.place ≤ o.place)) → IsClear st n → IsClear st n'
clear_kept st n n' same early opened = go st
  where
    later : ((k : ℕ) (o : OpenSection) → n.section k ≡ Some o → n.since ≤ o.place) → (k : ℕ) (o : OpenSection) → n'.section k ≡ Some o → n'.since ≤ o.place
    later clear k o is = elim (opened k o is) [
      | inl was ↦ (let x : n.since ≤ o.place = clear k o was in omega (arith, x, same))
      | inr new ↦ omega (arith, new, same, early)
    ]

    go : (st : Stage) → IsClear st n → IsClear st n'
    go Quiet clear = later clear
    go (Growing d) clear = later clear
    go (Splitting a) clear = later clear
    go (Shrinking k d) clear = later clear
    go (Joining k a) clear = later clear
    go (Turning k a) clear = later clear
    go Closing clear = tt

-- a path stays where the links of its nodes do
pub path_kept : (next new : ℕ → Option ℕ) (first : Option ℕ) (nodes : List ℕ) → ((s : ℕ) → On s nodes → new s ≡ next s) → IsPath next first nodes → IsPath new first nodes
path_kept next new first [] same path = path
path_kept next new first (x ∷ xs) same path =
    (path.0, subst (λ a. IsPath new a xs) (sym (same x (inl refl))) (path_kept next new (next x) xs (λ s on. same s (inr on)) path.1))

earlier_kept : (base : ℕ) (births births' : ℕ → ℕ) (at : ℕ) (nodes : List ℕ) → ((s : ℕ) → On s nodes → births' s ≡ births s) → AreEarlier base births at nodes → AreEarlier base births' at nodes
earlier_kept base births births' at [] same h = tt
earlier_kept base births births' at (x ∷ xs) same h =
    (subst (λ b. (b ≤ at) ⊎ (b < base)) (sym (same x (inl refl))) h.0, earlier_kept base births births' at xs (λ s on. same s (inr on)) h.1)

-- a chain stays in order where its nodes have the same births
pub ranked_kept : (base : ℕ) (births births' : ℕ → ℕ) (nodes : List ℕ) → ((s : ℕ) → On s nodes → births' s ≡ births s) → AreRanked base births nodes → AreRanked base births' nodes
ranked_kept base births births' [] same h = tt
ranked_kept base births births' (x ∷ xs) same h = (
  earlier_kept base births births' (births' x) xs (λ s on. same s (inr on)) (subst (λ b. AreEarlier base births b xs) (sym (same x (inl refl))) h.0),
  ranked_kept base births births' xs (λ s on. same s (inr on)) h.1,
)

module _ (i : ℕ) (m m' : Memory) (p q : Past) (c : Calm i m m' p q) where
  linked_not : (s : ℕ) → IsLinked p.now s → p.now.slot s ≢ Claimed i
  linked_not s l is = let clash : Claimed i ≡ Linked l.0 l.1 l.2 = sym is ∙ l.3 in absurd (cc)

  unlinked_not : (s seat at : ℕ) → p.now.slot s ≡ Unlinked seat at → p.now.slot s ≢ Claimed i
  unlinked_not s seat at u is = let clash : Claimed i ≡ Unlinked seat at = sym is ∙ u in absurd (cc)

  held_not : (since s : ℕ) → IsHeld p.now since s → p.now.slot s ≢ Claimed i
  held_not since s h = elim h [ inl l ↦ linked_not s l | inr u ↦ unlinked_not s u.0 u.1 u.2 ]

  link_kept : (s : ℕ) → p.now.slot s ≢ Claimed i → links m' s ≡ links m s
  link_kept s differs = ap node_of (c.words.link s differs)

  -- a linked slot keeps its count word
  pub calm_linked_count : (s : ℕ) → IsLinked p.now s → m' (place.Count s) ≡ m (place.Count s)
  calm_linked_count s l = c.words.count s (linked_not s l) (λ at is. let clash : Unlinked i at ≡ Linked l.0 l.1 l.2 = sym is ∙ l.3 in absurd (cc))

  -- the flow with what has become of the slots that were moved past
  abbrev parted_flow : Flow → (ℕ → Parted) → Flow
  parted_flow f parted = record f { parted = parted }

  fit_kept : (f : Flow) (parted : ℕ → Parted) → SameParted i p.now f parted → (k hash s : ℕ) (o : OpenSection) → p.now.section k ≡ Some o → IsFit p.now f o.place hash s
      → IsFit (calm_now p.now q.now) (parted_flow f parted) o.place hash s
  fit_kept f parted d k hash s o is fit = record {
    held = elim fit.held [
      | inl l ↦ inl (l.0, l.1, l.2, c.slots.linked s l.0 l.1 l.2 l.3)
      | inr u ↦ inr (u.0, u.1, c.slots.held s u.0 u.1 k o u.2 is u.3, u.3)
    ];
    near = λ text h born linked. fit.near text h born (c.slots.linked_back s text h born linked);
    side = λ text h born linked differs. d.spared k s o is (fit.side text h born (c.slots.linked_back s text h born linked) differs);
  }

  -- what others know goes on
  pub calm_grows : (f : Flow) (parted : ℕ → Parted) → SameParted i p.now f parted → Grows m p f m' (calm_past p q) (parted_flow f parted)
  calm_grows f parted d = record {
    later = c.later;
    seed = refl;
    counter = c.words.counter;
    made = λ h is. c.made h ∙ is;
    made_back = λ h is. inl (sym (c.made h) ∙ is);
    uses = λ s. let same : q.uses s ≡ p.uses s = c.uses s in omega (arith, same);
    linked = λ s text h born is. inl (c.slots.linked s text h born is);
    unlinked = c.slots.held;
    entries = λ text e is. inl (e, is, refl);
    sections = c.seats.opened;
    words = λ k s o is held. (c.words.meta s (held_not o.place s held), λ at. c.words.text s at (held_not o.place s held));
    walks = record {
      fits = fit_kept f parted d;
      go = λ k o text hash node ahead is path fit. record {
        left = ahead;
        path = path_kept (links m) (links m') node ahead (λ s on. link_kept s (held_not o.place s (fit s on).held)) path;
        fit = λ s on. fit_kept f parted d k hash s o is (fit s on);
        kept = λ s on. inl on;
        fresh = λ s on. inl on;
      };
    };
    routes = λ k hash row o is routed. routed;
    onward = λ k hash row o is sent. sent;
    based = λ k hash row o is routed. refl;
  }

  -- the chains stay
  pub calm_chains : (f : Flow) (parted : ℕ → Parted) → SameParted i p.now f parted → Chains p.now f → Chains (calm_now p.now q.now) (parted_flow f parted)
  calm_chains f parted d h = record {
    on_linked = λ row bucket s used on.
        let l : (text : List ℕ) × (k : Handle) × (at : ℕ) × (p.now.slot s ≡ Linked text k at) × IsHome p.now f row bucket (hash_of p.now.seed text) = h.on_linked row bucket s used on in
        (l.0, l.1, l.2, c.slots.linked s l.0 l.1 l.2 l.3, l.4);
    linked_on = λ s text k at row is to. h.linked_on s text k at row (c.slots.linked_back s text k at is) to;
    once = h.once;
    ranked = λ row bucket used. elim (h.ranked row bucket used) [
      | inl joined ↦ inl joined
      | inr ranked ↦ inr (ranked_kept (f.base row bucket) (born p.now.slot) (born q.now.slot) (f.chain row bucket) (λ s on.
          let l : (text : List ℕ) × (k : Handle) × (at : ℕ) × (p.now.slot s ≡ Linked text k at) × IsHome p.now f row bucket (hash_of p.now.seed text) = h.on_linked row bucket s used on in
          ap birth (c.slots.linked s l.0 l.1 l.2 l.3) ∙ sym (ap birth l.3)) ranked)
    ];
    bases = λ row bucket. let before : f.base row bucket ≤ p.now.place = h.bases row bucket in let later : p.now.place ≤ q.now.place = c.later in omega (arith, before, later);
    sides = λ row bucket s text k at used on is. elim (h.sides row bucket s text k at used on (c.slots.linked_back s text k at is)) [ inl whole ↦ inl (d.whole s whole) | inr own ↦ inr own ];
    loose = λ s. elim (h.loose s) [ inl whole ↦ inl (d.whole s whole) | inr l ↦ inr (l.0, l.1, l.2, c.slots.linked s l.0 l.1 l.2 l.3, l.4) ];
    within = h.within;
  }

  chain_link : (f : Flow) → Chains p.now f → (row bucket s : ℕ) → IsUsed p.now f row bucket → On s (f.chain row bucket) → m' (place.Link s) ≡ m (place.Link s)
  chain_link f h row bucket s used on =
      let l : (text : List ℕ) × (k : Handle) × (at : ℕ) × (p.now.slot s ≡ Linked text k at) × IsHome p.now f row bucket (hash_of p.now.seed text) = h.on_linked row bucket s used on in
      c.words.link s (linked_not s (l.0, l.1, l.2, l.3))

  -- the slots stay, but for the claims and counts of the seat's own
  pub calm_slots : (t : Table) → Slots t m p → ((s : ℕ) → m' (place.Claim s) ≡ claim_word (q.now.slot s)) → ((s seat at : ℕ) → q.now.slot s ≡ Unlinked seat at → holds_of (m' (place.Count s)) ≡ 0)
      → ((h : Handle) → p.made h ≡ true → IsPast (generation_of (m' (place.Count h.slot))) h (q.now.slot h.slot)) → ((s : ℕ) → generation_of (m' (place.Count s)) ≤ p.uses s)
      → Slots t m' (calm_past p q)
  calm_slots t h claims gone past uses = record {
    claims = claims;
    counts = λ s text k born is. let was : p.now.slot s ≡ Linked text k born = c.slots.linked_back s text k born is in calm_linked_count s (text, k, born, was) ∙ h.counts s text k born was;
    gone = gone;
    metas = λ s text k born is. let was : p.now.slot s ≡ Linked text k born = c.slots.linked_back s text k born is in c.words.meta s (linked_not s (text, k, born, was)) ∙ h.metas s text k born was;
    texts = λ s text k born is at below inside. let was : p.now.slot s ≡ Linked text k born = c.slots.linked_back s text k born is in
        c.words.text s at (linked_not s (text, k, born, was)) ∙ h.texts s text k born was at below inside;
    rooms = λ s text k born is. h.rooms s text k born (c.slots.linked_back s text k born is);
    made = λ k is. past k (sym (c.made k) ∙ is);
    uses = λ s. let most : generation_of (m' (place.Count s)) ≤ p.uses s = uses s in subst (λ u. generation_of (m' (place.Count s)) ≤ u) (sym (c.uses s)) most;
    used = λ s text k born is. subst (λ u. k.generation + 1 ≤ u) (sym (c.uses s)) (h.used s text k born (c.slots.linked_back s text k born is));
  }

  -- the heads stay, but for the resize lock
  pub calm_heads : (f : Flow) (parted : ℕ → Parted) → Chains p.now f → Heads m p.now f → m' place.ResizeLock ≡ owner_word (owner_of q.now.resizing) → SameResize p.now q.now f
      → Heads m' (calm_now p.now q.now) (parted_flow f parted)
  calm_heads f parted h heads owner resize = record {
    level = c.words.level ∙ heads.level;
    new_level = c.words.new_level ∙ heads.new_level;
    owner = owner;
    paths = λ row bucket used.
        let way : (first : Option ℕ) × (m (place.Head row bucket) ≡ used_head first (p.now.lock row bucket)) × IsPath (links m) first (f.chain row bucket) = heads.paths row bucket used in
        (way.0, c.words.heads row bucket ∙ way.1, path_kept (links m) (links m') way.0 (f.chain row bucket) (λ s on. ap node_of (chain_link f h row bucket s used on)) way.2);
    behind = λ row bucket is. let word = heads.behind row bucket is in (word.0, c.words.heads row bucket ∙ word.1);
    held = resize.held;
    gone = resize.gone;
    pinned = resize.pinned;
  }

  -- a seat keeps what its works have
  pub calm_leaves : (f : Flow) (parted : ℕ → Parted) (k : ℕ) → (owner_of p.now.resizing ≡ Some k → (s : ℕ) → parted s ≡ f.parted s) → Chains p.now f → SameWorks k m m' p.now q.now
      → Leaves k m p f m' (calm_past p q) (parted_flow f parted)
  calm_leaves f parted k same h works = record {
    locks = λ row bucket is. is;
    locks_back = λ row bucket is. is;
    heads = λ row bucket is. c.words.heads row bucket;
    used = λ row bucket used is. used;
    chains = λ row bucket used is. refl;
    links = λ row bucket s used is on. chain_link f h row bucket s used on;
    nodes = λ row bucket s text h born used is on linked. c.slots.linked s text h born linked;
    unlinked = works.unlinked;
    unlinked_back = works.unlinked_back;
    counts = works.counts;
    owner = works.owner;
    owner_back = works.owner_back;
    still = λ is. record { level = refl; since = refl; stage = refl; before = refl; parted = same is; free = λ row bucket unused none. none };
  }

  other_works : (k : ℕ) → k ≢ i → SameWorks k m m' p.now q.now
  other_works k differs = record {
    unlinked = λ s at is. c.slots.unlinked k s at differs is;
    unlinked_back = λ s at is. c.slots.unlinked_back k s at differs is;
    counts = λ s at is. c.words.count s (unlinked_not s k at is) (λ when mine. let clash : Unlinked i when ≡ Unlinked k at = sym mine ∙ is in let same : i ≡ k = cc in differs (sym same));
    owner = c.seats.owner k differs;
    owner_back = c.seats.owner_back k differs;
  }

  -- another seat keeps what it has
  pub calm_spares : (f : Flow) (parted : ℕ → Parted) → SameParted i p.now f parted → (k : ℕ) → k ≢ i → Chains p.now f → Spares k m p f m' (calm_past p q) (parted_flow f parted)
  calm_spares f parted d k differs h =
      let other : (s : ℕ) → p.now.slot s ≡ Claimed k → p.now.slot s ≢ Claimed i = λ s is mine. let clash : Claimed i ≡ Claimed k = sym mine ∙ is in let same : i ≡ k = cc in differs (sym same) in
      record {
        section = c.seats.section k differs;
        claimed = λ s is. c.slots.claimed k s differs is;
        claimed_back = λ s is. c.slots.claimed_back k s differs is;
        link = λ s is. c.words.link s (other s is);
        count = λ s is. c.words.count s (other s is) (λ at unlinked. let clash : Unlinked i at ≡ Claimed k = sym unlinked ∙ is in absurd (cc));
        meta = λ s is. c.words.meta s (other s is);
        text = λ s at is. c.words.text s at (other s is);
        holds = λ h. refl;
        leaves = calm_leaves f parted k (d.others k differs) h (other_works k differs);
      }

  -- such a step leads on: its own parts are those of its words, its slots, its sections, the resize lock and the slots that were moved past
  pub calm_parts_go_on : (t : Table) (f : Flow) (parted : ℕ → Parted) (s : Step) (e : Option What) → SameParted i p.now f parted → IsTable t m p f → MayTell (kind_of t) p i e
      → IsTidy t (calm_now p.now q.now) → Words t m' → Slots t m' (calm_past p q) → Sections t m' (calm_now p.now q.now) → m' place.ResizeLock ≡ owner_word (owner_of q.now.resizing)
      → SameResize p.now q.now f → (IsOfTry p.now i s → SameWorks i m m' p.now q.now) → (IsOfTry p.now i s → (x : ℕ) → parted x ≡ f.parted x)
      → LeadsOn t m p f i s e m' (calm_past p q) (parted_flow f parted)
  calm_parts_go_on t f parted s e d table told tidy words slots sections owner resize own still = record {
    told = told;
    table = record {
      shape = table.shape;
      tidy = tidy;
      words = words;
      slots = slots;
      sections = sections;
      heads = calm_heads f parted table.chains table.heads owner resize;
      chains = calm_chains f parted d table.chains;
      clear = clear_kept f.stage p.now (calm_now p.now q.now) refl table.tidy.since
          (λ k o is. elim (c.seats.opened k o is) [ inl was ↦ inl was | inr new ↦ inr new.0 ]) table.clear;
      idle = resize.idle;
      whole = resize.whole;
      row = resize.row;
      named = table.named;
      ledger = table.ledger;
    };
    grows = calm_grows f parted d;
    spares = λ k differs. calm_spares f parted d k differs table.chains;
    leaves = λ try. calm_leaves f parted i (λ is. still try) table.chains (own try);
  }

  -- and so does one that leaves the slots that were moved past as they are
  pub calm_goes_on : (t : Table) (f : Flow) (s : Step) (e : Option What) → IsTable t m p f → MayTell (kind_of t) p i e → IsTidy t (calm_now p.now q.now)
      → Words t m' → Slots t m' (calm_past p q) → Sections t m' (calm_now p.now q.now) → m' place.ResizeLock ≡ owner_word (owner_of q.now.resizing)
      → SameResize p.now q.now f → (IsOfTry p.now i s → SameWorks i m m' p.now q.now) → LeadsOn t m p f i s e m' (calm_past p q) f
  calm_goes_on t f s e table told tidy words slots sections owner resize own =
      calm_parts_go_on t f f.parted s e (same_parted i p.now f) table told tidy words slots sections owner resize own (λ try x. refl)
