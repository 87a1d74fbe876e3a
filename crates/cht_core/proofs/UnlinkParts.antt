-- What a table is once a dead slot is out of its chain.
use Rattle.std.proofs.Common.{◌≡◌, ◌≢◌, ℕ, ◌+◌, ◌*◌, ◌%◌, ◌≤◌, ◌^◌, ◌||◌, inl, inr, false, List, Option, Some, refl, sym, ap, subst, ◌∙◌, arith}
use Rattle.std.proofs.Math.Bool.{or-false}
use Rattle.std.proofs.lemmas.Bool.{cases_eq}
use Rattle.chain_core.specs.Nodes.{On}
use Rattle.chain_core.specs.Path.{IsPath, without}
use Rattle.chain_core.proofs.Members.{without-absent}
use Rattle.text_words.specs.Hash.{hash_of}
use Rattle.marked_word.specs.Link.{node_of}
use Rattle.table_shape.specs.declared.place.Place.TheVariants as place
use Rattle.intern_log.specs.declared.event.Handle.{Handle}
use Rattle.intern_log.specs.Now.{OpenSection, Phase, Claimed, Linked, Unlinked, with_at}
use Rattle.intern_log.specs.TextMap.{TextMap, entry_of, IsLive}
use Rattle.atomic_step.specs.Count.{generation_of, holds_of, holds_word}
use Rattle.cht_core.specs.declared.table.Table.{Table}
use Rattle.cht_core.specs.Chains.{Chains, born, birth}
use Rattle.cht_core.specs.Flow.{Flow, IsUsed, IsHome}
use Rattle.cht_core.specs.Heads.{Heads, Sections, used_head}
use Rattle.cht_core.specs.Memory.{Memory, links}
use Rattle.cht_core.specs.Past.{Past}
use Rattle.cht_core.specs.Rely.{Grows, Spares, IsUnwanted}
use Rattle.cht_core.specs.Search.{IsFit, IsHeld}
use Rattle.cht_core.specs.Slots.{Slots, IsPast, IsLastOf, claim_word, count_in}
use Rattle.cht_core.specs.Stage.{bucket_in, IsOnTwo, IsPinned}
use Rattle.cht_core.specs.TableState.{IsTable, Words}
use Rattle.cht_core.specs.Tidy.{IsTidy}
use Rattle.cht_core.proofs.Basics.{with_here, with_other}
use Rattle.cht_core.proofs.Buckets.{bucket_cases}
use Rattle.cht_core.proofs.CalmParts.{path_kept, ranked_kept, clear_kept}
use Rattle.cht_core.proofs.Counts.{counted_has}
use Rattle.cht_core.proofs.Relinks.{Relinked}
use Rattle.cht_core.proofs.Routes.{behind_unused}
use Rattle.cht_core.proofs.Stages.{comes_one}
use Rattle.cht_core.proofs.TwoChains.{on_one, used_comes, unzipped_two, mixed_two}
use Rattle.cht_core.proofs.Withouts.{on_within, on_without, once_without, ranked_without}

-- a handle whose entry is gone is counted nowhere
pub dead_has_none : (texts : TextMap) (text : List ℕ) (h : Handle) → ¬ (IsLive texts h) → count_in (entry_of texts text) h ≡ 0
dead_has_none texts text h dead = elim (cases_eq (count_in (entry_of texts text) h) 0) [
  | inl none ↦ none
  | inr some ↦ (let has = counted_has (entry_of texts text) h (omega (arith, some)) in absurd (dead (text, has)))
]

-- A dead slot of a locked bucket is out of its chain.
module _ (t : Table) (m m' : Memory) (p : Past) (f : Flow) (i row bucket slot : ℕ) (first : Option ℕ) (table : IsTable t m p f) (used : IsUsed p.now f row bucket)
    (lock : p.now.lock row bucket ≡ Some i) (on : On slot (f.chain row bucket)) (text : List ℕ) (h : Handle) (since : ℕ) (at : p.now.slot slot ≡ Linked text h since)
    (dead : ¬ (IsLive p.now.texts h)) (z : Relinked m m' f row bucket slot first) (unpinned : ¬ (IsPinned f.stage p.now.level row bucket)) where
  -- what the log says then, and the chains
  unfoldable pub unlink_past : Past
  unlink_past = record {
    now = record p.now { place = p.now.place + 1; slot = with_at p.now.slot slot (Unlinked i p.now.place) };
    made = λ h. p.made h || false;
    uses = λ s. p.uses s + 0;
  }

  unfoldable pub unlink_flow : Flow
  unlink_flow = record f { chain = λ r b. without slot (f.chain r b) }

  -- the slot is unlinked, and no other slot changes
  pub slot_gone : (s : ℕ) → s ≡ slot → unlink_past.now.slot s ≡ Unlinked i p.now.place
  unfolding unlink_past
  slot_gone s same = with_here p.now.slot slot (Unlinked i p.now.place) s same

  pub slot_stays : (s : ℕ) → s ≢ slot → unlink_past.now.slot s ≡ p.now.slot s
  unfolding unlink_past
  slot_stays s differ = with_other p.now.slot slot (Unlinked i p.now.place) s differ

  -- what is linked was linked, and is another slot
  pub linked_before : (s : ℕ) (other : List ℕ) (k : Handle) (made : ℕ) → unlink_past.now.slot s ≡ Linked other k made → (s ≢ slot) × (p.now.slot s ≡ Linked other k made)
  linked_before s other k made linked = elim (cases_eq s slot) [
    | inl same ↦ (let clash : Unlinked i p.now.place ≡ Linked other k made = sym (slot_gone s same) ∙ linked in absurd (cc))
    | inr differ ↦ (differ, sym (slot_stays s differ) ∙ linked)
  ]

  -- a slot that was not linked stays as it was
  pub unlinked_stays : (s : ℕ) (phase : Phase) → p.now.slot s ≡ phase → ((other : List ℕ) (k : Handle) (made : ℕ) → phase ≡ Linked other k made → ⊥) → unlink_past.now.slot s ≡ phase
  unlinked_stays s phase is unlinked = slot_stays s (λ same. unlinked text h since (sym is ∙ ap p.now.slot same ∙ at)) ∙ is

  -- a text that is on one chain is on that of its bucket
  home_exact : (r b hash : ℕ) → (IsOnTwo f.stage p.now.level hash → ⊥) → IsHome p.now f r b hash → bucket_in r hash ≡ b
  home_exact r b hash single home = elim home [ inl exact ↦ exact | inr mixed ↦ absurd (single (mixed_two f.stage p.now.level r b hash mixed)) ]

  -- a node is on one chain
  pub one_chain : (r b s : ℕ) → IsUsed p.now f r b → On s (f.chain r b) → On s (f.chain row bucket) → (r ≡ row) × (b ≡ bucket)
  one_chain r b s at there here =
      let one : (u : List ℕ) × (k : Handle) × (made : ℕ) × (p.now.slot s ≡ Linked u k made) × IsHome p.now f r b (hash_of p.now.seed u) = table.chains.on_linked r b s at there in
      let two : (u : List ℕ) × (k : Handle) × (made : ℕ) × (p.now.slot s ≡ Linked u k made) × IsHome p.now f row bucket (hash_of p.now.seed u) = table.chains.on_linked row bucket s used here in
      let same : Linked one.0 one.1 one.2 ≡ Linked two.0 two.1 two.2 = sym one.3 ∙ two.3 in
      let texts : one.0 ≡ two.0 = cc in
      let single : IsOnTwo f.stage p.now.level (hash_of p.now.seed two.0) → ⊥ = on_one p.now f table.chains row bucket s two.0 two.1 two.2 used here two.3 unpinned in
      let home : IsHome p.now f r b (hash_of p.now.seed two.0) = subst (λ (u : List ℕ). IsHome p.now f r b (hash_of p.now.seed u)) texts one.4 in
      let first_home : bucket_in r (hash_of p.now.seed two.0) ≡ b = home_exact r b (hash_of p.now.seed two.0) single home in
      let other_home : bucket_in row (hash_of p.now.seed two.0) ≡ bucket = home_exact row bucket (hash_of p.now.seed two.0) single two.4 in
      let rows : r ≡ row = comes_one p.now f (hash_of p.now.seed two.0) r row
      (used_comes p.now f (hash_of p.now.seed two.0) r b table.chains.within single at first_home)
      (used_comes p.now f (hash_of p.now.seed two.0) row bucket table.chains.within single used other_home) in
      (rows, sym first_home ∙ ap (λ (x : ℕ). bucket_in x (hash_of p.now.seed two.0)) rows ∙ other_home)

  -- a node of another chain is off this one
  pub off_chain : (r b s : ℕ) → IsUsed p.now f r b → (r ≡ row → b ≡ bucket → ⊥) → On s (f.chain r b) → On s (f.chain row bucket) → ⊥
  off_chain r b s at differ there here = let both = one_chain r b s at there here in differ both.0 both.1

  -- a slot that was not linked is off the chain
  pub unlinked_off : (s : ℕ) (phase : Phase) → p.now.slot s ≡ phase → ((other : List ℕ) (k : Handle) (made : ℕ) → phase ≡ Linked other k made → ⊥) → On s (f.chain row bucket) → ⊥
  unlinked_off s phase is unlinked here = let one = table.chains.on_linked row bucket s used here in unlinked one.0 one.1 one.2 (sym is ∙ one.3)

  -- another chain stays as it is
  pub chain_stays : (r b : ℕ) → IsUsed p.now f r b → (r ≡ row → b ≡ bucket → ⊥) → unlink_flow.chain r b ≡ f.chain r b
  unfolding unlink_flow
  chain_stays r b at differ = without-absent slot (f.chain r b) (λ there. off_chain r b slot at differ there on)

  unlink_chains : Chains unlink_past.now unlink_flow
  unfolding unlink_past unlink_flow
  unlink_chains = record {
    on_linked = λ r b s at there.
        let was = on_within slot s (f.chain r b) there in
        let one = table.chains.on_linked r b s at was.0 in
        (one.0, one.1, one.2, slot_stays s was.1 ∙ one.3, one.4);
    linked_on = λ s other k made r linked comes.
        let was = linked_before s other k made linked in
        on_without slot s (f.chain r (hash_of p.now.seed other % 2 ^ r)) (table.chains.linked_on s other k made r was.1 comes) was.0;
    once = λ r b at. once_without slot (f.chain r b) (table.chains.once r b at);
    ranked = λ r b at. elim (table.chains.ranked r b at) [
      | inl joined ↦ inl joined
      | inr ranked ↦ inr (ranked_kept (f.base r b) (born p.now.slot) (born unlink_past.now.slot) (without slot (f.chain r b))
          (λ s there. ap birth (slot_stays s (on_within slot s (f.chain r b) there).1)) (ranked_without (f.base r b) (born p.now.slot) slot (f.chain r b) ranked))
    ];
    bases = λ r b. let before = table.chains.bases r b in omega (arith, before);
    sides = λ r b s other k made at there linked. table.chains.sides r b s other k made at (on_within slot s (f.chain r b) there).0 (linked_before s other k made linked).1;
    loose = λ s. elim (table.chains.loose s) [
      | inl whole ↦ inl whole
      | inr l ↦ inr (
        l.0,
        l.1,
        l.2,
        slot_stays s (λ same. on_one p.now f table.chains row bucket slot l.0 l.1 l.2 used on (ap p.now.slot (sym same) ∙ l.3) unpinned
            (unzipped_two f.stage p.now.level (hash_of p.now.seed l.0) l.4)) ∙ l.3,
        l.4,
      )
    ];
    within = table.chains.within;
  }

  used_at : (r b : ℕ) → r ≡ row → b ≡ bucket → IsUsed p.now f r b
  used_at r b rows buckets = subst (λ (x : ℕ). IsUsed p.now f x b) (sym rows) (subst (IsUsed p.now f row) (sym buckets) used)

  unlink_heads : Heads m' unlink_past.now unlink_flow
  unfolding unlink_past unlink_flow
  unlink_heads = record {
    level = z.others place.Level tt ∙ table.heads.level;
    new_level = z.others place.NewLevel tt ∙ table.heads.new_level;
    owner = z.others place.ResizeLock tt ∙ table.heads.owner;
    paths = λ r b at. elim (bucket_cases row bucket r b) [
      | inl same ↦ (
        first,
        ap (λ (x : ℕ). m' (place.Head x b)) same.0 ∙ ap (λ (x : ℕ). m' (place.Head row x)) same.1 ∙ z.head
            ∙ sym (ap (used_head first) (ap (λ (x : ℕ). p.now.lock x b) same.0 ∙ ap (p.now.lock row) same.1 ∙ lock)),
        subst (λ (x : ℕ). IsPath (links m') first (without slot (f.chain x b))) (sym same.0) (subst (λ (x : ℕ). IsPath (links m') first (without slot (f.chain row x))) (sym same.1) z.path),
      )
      | inr differ ↦ (
          let along = table.heads.paths r b at in (
            along.0,
            z.heads r b differ ∙ along.1,
            subst (λ (nodes : List ℕ). IsPath (links m') along.0 nodes) (sym (chain_stays r b at differ))
                (path_kept (links m) (links m') along.0 (f.chain r b) (λ s there. ap node_of (z.elsewhere s (off_chain r b s at differ there))) along.2),
          ))
    ];
    behind = λ r b left. let word = table.heads.behind r b left in
        (word.0, z.heads r b (λ rows buckets. behind_unused m p.now f r b table.heads left (used_at r b rows buckets)) ∙ word.1);
    held = table.heads.held;
    gone = table.heads.gone;
    pinned = table.heads.pinned;
  }

  claim_stays : (s : ℕ) → claim_word (p.now.slot s) ≡ claim_word (unlink_past.now.slot s)
  claim_stays s = elim (cases_eq s slot) [
    | inl same ↦ ap claim_word (ap p.now.slot same ∙ at) ∙ sym (ap claim_word (slot_gone s same))
    | inr differ ↦ ap claim_word (sym (slot_stays s differ))
  ]

  no_holds : (s : ℕ) → s ≡ slot → holds_of (m (place.Count s)) ≡ 0
  no_holds s same =
      let word : m (place.Count s) ≡ holds_word h 0 =
      ap (λ (x : ℕ). m (place.Count x)) same ∙ table.slots.counts slot text h since at ∙ ap (holds_word h) (dead_has_none p.now.texts text h dead) in
      ap holds_of word ∙ (let rest : (h.generation * 65536 + 0) % 65536 ≡ 0 = omega arith in rest)

  past_stays : (generation : ℕ) (k : Handle) → IsPast generation k (p.now.slot k.slot) → IsPast generation k (unlink_past.now.slot k.slot)
  past_stays generation k past = elim (cases_eq k.slot slot) [
    | inl same ↦ elim past [ inl less ↦ inl less | inr last ↦ inr (last.0, subst (IsLastOf k) (sym (slot_gone k.slot same)) tt) ]
    | inr differ ↦ subst (IsPast generation k) (sym (slot_stays k.slot differ)) past
  ]

  unlink_slots : Slots t m' unlink_past
  unfolding unlink_past
  unlink_slots = record {
    claims = λ s. z.others (place.Claim s) tt ∙ table.slots.claims s ∙ claim_stays s;
    counts = λ s other k made linked. z.others (place.Count s) tt ∙ table.slots.counts s other k made (linked_before s other k made linked).1;
    gone = λ s seat when unlinked. ap holds_of (z.others (place.Count s) tt) ∙ elim (cases_eq s slot) [
      | inl same ↦ no_holds s same
      | inr differ ↦ table.slots.gone s seat when (sym (slot_stays s differ) ∙ unlinked)
    ];
    metas = λ s other k made linked. z.others (place.Meta s) tt ∙ table.slots.metas s other k made (linked_before s other k made linked).1;
    texts = λ s other k made linked j below inside. z.others (place.Text s j) tt ∙ table.slots.texts s other k made (linked_before s other k made linked).1 j below inside;
    rooms = λ s other k made linked. table.slots.rooms s other k made (linked_before s other k made linked).1;
    made = λ k was. subst (λ (count : ℕ). IsPast (generation_of count) k (unlink_past.now.slot k.slot)) (sym (z.others (place.Count k.slot) tt))
        (past_stays (generation_of (m (place.Count k.slot))) k (table.slots.made k (sym (or-false (p.made k)) ∙ was)));
    uses = λ s. subst (λ (count : ℕ). generation_of count ≤ p.uses s + 0) (sym (z.others (place.Count s) tt)) (let few = table.slots.uses s in omega (arith, few));
    used = λ s other k made linked. let before = table.slots.used s other k made (linked_before s other k made linked).1 in omega (arith, before);
  }

  unlink_sections : Sections t m' unlink_past.now
  unfolding unlink_past
  unlink_sections = record {
    counter = z.others place.Counter tt ∙ table.sections.counter;
    words = λ k. z.others (place.Section k) tt ∙ table.sections.words k;
    seats = table.sections.seats;
  }

  -- the table stays as it should be
  pub unlink_table : IsTidy t unlink_past.now → Words t m' → IsTable t m' unlink_past unlink_flow
  unfolding unlink_past unlink_flow
  unlink_table tidy words = record {
    shape = table.shape;
    tidy = tidy;
    words = words;
    slots = unlink_slots;
    sections = unlink_sections;
    heads = unlink_heads;
    chains = unlink_chains;
    clear = clear_kept f.stage p.now unlink_past.now refl table.tidy.since (λ k o is. inl is) table.clear;
    idle = table.idle;
    whole = table.whole;
    row = table.row;
    named = table.named;
    ledger = table.ledger;
  }

  held_since : (k s : ℕ) (o : OpenSection) → p.now.section k ≡ Some o → IsHeld p.now o.place s → IsHeld unlink_past.now o.place s
  held_since k s o inside held = elim (cases_eq s slot) [
    | inl same ↦ inr (i, p.now.place, slot_gone s same, (table.tidy.sections k o inside).0)
    | inr differ ↦ elim held [
      | inl linked ↦ inl (linked.0, linked.1, linked.2, slot_stays s differ ∙ linked.3)
      | inr gone ↦ inr (gone.0, gone.1, slot_stays s differ ∙ gone.2, gone.3)
    ]
  ]

  fit_since : (k hash s : ℕ) (o : OpenSection) → p.now.section k ≡ Some o → IsFit p.now f o.place hash s → IsFit unlink_past.now unlink_flow o.place hash s
  unfolding unlink_past unlink_flow
  fit_since k hash s o inside fit = record {
    held = held_since k s o inside fit.held;
    near = λ other j made linked. fit.near other j made (linked_before s other j made linked).1;
    side = λ other j made linked. fit.side other j made (linked_before s other j made linked).1;
  }

  -- no text wants the slot
  unwanted : (other : List ℕ) (s : ℕ) → s ≡ slot → IsUnwanted p.now other s
  unwanted other s same e is there =
      let live = table.tidy.entries other e is in
      let linked : Linked other e.handle live.0 ≡ Linked text h since = sym live.1 ∙ ap p.now.slot (there ∙ same) ∙ at in
      let handles : e.handle ≡ h = cc in
      dead (other, (e, is, handles))

  -- what everybody knows of it
  pub unlink_grows : Grows m p f m' unlink_past unlink_flow
  unfolding unlink_past unlink_flow
  unlink_grows = record {
    later = omega arith;
    seed = refl;
    counter = let same : m' place.Counter ≡ m place.Counter = z.others place.Counter tt in omega (arith, same);
    made = λ k was. or-false (p.made k) ∙ was;
    made_back = λ k was. inl (sym (or-false (p.made k)) ∙ was);
    uses = λ s. omega arith;
    linked = λ s other k made linked. elim (cases_eq s slot) [ inl same ↦ inr (i, slot_gone s same) | inr differ ↦ inl (slot_stays s differ ∙ linked) ];
    unlinked = λ s seat when k o unlinked inside less. unlinked_stays s (Unlinked seat when) unlinked (λ other j made same. absurd (cc));
    entries = λ other e live. inl (e, live, refl);
    sections = λ k o inside. inl inside;
    words = λ k s o inside held. (z.others (place.Meta s) tt, λ j. z.others (place.Text s j) tt);
    walks = record {
      fits = fit_since;
      go = λ k o other hash node ahead inside way fit. let past = z.ways node ahead way in record {
        left = past.left;
        path = past.path;
        fit = λ s there. fit_since k hash s o inside (fit s (past.fresh s there));
        kept = λ s there. elim (past.kept s there) [ inl stays ↦ inl stays | inr same ↦ inr (λ hashed. unwanted other s same) ];
        fresh = λ s there. inl (past.fresh s there);
      };
    };
    routes = λ k hash r o inside routed. routed;
    onward = λ k hash r o inside sent. sent;
    based = λ k hash r o inside routed. refl;
  }

  -- it spares each other seat, since that has locked other buckets
  pub unlink_spares : (k : ℕ) → k ≢ i → Spares k m p f m' unlink_past unlink_flow
  unfolding unlink_past unlink_flow
  unlink_spares k differ = record {
    section = refl;
    claimed = λ s claimed. unlinked_stays s (Claimed k) claimed (λ other j made same. absurd (cc));
    claimed_back = λ s claimed. elim (cases_eq s slot) [
      | inl same ↦ (let clash : Unlinked i p.now.place ≡ Claimed k = sym (slot_gone s same) ∙ claimed in absurd (cc))
      | inr other ↦ sym (slot_stays s other) ∙ claimed
    ];
    link = λ s claimed. z.elsewhere s (unlinked_off s (Claimed k) claimed (λ other j made same. absurd (cc)));
    count = λ s claimed. z.others (place.Count s) tt;
    meta = λ s claimed. z.others (place.Meta s) tt;
    text = λ s j claimed. z.others (place.Text s j) tt;
    holds = λ j. refl;
    leaves = record {
      locks = λ r b locked. locked;
      locks_back = λ r b locked. locked;
      heads = λ r b locked. z.heads r b (elsewhere r b locked);
      used = λ r b at locked. at;
      chains = λ r b at locked. chain_stays r b at (elsewhere r b locked);
      links = λ r b s at locked there. z.elsewhere s (off_chain r b s at (elsewhere r b locked) there);
      nodes = λ r b s other j made at locked there linked.
          slot_stays s (λ same. off_chain r b s at (elsewhere r b locked) there (subst (λ (x : ℕ). On x (f.chain row bucket)) (sym same) on)) ∙ linked;
      unlinked = λ s when unlinked. unlinked_stays s (Unlinked k when) unlinked (λ other j made same. absurd (cc));
      unlinked_back = λ s when unlinked. elim (cases_eq s slot) [
        | inl same ↦ (let clash : Unlinked i p.now.place ≡ Unlinked k when = sym (slot_gone s same) ∙ unlinked in absurd (differ (cc)))
        | inr other ↦ sym (slot_stays s other) ∙ unlinked
      ];
      counts = λ s when unlinked. z.others (place.Count s) tt;
      owner = λ own. own;
      owner_back = λ own. own;
      still = λ own. record { level = refl; since = refl; stage = refl; before = refl; parted = λ s. refl; free = λ r b unused none. none };
    };
  }
    where
      elsewhere : (r b : ℕ) → p.now.lock r b ≡ Some k → r ≡ row → b ≡ bucket → ⊥
      elsewhere r b locked rows buckets =
          let same : Some k ≡ Some i = sym locked ∙ ap (λ (x : ℕ). p.now.lock x b) rows ∙ ap (p.now.lock row) buckets ∙ lock in
          differ (cc)
