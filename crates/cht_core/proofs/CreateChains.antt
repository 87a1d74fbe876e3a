-- The chains, the heads and the holds after an entry was made.
use Rattle.std.proofs.Common.{◌≡◌, ℕ, ◌+◌, ◌<◌, ◌≤◌, ◌⊎◌, List, ◌∷◌, Option, Some, None, refl, sym, ap, subst, ◌∙◌, inl, inr, arith}
use Rattle.std.proofs.lemmas.Bool.{cases_eq}
use Rattle.chain_core.specs.Nodes.{On, Once}
use Rattle.chain_core.specs.Path.{IsPath}
use Rattle.text_words.specs.Hash.{hash_of}
use Rattle.marked_word.specs.Head.{first_of}
use Rattle.marked_word.specs.Link.{node_of}
use Rattle.table_shape.specs.declared.place.Place.TheVariants as place
use Rattle.intern_log.specs.declared.event.Entry.{Entry}
use Rattle.intern_log.specs.declared.event.Handle.{Handle}
use Rattle.intern_log.specs.Log.{new_entry}
use Rattle.intern_log.specs.Now.{Linked}
use Rattle.intern_log.specs.TextMap.{entry_of, IsLive}
use Rattle.intern_log.proofs.Handles.{same_entry}
use Rattle.cht_core.specs.declared.table.Table.{Table}
use Rattle.cht_core.specs.Backs.{MayCreate}
use Rattle.cht_core.specs.Chains.{Chains, AreRanked, birth, born}
use Rattle.cht_core.specs.Flow.{Flow, IsUsed, ComesTo, IsHome}
use Rattle.cht_core.specs.Stage.{Whole, bucket_in}
use Rattle.cht_core.specs.Heads.{Heads, Sections, used_head}
use Rattle.cht_core.specs.Ledger.{Balanced, sum_below}
use Rattle.cht_core.specs.Memory.{Memory, links}
use Rattle.cht_core.specs.Past.{Past}
use Rattle.cht_core.specs.TableState.{IsTable}
use Rattle.cht_core.proofs.Absent.{claimed_not_linked}
use Rattle.cht_core.proofs.Buckets.{bucket_cases, head_of_bucket}
use Rattle.cht_core.proofs.CalmParts.{ranked_kept}
use Rattle.cht_core.proofs.CreateParts.{chain_here, chain_elsewhere, all_earlier, entry_made, entry_of_other}
use Rattle.cht_core.proofs.Entries.{text_cases}
use Rattle.cht_core.proofs.HeadWords.{node_of_link}
use Rattle.cht_core.proofs.Ledgers.{hold_of_other_handle, held_changed, sum_same}
use Rattle.cht_core.proofs.Routes.{behind_unused}
use Rattle.cht_core.proofs.Stages.{comes_one}
use Rattle.cht_core.proofs.CreateSlots.{created_past, created_flow, Pushed, slot_here, slot_there, linked_here, phase_stays}

module _ (t : Table) (m m' : Memory) (p : Past) (f : Flow) (i : ℕ) (text : List ℕ) (h : Handle) (row bucket head : ℕ) (table : IsTable t m p f) (may : MayCreate t m p f i text h row bucket head)
    (absent : entry_of p.now.texts text ≡ None) (pushed : Pushed m m' row bucket h) where
  -- the front of the chain is the handle's slot, and other chains stay
  pub front_here : (r b : ℕ) → r ≡ row → b ≡ bucket → (created_flow f i h row bucket).chain r b ≡ h.slot ∷ f.chain row bucket
  front_here r b is same = chain_here f.chain row bucket (h.slot ∷ f.chain row bucket) r b is same

  pub chain_stays : (r b : ℕ) → (r ≡ row → b ≡ bucket → ⊥) → (created_flow f i h row bucket).chain r b ≡ f.chain r b
  chain_stays r b differ = chain_elsewhere f.chain row bucket (h.slot ∷ f.chain row bucket) r b differ

  chain_at : (r b : ℕ) → r ≡ row → b ≡ bucket → f.chain r b ≡ f.chain row bucket
  chain_at r b is same = ap (λ k. f.chain k b) is ∙ ap (f.chain row) same

  -- what is on a chain is the new slot or was on it, and what was on a chain is on it
  on_created : (r b s : ℕ) → On s ((created_flow f i h row bucket).chain r b) → ((s ≡ h.slot) × (r ≡ row) × (b ≡ bucket)) ⊎ On s (f.chain r b)
  on_created r b s on = elim (bucket_cases row bucket r b) [
    | inl is ↦ elim (subst (On s) (front_here r b is.0 is.1) on) [
      | inl first ↦ inl (sym first, is.0, is.1)
      | inr later ↦ inr (subst (On s) (sym (chain_at r b is.0 is.1)) later)
    ]
    | inr differ ↦ inr (subst (On s) (chain_stays r b differ) on)
  ]

  pub on_still : (r b s : ℕ) → On s (f.chain r b) → On s ((created_flow f i h row bucket).chain r b)
  on_still r b s on = elim (bucket_cases row bucket r b) [
    | inl is ↦ subst (On s) (sym (front_here r b is.0 is.1)) (inr (subst (On s) (chain_at r b is.0 is.1) on))
    | inr differ ↦ subst (On s) (sym (chain_stays r b differ)) on
  ]

  keeps_linked : (s : ℕ) (u : List ℕ) (k : Handle) (at : ℕ) → p.now.slot s ≡ Linked u k at → (created_past p i text h).now.slot s ≡ Linked u k at
  keeps_linked s u k at linked = phase_stays t m m' p f i text h row bucket head table may absent pushed s (Linked u k at) linked (λ is. cc)

  linked_now : (s : ℕ) → s ≡ h.slot → (created_past p i text h).now.slot s ≡ Linked text h p.now.place
  linked_now s is = slot_here t m m' p f i text h row bucket head table may absent pushed s is

  -- the nodes of a chain were linked
  node_linked : (r b s : ℕ) → IsUsed p.now f r b → On s (f.chain r b) → (u : List ℕ) × (k : Handle) × (at : ℕ) × (p.now.slot s ≡ Linked u k at)
  node_linked r b s used on =
      let is : (u : List ℕ) × (k : Handle) × (at : ℕ) × (p.now.slot s ≡ Linked u k at) × IsHome p.now f r b (hash_of p.now.seed u) = table.chains.on_linked r b s used on in
      (is.0, is.1, is.2, is.3)

  same_birth : (r b s : ℕ) → IsUsed p.now f r b → On s (f.chain r b) → born (created_past p i text h).now.slot s ≡ born p.now.slot s
  same_birth r b s used on =
      let is : (u : List ℕ) × (k : Handle) × (at : ℕ) × (p.now.slot s ≡ Linked u k at) = node_linked r b s used on in
      ap birth (keeps_linked s is.0 is.1 is.2 is.3) ∙ sym (ap birth is.3)

  ranked_still : (r b : ℕ) → IsUsed p.now f r b → AreRanked (f.base r b) (born p.now.slot) (f.chain r b) → AreRanked (f.base r b) (born (created_past p i text h).now.slot) (f.chain r b)
  ranked_still r b used ranked = ranked_kept (f.base r b) (born p.now.slot) (born (created_past p i text h).now.slot) (f.chain r b) (λ s on. same_birth r b s used on) ranked

  -- the new slot was not moved past
  whole_here : f.parted h.slot ≡ Whole
  whole_here = elim (table.chains.loose h.slot) [
    | inl whole ↦ whole
    | inr linked ↦ absurd (claimed_not_linked (p.now.slot h.slot) i linked.0 linked.1 linked.2 may.claimed.0 linked.3)
  ]

  -- the chains are as the log says
  pub created_chains : IsUsed p.now f row bucket → ComesTo p.now f (hash_of p.now.seed text) row → Chains (created_past p i text h).now (created_flow f i h row bucket)
  created_chains here comes_to_it = record {
    on_linked = λ r b s used on. elim (on_created r b s on) [
      | inl is ↦ (text, h, p.now.place, linked_now s is.0, inl (subst (λ k. bucket_in k (hash_of p.now.seed text) ≡ b) (sym is.1) (sym may.at_bucket ∙ sym is.2)))
      | inr before ↦ (
          let was : (u : List ℕ) × (k : Handle) × (at : ℕ) × (p.now.slot s ≡ Linked u k at) × IsHome p.now f r b (hash_of p.now.seed u) = table.chains.on_linked r b s used before in
          (was.0, was.1, was.2, keeps_linked s was.0 was.1 was.2 was.3, was.4))
    ];
    linked_on = λ s u k at r linked comes. elim (cases_eq s h.slot) [
      | inl is ↦ (
          let same : text ≡ u = (linked_here t m m' p f i text h row bucket head table may absent pushed s u k at is linked).0 in
          let in_row : r ≡ row = comes_one p.now f (hash_of p.now.seed text) r row (subst (λ (v : List ℕ). ComesTo p.now f (hash_of p.now.seed v) r) (sym same) comes) comes_to_it in
          let in_bucket : bucket_in r (hash_of p.now.seed u) ≡ bucket =
          ap (λ v. bucket_in r (hash_of p.now.seed v)) (sym same) ∙ ap (λ j. bucket_in j (hash_of p.now.seed text)) in_row ∙ sym may.at_bucket in
          subst (On s) (sym (front_here r (bucket_in r (hash_of p.now.seed u)) in_row in_bucket)) (inl (sym is)))
      | inr differ ↦ (
          let before : p.now.slot s ≡ Linked u k at = sym (slot_there t m m' p f i text h row bucket head table may absent pushed s differ) ∙ linked in
          on_still r (bucket_in r (hash_of p.now.seed u)) s (table.chains.linked_on s u k at r before comes))
    ];
    once = λ r b used. elim (bucket_cases row bucket r b) [
      | inl is ↦ subst Once (sym (front_here r b is.0 is.1)) (not_before, table.chains.once row bucket here)
      | inr differ ↦ subst Once (sym (chain_stays r b differ)) (table.chains.once r b used)
    ];
    ranked = λ r b used. elim (table.chains.ranked r b used) [
      | inl joined ↦ inl joined
      | inr ranked ↦ inr (elim (bucket_cases row bucket r b) [
        | inl is ↦ subst (AreRanked (f.base r b) (born (created_past p i text h).now.slot)) (sym (front_here r b is.0 is.1)) (
          all_earlier (born (created_past p i text h).now.slot) (f.base r b) (born (created_past p i text h).now.slot h.slot) (f.chain row bucket) (λ s on. inl (older_than_new s on)),
          subst (AreRanked (f.base r b) (born (created_past p i text h).now.slot)) (chain_at r b is.0 is.1) (ranked_still r b used ranked),
        )
        | inr differ ↦ subst (AreRanked (f.base r b) (born (created_past p i text h).now.slot)) (sym (chain_stays r b differ)) (ranked_still r b used ranked)
      ])
    ];
    bases = λ r b. let early : f.base r b ≤ p.now.place = table.chains.bases r b in omega arith;
    sides = λ r b s u k at used on linked. elim (cases_eq s h.slot) [
      | inl is ↦ inl (ap f.parted is ∙ whole_here)
      | inr differ ↦ (
          let before : p.now.slot s ≡ Linked u k at = sym (slot_there t m m' p f i text h row bucket head table may absent pushed s differ) ∙ linked in
          elim (on_created r b s on) [ inl is ↦ absurd (differ is.0) | inr was ↦ table.chains.sides r b s u k at used was before ])
    ];
    loose = λ s. elim (table.chains.loose s) [ inl whole ↦ inl whole | inr l ↦ inr (l.0, l.1, l.2, keeps_linked s l.0 l.1 l.2 l.3, l.4) ];
    within = table.chains.within;
  }
    where
      not_before : On h.slot (f.chain row bucket) → ⊥
      not_before on =
          let was : (u : List ℕ) × (k : Handle) × (at : ℕ) × (p.now.slot h.slot ≡ Linked u k at) = node_linked row bucket h.slot here on in
          claimed_not_linked (p.now.slot h.slot) i was.0 was.1 was.2 may.claimed.0 was.3

      older_than_new : (s : ℕ) → On s (f.chain row bucket) → born (created_past p i text h).now.slot s ≤ born (created_past p i text h).now.slot h.slot
      older_than_new s on =
          let was : (u : List ℕ) × (k : Handle) × (at : ℕ) × (p.now.slot s ≡ Linked u k at) = node_linked row bucket s here on in
          let old : born (created_past p i text h).now.slot s ≡ was.2 = ap birth (keeps_linked s was.0 was.1 was.2 was.3) in
          let young : born (created_past p i text h).now.slot h.slot ≡ p.now.place = ap birth (linked_now h.slot refl) in
          let below : was.2 < p.now.place = (table.tidy.linked s was.0 was.1 was.2 was.3).1 in
          omega (arith, old, young, below)

  pub same_links : links m' ≡ links m
  same_links = λ j s. ap node_of (pushed.there (place.Link s) (λ e. cc)) j

  -- the heads lead to their chains
  pub created_heads : IsUsed p.now f row bucket → p.now.lock row bucket ≡ None → IsPath (links m) (first_of head) (f.chain row bucket)
      → Heads m' (created_past p i text h).now (created_flow f i h row bucket)
  created_heads here is_open leads = record {
    level = pushed.there place.Level (λ e. cc) ∙ table.heads.level;
    new_level = pushed.there place.NewLevel (λ e. cc) ∙ table.heads.new_level;
    owner = pushed.there place.ResizeLock (λ e. cc) ∙ table.heads.owner;
    paths = λ r b used. elim (bucket_cases row bucket r b) [
      | inl is ↦ (
        Some h.slot,
        ap (λ k. m' (place.Head k b)) is.0 ∙ ap (λ k. m' (place.Head row k)) is.1 ∙ pushed.here
            ∙ sym (ap (used_head (Some h.slot)) (ap (λ k. p.now.lock k b) is.0 ∙ ap (p.now.lock row) is.1 ∙ is_open)),
        subst (IsPath (links m') (Some h.slot)) (sym (front_here r b is.0 is.1)) (
          refl,
          subst (λ next. IsPath next (next h.slot) (f.chain row bucket)) (sym same_links)
              (subst (λ first. IsPath (links m) first (f.chain row bucket)) (sym (ap node_of may.link ∙ node_of_link (first_of head))) leads),
        ),
      )
      | inr differ ↦ (
          let was : (first : Option ℕ) × (m (place.Head r b) ≡ used_head first (p.now.lock r b)) × IsPath (links m) first (f.chain r b) = table.heads.paths r b used in (
            was.0,
            pushed.there (place.Head r b) (λ e. let same = head_of_bucket row bucket r b e in differ same.0 same.1) ∙ was.1,
            subst (IsPath (links m') was.0) (sym (chain_stays r b differ)) (subst (λ next. IsPath next was.0 (f.chain r b)) (sym same_links) was.2),
          ))
    ];
    behind = λ r b left. let word = table.heads.behind r b left in
        (word.0, pushed.there (place.Head r b) (λ e. let same = head_of_bucket row bucket r b e in behind_unused m p.now f r b table.heads left (used_at r b same.0 same.1)) ∙ word.1);
    held = λ r b k is. table.heads.held r b k is;
    gone = table.heads.gone;
    pinned = table.heads.pinned;
  }
    where
      used_at : (r b : ℕ) → r ≡ row → b ≡ bucket → IsUsed p.now f r b
      used_at r b rows buckets = subst (λ (x : ℕ). IsUsed p.now f x b) (sym rows) (subst (IsUsed p.now f row) (sym buckets) here)

  -- the sections stay
  pub created_sections : Sections t m' (created_past p i text h).now
  created_sections = record {
    counter = pushed.there place.Counter (λ e. cc) ∙ table.sections.counter;
    words = λ k. pushed.there (place.Section k) (λ e. cc) ∙ table.sections.words k;
    seats = table.sections.seats;
  }

  -- the seat holds the new entry, and nobody else does
  pub created_ledger : i < t.shape.seats → Balanced t.shape.seats p.now.texts f.holds → ¬ (IsLive p.now.texts h)
      → Balanced t.shape.seats (created_past p i text h).now.texts (created_flow f i h row bucket).holds
  created_ledger inside balanced dead = record {
    live = λ u e is few. elim (text_cases u text) [
      | inl same ↦ (
          let handle : e.handle ≡ h = same_entry (new_entry h) e (sym (entry_made p.now.texts text h u same) ∙ is) in
          let once : 1 ≡ e.count = ap (λ (o : Option Entry). count_of o) (sym (entry_made p.now.texts text h u same) ∙ is) in
          ap (λ (j : Handle). sum_below t.shape.seats (λ k. (created_flow f i h row bucket).holds k j)) handle ∙ one_hold ∙ once)
      | inr differ ↦ (
          let was : entry_of p.now.texts u ≡ Some e = sym (entry_of_other p.now.texts text h u differ) ∙ is in
          same_sum e.handle (λ same. dead (u, (e, was, same))) ∙ balanced.live u e was few)
    ];
    gone = λ k never. same_sum k (λ same. never (text, (new_entry h, entry_made p.now.texts text h text refl, sym same)))
        ∙ balanced.gone k (λ live. never (still_live k live));
  }
    where
      count_of : Option Entry → ℕ
      count_of None = 0
      count_of (Some e) = e.count

      same_sum : (j : Handle) → (j ≡ h → ⊥) → sum_below t.shape.seats (λ k. (created_flow f i h row bucket).holds k j) ≡ sum_below t.shape.seats (λ k. f.holds k j)
      same_sum j differ = sum_same t.shape.seats (λ k. f.holds k j) (λ k. (created_flow f i h row bucket).holds k j) (λ k less. hold_of_other_handle f.holds i h (f.holds i h + 1) k j differ)

      one_hold : sum_below t.shape.seats (λ k. (created_flow f i h row bucket).holds k h) ≡ 1
      one_hold =
          let none : sum_below t.shape.seats (λ k. f.holds k h) ≡ 0 = balanced.gone h dead in
          let more : sum_below t.shape.seats (λ k. (created_flow f i h row bucket).holds k h) + f.holds i h ≡ sum_below t.shape.seats (λ k. f.holds k h) + (f.holds i h + 1) =
          held_changed t.shape.seats f.holds i h (f.holds i h + 1) inside in
          omega (arith, none, more)

      still_live : (k : Handle) → IsLive p.now.texts k → IsLive (created_past p i text h).now.texts k
      still_live k live = elim (text_cases live.0 text) [
        | inl same ↦ (let clash : None ≡ Some live.1.0 = sym absent ∙ ap (entry_of p.now.texts) (sym same) ∙ live.1.1 in absurd (cc))
        | inr differ ↦ (live.0, (live.1.0, entry_of_other p.now.texts text h live.0 differ ∙ live.1.1, live.1.2))
      ]
