-- A step that changes the entry of one live handle, in the map and in its count word, and how often its seat holds it.
use Rattle.std.proofs.Common.{◌≡◌, ◌≢◌, ℕ, ◌+◌, ◌≤◌, List, Option, Some, inl, inr, refl, sym, ap, subst, ◌∙◌, arith}
use Rattle.std.proofs.lemmas.Bool.{cases_eq}
use Rattle.chain_core.specs.Path.{IsPath}
use Rattle.marked_word.specs.Link.{node_of}
use Rattle.table_shape.specs.declared.place.Place.{Place}
use Rattle.table_shape.specs.declared.place.Place.TheVariants as place
use Rattle.intern_log.specs.declared.event.Entry.{Entry}
use Rattle.intern_log.specs.declared.event.Handle.{Handle}
use Rattle.intern_log.specs.declared.event.Kind.TheVariants.{Counted}
use Rattle.intern_log.specs.declared.event.What.{What}
use Rattle.intern_log.specs.Now.{Linked, Unlinked, Claimed}
use Rattle.intern_log.specs.TextMap.{TextMap, entry_of}
use Rattle.intern_log.proofs.Handles.{same_entry}
use Rattle.atomic_step.specs.declared.step.Step.{Step}
use Rattle.atomic_step.specs.Count.{generation_of, holds_of, holds_word}
use Rattle.cht_core.specs.declared.table.Table.{Table}
use Rattle.cht_core.specs.Backs.{LeadsOn}
use Rattle.cht_core.specs.Flow.{Flow}
use Rattle.cht_core.specs.Heads.{Heads, Sections, used_head}
use Rattle.cht_core.specs.Chains.{Chains}
use Rattle.cht_core.specs.Ledger.{Balanced}
use Rattle.cht_core.specs.Memory.{Memory, links}
use Rattle.cht_core.specs.Past.{Past, MayTell, kind_of}
use Rattle.cht_core.specs.Rely.{Grows, Leaves, Spares}
use Rattle.cht_core.specs.Search.{IsFit}
use Rattle.cht_core.specs.Slots.{Slots, IsPast, count_in}
use Rattle.cht_core.specs.TableState.{IsTable, Words}
use Rattle.cht_core.specs.Tidy.{IsTidy}
use Rattle.cht_core.proofs.CalmParts.{clear_kept}
use Rattle.cht_core.proofs.Counts.{generation_in_word, count_small, count_of_other}
use Rattle.cht_core.proofs.Entries.{text_cases, Puts}
use Rattle.cht_core.proofs.LiveCounts.{LiveAt}

-- what is told after such an event: another map, one place later
abbrev pub counted_past : Past → TextMap → Past
counted_past p texts = record { now = record p.now { place = p.now.place + 1; texts = texts }; made = p.made; uses = p.uses }

-- the entry of the handle is another one, or none, in the map and in the word; no other word changes, and no hold of another seat
pub record Recounts (m m' : Memory) (p : Past) (f : Flow) (i x : ℕ) (text : List ℕ) (h : Handle) (texts : TextMap) (o : Option Entry) (holds : ℕ → Handle → ℕ) : Type 0 where
  pub live : LiveAt m p.now x text h
  pub puts : Puts p.now.texts texts text o
  pub own : (e : Entry) → o ≡ Some e → e.handle ≡ h
  pub few : (e : Entry) → o ≡ Some e → e.count ≤ 65535
  pub word : m' (place.Count x) ≡ holds_word h (count_in o h)
  pub there : (q : Place) → q ≢ place.Count x → m' q ≡ m q
  pub others : (k : ℕ) → k ≢ i → (j : Handle) → holds k j ≡ f.holds k j

module _ (t : Table) (m m' : Memory) (p : Past) (f : Flow) (i x : ℕ) (text : List ℕ) (h : Handle) (texts : TextMap) (o : Option Entry) (holds : ℕ → Handle → ℕ)
    (table : IsTable t m p f) (c : Recounts m m' p f i x text h texts o holds) where
  -- a slot that is not linked has another count word
  unlinked_count : (s seat at : ℕ) → p.now.slot s ≡ Unlinked seat at → m' (place.Count s) ≡ m (place.Count s)
  unlinked_count s seat at is = c.there (place.Count s) (λ same.
      let at_slot : s ≡ x = cc in
      let clash : Unlinked seat at ≡ Linked text h c.live.born = sym is ∙ ap p.now.slot at_slot ∙ c.live.linked in absurd (cc))

  claimed_count : (s seat : ℕ) → p.now.slot s ≡ Claimed seat → m' (place.Count s) ≡ m (place.Count s)
  claimed_count s seat is = c.there (place.Count s) (λ same.
      let at_slot : s ≡ x = cc in
      let clash : Claimed seat ≡ Linked text h c.live.born = sym is ∙ ap p.now.slot at_slot ∙ c.live.linked in absurd (cc))

  same_generations : (s : ℕ) → generation_of (m' (place.Count s)) ≡ generation_of (m (place.Count s))
  same_generations s = elim (cases_eq s x) [
    | inl is ↦
        ap (λ k. generation_of (m' (place.Count k))) is ∙ ap generation_of c.word ∙ generation_in_word h (count_in o h) (count_small o h c.few)
        ∙ sym (ap (λ k. generation_of (m (place.Count k))) is ∙ ap generation_of c.live.word
        ∙ generation_in_word h c.live.entry.count (let most : c.live.entry.count ≤ 65535 = c.live.most in omega (arith, most)))
    | inr differ ↦ ap generation_of (c.there (place.Count s) (λ same. differ (cc)))
  ]

  -- another handle is counted as before
  other_counted : (q : List ℕ) (k : Handle) → h ≢ k → count_in (entry_of texts q) k ≡ count_in (entry_of p.now.texts q) k
  other_counted q k differ = elim (text_cases q text) [
    | inl is ↦
        let now : count_in (entry_of texts q) k ≡ 0 = ap (λ e. count_in e k) (ap (entry_of texts) is ∙ c.puts.here) ∙ count_of_other o h k c.own differ in
        let was : count_in (entry_of p.now.texts q) k ≡ 0 =
        ap (λ e. count_in e k) (ap (entry_of p.now.texts) is ∙ c.live.is) ∙ count_of_other (Some c.live.entry) h k (λ e same. same_entry c.live.entry e same ∙ c.live.own) differ in
        omega (arith, now, was)
    | inr apart ↦ ap (λ e. count_in e k) (c.puts.other q apart)
  ]

  counts_after : (s : ℕ) (q : List ℕ) (k : Handle) (born : ℕ) → p.now.slot s ≡ Linked q k born → m' (place.Count s) ≡ holds_word k (count_in (entry_of texts q) k)
  counts_after s q k born linked = elim (cases_eq s x) [
    | inl is ↦
        let same : Linked text h c.live.born ≡ Linked q k born = sym c.live.linked ∙ ap p.now.slot (sym is) ∙ linked in
        let texts_same : text ≡ q = cc in
        let handles_same : h ≡ k = cc in
        ap (λ j. m' (place.Count j)) is ∙ c.word ∙ ap (λ e. holds_word h (count_in e h)) (sym c.puts.here)
        ∙ ap (λ y. holds_word h (count_in (entry_of texts y) h)) texts_same ∙ ap (λ y. holds_word y (count_in (entry_of texts q) y)) handles_same
    | inr differ ↦
        let apart : h ≢ k = λ same. differ (sym (table.tidy.linked s q k born linked).0 ∙ ap (λ (j : Handle). j.slot) (sym same) ∙ c.live.at) in
        c.there (place.Count s) (λ same. differ (cc)) ∙ table.slots.counts s q k born linked ∙ ap (holds_word k) (sym (other_counted q k apart))
  ]

  slots_after : Slots t m' (counted_past p texts)
  slots_after = record {
    claims = λ s. c.there (place.Claim s) (λ same. cc) ∙ table.slots.claims s;
    counts = counts_after;
    gone = λ s seat at is. ap holds_of (unlinked_count s seat at is) ∙ table.slots.gone s seat at is;
    metas = λ s q k born is. c.there (place.Meta s) (λ same. cc) ∙ table.slots.metas s q k born is;
    texts = λ s q k born is at below inside. c.there (place.Text s at) (λ same. cc) ∙ table.slots.texts s q k born is at below inside;
    rooms = table.slots.rooms;
    made = λ k is. subst (λ generation. IsPast generation k (p.now.slot k.slot)) (sym (same_generations k.slot)) (table.slots.made k is);
    uses = λ s. subst (λ generation. generation ≤ p.uses s) (sym (same_generations s)) (table.slots.uses s);
    used = table.slots.used;
  }

  same_links : links m' ≡ links m
  same_links = λ j s. node_of (c.there (place.Link s) (λ same. cc) j)

  same_path : (first : Option ℕ) (nodes : List ℕ) → IsPath (links m) first nodes → IsPath (links m') first nodes
  same_path first nodes path = subst (λ next. IsPath next first nodes) (sym same_links) path

  heads_after : Heads m' (counted_past p texts).now (record f { holds = holds })
  heads_after = record {
    level = c.there place.Level (λ same. cc) ∙ table.heads.level;
    new_level = c.there place.NewLevel (λ same. cc) ∙ table.heads.new_level;
    owner = c.there place.ResizeLock (λ same. cc) ∙ table.heads.owner;
    paths = λ row bucket used.
        let way : (first : Option ℕ) × (m (place.Head row bucket) ≡ used_head first (p.now.lock row bucket)) × IsPath (links m) first (f.chain row bucket) = table.heads.paths row bucket used in
        (way.0, c.there (place.Head row bucket) (λ same. cc) ∙ way.1, same_path way.0 (f.chain row bucket) way.2);
    behind = λ row bucket is. let word = table.heads.behind row bucket is in (word.0, c.there (place.Head row bucket) (λ same. cc) ∙ word.1);
    held = table.heads.held;
    gone = table.heads.gone;
    pinned = table.heads.pinned;
  }

  sections_after : Sections t m' (counted_past p texts).now
  sections_after = record {
    counter = c.there place.Counter (λ same. cc) ∙ table.sections.counter;
    words = λ k. c.there (place.Section k) (λ same. cc) ∙ table.sections.words k;
    seats = table.sections.seats;
  }

  chains_after : Chains (counted_past p texts).now (record f { holds = holds })
  chains_after = record {
    on_linked = table.chains.on_linked;
    linked_on = table.chains.linked_on;
    once = table.chains.once;
    ranked = table.chains.ranked;
    bases = λ row bucket. let before : f.base row bucket ≤ p.now.place = table.chains.bases row bucket in omega (arith, before);
    sides = table.chains.sides;
    loose = table.chains.loose;
    within = table.chains.within;
  }

  entries_before : (q : List ℕ) (e : Entry) → entry_of texts q ≡ Some e → (was : Entry) × (entry_of p.now.texts q ≡ Some was) × (was.handle ≡ e.handle)
  entries_before q e is = elim (text_cases q text) [
    | inl same ↦ (
      c.live.entry,
      ap (entry_of p.now.texts) same ∙ c.live.is,
      c.live.own ∙ sym (c.own e (sym c.puts.here ∙ ap (entry_of texts) (sym same) ∙ is)),
    )
    | inr apart ↦ (e, sym (c.puts.other q apart) ∙ is, refl)
  ]

  same_fit : (since hash s : ℕ) → IsFit p.now f since hash s → IsFit (counted_past p texts).now (record f { holds = holds }) since hash s
  same_fit since hash s fit = record { held = fit.held; near = fit.near; side = fit.side }

  -- what every seat knows goes on
  pub count_grows : Grows m p f m' (counted_past p texts) (record f { holds = holds })
  count_grows = record {
    later = omega arith;
    seed = refl;
    counter = let same : m' place.Counter ≡ m place.Counter = c.there place.Counter (λ same. cc) in omega (arith, same);
    made = λ k is. is;
    made_back = λ k is. inl is;
    uses = λ s. omega arith;
    linked = λ s q k born is. inl is;
    unlinked = λ s seat at k section is inside less. is;
    entries = λ q e is. inl (entries_before q e is);
    sections = λ k section is. inl is;
    words = λ k s section is held. (c.there (place.Meta s) (λ same. cc), λ at. c.there (place.Text s at) (λ same. cc));
    walks = record {
      fits = λ k hash s section is fit. same_fit section.place hash s fit;
      go = λ k section q hash node ahead is path fit.
          record { left = ahead; path = same_path node ahead path; fit = λ s on. same_fit section.place hash s (fit s on); kept = λ s on. inl on; fresh = λ s on. inl on };
    };
    routes = λ k hash row section is routed. routed;
    onward = λ k hash row section is sent. sent;
    based = λ k hash row section is routed. refl;
  }

  pub count_leaves : (k : ℕ) → Leaves k m p f m' (counted_past p texts) (record f { holds = holds })
  count_leaves k = record {
    locks = λ row bucket is. is;
    locks_back = λ row bucket is. is;
    heads = λ row bucket is. c.there (place.Head row bucket) (λ same. cc);
    used = λ row bucket used is. used;
    chains = λ row bucket used is. refl;
    links = λ row bucket s used is on. c.there (place.Link s) (λ same. cc);
    nodes = λ row bucket s q j born used is on linked. linked;
    unlinked = λ s at is. is;
    unlinked_back = λ s at is. is;
    counts = λ s at is. unlinked_count s k at is;
    owner = λ is. is;
    owner_back = λ is. is;
    still = λ is. record { level = refl; since = refl; stage = refl; before = refl; parted = λ s. refl; free = λ row bucket unused none. none };
  }

  pub count_spares : (k : ℕ) → k ≢ i → Spares k m p f m' (counted_past p texts) (record f { holds = holds })
  count_spares k differ = record {
    section = refl;
    claimed = λ s is. is;
    claimed_back = λ s is. is;
    link = λ s is. c.there (place.Link s) (λ same. cc);
    count = λ s is. claimed_count s k is;
    meta = λ s is. c.there (place.Meta s) (λ same. cc);
    text = λ s at is. c.there (place.Text s at) (λ same. cc);
    holds = λ j. c.others k differ j;
    leaves = count_leaves k;
  }

  -- such a step leads on
  pub count_leads : (s : Step) (what : What) → MayTell (kind_of t) p i (Some what) → IsTidy t (counted_past p texts).now → Words t m' → (t.kind ≡ Counted → Balanced t.shape.seats texts holds)
      → LeadsOn t m p f i s (Some what) m' (counted_past p texts) (record f { holds = holds })
  count_leads s what told tidy words ledger = record {
    told = told;
    table = record {
      shape = table.shape;
      tidy = tidy;
      words = words;
      slots = slots_after;
      sections = sections_after;
      heads = heads_after;
      chains = chains_after;
      clear = clear_kept f.stage p.now (counted_past p texts).now refl table.tidy.since (λ k o is. inl is) table.clear;
      idle = table.idle;
      whole = table.whole;
      row = table.row;
      named = table.named;
      ledger = ledger;
    };
    grows = count_grows;
    spares = count_spares;
    leaves = λ try. count_leaves i;
  }
