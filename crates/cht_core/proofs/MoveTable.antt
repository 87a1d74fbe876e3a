-- What a table is once a node was moved past, and what the others know of it.
use Rattle.std.proofs.Common.{◌≡◌, ◌≢◌, ℕ, ◌+◌, ◌<◌, ◌≤◌, inl, inr, List, Option, Some, refl, sym, ap, subst, ◌∙◌, arith}
use Rattle.std.proofs.lemmas.Bool.{cases_eq}
use Rattle.chain_core.specs.Nodes.{On}
use Rattle.chain_core.specs.Path.{IsPath, without}
use Rattle.text_words.specs.Hash.{hash_of}
use Rattle.marked_word.specs.Link.{node_of}
use Rattle.table_shape.specs.declared.place.Place.{Place}
use Rattle.table_shape.specs.declared.place.Place.TheVariants as place
use Rattle.intern_log.specs.Now.{OpenSection, Claimed, Linked}
use Rattle.atomic_step.specs.Count.{generation_of, holds_of}
use Rattle.atomic_step.specs.Step.{locked_head, redirected_head}
use Rattle.call_machine.specs.declared.resize.Chain.{Chain}
use Rattle.cht_core.specs.declared.table.Table.{Table}
use Rattle.cht_core.specs.Flow.{Flow, IsUsed}
use Rattle.cht_core.specs.Heads.{Heads, Sections, used_head}
use Rattle.cht_core.specs.Memory.{Memory, links}
use Rattle.cht_core.specs.Past.{Past}
use Rattle.cht_core.specs.Rely.{Grows, Spares, Rerouted, IsUnwanted}
use Rattle.cht_core.specs.Search.{IsFit}
use Rattle.cht_core.specs.Slots.{Slots, IsPast}
use Rattle.cht_core.specs.Stage.{Stage, Parted, bucket_in, IsBehind, IsSpared}
use Rattle.cht_core.specs.TableState.{IsTable, Words}
use Rattle.cht_core.proofs.CalmParts.{path_kept}
use Rattle.cht_core.proofs.MoveParts.{Moving, Moved, one_text, only_lost, chain_cases, moved_chains, moved_flow}
use Rattle.cht_core.proofs.Relinks.{IsNoEdge}
use Rattle.cht_core.proofs.Withouts.{WayPast}

-- the edge to a node of a head's chain leads past it: only the head, or the link of a node of its own, is changed
pub record Passed (m m' : Memory) (own : List ℕ) (row bucket x : ℕ) (nodes : List ℕ) (first : Option ℕ) : Type 0 where
  pub heads : (r b : ℕ) → (r ≡ row → b ≡ bucket → ⊥) → m' (place.Head r b) ≡ m (place.Head r b)
  pub elsewhere : (s : ℕ) → (On s own → ⊥) → m' (place.Link s) ≡ m (place.Link s)
  pub others : (q : Place) → IsNoEdge q → m' q ≡ m q
  pub head : m' (place.Head row bucket) ≡ locked_head first
  pub path : IsPath (links m') first (without x nodes)
  pub ways : (from : Option ℕ) (ahead : List ℕ) → IsPath (links m) from ahead → WayPast (links m') x from ahead

module _ (t : Table) (m m' : Memory) (p : Past) (f : Flow) (i b winner loser x : ℕ) (won_chain lost_chain : Chain) (rest : List ℕ) (chain : ℕ → ℕ → List ℕ) (parted : ℕ → Parted)
    (first : Option ℕ) (table : IsTable t m p f) (h : Moving m p.now f i b winner loser x won_chain lost_chain rest) (z : Moved p.now f loser x chain parted)
    (w : Passed m m' h.lost.own (p.now.level + 1) loser x (f.chain (p.now.level + 1) loser) first) where
  abbrev pub flow' : Flow
  flow' = moved_flow m p.now f i b winner loser x won_chain lost_chain rest chain parted table.chains h z

  only : (y row bucket : ℕ) → On y h.lost.own → IsUsed p.now f row bucket → On y (f.chain row bucket) → (row ≡ p.now.level + 1) × (bucket ≡ loser)
  only = only_lost m p.now f i b winner loser x won_chain lost_chain rest table.chains h

  move_heads : Heads m' p.now flow'
  move_heads = record {
    level = w.others place.Level tt ∙ table.heads.level;
    new_level = w.others place.NewLevel tt ∙ table.heads.new_level;
    owner = w.others place.ResizeLock tt ∙ table.heads.owner;
    paths = chain_cases m p.now f i b winner loser x won_chain lost_chain rest chain parted table.chains h z
        (λ row bucket nodes. (start : Option ℕ) × (m' (place.Head row bucket) ≡ used_head start (p.now.lock row bucket)) × IsPath (links m') start nodes)
        (first, w.head ∙ sym (ap (used_head first) h.lost.locked.0), w.path)
        (λ row bucket used differ.
        let along : (start : Option ℕ) × (m (place.Head row bucket) ≡ used_head start (p.now.lock row bucket)) × IsPath (links m) start (f.chain row bucket) = table.heads.paths row bucket used in (
          along.0,
          w.heads row bucket differ ∙ along.1,
          path_kept (links m) (links m') along.0 (f.chain row bucket) (λ s on. ap node_of (w.elsewhere s (λ own. let both = only s row bucket own used on in differ both.0 both.1))) along.2,
        ));
    behind = λ row bucket old.
        let was : (start : Option ℕ) × (m (place.Head row bucket) ≡ redirected_head start) = table.heads.behind row bucket old in
        let at : row ≡ p.now.level = (subst (λ (st : Stage). IsBehind st p.now.level f.before row bucket) h.stage old).0 in
        (was.0, w.heads row bucket (λ e c. omega (arith, e, at)) ∙ was.1);
    held = table.heads.held;
    gone = table.heads.gone;
    pinned = table.heads.pinned;
  }

  move_slots : Slots t m' p
  move_slots = record {
    claims = λ s. w.others (place.Claim s) tt ∙ table.slots.claims s;
    counts = λ s text k born linked. w.others (place.Count s) tt ∙ table.slots.counts s text k born linked;
    gone = λ s seat at unlinked. ap holds_of (w.others (place.Count s) tt) ∙ table.slots.gone s seat at unlinked;
    metas = λ s text k born linked. w.others (place.Meta s) tt ∙ table.slots.metas s text k born linked;
    texts = λ s text k born linked at below inside. w.others (place.Text s at) tt ∙ table.slots.texts s text k born linked at below inside;
    rooms = table.slots.rooms;
    made = λ k was. subst (λ (count : ℕ). IsPast (generation_of count) k (p.now.slot k.slot)) (sym (w.others (place.Count k.slot) tt)) (table.slots.made k was);
    uses = λ s. subst (λ (count : ℕ). generation_of count ≤ p.uses s) (sym (w.others (place.Count s) tt)) (table.slots.uses s);
    used = table.slots.used;
  }

  move_sections : Sections t m' p.now
  move_sections = record {
    counter = w.others place.Counter tt ∙ table.sections.counter;
    words = λ k. w.others (place.Section k) tt ∙ table.sections.words k;
    seats = table.sections.seats;
  }

  -- the table stays as it should be
  pub move_table : Words t m' → IsTable t m' p flow'
  move_table words = record {
    shape = table.shape;
    tidy = table.tidy;
    words = words;
    slots = move_slots;
    sections = move_sections;
    heads = move_heads;
    chains = moved_chains m p.now f i b winner loser x won_chain lost_chain rest chain parted table.chains h z;
    clear = table.clear;
    idle = table.idle;
    whole = table.whole;
    row = table.row;
    named = table.named;
    ledger = table.ledger;
  }

  -- a node may be on the walks on which it may have been
  pub fit_stays : (since hash s : ℕ) → IsFit p.now f since hash s → IsFit p.now flow' since hash s
  fit_stays since hash s fit = record {
    held = fit.held;
    near = fit.near;
    side = λ text k born is differ. elim (cases_eq s x) [
      | inl e ↦ subst (λ (a : Parted). IsSpared a since) (sym (ap parted e ∙ z.pending)) tt
      | inr ne ↦ subst (λ (a : Parted). IsSpared a since) (sym (z.others s ne)) (fit.side text k born is differ)
    ];
  }

  -- no text of the other side wants it
  not_wanted : (text : List ℕ) → bucket_in (p.now.level + 1) (hash_of p.now.seed text) ≢ winner → IsUnwanted p.now text x
  not_wanted text differ e is there =
      let live = table.tidy.entries text e is in
      let texts : text ≡ h.text = one_text p.now.slot x text e.handle live.0 h.text h.handle h.made (ap p.now.slot (sym there) ∙ live.1) h.at in
      differ (ap (λ (a : List ℕ). bucket_in (p.now.level + 1) (hash_of p.now.seed a)) texts ∙ h.in_half)

  -- a walk for a text of its side meets no own node of the other one
  never : (k hash : ℕ) (o : OpenSection) (ahead : List ℕ) (y : ℕ) → p.now.section k ≡ Some o → bucket_in (p.now.level + 1) hash ≡ winner → ((s : ℕ) → On s ahead → IsFit p.now f o.place hash s)
      → On y ahead → On y h.lost.own → ⊥
  never k hash o ahead y inside mine fit on own =
      let at = h.lost.mine y own in
      let apart : bucket_in (p.now.level + 1) (hash_of p.now.seed at.0) ≢ bucket_in (p.now.level + 1) hash = λ e. h.two (sym mine ∙ sym e ∙ at.4) in
      let spared : IsSpared (f.parted y) o.place = (fit y on).side at.0 at.1 at.2 at.3 apart in
      let early : o.place ≤ at.5.0 = subst (λ (a : Parted). IsSpared a o.place) at.5.1 spared in
      let late : at.5.0 < o.place = at.5.3 k o inside in
      omega (arith, early, late)

  move_walks : (k : ℕ) (o : OpenSection) (text : List ℕ) (hash : ℕ) (node : Option ℕ) (ahead : List ℕ) → p.now.section k ≡ Some o → IsPath (links m) node ahead
      → ((s : ℕ) → On s ahead → IsFit p.now f o.place hash s) → Rerouted p.now f m' p.now flow' o.place text hash node ahead
  move_walks k o text hash node ahead inside path fit = elim (cases_eq (bucket_in (p.now.level + 1) hash) winner) [
    | inl mine ↦ record {
      left = ahead;
      path = path_kept (links m) (links m') node ahead (λ s on. ap node_of (w.elsewhere s (never k hash o ahead s inside mine fit on))) path;
      fit = λ s on. fit_stays o.place hash s (fit s on);
      kept = λ s on. inl on;
      fresh = λ s on. inl on;
    }
    | inr other ↦ (let past : WayPast (links m') x node ahead = w.ways node ahead path in record {
      left = past.left;
      path = past.path;
      fit = λ s on. fit_stays o.place hash s (fit s (past.fresh s on));
      kept = λ s on. elim (past.kept s on) [
        | inl stays ↦ inl stays
        | inr same ↦ inr (λ hashed. subst (λ (a : ℕ). IsUnwanted p.now text a) (sym same) (not_wanted text (subst (λ (a : ℕ). bucket_in (p.now.level + 1) a ≢ winner) hashed other)))
      ];
      fresh = λ s on. inl (past.fresh s on);
    })
  ]

  -- what everybody knows of it
  pub move_grows : Grows m p f m' p flow'
  move_grows = record {
    later = omega arith;
    seed = refl;
    counter = let same : m' place.Counter ≡ m place.Counter = w.others place.Counter tt in omega (arith, same);
    made = λ k was. was;
    made_back = λ k was. inl was;
    uses = λ s. omega arith;
    linked = λ s text k born linked. inl linked;
    unlinked = λ s seat at k o unlinked inside less. unlinked;
    entries = λ text e live. inl (e, live, refl);
    sections = λ k o inside. inl inside;
    words = λ k s o inside held. (w.others (place.Meta s) tt, λ j. w.others (place.Text s j) tt);
    walks = record { fits = λ k hash s o inside fit. fit_stays o.place hash s fit; go = move_walks };
    routes = λ k hash r o inside routed. routed;
    onward = λ k hash r o inside sent. sent;
    based = λ k hash r o inside routed. refl;
  }

  -- it spares each other seat, since that has locked other buckets
  pub move_spares : (k : ℕ) → k ≢ i → Spares k m p f m' p flow'
  move_spares k differ = record {
    section = refl;
    claimed = λ s claimed. claimed;
    claimed_back = λ s claimed. claimed;
    link = λ s claimed. w.elsewhere s (λ own. let at = h.lost.mine s own in let clash : Claimed k ≡ Linked at.0 at.1 at.2 = sym claimed ∙ at.3 in cc);
    count = λ s claimed. w.others (place.Count s) tt;
    meta = λ s claimed. w.others (place.Meta s) tt;
    text = λ s j claimed. w.others (place.Text s j) tt;
    holds = λ j. refl;
    leaves = record {
      locks = λ r c locked. locked;
      locks_back = λ r c locked. locked;
      heads = λ r c locked. w.heads r c (elsewhere r c locked);
      used = λ r c at locked. at;
      chains = λ r c at locked. z.away r c at (elsewhere r c locked);
      links = λ r c s at locked there. w.elsewhere s (λ own. let both = only s r c own at there in elsewhere r c locked both.0 both.1);
      nodes = λ r c s text j made at locked there linked. linked;
      unlinked = λ s at unlinked. unlinked;
      unlinked_back = λ s at unlinked. unlinked;
      counts = λ s at unlinked. w.others (place.Count s) tt;
      owner = λ own. own;
      owner_back = λ own. own;
      still = λ own. absurd (let same : Some k ≡ Some i = sym own ∙ h.owner in differ (cc));
    };
  }
    where
      elsewhere : (r c : ℕ) → p.now.lock r c ≡ Some k → r ≡ p.now.level + 1 → c ≡ loser → ⊥
      elsewhere r c locked rows buckets =
          let same : Some k ≡ Some i = sym locked ∙ ap (λ (a : ℕ). p.now.lock a c) rows ∙ ap (p.now.lock (p.now.level + 1)) buckets ∙ h.lost.locked.0 in
          differ (cc)
