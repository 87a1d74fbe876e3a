-- A join of a pair's chains: what others know goes on, and the table stays as it should be.
use Rattle.std.proofs.Common.{◌≡◌, ◌≢◌, ℕ, ◌+◌, ◌^◌, ◌<◌, ◌≤◌, List, [], ◌∷◌, ◌++◌, Option, Some, None, refl, sym, ap, subst, ◌∙◌, inl, inr, arith}
use Rattle.chain_core.specs.Nodes.{On}
use Rattle.chain_core.specs.Path.{IsPath}
use Rattle.chain_core.proofs.Members.{on_left, on_right, on_either, on_or_not}
use Rattle.chain_core.proofs.Ways.{leads_stays, path_once}
use Rattle.text_words.specs.Hash.{hash_of}
use Rattle.marked_word.specs.Link.{link_word}
use Rattle.table_shape.specs.declared.place.Place.{Place}
use Rattle.table_shape.specs.declared.place.Place.TheVariants as place
use Rattle.intern_log.specs.declared.event.Handle.{Handle}
use Rattle.intern_log.specs.Now.{Claimed, Linked, owner_of}
use Rattle.call_machine.specs.Resize.{joined_first}
use Rattle.atomic_step.specs.Count.{generation_of, holds_of}
use Rattle.cht_core.specs.declared.table.Table.{Table}
use Rattle.cht_core.specs.Flow.{Flow, joined}
use Rattle.cht_core.specs.Heads.{Sections}
use Rattle.cht_core.specs.KnowsResize.{HasPair, Joint}
use Rattle.cht_core.specs.Memory.{Memory, links}
use Rattle.cht_core.specs.Past.{Past}
use Rattle.cht_core.specs.Rely.{Grows, Rerouted, Spares}
use Rattle.cht_core.specs.Search.{IsFit}
use Rattle.cht_core.specs.Slots.{Slots, IsPast}
use Rattle.cht_core.specs.Stage.{Shrinking, Joining, Parted, bucket_in, IsNearIn, IsSpared}
use Rattle.cht_core.specs.TableState.{IsTable, Words}
use Rattle.cht_core.proofs.JoinState.{at_row, shrinking, joining, even_text, odd_text, all_whole, one_text, even_path, joined_here, joined_elsewhere, other_link, other_links, walk_joined, long_path, chain_links, join_chains_after, join_heads}
use Rattle.cht_core.proofs.KeepsRow.{not_settled}
use Rattle.cht_core.proofs.Stages.{row_up, halves_low, halves_high}

-- what has been told, at a level
abbrev pub past_at : Past → ℕ → Past
past_at p k = record p { now = at_row p.now k }

some_number : (a b : ℕ) → Some a ≡ Some b → a ≡ b
some_number a b same = cc

module _ (t : Table) (m m' : Memory) (p : Past) (f : Flow) (i k b x : ℕ) (even odd : Option ℕ) (table : IsTable t m (past_at p k) (shrinking f k b)) (pair : HasPair m (at_row p.now k) (shrinking f k b) i k b even odd (Shrinking k b))
    (on_x : On x (f.chain (k + 1) b)) (last : m (place.Link x) ≡ link_word None) (here : m' (place.Link x) ≡ link_word odd) (there : (q : Place) → q ≢ place.Link x → m' q ≡ m q) where
  a_walk : (node : Option ℕ) (ahead : List ℕ) → IsPath (links m) node ahead → On x ahead → IsPath (links m') node (ahead ++ f.chain (k + 1) (b + 2 ^ k))
  a_walk = walk_joined m m' p.now f i k b x even odd pair.0.below table.chains table.heads pair.0.resizing.owner pair.0.low pair.0.high on_x last here there

  joined_path : IsPath (links m') even (joined f.chain k b)
  joined_path = long_path m m' p.now f i k b x even odd pair.0.below table.chains table.heads pair.0.resizing.owner pair.0.low pair.0.high on_x last here there

  node_text : (text : List ℕ) × (h : Handle) × (at : ℕ) × (p.now.slot x ≡ Linked text h at) × (bucket_in (k + 1) (hash_of p.now.seed text) ≡ b)
  node_text = even_text m p.now f i k b even odd pair.0.below table.chains table.heads pair.0.low pair.0.high x on_x

  odd_node : (s : ℕ) → On s (f.chain (k + 1) (b + 2 ^ k)) → (text : List ℕ) × (h : Handle) × (at : ℕ) × (p.now.slot s ≡ Linked text h at) × (bucket_in (k + 1) (hash_of p.now.seed text) ≡ b + 2 ^ k)
  odd_node = odd_text m p.now f i k b even odd pair.0.below table.chains table.heads pair.0.low pair.0.high

  -- what a walk may be at it may be at after the join; more, where the pair is the walk's
  join_fit : (since hash s : ℕ) → IsFit (at_row p.now k) (shrinking f k b) since hash s → IsFit (at_row p.now k) (joining f k b) since hash s
  join_fit since hash s fit = record {
    held = fit.held;
    near = λ text h born is. let was : IsNearIn (Shrinking k b) (k + 1) p.now.since since hash (hash_of p.now.seed text) = fit.near text h born is in (was.0, λ odd. was.1 odd.0);
    side = fit.side;
  }

  -- an odd node may be on a walk that meets the last even one: its pair is the walk's, and that is for an even text
  odd_fit : (since hash s : ℕ) → bucket_in k hash ≡ b → bucket_in (k + 1) hash ≡ b → On s (f.chain (k + 1) (b + 2 ^ k)) → IsFit (at_row p.now k) (joining f k b) since hash s
  odd_fit since hash s mine low on =
      let c : (text : List ℕ) × (h : Handle) × (at : ℕ) × (p.now.slot s ≡ Linked text h at) × (bucket_in (k + 1) (hash_of p.now.seed text) ≡ b + 2 ^ k) = odd_node s on in
      record {
        held = inl (c.0, c.1, c.2, c.3);
        near = λ text h born is. (
          ap (λ (z : List ℕ). bucket_in k (hash_of p.now.seed z)) (one_text p.now.slot s text h born c.0 c.1 c.2 is c.3) ∙ halves_high (hash_of p.now.seed c.0) k b c.4 ∙ sym mine,
          λ odd. absurd (odd.1 low),
        );
        side = λ text h born is apart. subst (λ (z : Parted). IsSpared z since)
            (sym (all_whole m p.now f i k b even odd pair.0.below table.chains table.heads pair.0.low pair.0.high s)) tt;
      }

  join_reroutes : (since : ℕ) (text : List ℕ) (hash : ℕ) (node : Option ℕ) (ahead : List ℕ) → IsPath (links m) node ahead → ((s : ℕ) → On s ahead → IsFit (at_row p.now k) (shrinking f k b) since hash s)
      → Rerouted (at_row p.now k) (shrinking f k b) m' (at_row p.now k) (joining f k b) since text hash node ahead
  join_reroutes since text hash node ahead path fit = elim (on_or_not ahead x) [
    | inr off ↦ record {
      left = ahead;
      path = leads_stays (links m) (links m') x (other_links m m' p.now f i k b x even odd pair.0.below table.chains table.heads pair.0.resizing.owner pair.0.low pair.0.high on_x last here there) node None ahead off path;
      fit = λ s on. join_fit since hash s (fit s on);
      kept = λ s on. inl on;
      fresh = λ s on. inl on;
    }
    | inl met ↦ (
        let a : (u : List ℕ) × (h : Handle) × (at : ℕ) × (p.now.slot x ≡ Linked u h at) × (bucket_in (k + 1) (hash_of p.now.seed u) ≡ b) = node_text in
        let near : IsNearIn (Shrinking k b) (k + 1) p.now.since since hash (hash_of p.now.seed a.0) = (fit x met).near a.0 a.1 a.2 a.3 in
        let mine : bucket_in k hash ≡ b = sym near.0 ∙ halves_low (hash_of p.now.seed a.0) k b pair.0.below a.4 in
        let even_one : bucket_in (k + 1) hash ≡ b = sym (near.1 (omega (arith, mine))) ∙ a.4 in
        let up : 0 < 2 ^ k = row_up k in
        record {
          left = ahead ++ f.chain (k + 1) (b + 2 ^ k);
          path = a_walk node ahead path met;
          fit = λ s on. elim (on_either ahead (f.chain (k + 1) (b + 2 ^ k)) s on) [ inl o ↦ join_fit since hash s (fit s o) | inr o ↦ odd_fit since hash s mine even_one o ];
          kept = λ s on. inl (on_left ahead (f.chain (k + 1) (b + 2 ^ k)) s on);
          -- an odd node was not fit for a walk for an even text, so none has passed it
          fresh = λ s on. elim (on_either ahead (f.chain (k + 1) (b + 2 ^ k)) s on) [
            | inl o ↦ inl o
            | inr o ↦ inr (λ was.
                let c : (u : List ℕ) × (h : Handle) × (at : ℕ) × (p.now.slot s ≡ Linked u h at) × (bucket_in (k + 1) (hash_of p.now.seed u) ≡ b + 2 ^ k) = odd_node s o in
                let close : IsNearIn (Shrinking k b) (k + 1) p.now.since since hash (hash_of p.now.seed c.0) = was.near c.0 c.1 c.2 c.3 in
                let z : b + 2 ^ k ≡ b = sym c.4 ∙ close.1 (omega (arith, mine)) ∙ even_one in
                omega (arith, z, up))
          ];
        })
  ]

  pub join_grows : Grows m (past_at p k) (shrinking f k b) m' (past_at p k) (joining f k b)
  join_grows = record {
    later = omega arith;
    seed = refl;
    counter = let same : m' place.Counter ≡ m place.Counter = there place.Counter (λ same. cc) in omega (arith, same);
    made = λ h is. is;
    made_back = λ h is. inl is;
    uses = λ s. omega arith;
    linked = λ s text h born is. inl is;
    unlinked = λ s seat at j o is inside less. is;
    entries = λ text e is. inl (e, is, refl);
    sections = λ j o is. inl is;
    words = λ j s o is held. (there (place.Meta s) (λ same. cc), λ at. there (place.Text s at) (λ same. cc));
    walks = record {
      fits = λ j hash s o is fit. join_fit o.place hash s fit;
      go = λ j o text hash node ahead is path fit. join_reroutes o.place text hash node ahead path fit;
    };
    routes = λ j hash row o is routed. routed;
    onward = λ j hash row o is sent. sent;
    based = λ j hash row o is routed. refl;
  }

  not_node : (j s : ℕ) → p.now.slot s ≡ Claimed j → s ≢ x
  not_node j s claimed same = let clash : Claimed j ≡ Linked node_text.0 node_text.1 node_text.2 = sym claimed ∙ ap p.now.slot same ∙ node_text.3 in absurd (cc)

  pub join_spares : (j : ℕ) → j ≢ i → Spares j m (past_at p k) (shrinking f k b) m' (past_at p k) (joining f k b)
  join_spares j differs =
      let other : (r c : ℕ) → p.now.lock r c ≡ Some j → r ≡ k + 1 → c ≡ b → ⊥ = λ r c is rows buckets.
      differs (some_number j i (sym is ∙ ap (λ (a : ℕ). p.now.lock a c) rows ∙ ap (p.now.lock (k + 1)) buckets ∙ pair.0.low.0)) in
      let no_owner : owner_of p.now.resizing ≡ Some j → ⊥ = λ is. differs (some_number j i (sym is ∙ pair.0.resizing.owner)) in
      record {
        section = refl;
        claimed = λ s is. is;
        claimed_back = λ s is. is;
        link = λ s is. other_link m m' p.now f i k b x even odd pair.0.below table.chains table.heads pair.0.resizing.owner pair.0.low pair.0.high on_x last here there s (not_node j s is);
        count = λ s is. there (place.Count s) (λ same. cc);
        meta = λ s is. there (place.Meta s) (λ same. cc);
        text = λ s at is. there (place.Text s at) (λ same. cc);
        holds = λ h. refl;
        leaves = record {
          locks = λ r c is. is;
          locks_back = λ r c is. is;
          heads = λ r c is. there (place.Head r c) (λ same. cc);
          used = λ r c used is. used;
          chains = λ r c used is. joined_elsewhere m p.now f i k b even odd pair.0.below table.chains table.heads pair.0.low pair.0.high r c (other r c is);
          links = λ r c s used is on.
              chain_links m m' p.now f i k b x even odd pair.0.below table.chains table.heads pair.0.resizing.owner pair.0.low pair.0.high on_x last here there r c s used on (other r c is);
          nodes = λ r c s text h born used is on linked. linked;
          unlinked = λ s at is. is;
          unlinked_back = λ s at is. is;
          counts = λ s at is. there (place.Count s) (λ same. cc);
          owner = λ is. is;
          owner_back = λ is. is;
          still = λ is. absurd (no_owner is);
        };
      }

  join_slots : Slots t m' (past_at p k)
  join_slots = record {
    claims = λ s. there (place.Claim s) (λ same. cc) ∙ table.slots.claims s;
    counts = λ s text h born linked. there (place.Count s) (λ same. cc) ∙ table.slots.counts s text h born linked;
    gone = λ s seat at unlinked. ap holds_of (there (place.Count s) (λ same. cc)) ∙ table.slots.gone s seat at unlinked;
    metas = λ s text h born linked. there (place.Meta s) (λ same. cc) ∙ table.slots.metas s text h born linked;
    texts = λ s text h born linked at before inside. there (place.Text s at) (λ same. cc) ∙ table.slots.texts s text h born linked at before inside;
    rooms = table.slots.rooms;
    made = λ h was. subst (λ (count : ℕ). IsPast (generation_of count) h (p.now.slot h.slot)) (sym (there (place.Count h.slot) (λ same. cc))) (table.slots.made h was);
    uses = λ s. subst (λ (count : ℕ). generation_of count ≤ p.uses s) (sym (there (place.Count s) (λ same. cc))) (table.slots.uses s);
    used = table.slots.used;
  }

  join_sections : Sections t m' (at_row p.now k)
  join_sections = record {
    counter = there place.Counter (λ same. cc) ∙ table.sections.counter;
    words = λ j. there (place.Section j) (λ same. cc) ∙ table.sections.words j;
    seats = table.sections.seats;
  }

  pub join_table : Words t m' → IsTable t m' (past_at p k) (joining f k b)
  join_table words = record {
    shape = table.shape;
    tidy = table.tidy;
    words = words;
    slots = join_slots;
    sections = join_sections;
    heads = join_heads m m' p.now f i k b x even odd pair.0.below table.chains table.heads pair.0.resizing.owner pair.0.low pair.0.high on_x last here there;
    chains = join_chains_after m m' p.now f i k b x even odd pair.0.below table.chains table.heads pair.0.resizing.owner pair.0.low pair.0.high on_x last here there;
    clear = table.clear;
    idle = λ none. absurd (let clash : None ≡ Some i = sym (ap owner_of none) ∙ pair.0.resizing.owner in cc);
    whole = λ settled. absurd (not_settled (at_row p.now k) i k b table.row pair.0.resizing.owner pair.1.0 (λ same. omega (arith, same)) settled);
    row = table.row;
    named = table.named;
    ledger = table.ledger;
  }

  -- what the shrink knows then: both old heads and the new one are locked as they were
  pub join_pair : HasPair m' (at_row p.now k) (joining f k b) i k b even odd (Joining k b)
  join_pair = (
    record {
      below = pair.0.below;
      low = (pair.0.low.0, there (place.Head (k + 1) b) (λ same. cc) ∙ pair.0.low.1);
      high = (pair.0.high.0, there (place.Head (k + 1) (b + 2 ^ k)) (λ same. cc) ∙ pair.0.high.1);
      resizing = record { owner = pair.0.resizing.owner; at_level = pair.0.resizing.at_level; at_stage = refl; free = pair.0.resizing.free };
    },
    (pair.1.0, there (place.Head k b) (λ same. cc) ∙ pair.1.1),
  )

  -- and the new head leads to the even nodes, and then to the odd ones
  pub join_joint : Joint m' (joining f k b) k b (joined_first even odd)
  join_joint = record {
    whole = joined f.chain k b;
    evens = f.chain (k + 1) b;
    order = ap (λ (l : List ℕ). f.chain (k + 1) b ++ l) (sym high_same);
    path = subst (λ (first : Option ℕ). IsPath (links m') first (joined f.chain k b)) (sym (first even (f.chain (k + 1) b) even_was on_x)) joined_path;
    once = path_once (links m') even (joined f.chain k b) joined_path;
    even = λ s on. subst (On s) low_same on;
    odd = λ s on. on_right (f.chain (k + 1) b) (f.chain (k + 1) (b + 2 ^ k)) s (subst (On s) high_same on);
    back = λ s on. inl (subst (On s) (sym low_same) on);
  }
    where
      up : 0 < 2 ^ k
      up = row_up k

      high_same : (joining f k b).chain (k + 1) (b + 2 ^ k) ≡ f.chain (k + 1) (b + 2 ^ k)
      high_same = joined_elsewhere m p.now f i k b even odd pair.0.below table.chains table.heads pair.0.low pair.0.high (k + 1) (b + 2 ^ k) (λ rows buckets. omega (arith, buckets, up))

      low_same : (joining f k b).chain (k + 1) b ≡ joined f.chain k b
      low_same = joined_here m p.now f i k b even odd pair.0.below table.chains table.heads pair.0.low pair.0.high (k + 1) b refl refl

      even_was : IsPath (links m) even (f.chain (k + 1) b)
      even_was = even_path m p.now f i k b even odd pair.0.below table.chains table.heads pair.0.low pair.0.high

      first : (o : Option ℕ) (l : List ℕ) → IsPath (links m) o l → On x l → joined_first o odd ≡ o
      first None [] path on = absurd on
      first None (y ∷ l) path on = absurd (let clash : None ≡ Some y = path.0 in cc)
      first (Some y) l path on = refl
