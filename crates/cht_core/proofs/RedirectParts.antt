-- The owner of the resize lock redirects a head that it has locked: what every such step leaves, and what is asked of its chains and of its stage.
use Rattle.std.proofs.Common.{◌≡◌, ◌≢◌, ℕ, ◌≤◌, ◌⊎◌, inl, inr, List, Option, Some, None, refl, sym, ap, subst, ◌∙◌, arith}
use Rattle.chain_core.specs.Path.{IsPath}
use Rattle.marked_word.specs.Link.{node_of}
use Rattle.marked_word.specs.Number.{new_level_word}
use Rattle.text_words.specs.Hash.{hash_of}
use Rattle.table_shape.specs.declared.place.Place.{Place}
use Rattle.table_shape.specs.declared.place.Place.TheVariants as place
use Rattle.intern_log.specs.Now.{Now, OpenSection, owner_of}
use Rattle.atomic_step.specs.Count.{generation_of, holds_of}
use Rattle.atomic_step.specs.Step.{locked_head, redirected_head}
use Rattle.cht_core.specs.declared.table.Table.{Table}
use Rattle.cht_core.specs.Chains.{Chains}
use Rattle.cht_core.specs.Flow.{Flow, IsUsed}
use Rattle.cht_core.specs.Heads.{Heads, Sections, used_head}
use Rattle.cht_core.specs.Memory.{Memory, links}
use Rattle.cht_core.specs.Past.{Past}
use Rattle.cht_core.specs.Rely.{Grows, Spares}
use Rattle.cht_core.specs.Search.{IsFit, IsRouted, IsSentOn}
use Rattle.cht_core.specs.Slots.{Slots, IsPast}
use Rattle.cht_core.specs.Stage.{Stage, bucket_in, named_level, IsGone, IsBehind, IsPinned, IsNearIn}
use Rattle.cht_core.specs.TableState.{IsTable, Words, IsSettled, IsClear}
use Rattle.cht_core.proofs.Buckets.{bucket_cases, head_of_bucket}
use Rattle.cht_core.proofs.Stages.{gone_behind}

some_number : (a b : ℕ) → Some a ≡ Some b → a ≡ b
some_number a b same = cc

-- the flow after the redirect: other chains, other bases and another stage
abbrev pub redirected : Flow → (ℕ → ℕ → List ℕ) → (ℕ → ℕ → ℕ) → Stage → Flow
redirected f chain base stage = record f { chain = chain; base = base; stage = stage }

-- a head to which callers come afterwards: it was locked by the redirecting seat as a new one, and leads along its chain
abbrev pub IsNewHead : Memory → Now → (ℕ → ℕ → List ℕ) → ℕ → ℕ → ℕ → Type 0
IsNewHead m n chain i r b = (first : Option ℕ) × (n.lock r b ≡ Some i) × (m (place.Head r b) ≡ locked_head first) × IsPath (links m) first (chain r b)

-- what is asked of the heads of the new stage
pub record Redirects (m : Memory) (n : Now) (f : Flow) (chain : ℕ → ℕ → List ℕ) (stage : Stage) (i row bucket : ℕ) : Type 0 where
  pub at_level : row ≡ n.level
  pub owner : owner_of n.resizing ≡ Some i
  pub lock : n.lock row bucket ≡ Some i
  -- the redirected head is none to which callers come, and the others are new ones, or were such heads with the same chain
  pub unused : IsUsed n (record f { stage = stage }) row bucket → ⊥
  pub new_or_old : (r b : ℕ) → IsUsed n (record f { stage = stage }) r b → IsNewHead m n chain i r b ⊎ (IsUsed n f r b × (chain r b ≡ f.chain r b))
  pub stays : (r b : ℕ) → (r ≡ row → b ≡ bucket → ⊥) → IsUsed n f r b → IsUsed n (record f { stage = stage }) r b
  -- the chains of heads that the seat has not locked stay
  pub chains : (r b : ℕ) → (n.lock r b ≡ Some i → ⊥) → chain r b ≡ f.chain r b
  pub behind : (r b : ℕ) → IsBehind stage n.level f.before r b → (r ≡ n.level) × IsGone stage b
  pub gone : (b : ℕ) → IsGone stage b → (b ≡ bucket) ⊎ IsGone f.stage b
  pub pinned : (r b : ℕ) → IsPinned stage n.level r b → n.lock r b ≡ Some i
  pub named : named_level stage n.level ≡ named_level f.stage n.level

module _ (t : Table) (m m' : Memory) (p : Past) (f : Flow) (chain : ℕ → ℕ → List ℕ) (base : ℕ → ℕ → ℕ) (stage : Stage) (i row bucket : ℕ) (first : Option ℕ) (table : IsTable t m p f)
    (here : m' (place.Head row bucket) ≡ redirected_head first) (there : (q : Place) → q ≢ place.Head row bucket → m' q ≡ m q)
    (parts : Redirects m p.now f chain stage i row bucket) where
  same_links : links m' ≡ links m
  same_links = λ k s. node_of (there (place.Link s) (λ same. cc) k)

  same_head : (r b : ℕ) → (r ≡ row → b ≡ bucket → ⊥) → m' (place.Head r b) ≡ m (place.Head r b)
  same_head r b differ = there (place.Head r b) (λ same. let both = head_of_bucket row bucket r b same in differ both.0 both.1)

  same_path : (first : Option ℕ) (nodes : List ℕ) → IsPath (links m) first nodes → IsPath (links m') first nodes
  same_path first nodes path = subst (λ (next : ℕ → Option ℕ). IsPath next first nodes) (sym same_links) path

  -- the head itself
  its_lock : (r b : ℕ) → r ≡ row → b ≡ bucket → p.now.lock r b ≡ Some i
  its_lock r b rows buckets = ap (λ (x : ℕ). p.now.lock x b) rows ∙ ap (p.now.lock row) buckets ∙ parts.lock

  not_it : (r b : ℕ) → IsUsed p.now (record f { stage = stage }) r b → r ≡ row → b ≡ bucket → ⊥
  not_it r b used rows buckets =
      parts.unused (subst (λ (x : ℕ). IsUsed p.now (record f { stage = stage }) x bucket) rows (subst (IsUsed p.now (record f { stage = stage }) r) buckets used))

  redirect_slots : Slots t m' p
  redirect_slots = record {
    claims = λ s. there (place.Claim s) (λ same. cc) ∙ table.slots.claims s;
    counts = λ s text h born linked. there (place.Count s) (λ same. cc) ∙ table.slots.counts s text h born linked;
    gone = λ s seat at unlinked. ap holds_of (there (place.Count s) (λ same. cc)) ∙ table.slots.gone s seat at unlinked;
    metas = λ s text h born linked. there (place.Meta s) (λ same. cc) ∙ table.slots.metas s text h born linked;
    texts = λ s text h born linked at below inside. there (place.Text s at) (λ same. cc) ∙ table.slots.texts s text h born linked at below inside;
    rooms = table.slots.rooms;
    made = λ h was. subst (λ (count : ℕ). IsPast (generation_of count) h (p.now.slot h.slot)) (sym (there (place.Count h.slot) (λ same. cc))) (table.slots.made h was);
    uses = λ s. subst (λ (count : ℕ). generation_of count ≤ p.uses s) (sym (there (place.Count s) (λ same. cc))) (table.slots.uses s);
    used = table.slots.used;
  }

  redirect_sections : Sections t m' p.now
  redirect_sections = record {
    counter = there place.Counter (λ same. cc) ∙ table.sections.counter;
    words = λ k. there (place.Section k) (λ same. cc) ∙ table.sections.words k;
    seats = table.sections.seats;
  }

  redirect_heads : Heads m' p.now (redirected f chain base stage)
  redirect_heads = record {
    level = there place.Level (λ same. cc) ∙ table.heads.level;
    new_level = there place.NewLevel (λ same. cc) ∙ table.heads.new_level ∙ ap new_level_word (sym parts.named);
    owner = there place.ResizeLock (λ same. cc) ∙ table.heads.owner;
    paths = λ r b used. elim (parts.new_or_old r b used) [
      | inl new ↦ (new.0, same_head r b (not_it r b used) ∙ new.2 ∙ sym (ap (used_head new.0) new.1), same_path new.0 (chain r b) new.3)
      | inr old ↦ (
          let along = table.heads.paths r b old.0 in (
            along.0,
            same_head r b (not_it r b used) ∙ along.1,
            subst (IsPath (links m') along.0) (sym old.1) (same_path along.0 (f.chain r b) along.2),
          ))
    ];
    behind = λ r b behind.
        let at = parts.behind r b behind in
        elim (bucket_cases row bucket r b) [
          | inl same ↦ (first, ap (λ (x : ℕ). m' (place.Head x b)) same.0 ∙ ap (λ (x : ℕ). m' (place.Head row x)) same.1 ∙ here)
          | inr differ ↦ elim (parts.gone b at.1) [
            | inl same ↦ absurd (differ (at.0 ∙ sym parts.at_level) same)
            | inr was ↦ (let word = table.heads.behind r b (gone_behind f.stage p.now.level f.before r b at.0 was) in (word.0, same_head r b differ ∙ word.1))
          ]
        ];
    held = λ r b k at. elim (bucket_cases row bucket r b) [
      | inl same ↦ inr (parts.owner ∙ sym (its_lock r b same.0 same.1) ∙ at)
      | inr differ ↦ elim (table.heads.held r b k at) [ inl used ↦ inl (parts.stays r b differ used) | inr owner ↦ inr owner ]
    ];
    gone = λ b gone. elim (parts.gone b gone) [
      | inl same ↦ (i, parts.owner, its_lock p.now.level b (sym parts.at_level) same)
      | inr was ↦ table.heads.gone b was
    ];
    pinned = λ r b pinned. (i, parts.owner, parts.pinned r b pinned);
  }

  -- the table stays as it should be
  pub redirect_table : Words t m' → Chains p.now (redirected f chain base stage) → IsClear stage p.now → (IsSettled p.now → ⊥) → IsTable t m' p (redirected f chain base stage)
  redirect_table words chains clear unsettled = record {
    shape = table.shape;
    tidy = table.tidy;
    words = words;
    slots = redirect_slots;
    sections = redirect_sections;
    heads = redirect_heads;
    chains = chains;
    clear = clear;
    idle = λ none. let clash : None ≡ Some i = sym (ap owner_of none) ∙ parts.owner in absurd (cc);
    whole = λ settled. absurd (unsettled settled);
    row = table.row;
    named = λ level is. table.named level (sym parts.named ∙ is);
    ledger = table.ledger;
  }

  -- what everybody knows of it
  pub redirect_grows : ((at sought hash : ℕ) → IsNearIn f.stage p.now.level p.now.since at sought hash → IsNearIn stage p.now.level p.now.since at sought hash)
      → ((k hash r : ℕ) (o : OpenSection) → p.now.section k ≡ Some o → IsRouted p.now f o.place hash r → IsRouted p.now (redirected f chain base stage) o.place hash r)
      → ((k hash r : ℕ) (o : OpenSection) → p.now.section k ≡ Some o → IsSentOn p.now f o.place hash r → IsSentOn p.now (redirected f chain base stage) o.place hash r)
      → ((k hash r : ℕ) (o : OpenSection) → p.now.section k ≡ Some o → IsRouted p.now f o.place hash r → base r (bucket_in r hash) ≡ f.base r (bucket_in r hash))
      → Grows m p f m' p (redirected f chain base stage)
  redirect_grows near routes onward based = record {
    later = omega arith;
    seed = refl;
    counter = let same : m' place.Counter ≡ m place.Counter = there place.Counter (λ same. cc) in omega (arith, same);
    made = λ h was. was;
    made_back = λ h was. inl was;
    uses = λ s. omega arith;
    linked = λ s text h born linked. inl linked;
    unlinked = λ s seat at k o unlinked inside less. unlinked;
    entries = λ text e live. inl (e, live, refl);
    sections = λ k o open_now. inl open_now;
    words = λ k s o inside held. (there (place.Meta s) (λ same. cc), λ at. there (place.Text s at) (λ same. cc));
    walks = record {
      fits = λ k hash s o inside fit. fits_on o.place hash s fit;
      go = λ k o text hash node ahead inside along fit. record {
        left = ahead;
        path = same_path node ahead along;
        fit = λ s on. fits_on o.place hash s (fit s on);
        kept = λ s on. inl on;
        fresh = λ s on. inl on;
      };
    };
    routes = routes;
    onward = onward;
    based = based;
  }
    where
      fits_on : (since hash s : ℕ) → IsFit p.now f since hash s → IsFit p.now (redirected f chain base stage) since hash s
      fits_on since hash s fit = record { held = fit.held; near = λ text h born linked. near since hash (hash_of p.now.seed text) (fit.near text h born linked); side = fit.side }

  -- it spares every other seat
  pub redirect_spares : (k : ℕ) → k ≢ i → Spares k m p f m' p (redirected f chain base stage)
  redirect_spares k differs = record {
    section = refl;
    claimed = λ s claimed. claimed;
    claimed_back = λ s claimed. claimed;
    link = λ s claimed. there (place.Link s) (λ same. cc);
    count = λ s claimed. there (place.Count s) (λ same. cc);
    meta = λ s claimed. there (place.Meta s) (λ same. cc);
    text = λ s at claimed. there (place.Text s at) (λ same. cc);
    holds = λ h. refl;
    leaves = record {
      locks = λ r b at. at;
      locks_back = λ r b at. at;
      heads = λ r b at. same_head r b (elsewhere r b at);
      used = λ r b used at. parts.stays r b (elsewhere r b at) used;
      chains = λ r b used at. parts.chains r b (λ mine. others r b at mine);
      links = λ r b s used at on. there (place.Link s) (λ same. cc);
      nodes = λ r b s text h born used at on linked. linked;
      unlinked = λ s at unlinked. unlinked;
      unlinked_back = λ s at unlinked. unlinked;
      counts = λ s at unlinked. there (place.Count s) (λ same. cc);
      owner = λ own. own;
      owner_back = λ own. own;
      still = λ own. absurd (differs (some_number k i (sym own ∙ parts.owner)));
    };
  }
    where
      others : (r b : ℕ) → p.now.lock r b ≡ Some k → p.now.lock r b ≡ Some i → ⊥
      others r b at mine = differs (some_number k i (sym at ∙ mine))

      elsewhere : (r b : ℕ) → p.now.lock r b ≡ Some k → r ≡ row → b ≡ bucket → ⊥
      elsewhere r b at rows buckets = others r b at (its_lock r b rows buckets)
