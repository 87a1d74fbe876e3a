-- What a table is once the new level is told, or is told no more, and what the others know of it.
use Rattle.std.proofs.Common.{◌≡◌, ◌≢◌, ℕ, ◌^◌, ◌<◌, ◌≤◌, Option, Some, None, refl, sym, ap, subst, ◌∙◌, inl, inr, arith}
use Rattle.chain_core.specs.Path.{IsPath}
use Rattle.text_words.specs.Hash.{hash_of}
use Rattle.marked_word.specs.Number.{new_level_word}
use Rattle.table_shape.specs.declared.place.Place.{Place}
use Rattle.table_shape.specs.declared.place.Place.TheVariants as place
use Rattle.intern_log.specs.Now.{OpenSection, owner_of}
use Rattle.cht_core.specs.declared.table.Table.{Table}
use Rattle.cht_core.specs.Chains.{Chains}
use Rattle.cht_core.specs.Flow.{Flow, IsUsed}
use Rattle.cht_core.specs.Heads.{Heads}
use Rattle.cht_core.specs.KnowsResize.{AreNew}
use Rattle.cht_core.specs.Memory.{Memory, links}
use Rattle.cht_core.specs.Past.{Past}
use Rattle.cht_core.specs.Rely.{Grows, Spares}
use Rattle.cht_core.specs.Search.{IsFit}
use Rattle.cht_core.specs.Stage.{Stage, Whole, named_level, IsBehind, IsNearIn, IsWhole, IsWithin}
use Rattle.cht_core.specs.TableState.{IsTable, Words}
use Rattle.cht_core.proofs.LevelWholes.{whole_gone, whole_one, whole_pinned, whole_sent, whole_used, used_whole, comes_whole, new_clear}
use Rattle.cht_core.proofs.LevelWords.{IsLevelWord, level_slots, level_links, level_sections}
use Rattle.cht_core.proofs.Routes.{joined_pinned}
use Rattle.cht_core.proofs.TwoChains.{whole_exact, whole_unsent, unzipped_two}

-- the table and its stage before and after the new level is told, at both of which no head is redirected
pub record Puts (t : Table) (m m' : Memory) (p : Past) (f : Flow) (i : ℕ) (st : Stage) : Type 0 where
  pub others : (q : Place) → (IsLevelWord q → ⊥) → m' q ≡ m q
  pub level : m' place.Level ≡ m place.Level
  pub word : m' place.NewLevel ≡ new_level_word (named_level st p.now.level)
  pub owner : owner_of p.now.resizing ≡ Some i
  pub was : IsWhole f.stage
  pub whole : IsWhole st
  pub within : IsWithin st p.now.level
  pub behind : (row bucket : ℕ) → IsBehind st p.now.level f.before row bucket → ⊥
  pub new : AreNew p.now
  pub near : (at sought hash : ℕ) → p.now.since ≤ at → IsNearIn f.stage p.now.level p.now.since at sought hash → IsNearIn st p.now.level p.now.since at sought hash
  pub named : (level : ℕ) → named_level st p.now.level ≡ Some level → (t.shape.min_level ≤ level) × (level ≤ t.shape.max_level)

module _ (t : Table) (m m' : Memory) (p : Past) (f : Flow) (i : ℕ) (st : Stage) (table : IsTable t m p f) (h : Puts t m m' p f i st) where
  abbrev pub put_flow : Flow
  put_flow = record f { stage = st }

  same_path : (first : Option ℕ) (row bucket : ℕ) → IsPath (links m) first (f.chain row bucket) → IsPath (links m') first (f.chain row bucket)
  same_path first row bucket path = subst (λ (next : ℕ → Option ℕ). IsPath next first (f.chain row bucket)) (sym (level_links t m m' p h.others)) path

  pub used_on : (row bucket : ℕ) → IsUsed p.now f row bucket → IsUsed p.now put_flow row bucket
  used_on row bucket used = let at : (row ≡ p.now.level) × (bucket < 2 ^ row) = used_whole p.now f row bucket h.was used in whole_used p.now put_flow row bucket h.whole at.0 at.1

  pub used_back : (row bucket : ℕ) → IsUsed p.now put_flow row bucket → IsUsed p.now f row bucket
  used_back row bucket used = let at : (row ≡ p.now.level) × (bucket < 2 ^ row) = used_whole p.now put_flow row bucket h.whole used in whole_used p.now f row bucket h.was at.0 at.1

  all_whole : (s : ℕ) → f.parted s ≡ Whole
  all_whole s = elim (table.chains.loose s) [
    | inl whole ↦ whole
    | inr l ↦ absurd (whole_one f.stage p.now.level (hash_of p.now.seed l.0) h.was (unzipped_two f.stage p.now.level (hash_of p.now.seed l.0) l.4))
  ]

  put_heads : Heads m' p.now put_flow
  put_heads = record {
    level = h.level ∙ table.heads.level;
    new_level = h.word;
    owner = h.others place.ResizeLock (λ z. z) ∙ table.heads.owner;
    paths = λ row bucket used.
        let way = table.heads.paths row bucket (used_back row bucket used) in
        (way.0, h.others (place.Head row bucket) (λ z. z) ∙ way.1, same_path way.0 row bucket way.2);
    behind = λ row bucket left. absurd (h.behind row bucket left);
    held = λ row bucket k is. elim (table.heads.held row bucket k is) [ inl used ↦ inl (used_on row bucket used) | inr owner ↦ inr owner ];
    gone = λ bucket gone. absurd (whole_gone st bucket h.whole gone);
    pinned = λ row bucket pinned. absurd (whole_pinned st p.now.level row bucket h.whole pinned);
  }

  put_chains : Chains p.now put_flow
  put_chains = record {
    on_linked = λ row bucket s used on.
        let l = table.chains.on_linked row bucket s (used_back row bucket used) on in
        (l.0, l.1, l.2, l.3, inl (whole_exact f.stage p.now.level row bucket (hash_of p.now.seed l.0) h.was l.4));
    linked_on = λ s text k at row is to.
        let here : row ≡ p.now.level = comes_whole p.now put_flow (hash_of p.now.seed text) row h.whole to in
        table.chains.linked_on s text k at row is (inl (here, whole_unsent f.stage p.now.level (hash_of p.now.seed text) h.was));
    once = λ row bucket used. table.chains.once row bucket (used_back row bucket used);
    ranked = λ row bucket used. elim (table.chains.ranked row bucket (used_back row bucket used)) [
      | inl joined ↦ absurd (whole_pinned f.stage p.now.level row bucket h.was (joined_pinned f.stage p.now.level row bucket joined))
      | inr ranked ↦ inr ranked
    ];
    bases = table.chains.bases;
    sides = λ row bucket s text k at used on is. inl (all_whole s);
    loose = λ s. inl (all_whole s);
    within = h.within;
  }

  -- the table stays as it should be
  pub put_table : Words t m' → IsTable t m' p put_flow
  put_table words = record {
    shape = table.shape;
    tidy = table.tidy;
    words = words;
    slots = level_slots t m m' p h.others table.slots;
    sections = level_sections t m m' p h.others table.sections;
    heads = put_heads;
    chains = put_chains;
    clear = new_clear st p.now h.new;
    idle = λ none. absurd (let clash : None ≡ Some i = sym (ap owner_of none) ∙ h.owner in cc);
    whole = λ settled. h.whole;
    row = table.row;
    named = h.named;
    ledger = table.ledger;
  }

  put_fit : (k hash s : ℕ) (o : OpenSection) → p.now.section k ≡ Some o → IsFit p.now f o.place hash s → IsFit p.now put_flow o.place hash s
  put_fit k hash s o inside fit = record {
    held = fit.held;
    near = λ text j born linked. h.near o.place hash (hash_of p.now.seed text) (h.new k o inside) (fit.near text j born linked);
    side = fit.side;
  }

  -- what everybody knows of it
  pub put_grows : Grows m p f m' p put_flow
  put_grows = record {
    later = omega arith;
    seed = refl;
    counter = let same : m' place.Counter ≡ m place.Counter = h.others place.Counter (λ z. z) in omega (arith, same);
    made = λ k was. was;
    made_back = λ k was. inl was;
    uses = λ s. omega arith;
    linked = λ s text k born linked. inl linked;
    unlinked = λ s seat at k o unlinked inside less. unlinked;
    entries = λ text e live. inl (e, live, refl);
    sections = λ k o inside. inl inside;
    words = λ k s o inside held. (h.others (place.Meta s) (λ z. z), λ at. h.others (place.Text s at) (λ z. z));
    walks = record {
      fits = put_fit;
      go = λ k o text hash node ahead inside path fit. record {
        left = ahead;
        path = subst (λ (next : ℕ → Option ℕ). IsPath next node ahead) (sym (level_links t m m' p h.others)) path;
        fit = λ s on. put_fit k hash s o inside (fit s on);
        kept = λ s on. inl on;
        fresh = λ s on. inl on;
      };
    };
    routes = λ k hash row o inside routed. elim routed [
      | inl here ↦ inl here
      | inr other ↦ elim other [ inl there ↦ absurd (whole_sent f.stage p.now.level hash h.was there.1) | inr before ↦ inr (inr before) ]
    ];
    onward = λ k hash row o inside sent. elim sent [ inl here ↦ absurd (whole_sent f.stage p.now.level hash h.was here.1) | inr before ↦ inr before ];
    based = λ k hash row o inside routed. refl;
  }

  -- it spares each other seat
  pub put_spares : (k : ℕ) → k ≢ i → Spares k m p f m' p put_flow
  put_spares k differ = record {
    section = refl;
    claimed = λ s claimed. claimed;
    claimed_back = λ s claimed. claimed;
    link = λ s claimed. h.others (place.Link s) (λ z. z);
    count = λ s claimed. h.others (place.Count s) (λ z. z);
    meta = λ s claimed. h.others (place.Meta s) (λ z. z);
    text = λ s at claimed. h.others (place.Text s at) (λ z. z);
    holds = λ j. refl;
    leaves = record {
      locks = λ row bucket is. is;
      locks_back = λ row bucket is. is;
      heads = λ row bucket is. h.others (place.Head row bucket) (λ z. z);
      used = λ row bucket used is. used_on row bucket used;
      chains = λ row bucket used is. refl;
      links = λ row bucket s used is on. h.others (place.Link s) (λ z. z);
      nodes = λ row bucket s text j born used is on linked. linked;
      unlinked = λ s at is. is;
      unlinked_back = λ s at is. is;
      counts = λ s at is. h.others (place.Count s) (λ z. z);
      owner = λ own. own;
      owner_back = λ own. own;
      still = λ own. absurd (let same : Some k ≡ Some i = sym own ∙ h.owner in differ (cc));
    };
  }
