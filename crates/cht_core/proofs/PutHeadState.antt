-- Who has the resize lock stores a head to which no callers come, with its lock; the stage may become another with as many redirected heads.
use Rattle.std.proofs.Common.{◌≡◌, ◌≢◌, ℕ, ◌+◌, ◌-◌, ◌/◌, ◌<◌, ◌≤◌, ◌^◌, ◌||◌, inl, inr, false, List, Option, Some, None, refl, sym, ap, subst, ◌∙◌, arith}
use Rattle.std.proofs.Math.Bool.{or-false}
use Rattle.std.specs.Option.{option_map}
use Rattle.chain_core.specs.Path.{IsPath}
use Rattle.marked_word.specs.Link.{node_of}
use Rattle.marked_word.specs.Number.{owner_word, new_level_word}
use Rattle.table_shape.specs.declared.place.Place.{Place}
use Rattle.table_shape.specs.declared.place.Place.TheVariants as place
use Rattle.intern_log.specs.declared.event.What.TheVariants as what
use Rattle.intern_log.specs.Now.{Now, owner_of, resizing_after_lock, with_lock}
use Rattle.intern_log.proofs.Slots.{same_owner}
use Rattle.atomic_step.specs.declared.step.Step.TheVariants as step
use Rattle.atomic_step.specs.Count.{generation_of, holds_of}
use Rattle.atomic_step.specs.SoundStep.{IsSoundStep}
use Rattle.atomic_step.specs.Step.{locked_head, redirected_head}
use Rattle.cht_core.specs.declared.table.Table.{Table}
use Rattle.cht_core.specs.Backs.{Goes, LeadsOn}
use Rattle.cht_core.specs.Chains.{Chains}
use Rattle.cht_core.specs.Flow.{Flow, IsUsed, stage_put}
use Rattle.cht_core.specs.Heads.{Heads, Sections, used_head}
use Rattle.cht_core.specs.Memory.{Memory, IsMade, links}
use Rattle.cht_core.specs.Past.{Past, told}
use Rattle.cht_core.specs.Rely.{Grows, Spares}
use Rattle.cht_core.specs.Search.{IsFit}
use Rattle.cht_core.specs.Slots.{Slots, IsPast}
use Rattle.cht_core.specs.Stage.{Stage, next_row, named_level, IsGone, IsBehind, IsPinned, IsSent}
use Rattle.cht_core.specs.TableState.{IsTable, Words, IsClear}
use Rattle.cht_core.specs.Tidy.{IsTidy}
use Rattle.cht_core.proofs.Buckets.{bucket_cases, head_of_bucket, lock_here, lock_elsewhere}
use Rattle.cht_core.proofs.CalmParts.{clear_kept}
use Rattle.cht_core.proofs.KeepsRow.{not_settled, row_locked}
use Rattle.cht_core.proofs.TidyKept.{tidy_told}
use Rattle.cht_core.proofs.WordsKept.{slots_few, word_kept, words_kept}

some_number : (a b : ℕ) → Some a ≡ Some b → a ≡ b
some_number a b same = cc

-- another stage, at which callers come where they came, with the same redirected heads
pub record SameReach (n : Now) (f : Flow) (st : Stage) : Type 0 where
  pub used : (r c : ℕ) → IsUsed n f r c → IsUsed n (record f { stage = st }) r c
  pub used_back : (r c : ℕ) → IsUsed n (record f { stage = st }) r c → IsUsed n f r c
  pub behind_back : (r c : ℕ) → IsBehind st n.level f.before r c → IsBehind f.stage n.level f.before r c
  pub gone_back : (c : ℕ) → IsGone st c → IsGone f.stage c
  pub name : named_level st n.level ≡ named_level f.stage n.level
  pub sent : (hash : ℕ) → IsSent f.stage n.level hash → IsSent st n.level hash
  pub row : next_row st n.level ≡ next_row f.stage n.level
  pub fits : (since hash s : ℕ) → IsFit n f since hash s → IsFit n (record f { stage = st }) since hash s
  pub clear : IsClear f.stage n → IsClear st n

-- the same stage
pub same_reach : (n : Now) (f : Flow) → SameReach n f f.stage
same_reach n f = record {
  used = λ r c used. used;
  used_back = λ r c used. used;
  behind_back = λ r c old. old;
  gone_back = λ c gone. gone;
  name = refl;
  sent = λ hash sent. sent;
  row = refl;
  fits = λ since hash s fit. fit;
  clear = λ clear. clear;
}

-- what has been told after the lock
abbrev pub put_past : Past → ℕ → ℕ → ℕ → Past
put_past p i row bucket = record {
  now = record p.now { place = p.now.place + 1; lock = with_lock p.now.lock row bucket (Some i); resizing = option_map (resizing_after_lock i row) p.now.resizing };
  made = λ h. p.made h || false;
  uses = λ s. p.uses s + 0;
}

pub put_owner : (p : Past) (i row bucket : ℕ) → owner_of p.now.resizing ≡ Some i → owner_of (put_past p i row bucket).now.resizing ≡ Some i
put_owner p i row bucket owner = same_owner (λ (o : Option ℕ). o ≡ Some i) i row p.now.resizing owner

module _ (t : Table) (m m' : Memory) (p : Past) (f : Flow) (i row bucket : ℕ) (first : Option ℕ) (st : Stage) (table : IsTable t m p f)
    (here : m' (place.Head row bucket) ≡ locked_head first) (there : (q : Place) → q ≢ place.Head row bucket → m' q ≡ m q)
    (owner : owner_of p.now.resizing ≡ Some i) (unused : IsUsed p.now f row bucket → ⊥) (free : p.now.lock row bucket ≡ None) (other : row ≢ p.now.level)
    (apart : IsBehind f.stage p.now.level f.before row bucket → ⊥) (reach : SameReach p.now f st) (chains : Chains p.now (record f { stage = st }))
    (pinned : (r c : ℕ) → IsPinned st p.now.level r c → (r ≡ row → c ≡ bucket → ⊥) × ((j : ℕ) × (owner_of p.now.resizing ≡ Some j) × (p.now.lock r c ≡ Some j))) where
  owned : owner_of (option_map (resizing_after_lock i row) p.now.resizing) ≡ owner_of p.now.resizing
  owned = same_owner (λ o. o ≡ owner_of p.now.resizing) i row p.now.resizing refl

  put_links : links m' ≡ links m
  put_links = λ k s. node_of (there (place.Link s) (λ same. cc) k)

  put_slots : Slots t m' (put_past p i row bucket)
  put_slots = record {
    claims = λ s. there (place.Claim s) (λ same. cc) ∙ table.slots.claims s;
    counts = λ s text h born linked. there (place.Count s) (λ same. cc) ∙ table.slots.counts s text h born linked;
    gone = λ s seat at unlinked. ap holds_of (there (place.Count s) (λ same. cc)) ∙ table.slots.gone s seat at unlinked;
    metas = λ s text h born linked. there (place.Meta s) (λ same. cc) ∙ table.slots.metas s text h born linked;
    texts = λ s text h born linked at below inside. there (place.Text s at) (λ same. cc) ∙ table.slots.texts s text h born linked at below inside;
    rooms = table.slots.rooms;
    made = λ h was. subst (λ (count : ℕ). IsPast (generation_of count) h (p.now.slot h.slot)) (sym (there (place.Count h.slot) (λ same. cc)))
        (table.slots.made h (sym (or-false (p.made h)) ∙ was));
    uses = λ s. let same : m' (place.Count s) ≡ m (place.Count s) = there (place.Count s) (λ same. cc) in
        subst (λ (count : ℕ). generation_of count ≤ p.uses s + 0) (sym same) (let few = table.slots.uses s in omega (arith, few));
    used = λ s text h born linked. let before = table.slots.used s text h born linked in omega (arith, before);
  }

  used_here : (r c : ℕ) → r ≡ row → c ≡ bucket → IsUsed p.now f r c → ⊥
  used_here r c rows buckets used = unused (subst (λ (x : ℕ). IsUsed p.now f x bucket) rows (subst (IsUsed p.now f r) buckets used))

  behind_here : (r c : ℕ) → r ≡ row → c ≡ bucket → IsBehind f.stage p.now.level f.before r c → ⊥
  behind_here r c rows buckets old = apart (subst (λ (x : ℕ). IsBehind f.stage p.now.level f.before x bucket) rows (subst (IsBehind f.stage p.now.level f.before r) buckets old))

  put_heads : Heads m' (put_past p i row bucket).now (record f { stage = st })
  put_heads = record {
    level = there place.Level (λ same. cc) ∙ table.heads.level;
    new_level = there place.NewLevel (λ same. cc) ∙ table.heads.new_level ∙ ap new_level_word (sym reach.name);
    owner = there place.ResizeLock (λ same. cc) ∙ table.heads.owner ∙ ap owner_word (sym owned);
    paths = λ r c used. elim (bucket_cases row bucket r c) [
      | inl same ↦ absurd (used_here r c same.0 same.1 (reach.used_back r c used))
      | inr differ ↦ (
          let along : (start : Option ℕ) × (m (place.Head r c) ≡ used_head start (p.now.lock r c)) × IsPath (links m) start (f.chain r c) = table.heads.paths r c (reach.used_back r c used) in (
            along.0,
            there (place.Head r c) (λ same. let both = head_of_bucket row bucket r c same in differ both.0 both.1) ∙ along.1
                ∙ sym (ap (used_head along.0) (lock_elsewhere p.now.lock row bucket (Some i) r c differ)),
            subst (λ (next : ℕ → Option ℕ). IsPath next along.0 (f.chain r c)) (sym put_links) along.2,
          ))
    ];
    behind = λ r c old.
        let old_too : IsBehind f.stage p.now.level f.before r c = reach.behind_back r c old in
        let word : (start : Option ℕ) × (m (place.Head r c) ≡ redirected_head start) = table.heads.behind r c old_too in
        (word.0, there (place.Head r c) (λ same. let both = head_of_bucket row bucket r c same in behind_here r c both.0 both.1 old_too) ∙ word.1);
    held = λ r c k is. elim (bucket_cases row bucket r c) [
      | inl same ↦ inr (owned ∙ owner ∙ sym (lock_here p.now.lock row bucket (Some i) r c same.0 same.1) ∙ is)
      | inr differ ↦ elim (table.heads.held r c k (sym (lock_elsewhere p.now.lock row bucket (Some i) r c differ) ∙ is)) [
        | inl was ↦ inl (reach.used r c was)
        | inr own ↦ inr (owned ∙ own)
      ]
    ];
    gone = λ c gone.
        let lock : (k : ℕ) × (owner_of p.now.resizing ≡ Some k) × (p.now.lock p.now.level c ≡ Some k) = table.heads.gone c (reach.gone_back c gone) in
        (lock.0, owned ∙ lock.1, lock_elsewhere p.now.lock row bucket (Some i) p.now.level c (λ rows buckets. other (sym rows)) ∙ lock.2);
    pinned = λ r c pin.
        let lock : (j : ℕ) × (owner_of p.now.resizing ≡ Some j) × (p.now.lock r c ≡ Some j) = (pinned r c pin).1 in
        (lock.0, owned ∙ lock.1, lock_elsewhere p.now.lock row bucket (Some i) r c (pinned r c pin).0 ∙ lock.2);
  }

  put_chains : Chains (put_past p i row bucket).now (record f { stage = st })
  put_chains = record {
    on_linked = chains.on_linked;
    linked_on = chains.linked_on;
    once = chains.once;
    ranked = chains.ranked;
    bases = λ r c. let before : f.base r c ≤ p.now.place = chains.bases r c in omega (arith, before);
    sides = chains.sides;
    loose = chains.loose;
    within = chains.within;
  }

  put_sections : Sections t m' (put_past p i row bucket).now
  put_sections = record {
    counter = there place.Counter (λ same. cc) ∙ table.sections.counter;
    words = λ k. there (place.Section k) (λ same. cc) ∙ table.sections.words k;
    seats = table.sections.seats;
  }

  -- the table stays as it should be
  put_table : IsTidy t (put_past p i row bucket).now → Words t m' → IsTable t m' (put_past p i row bucket) (record f { stage = st })
  put_table tidy words = record {
    shape = table.shape;
    tidy = tidy;
    words = words;
    slots = put_slots;
    sections = put_sections;
    heads = put_heads;
    chains = put_chains;
    clear = clear_kept st p.now (put_past p i row bucket).now refl table.tidy.since (λ k o is. inl is) (reach.clear table.clear);
    idle = λ none. absurd (let clash : None ≡ Some i = sym (ap owner_of none) ∙ owned ∙ owner in cc);
    whole = λ settled. absurd (not_settled (put_past p i row bucket).now i row bucket (row_locked p.now i row bucket table.row) (owned ∙ owner)
        (lock_here p.now.lock row bucket (Some i) row bucket refl refl) other settled);
    row = row_locked p.now i row bucket table.row;
    named = λ level is. table.named level (sym reach.name ∙ is);
    ledger = table.ledger;
  }

  -- what everybody knows of it
  put_grows : Grows m p f m' (put_past p i row bucket) (record f { stage = st })
  put_grows = record {
    later = omega arith;
    seed = refl;
    counter = let same : m' place.Counter ≡ m place.Counter = there place.Counter (λ same. cc) in omega (arith, same);
    made = λ h was. or-false (p.made h) ∙ was;
    made_back = λ h was. inl (sym (or-false (p.made h)) ∙ was);
    uses = λ s. omega arith;
    linked = λ s text h born linked. inl linked;
    unlinked = λ s seat at k o unlinked inside less. unlinked;
    entries = λ text e live. inl (e, live, refl);
    sections = λ k o open_now. inl open_now;
    words = λ k s o inside held. (there (place.Meta s) (λ same. cc), λ at. there (place.Text s at) (λ same. cc));
    walks = record {
      fits = λ k hash s o inside fit. fit_put o.place hash s fit;
      go = λ k o text hash node ahead inside along fit. record {
        left = ahead;
        path = subst (λ (next : ℕ → Option ℕ). IsPath next node ahead) (sym put_links) along;
        fit = λ s on. fit_put o.place hash s (fit s on);
        kept = λ s on. inl on;
        fresh = λ s on. inl on;
      };
    };
    routes = λ k hash r o inside routed. elim routed [
      | inl level ↦ inl level
      | inr more ↦ elim more [ inl next ↦ inr (inl (next.0 ∙ sym reach.row, reach.sent hash next.1)) | inr old ↦ inr (inr old) ]
    ];
    onward = λ k hash r o inside sent. elim sent [ inl level ↦ inl (level.0, reach.sent hash level.1) | inr old ↦ inr old ];
    based = λ k hash r o inside routed. refl;
  }
    where
      fit_put : (since hash s : ℕ) → IsFit p.now f since hash s → IsFit (put_past p i row bucket).now (record f { stage = st }) since hash s
      fit_put since hash s fit = let then : IsFit p.now (record f { stage = st }) since hash s = reach.fits since hash s fit in record { held = then.held; near = then.near; side = then.side }

  -- it spares the other seats
  put_spares : (k : ℕ) → k ≢ i → Spares k m p f m' (put_past p i row bucket) (record f { stage = st })
  put_spares k differs = record {
    section = refl;
    claimed = λ s claimed. claimed;
    claimed_back = λ s claimed. claimed;
    link = λ s claimed. there (place.Link s) (λ same. cc);
    count = λ s claimed. there (place.Count s) (λ same. cc);
    meta = λ s claimed. there (place.Meta s) (λ same. cc);
    text = λ s at claimed. there (place.Text s at) (λ same. cc);
    holds = λ h. refl;
    leaves = record {
      locks = λ r c at. lock_elsewhere p.now.lock row bucket (Some i) r c (elsewhere r c at) ∙ at;
      locks_back = λ r c at. elim (bucket_cases row bucket r c) [
        | inl same ↦ absurd (differs (some_number k i (sym at ∙ lock_here p.now.lock row bucket (Some i) r c same.0 same.1)))
        | inr differ ↦ sym (lock_elsewhere p.now.lock row bucket (Some i) r c differ) ∙ at
      ];
      heads = λ r c at. there (place.Head r c) (λ same. let both = head_of_bucket row bucket r c same in elsewhere r c at both.0 both.1);
      used = λ r c used lock. reach.used r c used;
      chains = λ r c used lock. refl;
      links = λ r c s used lock on. there (place.Link s) (λ same. cc);
      nodes = λ r c s text h born used lock on linked. linked;
      unlinked = λ s at unlinked. unlinked;
      unlinked_back = λ s at unlinked. unlinked;
      counts = λ s at unlinked. there (place.Count s) (λ same. cc);
      owner = λ own. owned ∙ own;
      owner_back = λ own. sym owned ∙ own;
      still = λ own. absurd (differs (some_number k i (sym own ∙ owner)));
    };
  }
    where
      elsewhere : (r c : ℕ) → p.now.lock r c ≡ Some k → r ≡ row → c ≡ bucket → ⊥
      elsewhere r c at rows buckets = let clash : None ≡ Some k = sym free ∙ sym (ap (λ (x : ℕ). p.now.lock x c) rows ∙ ap (p.now.lock row) buckets) ∙ at in cc

  -- the step leads on
  pub put_goes : (text : List ℕ) → i < t.shape.seats → IsSoundStep t.shape i (step.PutHead row bucket first) → IsMade (step.PutHead row bucket first) m m' → stage_put f.chain f.stage ≡ st
      → Goes t m p f i text (step.PutHead row bucket first) m'
  put_goes text inside sound made becomes =
      let few : t.shape.slots ≤ 2 ^ 27 = slots_few t.shape table.shape in
      let fits : locked_head first / 4 ≤ t.shape.slots = (word_kept t.shape i (step.PutHead row bucket first) (m (place.Head row bucket)) inside sound (table.words.sound (place.Head row bucket))).0 in
      let same : m' place.Counter ≡ m place.Counter = there place.Counter (λ same. cc) in
      let before : m place.Counter ≤ 2 ^ 64 - 4 = table.words.counter in
      let words : Words t m' = words_kept t m m' i (step.PutHead row bucket first) table.words inside sound made (small few fits) (omega (arith, same, before)) in
      subst (λ (s : Stage). LeadsOn t m p f i (step.PutHead row bucket first) (Some (what.Lock row bucket)) m' (told p i (Some (what.Lock row bucket))) (record f { stage = s })) (sym becomes) (record {
        told = free;
        table = put_table (tidy_told t p i (Some (what.Lock row bucket)) table.tidy free) words;
        grows = put_grows;
        spares = put_spares;
        leaves = λ no. absurd no;
      })
    where
      small : t.shape.slots ≤ 2 ^ 27 → locked_head first / 4 ≤ t.shape.slots → locked_head first < 2 ^ 64
      small few fits = omega (arith, few, fits)
