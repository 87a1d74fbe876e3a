-- What a table is once its next level is stored, and what the others know of it.
use Rattle.std.proofs.Common.{◌≡◌, ◌≢◌, ℕ, ◌+◌, ◌^◌, ◌<◌, ◌≤◌, true, false, cond, Bool, List, Option, Some, None, refl, sym, ap, subst, ◌∙◌, inl, inr, arith}
use Rattle.std.proofs.Math.Bool.{or-false}
use Rattle.std.proofs.lemmas.Bool.{cases_eq, eq-eqb, ne_eqb}
use Rattle.chain_core.specs.Path.{IsPath}
use Rattle.text_words.specs.Hash.{hash_of}
use Rattle.marked_word.specs.Number.{new_level_word}
use Rattle.table_shape.specs.declared.place.Place.{Place}
use Rattle.table_shape.specs.declared.place.Place.TheVariants as place
use Rattle.intern_log.specs.declared.event.What.TheVariants as what
use Rattle.intern_log.specs.Now.{OpenSection, Resizing, owner_of, locks_of_row}
use Rattle.atomic_step.specs.Count.{generation_of}
use Rattle.cht_core.specs.declared.table.Table.{Table}
use Rattle.cht_core.specs.Chains.{Chains}
use Rattle.cht_core.specs.Flow.{Flow, IsUsed}
use Rattle.cht_core.specs.Heads.{Heads, Sections, used_head}
use Rattle.cht_core.specs.KnowsResize.{AreNew}
use Rattle.cht_core.specs.Memory.{Memory, links}
use Rattle.cht_core.specs.Past.{Past, told}
use Rattle.cht_core.specs.Rely.{Grows, Spares}
use Rattle.cht_core.specs.Search.{IsFit}
use Rattle.cht_core.specs.Slots.{Slots}
use Rattle.cht_core.specs.Stage.{Closing, Parted, Whole, next_row, IsGone, IsJoined, IsOnTwo, IsSent, IsSpared, IsWhole}
use Rattle.cht_core.specs.TableState.{IsTable, Words}
use Rattle.cht_core.specs.Tidy.{IsTidy}
use Rattle.cht_core.proofs.LevelWords.{IsLevelWord, level_slots, level_links, level_sections}
use Rattle.cht_core.proofs.Stages.{gone_behind, sent_named}
use Rattle.cht_core.proofs.TwoChains.{mixed_two, unzipped_two}

-- the locks of the row that stays, and of one that does not
pub row_here : (lock : ℕ → ℕ → Option ℕ) (level row bucket : ℕ) → row ≡ level → locks_of_row lock level row bucket ≡ lock row bucket
row_here lock level row bucket here = ap (λ (b : Bool). cond b (lock row bucket) None) (eq-eqb row level here)

pub row_away : (lock : ℕ → ℕ → Option ℕ) (level row bucket : ℕ) → row ≢ level → locks_of_row lock level row bucket ≡ None
row_away lock level row bucket away = ap (λ (b : Bool). cond b (lock row bucket) None) (ne_eqb row level away)

-- each bucket or each pair is redirected, so that callers come to the row of the next level alone, and the level is stored
pub record Stores (t : Table) (m m' : Memory) (p : Past) (f : Flow) (i new : ℕ) : Type 0 where
  pub others : (q : Place) → (IsLevelWord q → ⊥) → m' q ≡ m q
  pub level : m' place.Level ≡ new
  pub word : m' place.NewLevel ≡ m place.NewLevel
  pub owner : owner_of p.now.resizing ≡ Some i
  pub next : next_row f.stage p.now.level ≡ new
  pub used : (row bucket : ℕ) → IsUsed p.now f row bucket → (row ≡ new) × (bucket < 2 ^ row)
  pub back : (row bucket : ℕ) → row ≡ new → bucket < 2 ^ row → IsUsed p.now f row bucket
  pub sent : (hash : ℕ) → IsSent f.stage p.now.level hash
  pub gone : (bucket : ℕ) → bucket < 2 ^ p.now.level → IsGone f.stage bucket
  pub one : (hash : ℕ) → IsOnTwo f.stage p.now.level hash → ⊥
  pub apart : (row bucket : ℕ) → IsJoined f.stage row bucket → ⊥
  pub begun : IsWhole f.stage → ⊥
  pub clear : AreNew p.now
  pub within : (t.shape.min_level ≤ new) × (new ≤ t.shape.max_level)

module _ (t : Table) (m m' : Memory) (p : Past) (f : Flow) (i new : ℕ) (table : IsTable t m p f) (h : Stores t m m' p f i new) where
  abbrev pub stored_past : Past
  stored_past = told p i (Some (what.Level new))

  abbrev pub stored_flow : Flow
  stored_flow = record f { stage = Closing; before = p.now.level }

  same_path : (first : Option ℕ) (nodes : List ℕ) → IsPath (links m) first nodes → IsPath (links m') first nodes
  same_path first nodes path = subst (λ (next : ℕ → Option ℕ). IsPath next first nodes) (sym (level_links t m m' p h.others)) path

  closing_used : (row bucket : ℕ) → IsUsed stored_past.now stored_flow row bucket → (row ≡ new) × (bucket < 2 ^ row)
  closing_used row bucket used = elim used [ inl a ↦ (a.0, a.2) | inr a ↦ absurd a.1 ]

  used_on : (row bucket : ℕ) → IsUsed p.now f row bucket → IsUsed stored_past.now stored_flow row bucket
  used_on row bucket used = let at : (row ≡ new) × (bucket < 2 ^ row) = h.used row bucket used in inl (at.0, tt, at.1)

  used_back : (row bucket : ℕ) → IsUsed stored_past.now stored_flow row bucket → IsUsed p.now f row bucket
  used_back row bucket used = let at : (row ≡ new) × (bucket < 2 ^ row) = closing_used row bucket used in h.back row bucket at.0 at.1

  all_whole : (s : ℕ) → f.parted s ≡ Whole
  all_whole s = elim (table.chains.loose s) [
    | inl whole ↦ whole
    | inr l ↦ absurd (h.one (hash_of p.now.seed l.0) (unzipped_two f.stage p.now.level (hash_of p.now.seed l.0) l.4))
  ]

  -- an open section is older than the Level
  older : (k : ℕ) (o : OpenSection) → p.now.section k ≡ Some o → o.place < p.now.place + 1
  older k o inside = let before : o.place < p.now.place = (table.tidy.sections k o inside).0 in omega (arith, before)

  stored_slots : Slots t m' stored_past
  stored_slots = let same : Slots t m' p = level_slots t m m' p h.others table.slots in record {
    claims = same.claims;
    counts = same.counts;
    gone = same.gone;
    metas = same.metas;
    texts = same.texts;
    rooms = same.rooms;
    made = λ k was. same.made k (sym (or-false (p.made k)) ∙ was);
    uses = λ s. let few : generation_of (m' (place.Count s)) ≤ p.uses s = same.uses s in omega (arith, few);
    used = λ s text k born linked. let before = same.used s text k born linked in omega (arith, before);
  }

  stored_sections : Sections t m' stored_past.now
  stored_sections = let same : Sections t m' p.now = level_sections t m m' p h.others table.sections in record { counter = same.counter; words = same.words; seats = same.seats }

  stored_heads : Heads m' stored_past.now stored_flow
  stored_heads = record {
    level = h.level;
    new_level = h.word ∙ table.heads.new_level ∙ ap new_level_word (sent_named f.stage p.now.level 0 (h.sent 0) ∙ ap Some h.next);
    owner = h.others place.ResizeLock (λ z. z) ∙ table.heads.owner;
    paths = λ row bucket used.
        let way = table.heads.paths row bucket (used_back row bucket used) in (
          way.0,
          h.others (place.Head row bucket) (λ z. z) ∙ way.1 ∙ sym (ap (used_head way.0) (row_here p.now.lock new row bucket (closing_used row bucket used).0)),
          same_path way.0 (f.chain row bucket) way.2,
        );
    behind = λ row bucket left.
        let here : row ≡ p.now.level = left.0 in
        let below : bucket < 2 ^ p.now.level = subst (λ (r : ℕ). bucket < 2 ^ r) here left.1 in
        let word = table.heads.behind row bucket (gone_behind f.stage p.now.level f.before row bucket here (h.gone bucket below)) in
        (word.0, h.others (place.Head row bucket) (λ z. z) ∙ word.1);
    held = λ row bucket k is. elim (cases_eq row new) [
      | inl here ↦ elim (table.heads.held row bucket k (sym (row_here p.now.lock new row bucket here) ∙ is)) [ inl used ↦ inl (used_on row bucket used) | inr owner ↦ inr owner ]
      | inr away ↦ absurd (let clash : None ≡ Some k = sym (row_away p.now.lock new row bucket away) ∙ is in cc)
    ];
    gone = λ bucket gone. absurd gone;
    pinned = λ row bucket pinned. absurd pinned;
  }

  stored_chains : Chains stored_past.now stored_flow
  stored_chains = record {
    on_linked = λ row bucket s used on.
        let l = table.chains.on_linked row bucket s (used_back row bucket used) on in (
          l.0,
          l.1,
          l.2,
          l.3,
          elim l.4 [ inl exact ↦ inl exact | inr mixed ↦ absurd (h.one (hash_of p.now.seed l.0) (mixed_two f.stage p.now.level row bucket (hash_of p.now.seed l.0) mixed)) ],
        );
    linked_on = λ s text k at row is to. elim to [
      | inl here ↦ table.chains.linked_on s text k at row is (inr (here.0 ∙ sym h.next, h.sent (hash_of p.now.seed text)))
      | inr there ↦ absurd there.1
    ];
    once = λ row bucket used. table.chains.once row bucket (used_back row bucket used);
    ranked = λ row bucket used. elim (table.chains.ranked row bucket (used_back row bucket used)) [ inl joined ↦ absurd (h.apart row bucket joined) | inr ranked ↦ inr ranked ];
    bases = λ row bucket. let before : f.base row bucket ≤ p.now.place = table.chains.bases row bucket in omega (arith, before);
    sides = λ row bucket s text k at used on is. inl (all_whole s);
    loose = λ s. inl (all_whole s);
    within = tt;
  }

  -- who stores the level has replaced the row
  row_replaced : (r : Resizing) → p.now.resizing ≡ Some r → (replacing : Bool) → r.replacing ≡ replacing → r.replacing ≡ true
  row_replaced r is true replacing = replacing
  row_replaced r is false replacing = absurd (h.begun (table.whole (λ other at replaces.
      let same : r ≡ other = cc in
      let clash : false ≡ true = sym replacing ∙ ap (λ (s : Resizing). s.replacing) same ∙ replaces in
      cc)))

  -- the table stays as it should be
  pub stored_table : IsTidy t stored_past.now → Words t m' → IsTable t m' stored_past stored_flow
  stored_table tidy words = record {
    shape = table.shape;
    tidy = tidy;
    words = words;
    slots = stored_slots;
    sections = stored_sections;
    heads = stored_heads;
    chains = stored_chains;
    clear = tt;
    idle = λ none. absurd (let clash : None ≡ Some i = sym (ap owner_of none) ∙ h.owner in cc);
    whole = λ settled. tt;
    row = λ r is. inl (row_replaced r is r.replacing refl);
    named = λ level is. let same : new ≡ level = cc in subst (λ (l : ℕ). (t.shape.min_level ≤ l) × (l ≤ t.shape.max_level)) same h.within;
    ledger = table.ledger;
  }

  -- a section that is older than the Level may meet all that it met
  stored_fit : (k hash s : ℕ) (o : OpenSection) → p.now.section k ≡ Some o → IsFit p.now f o.place hash s → IsFit stored_past.now stored_flow o.place hash s
  stored_fit k hash s o inside fit = record {
    held = fit.held;
    near = λ text j born linked young. absurd (let old : o.place < p.now.place + 1 = older k o inside in omega (arith, old, young));
    side = λ text j born linked differ. subst (λ (part : Parted). IsSpared part o.place) (sym (all_whole s)) tt;
  }

  -- what everybody knows of it
  pub stored_grows : Grows m p f m' stored_past stored_flow
  stored_grows = record {
    later = omega arith;
    seed = refl;
    counter = let same : m' place.Counter ≡ m place.Counter = h.others place.Counter (λ z. z) in omega (arith, same);
    made = λ k was. or-false (p.made k) ∙ was;
    made_back = λ k was. inl (sym (or-false (p.made k)) ∙ was);
    uses = λ s. omega arith;
    linked = λ s text k born linked. inl linked;
    unlinked = λ s seat at k o unlinked inside less. unlinked;
    entries = λ text e live. inl (e, live, refl);
    sections = λ k o inside. inl inside;
    words = λ k s o inside held. (h.others (place.Meta s) (λ z. z), λ at. h.others (place.Text s at) (λ z. z));
    walks = record {
      fits = stored_fit;
      go = λ k o text hash node ahead inside path fit. record {
        left = ahead;
        path = same_path node ahead path;
        fit = λ s on. stored_fit k hash s o inside (fit s on);
        kept = λ s on. inl on;
        fresh = λ s on. inl on;
      };
    };
    routes = λ k hash row o inside routed. elim routed [
      | inl here ↦ inr (inr (here, older k o inside))
      | inr other ↦ elim other [
        | inl there ↦ inl (there.0 ∙ h.next)
        | inr before ↦ absurd (let old : o.place < p.now.since = before.1 in let young : p.now.since ≤ o.place = h.clear k o inside in omega (arith, old, young))
      ]
    ];
    onward = λ k hash row o inside sent. elim sent [
      | inl here ↦ inr (here.0, older k o inside)
      | inr before ↦ absurd (let old : o.place < p.now.since = before.1 in let young : p.now.since ≤ o.place = h.clear k o inside in omega (arith, old, young))
    ];
    based = λ k hash row o inside routed. refl;
  }

  -- another seat has locked heads of the next level's row alone
  other_row : (k row bucket : ℕ) → k ≢ i → p.now.lock row bucket ≡ Some k → row ≡ new
  other_row k row bucket differ is = elim (table.heads.held row bucket k is) [
    | inl used ↦ (h.used row bucket used).0
    | inr owner ↦ absurd (let same : Some k ≡ Some i = sym owner ∙ h.owner in differ (cc))
  ]

  -- it spares each other seat
  pub stored_spares : (k : ℕ) → k ≢ i → Spares k m p f m' stored_past stored_flow
  stored_spares k differ = record {
    section = refl;
    claimed = λ s claimed. claimed;
    claimed_back = λ s claimed. claimed;
    link = λ s claimed. h.others (place.Link s) (λ z. z);
    count = λ s claimed. h.others (place.Count s) (λ z. z);
    meta = λ s claimed. h.others (place.Meta s) (λ z. z);
    text = λ s at claimed. h.others (place.Text s at) (λ z. z);
    holds = λ j. refl;
    leaves = record {
      locks = λ row bucket is. row_here p.now.lock new row bucket (other_row k row bucket differ is) ∙ is;
      locks_back = λ row bucket is. elim (cases_eq row new) [
        | inl here ↦ sym (row_here p.now.lock new row bucket here) ∙ is
        | inr away ↦ absurd (let clash : None ≡ Some k = sym (row_away p.now.lock new row bucket away) ∙ is in cc)
      ];
      heads = λ row bucket is. h.others (place.Head row bucket) (λ z. z);
      used = λ row bucket used is. used_on row bucket used;
      chains = λ row bucket used is. refl;
      links = λ row bucket s used is on. h.others (place.Link s) (λ z. z);
      nodes = λ row bucket s text j born used is on linked. linked;
      unlinked = λ s at is. is;
      unlinked_back = λ s at is. is;
      counts = λ s at is. h.others (place.Count s) (λ z. z);
      owner = λ own. own;
      owner_back = λ own. own;
      still = λ own. absurd (let same : Some k ≡ Some i = sym own ∙ h.owner in differ (cc));
    };
  }
