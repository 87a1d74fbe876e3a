-- The making of an entry keeps the table.
use Rattle.std.proofs.Common.{◌≡◌, ◌≢◌, ℕ, ◌+◌, ◌<◌, ◌≤◌, ◌^◌, ◌-◌, ◌==◌, ◌||◌, Bool, true, false, cond, List, ◌∷◌, Some, None, refl, sym, ap, subst, ◌∙◌, inl, inr, arith}
use Rattle.std.proofs.lemmas.Bool.{cases_eq, eqb-true, or_cases}
use Rattle.chain_core.specs.Path.{IsPath}
use Rattle.table_shape.specs.declared.place.Place.TheVariants as place
use Rattle.intern_log.specs.declared.event.Entry.{Entry}
use Rattle.intern_log.specs.declared.event.Handle.{Handle}
use Rattle.intern_log.specs.declared.event.What.TheVariants as what
use Rattle.intern_log.specs.Log.{new_entry}
use Rattle.intern_log.specs.Now.{Phase, Claimed, Linked, Unlinked}
use Rattle.intern_log.specs.TextMap.{entry_of, handle_eq, IsLive}
use Rattle.intern_log.proofs.Handles.{handle_eq-Decides}
use Rattle.atomic_step.specs.declared.step.Step.TheVariants as step
use Rattle.atomic_step.specs.Access.{word_after}
use Rattle.atomic_step.specs.SoundStep.{IsSoundStep}
use Rattle.atomic_step.specs.Step.{access_of, plain_head}
use Rattle.call_machine.proofs.Nodes.{few_slots}
use Rattle.cht_core.specs.declared.table.Table.{Table}
use Rattle.cht_core.specs.Backs.{MayCreate, LeadsOn, KeepsTable}
use Rattle.cht_core.specs.Flow.{Flow, with_chain, holds_after}
use Rattle.cht_core.specs.Memory.{Memory, IsMade}
use Rattle.cht_core.specs.Past.{Past, told, MayTell, kind_of}
use Rattle.cht_core.specs.Rely.{Grows, Leaves, Spares, Walks}
use Rattle.cht_core.specs.Search.{IsFit, IsHeld}
use Rattle.cht_core.specs.TableState.{IsTable, Words}
use Rattle.cht_core.proofs.Absent.{claimed_not_linked, claimed_not_unlinked, comes_here, is_open, leads_here, absent, not_live, not_made, comes_to_it}
use Rattle.cht_core.proofs.CalmParts.{clear_kept}
use Rattle.cht_core.proofs.Basics.{after_same}
use Rattle.cht_core.proofs.Buckets.{head_of_bucket}
use Rattle.cht_core.proofs.Calm.{calm_leads}
use Rattle.cht_core.proofs.CreateChains.{chain_stays, created_chains, created_heads, created_sections, created_ledger, same_links}
use Rattle.cht_core.proofs.CreateParts.{entry_made, entry_of_other}
use Rattle.cht_core.proofs.CreateSlots.{created_past, created_flow, Pushed, slot_here, slot_there, phase_stays, created_slots}
use Rattle.cht_core.proofs.Entries.{text_cases}
use Rattle.cht_core.proofs.Ledgers.{hold_of_other_seat}
use Rattle.cht_core.proofs.TidyKept.{tidy_told}
use Rattle.cht_core.proofs.WordsKept.{words_kept}

one_entry : (e g : Entry) → Some e ≡ Some g → e ≡ g
one_entry e g same = cc

module _ (t : Table) (m m' : Memory) (p : Past) (f : Flow) (i : ℕ) (text : List ℕ) (h : Handle) (row bucket head : ℕ) (table : IsTable t m p f) (may : MayCreate t m p f i text h row bucket head)
    (absent : entry_of p.now.texts text ≡ None) (pushed : Pushed m m' row bucket h) where
  now_linked : (s : ℕ) → s ≡ h.slot → (created_past p i text h).now.slot s ≡ Linked text h p.now.place
  now_linked s is = slot_here t m m' p f i text h row bucket head table may absent pushed s is

  slot_stays : (s : ℕ) → s ≢ h.slot → (created_past p i text h).now.slot s ≡ p.now.slot s
  slot_stays s differ = slot_there t m m' p f i text h row bucket head table may absent pushed s differ

  stays : (s : ℕ) (phase : Phase) → p.now.slot s ≡ phase → (phase ≡ Claimed i → ⊥) → (created_past p i text h).now.slot s ≡ phase
  stays s phase is differ = phase_stays t m m' p f i text h row bucket head table may absent pushed s phase is differ

  -- a phase that is not a link was there before
  was : (s : ℕ) (phase : Phase) → (created_past p i text h).now.slot s ≡ phase → (Linked text h p.now.place ≡ phase → ⊥) → p.now.slot s ≡ phase
  was s phase is differ = elim (cases_eq s h.slot) [
    | inl same ↦ absurd (differ (sym (now_linked s same) ∙ is))
    | inr other ↦ sym (slot_stays s other) ∙ is
  ]

  still_linked : (s : ℕ) (u : List ℕ) (k : Handle) (at : ℕ) → p.now.slot s ≡ Linked u k at → (created_past p i text h).now.slot s ≡ Linked u k at
  still_linked s u k at linked = stays s (Linked u k at) linked (λ is. cc)

  still_unlinked : (s seat at : ℕ) → p.now.slot s ≡ Unlinked seat at → (created_past p i text h).now.slot s ≡ Unlinked seat at
  still_unlinked s seat at unlinked = stays s (Unlinked seat at) unlinked (λ is. cc)

  -- nobody stands on the new slot, and the nodes of a walk are fit as before
  still_held : (since s : ℕ) → IsHeld p.now since s → IsHeld (created_past p i text h).now since s
  still_held since s held = elim held [
    | inl linked ↦ inl (linked.0, linked.1, linked.2, still_linked s linked.0 linked.1 linked.2 linked.3)
    | inr gone ↦ inr (gone.0, gone.1, still_unlinked s gone.0 gone.1 gone.2, gone.3)
  ]

  held_elsewhere : (since s : ℕ) → IsHeld p.now since s → s ≢ h.slot
  held_elsewhere since s held is = elim held [
    | inl linked ↦ claimed_not_linked (p.now.slot s) i linked.0 linked.1 linked.2 (ap p.now.slot is ∙ may.claimed.0) linked.3
    | inr gone ↦ claimed_not_unlinked (p.now.slot s) i gone.0 gone.1 (ap p.now.slot is ∙ may.claimed.0) gone.2
  ]

  still_fit : (since hash s : ℕ) → IsFit p.now f since hash s → IsFit (created_past p i text h).now (created_flow f i h row bucket) since hash s
  still_fit since hash s fit = record {
    held = still_held since s fit.held;
    near = λ u k at linked. fit.near u k at (sym (slot_stays s (held_elsewhere since s fit.held)) ∙ linked);
    side = λ u k at linked. fit.side u k at (sym (slot_stays s (held_elsewhere since s fit.held)) ∙ linked);
  }

  created_walks : Walks m p.now f m' (created_past p i text h).now (created_flow f i h row bucket)
  created_walks = record {
    fits = λ k hash s o inside fit. still_fit o.place hash s fit;
    go = λ k o other hash node ahead inside path fit. record {
      left = ahead;
      path = subst (λ next. IsPath next node ahead) (sym (same_links t m m' p f i text h row bucket head table may absent pushed)) path;
      fit = λ s on. still_fit o.place hash s (fit s on);
      kept = λ s on. inl on;
      fresh = λ s on. inl on;
    };
  }

  created_grows : Grows m p f m' (created_past p i text h) (created_flow f i h row bucket)
  created_grows = record {
    later = omega arith;
    seed = refl;
    counter = let same : m' place.Counter ≡ m place.Counter = pushed.there place.Counter (λ e. cc) in omega (arith, same);
    made = λ k is. ap (λ test. test || handle_eq h k) is;
    made_back = λ k is. elim (or_cases (p.made k) (handle_eq h k) is) [
      | inl before ↦ inl before
      | inr now ↦ inr (i, ap (λ (j : Handle). p.now.slot j.slot) (sym ((handle_eq-Decides h k).0 now)) ∙ may.claimed.0)
    ];
    uses = λ s. omega arith;
    linked = λ s u k at linked. inl (still_linked s u k at linked);
    unlinked = λ s seat at k o unlinked inside less. still_unlinked s seat at unlinked;
    entries = λ u e is. elim (text_cases u text) [
      | inl same ↦ (
          let made : new_entry h ≡ e = one_entry (new_entry h) e (sym (entry_made p.now.texts text h u same) ∙ is) in
          let handle : h ≡ e.handle = ap (λ (x : Entry). x.handle) made in
          inr (p.now.place, now_linked e.handle.slot (ap (λ (k : Handle). k.slot) (sym handle)) ∙ ap (λ v. Linked v h p.now.place) (sym same) ∙ ap (λ k. Linked u k p.now.place) handle, omega arith))
      | inr differ ↦ inl (e, sym (entry_of_other p.now.texts text h u differ) ∙ is, refl)
    ];
    sections = λ k o is. inl is;
    words = λ k s o inside held. (pushed.there (place.Meta s) (λ e. cc), λ at. pushed.there (place.Text s at) (λ e. cc));
    walks = created_walks;
    routes = λ k hash r o inside routed. routed;
    onward = λ k hash r o inside sent. sent;
    based = λ k hash r o inside routed. refl;
  }

  created_leaves : (k : ℕ) → p.now.lock row bucket ≡ None → Leaves k m p f m' (created_past p i text h) (created_flow f i h row bucket)
  created_leaves k unlocked = record {
    locks = λ r b is. is;
    locks_back = λ r b is. is;
    heads = λ r b is. pushed.there (place.Head r b) (λ e. let same = head_of_bucket row bucket r b e in not_mine r b is same.0 same.1);
    used = λ r b used is. used;
    chains = λ r b used is. chain_stays t m m' p f i text h row bucket head table may absent pushed r b (not_mine r b is);
    links = λ r b s used is on. pushed.there (place.Link s) (λ e. cc);
    nodes = λ r b s u j at used is on linked. still_linked s u j at linked;
    unlinked = λ s at is. still_unlinked s k at is;
    unlinked_back = λ s at is. was s (Unlinked k at) is (λ clash. cc);
    counts = λ s at is. pushed.there (place.Count s) (λ e. cc);
    owner = λ is. is;
    owner_back = λ is. is;
    still = λ is. record { level = refl; since = refl; stage = refl; before = refl; parted = λ s. refl; free = λ r b unused none. none };
  }
    where
      not_mine : (r b : ℕ) → p.now.lock r b ≡ Some k → r ≡ row → b ≡ bucket → ⊥
      not_mine r b mine rows buckets =
          let clash : Some k ≡ None = sym mine ∙ ap (λ j. p.now.lock j b) rows ∙ ap (p.now.lock row) buckets ∙ unlocked in cc

  created_spares : (k : ℕ) → k ≢ i → p.now.lock row bucket ≡ None → Spares k m p f m' (created_past p i text h) (created_flow f i h row bucket)
  created_spares k differ unlocked = record {
    section = refl;
    claimed = λ s is. stays s (Claimed k) is (λ same. let seats : k ≡ i = cc in differ seats);
    claimed_back = λ s is. was s (Claimed k) is (λ clash. cc);
    link = λ s is. pushed.there (place.Link s) (λ e. cc);
    count = λ s is. pushed.there (place.Count s) (λ e. cc);
    meta = λ s is. pushed.there (place.Meta s) (λ e. cc);
    text = λ s at is. pushed.there (place.Text s at) (λ e. cc);
    holds = λ j. hold_of_other_seat f.holds i h (f.holds i h + 1) k j differ;
    leaves = created_leaves k unlocked;
  }

-- an entry is made, or nothing is
abbrev CreatesBy : Table → Memory → Memory → Past → Flow → ℕ → List ℕ → Handle → ℕ → ℕ → ℕ → Bool → Type 0
CreatesBy t m m' p f i text h row bucket head b =
    LeadsOn t m p f i (step.CreateEntry h row bucket head) (cond b (Some (what.Create text h)) None) m' (told p i (cond b (Some (what.Create text h)) None))
    (record f { chain = cond b (with_chain f.chain row bucket (h.slot ∷ f.chain row bucket)) f.chain; holds = holds_after i (cond b (Some (what.Create text h)) None) f.holds })

creates_by : (h : Handle) (row bucket head : ℕ) (t : Table) (m m' : Memory) (p : Past) (f : Flow) (i : ℕ) (text : List ℕ) → IsTable t m p f → i < t.shape.seats →
    IsSoundStep t.shape i (step.CreateEntry h row bucket head) → MayCreate t m p f i text h row bucket head → IsMade (step.CreateEntry h row bucket head) m m' →
    (b : Bool) → (m (place.Head row bucket) == head) ≡ b → CreatesBy t m m' p f i text h row bucket head b
creates_by h row bucket head t m m' p f i text table inside sound may made false other =
    let same : m' ≡ m = after_same (step.CreateEntry h row bucket head) m m' (ap (λ b. cond b (plain_head (Some h.slot)) (m (place.Head row bucket))) other) made in
    subst (λ (now : Memory). CreatesBy t m now p f i text h row bucket head false) (sym same) (calm_leads t m p f i (step.CreateEntry h row bucket head) table)
creates_by h row bucket head t m m' p f i text table inside sound may made true met =
    let word : m (place.Head row bucket) ≡ head = eqb-true (m (place.Head row bucket)) head met in
    let new : word_after (access_of (step.CreateEntry h row bucket head)).deed (m (place.Head row bucket)) ≡ plain_head (Some h.slot) =
    ap (λ b. cond b (plain_head (Some h.slot)) (m (place.Head row bucket))) met in
    let pushed : Pushed m m' row bucket h = record { here = made.here ∙ new; there = made.there } in
    let none : entry_of p.now.texts text ≡ None = absent t m p f i text h row bucket head table may word in
    let dead : ¬ (IsLive p.now.texts h) = not_live t m p f i text h row bucket head table may word in
    let unlocked : p.now.lock row bucket ≡ None = is_open t m p f i text h row bucket head table may word in
    let told : MayTell (kind_of t) p i (Some (what.Create text h)) = (((none, dead), may.claimed.0), not_made t m p f i text h row bucket head table may word) in
    let few : t.shape.slots < 4294967295 = few_slots t.shape table.shape in
    let within : h.slot < t.shape.slots = sound.2 in
    let small : plain_head (Some h.slot) < 2 ^ 64 = omega (arith, few, within) in
    let counter : m' place.Counter ≡ m place.Counter = made.there place.Counter (λ same. cc) in
    let before : m place.Counter ≤ 2 ^ 64 - 4 = table.words.counter in
    let words : Words t m' = words_kept t m m' i (step.CreateEntry h row bucket head) table.words inside sound made (subst (λ w. w < 2 ^ 64) (sym new) small) (omega (arith, counter, before)) in
    record {
      told = told;
      table = record {
        shape = table.shape;
        tidy = tidy_told t p i (Some (what.Create text h)) table.tidy told;
        words = words;
        slots = created_slots t m m' p f i text h row bucket head table may none pushed;
        sections = created_sections t m m' p f i text h row bucket head table may none pushed;
        heads = created_heads t m m' p f i text h row bucket head table may none pushed (comes_here t m p f i text h row bucket head table may word) unlocked
            (leads_here t m p f i text h row bucket head table may word);
        chains = created_chains t m m' p f i text h row bucket head table may none pushed (comes_here t m p f i text h row bucket head table may word)
            (comes_to_it t m p f i text h row bucket head table may word);
        clear = clear_kept f.stage p.now (created_past p i text h).now refl table.tidy.since (λ k o is. inl is) table.clear;
        idle = table.idle;
        whole = table.whole;
        row = table.row;
        named = table.named;
        ledger = λ counted. created_ledger t m m' p f i text h row bucket head table may none pushed inside (table.ledger counted) dead;
      };
      grows = created_grows t m m' p f i text h row bucket head table may none pushed;
      spares = λ k differ. created_spares t m m' p f i text h row bucket head table may none pushed k differ unlocked;
      leaves = λ try. created_leaves t m m' p f i text h row bucket head table may none pushed i unlocked;
    }

-- the law of the exchange that makes an entry
pub create_entry_keeps : (h : Handle) (row bucket head : ℕ) → KeepsTable (step.CreateEntry h row bucket head)
create_entry_keeps h row bucket head t m m' p f i text table inside sound backs made =
    creates_by h row bucket head t m m' p f i text table inside sound backs made (m (place.Head row bucket) == head) refl
