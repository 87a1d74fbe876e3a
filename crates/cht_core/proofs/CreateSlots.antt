-- What the words of the slots show after an entry was made.
use Rattle.std.proofs.Common.{◌≡◌, ◌≢◌, ℕ, ◌+◌, ◌≤◌, cond, List, ◌∷◌, length, Some, None, refl, sym, ap, subst, ◌∙◌, inl, inr, arith}
use Rattle.std.proofs.lemmas.Bool.{cases_eq, eq-eqb, ne_eqb, or_cases, false_from_ne_true}
use Rattle.text_words.specs.Words.{words_of}
use Rattle.marked_word.specs.Meta.{meta_word}
use Rattle.table_shape.specs.declared.place.Place.{Place}
use Rattle.table_shape.specs.declared.place.Place.TheVariants as place
use Rattle.intern_log.specs.declared.event.Handle.{Handle}
use Rattle.intern_log.specs.declared.event.What.TheVariants as what
use Rattle.intern_log.specs.Now.{Phase, Claimed, Linked, Unlinked}
use Rattle.intern_log.specs.TextMap.{entry_of, handle_eq}
use Rattle.intern_log.proofs.Handles.{handle_eq-Decides}
use Rattle.atomic_step.specs.Count.{generation_of, holds_of, holds_word}
use Rattle.atomic_step.specs.Step.{plain_head}
use Rattle.call_machine.specs.Sought.{meta_of}
use Rattle.cht_core.specs.declared.table.Table.{Table}
use Rattle.cht_core.specs.Backs.{MayCreate}
use Rattle.cht_core.specs.Flow.{Flow, with_chain, with_hold}
use Rattle.cht_core.specs.Memory.{Memory}
use Rattle.cht_core.specs.Past.{Past, told}
use Rattle.cht_core.specs.Slots.{Slots, claim_word, count_in, HasText, IsPast, IsLastOf, IsStorable}
use Rattle.cht_core.specs.TableState.{IsTable}
use Rattle.cht_core.proofs.Basics.{with_here, with_other}
use Rattle.cht_core.proofs.CreateParts.{entry_made, entry_of_other}
use Rattle.cht_core.proofs.Entries.{text_cases}

-- the log and the flow after an entry was made
abbrev pub created_past : Past → ℕ → List ℕ → Handle → Past
created_past p i text h = told p i (Some (what.Create text h))

abbrev pub created_flow : Flow → ℕ → Handle → ℕ → ℕ → Flow
created_flow f i h row bucket = record f { chain = with_chain f.chain row bucket (h.slot ∷ f.chain row bucket); holds = with_hold f.holds i h (f.holds i h + 1) }

-- the head of a bucket leads to the handle's slot, and no other word is changed
pub record Pushed (m m' : Memory) (row bucket : ℕ) (h : Handle) : Type 0 where
  pub here : m' (place.Head row bucket) ≡ plain_head (Some h.slot)
  pub there : (q : Place) → q ≢ place.Head row bucket → m' q ≡ m q

-- two links of one slot are the same
pub same_link : (text u : List ℕ) (h k : Handle) (born at : ℕ) → Linked text h born ≡ Linked u k at → (text ≡ u) × (h ≡ k) × (born ≡ at)
same_link text u h k born at same = (cc, cc, cc)

module _ (t : Table) (m m' : Memory) (p : Past) (f : Flow) (i : ℕ) (text : List ℕ) (h : Handle) (row bucket head : ℕ) (table : IsTable t m p f) (may : MayCreate t m p f i text h row bucket head)
    (absent : entry_of p.now.texts text ≡ None) (pushed : Pushed m m' row bucket h) where
  pub slot_here : (s : ℕ) → s ≡ h.slot → (created_past p i text h).now.slot s ≡ Linked text h p.now.place
  slot_here s is = with_here p.now.slot h.slot (Linked text h p.now.place) s is

  pub slot_there : (s : ℕ) → s ≢ h.slot → (created_past p i text h).now.slot s ≡ p.now.slot s
  slot_there s differ = with_other p.now.slot h.slot (Linked text h p.now.place) s differ

  -- what is linked there now is the new entry
  pub linked_here : (s : ℕ) (u : List ℕ) (k : Handle) (at : ℕ) → s ≡ h.slot → (created_past p i text h).now.slot s ≡ Linked u k at → (text ≡ u) × (h ≡ k) × (p.now.place ≡ at)
  linked_here s u k at is linked = same_link text u h k p.now.place at (sym (slot_here s is) ∙ linked)

  -- every other phase stays
  pub phase_stays : (s : ℕ) (phase : Phase) → p.now.slot s ≡ phase → (phase ≡ Claimed i → ⊥) → (created_past p i text h).now.slot s ≡ phase
  phase_stays s phase is differ = slot_there s (λ same. differ (sym is ∙ ap p.now.slot same ∙ may.claimed.0)) ∙ is

  -- the new entry is counted once, and the count of others stays
  count_here : (u : List ℕ) (k : Handle) → text ≡ u → h ≡ k → count_in (entry_of (created_past p i text h).now.texts u) k ≡ 1
  count_here u k same is =
      ap (λ o. count_in o k) (entry_made p.now.texts text h u (sym same)) ∙ ap (λ test. cond test 1 0) ((handle_eq-Decides h k).1 is)

  count_stays : (u : List ℕ) (k : Handle) → (h ≡ k → ⊥) → count_in (entry_of (created_past p i text h).now.texts u) k ≡ count_in (entry_of p.now.texts u) k
  count_stays u k differ = elim (text_cases u text) [
    | inl is ↦ ap (λ o. count_in o k) (entry_made p.now.texts text h u is) ∙ ap (λ test. cond test 1 0) (false_from_ne_true (handle_eq h k) (λ same. differ ((handle_eq-Decides h k).0 same)))
        ∙ sym (ap (λ o. count_in o k) (ap (entry_of p.now.texts) is ∙ absent))
    | inr other ↦ ap (λ o. count_in o k) (entry_of_other p.now.texts text h u other)
  ]

  -- a slot elsewhere has another handle
  other_handle : (s : ℕ) (u : List ℕ) (k : Handle) (at : ℕ) → s ≢ h.slot → p.now.slot s ≡ Linked u k at → h ≡ k → ⊥
  other_handle s u k at differ linked same = differ (sym (table.tidy.linked s u k at linked).0 ∙ ap (λ (j : Handle). j.slot) (sym same))

  same_count : (s : ℕ) → m' (place.Count s) ≡ m (place.Count s)
  same_count s = pushed.there (place.Count s) (λ e. cc)

  -- the words of the slot that is linked now
  word_here : (s : ℕ) (part : ℕ → Place) → s ≡ h.slot → (part s ≡ place.Head row bucket → ⊥) → m' (part s) ≡ m (part h.slot)
  word_here s part is differ = pushed.there (part s) differ ∙ ap (λ k. m (part k)) is

  use_here : (s : ℕ) → s ≡ h.slot → (created_past p i text h).uses s ≡ p.uses s + 1
  use_here s is = ap (λ test. p.uses s + cond test 1 0) (eq-eqb h.slot s (sym is))

  use_more : (s : ℕ) → p.uses s ≤ (created_past p i text h).uses s
  use_more s = elim (cases_eq s h.slot) [
    | inl is ↦ (let one : (created_past p i text h).uses s ≡ p.uses s + 1 = use_here s is in omega arith)
    | inr differ ↦ (
        let none : (created_past p i text h).uses s ≡ p.uses s + 0 = ap (λ test. p.uses s + cond test 1 0) (ne_eqb h.slot s (λ same. differ (sym same))) in
        omega arith)
  ]

  made_here : (k : Handle) → h ≡ k → IsPast (generation_of (m' (place.Count k.slot))) k ((created_past p i text h).now.slot k.slot)
  made_here k is = subst (λ (j : Handle). IsPast (generation_of (m' (place.Count j.slot))) j ((created_past p i text h).now.slot j.slot)) is
      (inr (sym (ap generation_of (same_count h.slot) ∙ may.claimed.1), subst (IsLastOf h) (sym (slot_here h.slot refl)) refl))

  made_before : (k : Handle) → IsPast (generation_of (m (place.Count k.slot))) k (p.now.slot k.slot) → IsPast (generation_of (m' (place.Count k.slot))) k ((created_past p i text h).now.slot k.slot)
  made_before k past =
      let same : generation_of (m' (place.Count k.slot)) ≡ generation_of (m (place.Count k.slot)) = ap generation_of (same_count k.slot) in
      subst (λ g. IsPast g k ((created_past p i text h).now.slot k.slot)) (sym same) (elim past [
        | inl less ↦ inl less
        | inr last ↦ elim (cases_eq k.slot h.slot) [
          | inl is ↦ absurd (subst (IsLastOf k) (ap p.now.slot is ∙ may.claimed.0) last.1)
          | inr differ ↦ inr (last.0, subst (IsLastOf k) (sym (slot_there k.slot differ)) last.1)
        ]
      ])

  -- the slots are as the log says
  pub created_slots : Slots t m' (created_past p i text h)
  created_slots = record {
    claims = λ s. elim (cases_eq s h.slot) [
      | inl is ↦ pushed.there (place.Claim s) (λ e. cc) ∙ table.slots.claims s ∙ ap (λ k. claim_word (p.now.slot k)) is ∙ ap claim_word may.claimed.0 ∙ sym (ap claim_word (slot_here s is))
      | inr differ ↦ pushed.there (place.Claim s) (λ e. cc) ∙ table.slots.claims s ∙ sym (ap claim_word (slot_there s differ))
    ];
    counts = λ s u k at linked. elim (cases_eq s h.slot) [
      | inl is ↦ (
          let same : (text ≡ u) × (h ≡ k) × (p.now.place ≡ at) = linked_here s u k at is linked in
          word_here s (λ j. place.Count j) is (λ e. cc) ∙ may.count ∙ ap (λ j. holds_word j 1) same.1 ∙ sym (ap (holds_word k) (count_here u k same.0 same.1)))
      | inr differ ↦ (
          let was : p.now.slot s ≡ Linked u k at = sym (slot_there s differ) ∙ linked in
          same_count s ∙ table.slots.counts s u k at was ∙ sym (ap (holds_word k) (count_stays u k (other_handle s u k at differ was))))
    ];
    gone = λ s seat at unlinked. elim (cases_eq s h.slot) [
      | inl is ↦ (let clash : Linked text h p.now.place ≡ Unlinked seat at = sym (slot_here s is) ∙ unlinked in absurd (cc))
      | inr differ ↦ ap holds_of (same_count s) ∙ table.slots.gone s seat at (sym (slot_there s differ) ∙ unlinked)
    ];
    metas = λ s u k at linked. elim (cases_eq s h.slot) [
      | inl is ↦ word_here s (λ j. place.Meta j) is (λ e. cc) ∙ may.words.0 ∙ ap (λ v. meta_word (meta_of p.now.seed v)) (linked_here s u k at is linked).0
      | inr differ ↦ pushed.there (place.Meta s) (λ e. cc) ∙ table.slots.metas s u k at (sym (slot_there s differ) ∙ linked)
    ];
    texts = λ s u k at linked. elim (cases_eq s h.slot) [
      | inl is ↦ subst (λ v. HasText m' s v (words_of (length v))) (linked_here s u k at is linked).0
          (λ place_at below within. word_here s (λ j. place.Text j place_at) is (λ e. cc) ∙ may.words.1 place_at below within)
      | inr differ ↦ λ place_at below within. pushed.there (place.Text s place_at) (λ e. cc) ∙ table.slots.texts s u k at (sym (slot_there s differ) ∙ linked) place_at below within
    ];
    rooms = λ s u k at linked. elim (cases_eq s h.slot) [
      | inl is ↦ subst (IsStorable t.shape) (linked_here s u k at is linked).0 may.room
      | inr differ ↦ table.slots.rooms s u k at (sym (slot_there s differ) ∙ linked)
    ];
    made = λ k is. elim (or_cases (p.made k) (handle_eq h k) is) [
      | inl before ↦ made_before k (table.slots.made k before)
      | inr now ↦ made_here k ((handle_eq-Decides h k).0 now)
    ];
    uses = λ s.
        let same : generation_of (m' (place.Count s)) ≡ generation_of (m (place.Count s)) = ap generation_of (same_count s) in
        let below : generation_of (m (place.Count s)) ≤ p.uses s = table.slots.uses s in
        let more : p.uses s ≤ (created_past p i text h).uses s = use_more s in
        omega (arith, same, below, more);
    used = λ s u k at linked. elim (cases_eq s h.slot) [
      | inl is ↦ (
          let same : (text ≡ u) × (h ≡ k) × (p.now.place ≡ at) = linked_here s u k at is linked in
          let generation : generation_of (m (place.Count s)) ≡ k.generation = ap (λ j. generation_of (m (place.Count j))) is ∙ may.claimed.1 ∙ ap (λ (j : Handle). j.generation) same.1 in
          let below : generation_of (m (place.Count s)) ≤ p.uses s = table.slots.uses s in
          let one : (created_past p i text h).uses s ≡ p.uses s + 1 = use_here s is in
          omega (arith, generation, below, one))
      | inr differ ↦ (
          let below : k.generation + 1 ≤ p.uses s = table.slots.used s u k at (sym (slot_there s differ) ∙ linked) in
          let more : p.uses s ≤ (created_past p i text h).uses s = use_more s in
          omega (arith, below, more))
    ];
  }
