-- When the entry of a handle is live: a count word that is not 0, a hold, or a handle that was made and has not passed.
use Rattle.std.proofs.Common.{◌≡◌, ℕ, ◌<◌, ◌≤◌, ◌⊎◌, true, List, Some, inl, inr, refl, sym, ap, subst, ◌∙◌, arith}
use Rattle.std.proofs.lemmas.Bool.{cases_eq}
use Rattle.table_shape.specs.declared.place.Place.TheVariants as place
use Rattle.intern_log.specs.declared.event.Entry.{Entry}
use Rattle.intern_log.specs.declared.event.Handle.{Handle}
use Rattle.intern_log.specs.declared.event.Kind.TheVariants.{Counted}
use Rattle.intern_log.specs.Now.{Now, Phase, Vacant, Claimed, Linked, Unlinked}
use Rattle.intern_log.specs.TextMap.{entry_of, IsLive}
use Rattle.atomic_step.specs.Count.{generation_of, holds_of, holds_word, handle_at, is_live}
use Rattle.cht_core.specs.declared.table.Table.{Table}
use Rattle.cht_core.specs.Flow.{Flow}
use Rattle.cht_core.specs.Ledger.{sum_below}
use Rattle.cht_core.specs.Memory.{Memory}
use Rattle.cht_core.specs.Past.{Past}
use Rattle.cht_core.specs.Search.{IsSeenWith}
use Rattle.cht_core.specs.Slots.{count_in, IsLastOf}
use Rattle.cht_core.specs.TableState.{IsTable}
use Rattle.cht_core.specs.Tidy.{IsTidy}
use Rattle.cht_core.proofs.Counts.{holds_in_word, generation_in_word, count_small, handle_is, count_here, counted_has, live_word}
use Rattle.cht_core.proofs.Ledgers.{part_of_sum}

-- a slot is linked with a handle whose entry is live, and its word has the entry's count
pub record LiveAt (m : Memory) (n : Now) (x : ℕ) (text : List ℕ) (h : Handle) : Type 0 where
  pub born : ℕ
  pub entry : Entry
  pub linked : n.slot x ≡ Linked text h born
  pub at : h.slot ≡ x
  pub is : entry_of n.texts text ≡ Some entry
  pub own : entry.handle ≡ h
  pub least : 1 ≤ entry.count
  pub most : entry.count ≤ 65535
  pub word : m (place.Count x) ≡ holds_word h entry.count

-- its count word has the generation of the handle and the count of the entry
pub live_generation : (m : Memory) (n : Now) (x : ℕ) (text : List ℕ) (h : Handle) → LiveAt m n x text h → generation_of (m (place.Count x)) ≡ h.generation
live_generation m n x text h live =
    ap generation_of live.word ∙ generation_in_word h live.entry.count (let most : live.entry.count ≤ 65535 = live.most in omega (arith, most))

pub live_holds : (m : Memory) (n : Now) (x : ℕ) (text : List ℕ) (h : Handle) (live : LiveAt m n x text h) → holds_of (m (place.Count x)) ≡ live.entry.count
live_holds m n x text h live =
    ap holds_of live.word ∙ holds_in_word h live.entry.count (let most : live.entry.count ≤ 65535 = live.most in omega (arith, most))

same_link : (text other : List ℕ) (h k : Handle) (born at : ℕ) → Linked text h born ≡ Linked other k at → (text ≡ other) × (h ≡ k)
same_link text other h k born at is = (cc, cc)

-- a handle is live or not
pub live_cases : (t : Table) (n : Now) (h : Handle) → IsTidy t n → IsLive n.texts h ⊎ (¬ (IsLive n.texts h))
live_cases t n h tidy = go (n.slot h.slot) refl
  where
    linked : IsLive n.texts h → (text : List ℕ) × (e : Entry) × (born : ℕ) × (entry_of n.texts text ≡ Some e) × (e.handle ≡ h) × (1 ≤ e.count) × (n.slot h.slot ≡ Linked text h born)
    linked live =
        let entry = tidy.entries live.0 live.1.0 live.1.1 in
        (live.0, live.1.0, entry.0, live.1.1, live.1.2, entry.2, subst (λ (k : Handle). n.slot k.slot ≡ Linked live.0 k entry.0) live.1.2 entry.1)

    counted : (text : List ℕ) (k : Handle) (born : ℕ) → n.slot h.slot ≡ Linked text k born → count_in (entry_of n.texts text) h ≡ 0 → IsLive n.texts h → ⊥
    counted text k born is none live =
        let has = linked live in
        let same : has.0 ≡ text = (same_link has.0 text h k has.2 born (sym has.6 ∙ is)).0 in
        let there : entry_of n.texts text ≡ Some has.1 = ap (entry_of n.texts) (sym same) ∙ has.3 in
        let count : count_in (entry_of n.texts text) h ≡ has.1.count = ap (λ o. count_in o h) there ∙ count_here has.1 h has.4 in
        let least : 1 ≤ has.1.count = has.5 in
        omega (arith, none, count, least)

    go : (phase : Phase) → n.slot h.slot ≡ phase → IsLive n.texts h ⊎ (¬ (IsLive n.texts h))
    go (Linked text k born) is = elim (cases_eq (count_in (entry_of n.texts text) h) 0) [
      | inl none ↦ inr (counted text k born is none)
      | inr some ↦ let has = counted_has (entry_of n.texts text) h (omega (arith, some)) in inl (text, (has.0, has.1, has.2))
    ]
    go Vacant is = inr (λ live. let has = linked live in let at : n.slot h.slot ≡ Linked has.0 h has.2 = has.6 in absurd (cc))
    go (Claimed seat) is = inr (λ live. let has = linked live in let at : n.slot h.slot ≡ Linked has.0 h has.2 = has.6 in absurd (cc))
    go (Unlinked seat place) is = inr (λ live. let has = linked live in let at : n.slot h.slot ≡ Linked has.0 h has.2 = has.6 in absurd (cc))

module _ (t : Table) (m : Memory) (p : Past) (f : Flow) (table : IsTable t m p f) where
  -- the entry of a text is live in its slot
  pub live_entry : (text : List ℕ) (e : Entry) (h : Handle) → entry_of p.now.texts text ≡ Some e → e.handle ≡ h → LiveAt m p.now h.slot text h
  live_entry text e h is own =
      let entry = table.tidy.entries text e is in
      let linked : p.now.slot h.slot ≡ Linked text h entry.0 = subst (λ (k : Handle). p.now.slot k.slot ≡ Linked text k entry.0) own entry.1 in
      let count : count_in (entry_of p.now.texts text) h ≡ e.count = ap (λ o. count_in o h) is ∙ count_here e h own in
      record {
        born = entry.0;
        entry = e;
        linked = linked;
        at = refl;
        is = is;
        own = own;
        least = entry.2;
        most = entry.3;
        word = table.slots.counts h.slot text h entry.0 linked ∙ ap (holds_word h) count;
      }

  -- a linked slot with a hold in its word has a live entry
  pub live_linked : (x : ℕ) (text : List ℕ) (h : Handle) (born : ℕ) → p.now.slot x ≡ Linked text h born → 1 ≤ holds_of (m (place.Count x)) → LiveAt m p.now x text h
  live_linked x text h born linked some =
      let word : m (place.Count x) ≡ holds_word h (count_in (entry_of p.now.texts text) h) = table.slots.counts x text h born linked in
      let count : holds_of (m (place.Count x)) ≡ count_in (entry_of p.now.texts text) h =
      ap holds_of word ∙ holds_in_word h (count_in (entry_of p.now.texts text) h) (count_small (entry_of p.now.texts text) h (λ e is. (table.tidy.entries text e is).3)) in
      let has = counted_has (entry_of p.now.texts text) h (omega (arith, some, count)) in
      let at : h.slot ≡ x = (table.tidy.linked x text h born linked).0 in
      subst (λ slot. LiveAt m p.now slot text h) at (live_entry text has.0 h has.1 has.2)

  -- a slot that was seen with a text has its live entry, by the handle that its word tells
  pub live_seen : (i x : ℕ) (text : List ℕ) → IsSeenWith p.now i x text → 1 ≤ holds_of (m (place.Count x)) → LiveAt m p.now x text (handle_at x (m (place.Count x)))
  live_seen i x text seen some = elim seen.2 [
    | inl linked ↦
        let live = live_linked x linked.0 linked.1 linked.2 linked.3 some in
        let generation : generation_of (m (place.Count x)) ≡ linked.1.generation = live_generation m p.now x linked.0 linked.1 live in
        subst (LiveAt m p.now x text) (handle_is linked.1 x (m (place.Count x)) live.at generation) (subst (λ other. LiveAt m p.now x other linked.1) linked.4 live)
    | inr unlinked ↦
        let none : holds_of (m (place.Count x)) ≡ 0 = table.slots.gone x unlinked.0 unlinked.1 unlinked.2 in
        absurd (omega (arith, some, none))
  ]

  -- a handle that a seat of a counted table holds is live
  pub live_held : (i : ℕ) (h : Handle) → t.kind ≡ Counted → i < t.shape.seats → 1 ≤ f.holds i h → (text : List ℕ) × LiveAt m p.now h.slot text h
  live_held i h counted inside some = elim (live_cases t p.now h table.tidy) [
    | inl live ↦ (live.0, live_entry live.0 live.1.0 h live.1.1 live.1.2)
    | inr dead ↦
        let none : sum_below t.shape.seats (λ k. f.holds k h) ≡ 0 = (table.ledger counted).gone h dead in
        let part : f.holds i h ≤ sum_below t.shape.seats (λ k. f.holds k h) = part_of_sum t.shape.seats (λ k. f.holds k h) i inside in
        absurd (omega (arith, some, none, part))
  ]

  last_linked : (h : Handle) (phase : Phase) → p.now.slot h.slot ≡ phase → IsLastOf h phase → 1 ≤ holds_of (m (place.Count h.slot)) → (text : List ℕ) × LiveAt m p.now h.slot text h
  last_linked h (Linked text k born) is last some = (text, live_linked h.slot text h born (is ∙ ap (λ j. Linked text j born) last) some)
  last_linked h (Unlinked seat at) is last some = let none : holds_of (m (place.Count h.slot)) ≡ 0 = table.slots.gone h.slot seat at is in absurd (omega (arith, some, none))
  last_linked h Vacant is last some = absurd last
  last_linked h (Claimed seat) is last some = absurd last

  -- a handle that was made is live where its slot's word is that of its live entry
  pub live_made : (h : Handle) → p.made h ≡ true → is_live h (m (place.Count h.slot)) ≡ true → (text : List ℕ) × LiveAt m p.now h.slot text h
  live_made h made live =
      let word = live_word h (m (place.Count h.slot)) live in
      elim (table.slots.made h made) [
        | inl passed ↦ absurd (omega (arith, passed, word.0))
        | inr last ↦ last_linked h (p.now.slot h.slot) refl last.1 word.1
      ]
