-- What a drop, a permanence and a kill make of the entry of their handle.
use Rattle.std.proofs.Common.{◌≡◌, ◌≢◌, ℕ, ◌-◌, ◌<◌, ◌≤◌, true, List, Option, Some, None, inl, inr, refl, sym, ap, ◌∙◌, arith}
use Rattle.table_shape.specs.declared.place.Place.{Place}
use Rattle.table_shape.specs.declared.place.Place.TheVariants as place
use Rattle.intern_log.specs.declared.event.Entry.{Entry}
use Rattle.intern_log.specs.declared.event.Handle.{Handle}
use Rattle.intern_log.specs.declared.event.Kind.TheVariants.{Counted, Weak}
use Rattle.intern_log.specs.declared.event.What.TheVariants as what
use Rattle.intern_log.specs.Log.{next, lowered, made_permanent, HandlesDiffer}
use Rattle.intern_log.specs.TextMap.{TextMap, entry_of, IsLive}
use Rattle.intern_log.proofs.Handles.{same_entry, lowered_keeps}
use Rattle.atomic_step.specs.declared.count.Change.{Change}
use Rattle.atomic_step.specs.declared.count.Change.TheVariants.{Drop, Permanent, Kill}
use Rattle.atomic_step.specs.Count.{holds_of, holds_word, changed, is_live}
use Rattle.atomic_step.specs.Event.{change_of}
use Rattle.atomic_step.specs.SoundStep.{IsChangeable}
use Rattle.cht_core.specs.declared.table.Table.{Table}
use Rattle.cht_core.specs.Flow.{Flow, holds_after}
use Rattle.cht_core.specs.KnowsCall.{MayChange}
use Rattle.cht_core.specs.Ledger.{Balanced}
use Rattle.cht_core.specs.Memory.{Memory}
use Rattle.cht_core.specs.Past.{Past, MayTell, kind_of}
use Rattle.cht_core.specs.Slots.{count_in}
use Rattle.cht_core.specs.TableState.{IsTable}
use Rattle.cht_core.proofs.CountLeads.{Recounts}
use Rattle.cht_core.proofs.Counts.{holds_in_word, word_recounted, word_lowered, permanent_count, lowered_cases, lowered_count}
use Rattle.cht_core.proofs.Entries.{Puts, drop_puts, perm_puts, kill_puts}
use Rattle.cht_core.proofs.Ledgers.{balanced_after, drop_recounted, perm_recounted, hold_of_other_seat}
use Rattle.cht_core.proofs.LiveCounts.{LiveAt, live_held, live_made}

-- the entry that a change leaves, or none
abbrev pub left_by : Change → Entry → Option Entry
left_by Drop e = lowered e
left_by Permanent e = Some (made_permanent e)
left_by Kill e = None

change_puts : (texts : TextMap) (text : List ℕ) (e : Entry) (h : Handle) → entry_of texts text ≡ Some e → e.handle ≡ h → HandlesDiffer texts → (change : Change)
    → Puts texts (next texts (change_of change h)) text (left_by change e)
change_puts texts text e h has own differ Drop = drop_puts texts text e h has own differ
change_puts texts text e h has own differ Permanent = perm_puts texts text e h has own differ
change_puts texts text e h has own differ Kill = kill_puts texts text e h has own differ

left_own : (change : Change) (e g : Entry) (h : Handle) → e.handle ≡ h → left_by change e ≡ Some g → g.handle ≡ h
left_own Drop e g h own is = lowered_keeps e g is ∙ own
left_own Permanent e g h own is = same_entry (made_permanent e) g is ∙ own
left_own Kill e g h own is = absurd (cc)

count_of_same : (e g : Entry) → Some e ≡ Some g → e.count ≡ g.count
count_of_same e g is = let same : e ≡ g = cc in ap (λ (x : Entry). x.count) same

left_few : (change : Change) (e g : Entry) → 1 ≤ e.count → e.count ≤ 65535 → left_by change e ≡ Some g → g.count ≤ 65535
left_few Drop e g least most is = elim (lowered_cases e least most) [
  | inl stays ↦ let same = count_of_same e g (sym stays.1 ∙ is) in omega (arith, same, most)
  | inr fewer ↦ elim fewer [
    | inl last ↦ absurd (let clash : None ≡ Some g = sym last.1 ∙ is in cc)
    | inr less ↦ let same = count_of_same (record e { count = e.count - 1 }) g (sym less.1 ∙ is) in omega (arith, same, most)
  ]
]
left_few Permanent e g least most is = let same = count_of_same (made_permanent e) g is in omega (arith, same)
left_few Kill e g least most is = absurd (cc)

-- the word that an exchange leaves has the count that is left
pub left_word : (change : Change) (e : Entry) (h : Handle) → e.handle ≡ h → 1 ≤ e.count → e.count ≤ 65535 → IsChangeable change (holds_word h e.count)
    → changed change (holds_word h e.count) ≡ holds_word h (count_in (left_by change e) h)
left_word Drop e h own least most changeable =
    let holds : holds_of (holds_word h e.count) ≡ e.count = holds_in_word h e.count (omega (arith, most)) in
    let below : holds_of (holds_word h e.count) < 65535 = changeable.1 in
    word_lowered h e.count (omega (arith, most)) ∙ ap (holds_word h) (sym (lowered_count e h own least (omega (arith, holds, below))))
left_word Permanent e h own least most changeable = word_recounted h e.count 65535 (omega (arith, most)) ∙ ap (holds_word h) (sym (permanent_count e h own))
left_word Kill e h own least most changeable = word_recounted h e.count 0 (omega (arith, most))

others_hold : (change : Change) (h : Handle) (i : ℕ) (holds : ℕ → Handle → ℕ) (k : ℕ) → k ≢ i → (j : Handle) → holds_after i (Some (change_of change h)) holds k j ≡ holds k j
others_hold Drop h i holds k differ j = hold_of_other_seat holds i h (holds i h - 1) k j differ
others_hold Permanent h i holds k differ j = refl
others_hold Kill h i holds k differ j = refl

module _ (t : Table) (m : Memory) (p : Past) (f : Flow) (i : ℕ) (h : Handle) (table : IsTable t m p f) where
  -- the handle of a change is live, where that of a kill has not passed
  pub change_live : (change : Change) → i < t.shape.seats → MayChange t.kind p f i change h → (change ≡ Kill → is_live h (m (place.Count h.slot)) ≡ true)
      → (text : List ℕ) × LiveAt m p.now h.slot text h
  change_live Drop inside may live = live_held t m p f table i h may.0 inside may.1
  change_live Permanent inside may live = live_held t m p f table i h may.0 inside may.1
  change_live Kill inside may live = live_made t m p f table h may.1 (live refl)

  module _ (text : List ℕ) (live : LiveAt m p.now h.slot text h) where
    is_live_handle : IsLive p.now.texts h
    is_live_handle = (text, (live.entry, live.is, live.own))

    -- its event may be added
    pub change_may : (change : Change) → MayChange t.kind p f i change h → MayTell (kind_of t) p i (Some (change_of change h))
    change_may Drop may = (may.0, is_live_handle)
    change_may Permanent may = (may.0, is_live_handle)
    change_may Kill may = (may.0, is_live_handle)

    -- the ledger is in balance after it
    pub change_balanced : (change : Change) → i < t.shape.seats → MayChange t.kind p f i change h → t.kind ≡ Counted
        → Balanced t.shape.seats (next p.now.texts (change_of change h)) (holds_after i (Some (change_of change h)) f.holds)
    change_balanced Drop inside may counted =
        balanced_after t.shape.seats p.now.texts (next p.now.texts (what.Drop h)) text live.entry h (lowered live.entry) f.holds (holds_after i (Some (what.Drop h)) f.holds) live.is live.own
        table.tidy.differ (change_puts p.now.texts text live.entry h live.is live.own table.tidy.differ Drop)
        (drop_recounted t.shape.seats p.now.texts text live.entry h i f.holds inside live.is live.own (table.ledger counted) may.1 live.least live.most) (table.ledger counted)
    change_balanced Permanent inside may counted =
        balanced_after t.shape.seats p.now.texts (next p.now.texts (what.Perm h)) text live.entry h (Some (made_permanent live.entry)) f.holds f.holds live.is live.own
        table.tidy.differ (change_puts p.now.texts text live.entry h live.is live.own table.tidy.differ Permanent)
        (perm_recounted t.shape.seats p.now.texts text live.entry h i f.holds inside live.is live.own (table.ledger counted)) (table.ledger counted)
    change_balanced Kill inside may counted = let clash : Counted ≡ Weak = sym counted ∙ may.0 in absurd (cc)

    -- and it changes this entry alone
    pub change_recounts : (change : Change) (m' : Memory) → m' (place.Count h.slot) ≡ holds_word h (count_in (left_by change live.entry) h) → ((q : Place) → q ≢ place.Count h.slot → m' q ≡ m q)
        → Recounts m m' p f i h.slot text h (next p.now.texts (change_of change h)) (left_by change live.entry) (holds_after i (Some (change_of change h)) f.holds)
    change_recounts change m' word there = record {
      live = live;
      puts = change_puts p.now.texts text live.entry h live.is live.own table.tidy.differ change;
      own = λ g is. left_own change live.entry g h live.own is;
      few = λ g is. left_few change live.entry g live.least live.most is;
      word = word;
      there = there;
      others = λ k differ j. others_hold change h i f.holds k differ j;
    }
