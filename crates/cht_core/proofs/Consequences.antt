-- What follows of the invariant: live texts have their own handles and slots, slots are freed after their graces, and who has each taken slot is known.
use Rattle.std.proofs.Common.{◌≡◌, ℕ, ◌≤◌, ◌⊎◌, List, Option, Some, None, refl, sym, ap, ◌∙◌, inl, inr, arith}
use Rattle.std.specs.Option.{option_map}
use Rattle.table_shape.specs.declared.place.Place.TheVariants as place
use Rattle.intern_log.specs.declared.event.Entry.{Entry}
use Rattle.intern_log.specs.declared.event.Event.{Event}
use Rattle.intern_log.specs.declared.event.Handle.{Handle}
use Rattle.intern_log.specs.declared.event.What.TheVariants as what
use Rattle.intern_log.specs.Lawful.{MayFree}
use Rattle.intern_log.specs.Log.{HandlesDiffer}
use Rattle.intern_log.specs.Now.{Phase, Vacant, Claimed, Linked, Unlinked}
use Rattle.intern_log.specs.Sections.{IsGraced}
use Rattle.intern_log.specs.Short.{IsShort}
use Rattle.intern_log.specs.TextMap.{entry_of}
use Rattle.intern_log.proofs.Graced.{lawful_is_graced}
use Rattle.atomic_step.specs.Count.{holds_of, holds_word}
use Rattle.cht_core.specs.declared.table.Table.{Table}
use Rattle.cht_core.specs.Flow.{Flow}
use Rattle.cht_core.specs.Invariant.{Inv}
use Rattle.cht_core.specs.Memory.{Memory}
use Rattle.cht_core.specs.Owes.{IsAllOf}
use Rattle.cht_core.specs.Parts.{LiveSlotsDiffer, HasLiveEntry, TextsHaveOneEntry, IsFreedSafely, IsOfCall, IsToBeFreed, IsUsedUp, TakenSlotsAreKnown}
use Rattle.cht_core.specs.Past.{Past, past_of, kind_of, MayTell}
use Rattle.cht_core.specs.Search.{IsLinked}
use Rattle.cht_core.specs.Slots.{claim_word, count_in}
use Rattle.cht_core.specs.TableState.{IsTable}
use Rattle.cht_core.specs.View.{View}
use Rattle.cht_core.proofs.Counts.{handle_cases, count_elsewhere}

linked_text : (phase : Phase) (text other : List ℕ) (h k : Handle) (a b : ℕ) → phase ≡ Linked text h a → phase ≡ Linked other k b → text ≡ other
linked_text phase text other h k a b one two = cc

-- a count word that has a hold is that of a handle that is counted
is_counted : (word : ℕ) (h : Handle) (count : ℕ) → word ≡ holds_word h count → 1 ≤ holds_of word → count ≡ 0 → ⊥
is_counted word h count is holds none = omega (arith, is, holds, none)

module _ (t : Table) (m : Memory) (p : Past) (f : Flow) (table : IsTable t m p f) where
  slots_differ : LiveSlotsDiffer p.now
  slots_differ text other e d one two same =
      let first = table.tidy.entries text e one in
      let second = table.tidy.entries other d two in
      linked_text (p.now.slot e.handle.slot) text other e.handle d.handle first.0 second.0 first.1 (ap p.now.slot same ∙ second.1)

  -- a slot with a live entry is that of the entry of its text
  live_entry : (text : List ℕ) (s : ℕ) → HasLiveEntry m p.now text s → (e : Entry) × (entry_of p.now.texts text ≡ Some e) × (e.handle.slot ≡ s)
  live_entry text s live = go (entry_of p.now.texts text) refl
    where
      counted : count_in (entry_of p.now.texts text) live.0 ≡ 0 → ⊥
      counted = is_counted (m (place.Count s)) live.0 (count_in (entry_of p.now.texts text) live.0) (table.slots.counts s text live.0 live.1 live.2) live.3

      go : (o : Option Entry) → entry_of p.now.texts text ≡ o → (e : Entry) × (entry_of p.now.texts text ≡ Some e) × (e.handle.slot ≡ s)
      go None is = absurd (counted (ap (λ o. count_in o live.0) is))
      go (Some e) is = elim (handle_cases e.handle live.0) [
        | inl same ↦ (e, is, ap (λ (h : Handle). h.slot) same ∙ (table.tidy.linked s text live.0 live.1 live.2).0)
        | inr other ↦ absurd (counted (ap (λ o. count_in o live.0) is ∙ count_elsewhere e live.0 other))
      ]

  one_entry : TextsHaveOneEntry m p.now
  one_entry text s r first second =
      let one = live_entry text s first in
      let two = live_entry text r second in
      let same : one.0 ≡ two.0 = some_entry one.0 two.0 (sym one.1 ∙ two.1) in
      sym one.2 ∙ ap (λ (e : Entry). e.handle.slot) same ∙ two.2
    where
      some_entry : (e d : Entry) → Some e ≡ Some d → e ≡ d
      some_entry e d is = cc

-- a seat that may free a slot frees it safely
pub frees_are_safe : (t : Table) (p : Past) (i s : ℕ) → MayTell (kind_of t) p i (Some (what.Free s)) → IsFreedSafely p.now i s
frees_are_safe t p i s may = go (p.now.slot s) refl may
  where
    go : (phase : Phase) → p.now.slot s ≡ phase → MayFree p.now i phase → IsFreedSafely p.now i s
    go Vacant is may = absurd may
    go (Claimed k) is may = inl (is ∙ ap Claimed may)
    go (Linked text h born) is may = absurd may
    go (Unlinked k at) is may = inr (at, is ∙ ap (λ owner. Unlinked owner at) may.0, may.1)

module _ (t : Table) (m : Memory) (seat : ℕ → Option View) (log : List Event) (inv : Inv t m seat log) where
  abbrev past : Past
  past = past_of t.shape.min_level log

  -- two live texts never have one handle
  pub live_handles_differ : HandlesDiffer past.now.texts
  live_handles_differ = inv.table.tidy.differ

  -- nor one slot
  pub live_slots_differ : LiveSlotsDiffer past.now
  live_slots_differ = slots_differ t m past inv.flow inv.table

  -- a text has at most one live entry
  pub texts_have_one_entry : TextsHaveOneEntry m past.now
  texts_have_one_entry = one_entry t m past inv.flow inv.table

  -- a short log frees slots after their graces
  pub short_logs_are_graced : IsShort log → IsGraced log
  short_logs_are_graced short = lawful_is_graced (kind_of t) log (inv.lawful short)

  -- who has a slot that is taken is known
  pub taken_slots_known : TakenSlotsAreKnown m past.now seat log
  taken_slots_known s taken = go (past.now.slot s) refl
    where
      of_claimer : (k : ℕ) → past.now.slot s ≡ Claimed k → (o : Option View) → seat k ≡ o → IsAllOf past k (option_map (λ (v : View). v.seat) o) → IsOfCall past.now seat s
      of_claimer k is None none owes = absurd (owes.claimed s is)
      of_claimer k is (Some v) here owes = (k, v, here, is, owes.claimed s is)

      of_unlinker : (k at : ℕ) → past.now.slot s ≡ Unlinked k at → (o : Option View) → seat k ≡ o → IsAllOf past k (option_map (λ (v : View). v.seat) o)
          → IsToBeFreed past.now seat s ⊎ IsUsedUp log s
      of_unlinker k at is None none owes = inr (owes.unlinked s at is)
      of_unlinker k at is (Some v) here owes = elim (owes.unlinked s at is) [
        | inl waits ↦ inl (k, at, v, here, is, waits)
        | inr many ↦ inr many
      ]

      go : (phase : Phase) → past.now.slot s ≡ phase → IsLinked past.now s ⊎ (IsOfCall past.now seat s ⊎ (IsToBeFreed past.now seat s ⊎ IsUsedUp log s))
      go Vacant is = absurd (let word : m (place.Claim s) ≡ 0 = inv.table.slots.claims s ∙ ap claim_word is in omega (arith, word, taken))
      go (Claimed k) is = inr (inl (of_claimer k is (seat k) refl (inv.owes k)))
      go (Linked text h born) is = inl (text, h, born, is)
      go (Unlinked k at) is = inr (inr (of_unlinker k at is (seat k) refl (inv.owes k)))
