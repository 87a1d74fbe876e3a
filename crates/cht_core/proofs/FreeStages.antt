-- The stages that free the slots that waited, one after the other.
use Rattle.std.proofs.Common.{◌≡◌, ℕ, ◌+◌, ◌<◌, inl, inr, refl, sym, ap, subst, ◌∙◌, arith, Bool, true, false, List, [], ◌∷◌, length, drop, Option, Some, None}
use Rattle.std.specs.Prelude.{◌==◌, if◌then◌else◌}
use Rattle.std.proofs.lemmas.List.{drop_more}
use Rattle.chain_core.specs.Nodes.{On}
use Rattle.table_shape.specs.declared.place.Place.TheVariants as place
use Rattle.intern_log.specs.declared.event.Handle.{Handle}
use Rattle.intern_log.specs.declared.event.What.TheVariants as what
use Rattle.intern_log.specs.Now.{Vacant}
use Rattle.atomic_step.specs.declared.step.Step.TheVariants as step
use Rattle.atomic_step.specs.Count.{generation_of}
use Rattle.atomic_step.specs.Event.{event_of}
use Rattle.call_machine.specs.declared.pass.Cleaning.{Cleaning}
use Rattle.call_machine.specs.declared.pass.FreeStage.{FreeStage}
use Rattle.call_machine.specs.declared.pass.FreeStage.TheVariants.{PutNextGeneration, FreeSlot}
use Rattle.call_machine.specs.declared.pass.Waiting.{Waiting}
use Rattle.call_machine.specs.Pass.{free_row, waiting_at, all_freed}
use Rattle.call_machine.specs.SoundPass.{IsSoundFree}
use Rattle.cht_core.specs.declared.table.Table.{Table}
use Rattle.cht_core.specs.Backs.{Backs}
use Rattle.cht_core.specs.Flow.{Flow}
use Rattle.cht_core.specs.KnowsWork.{IsWaiting, slots_in, KnowsOver, KnowsFree, IsRenewed}
use Rattle.cht_core.specs.Memory.{Memory, IsMade, found}
use Rattle.cht_core.specs.Past.{Past, by, past_after, told}
use Rattle.cht_core.specs.Slots.{Slots}
use Rattle.cht_core.proofs.Basics.{with_other}
use Rattle.cht_core.proofs.Counts.{generation_in_word}
use Rattle.cht_core.proofs.Waits.{waiting_stays}

-- from the number of a slot that waits on, it and those after it wait
pub waiting_from : (c : Cleaning) (at : ℕ) → at < length c.waiting.items → drop at c.waiting.items ≡ waiting_at c at ∷ drop (at + 1) c.waiting.items
waiting_from c at below = drop_more c.waiting.items at (record { slot = 0; generation = 0 }) below

-- the next one that is freed waits
pub first_over : (m : Memory) (p : Past) (i : ℕ) (x : Waiting) (rest : List Waiting) → KnowsOver m p i (x ∷ rest) → KnowsOver m p i rest × ¬ (On x.slot (slots_in rest))
first_over m p i x rest over = ((over.0, over.1, over.2, over.3.1, over.4.1), over.4.0)

-- what the steps need
pub free_backs : (t : Table) (m : Memory) (p : Past) (f : Flow) (i : ℕ) (text : List ℕ) (c : Cleaning) (s : FreeStage) → IsSoundFree c s → KnowsFree m p i c.waiting.items s
    → Backs t m p f i text (free_row c s).step
free_backs t m p f i text c (PutNextGeneration at) sound known =
    let over : KnowsOver m p i (waiting_at c at ∷ drop (at + 1) c.waiting.items) = subst (KnowsOver m p i) (waiting_from c at sound) known in
    let one : IsWaiting m p i over.0 (waiting_at c at) = over.3.0 in
    ((one.0, one.1), one.3, one.4)
free_backs t m p f i text c (FreeSlot at) sound known =
    let (x, rest, is, over, apart, renewed) = known in
    let same : waiting_at c at ∷ drop (at + 1) c.waiting.items ≡ x ∷ rest = sym (waiting_from c at sound) ∙ is in
    let here : x ≡ waiting_at c at = cc in
    let new : IsRenewed m p i (waiting_at c at) = subst (IsRenewed m p i) here renewed in
    let generation : generation_of (m (place.Count (waiting_at c at).slot)) ≡ (waiting_at c at).generation + 1 =
    ap generation_of new.3 ∙ generation_in_word (record { slot = (waiting_at c at).slot; generation = (waiting_at c at).generation + 1 }) 0 (omega arith) in
    inr (new.0, new.1, new.2, λ h made slot. subst (λ g. h.generation < g) (sym generation) (new.4 h made slot))

-- the slot of the first one gets its next generation, which no handle has yet
pub renew_knows : (t : Table) (m m' : Memory) (p : Past) (i : ℕ) (x : Waiting) (rest : List Waiting) → Slots t m p → IsMade (step.PutNextGeneration x.slot x.generation) m m'
    → KnowsOver m p i (x ∷ rest) → KnowsOver m' p i rest × ¬ (On x.slot (slots_in rest)) × IsRenewed m' p i x
renew_knows t m m' p i x rest slots made over =
    let (rests, apart) = first_over m p i x rest over in
    let one : IsWaiting m p i over.0 x = over.3.0 in
    let old : Handle = record { slot = x.slot; generation = x.generation } in
    let generation : generation_of (m (place.Count x.slot)) ≡ x.generation = ap generation_of one.3 ∙ generation_in_word old 0 (omega arith) in (
      (
        rests.0,
        rests.1,
        rests.2,
        waiting_stays m p m' p i rests.0 rest (λ s on. record {
          phase = refl;
          count = made.there (place.Count s) (λ (same : place.Count s ≡ place.Count x.slot). let is : s ≡ x.slot = cc in apart (subst (λ k. On k (slots_in rest)) is on));
          uses = omega arith;
        }) rests.3,
        rests.4,
      ),
      apart,
      (
        one.0,
        one.1,
        (λ k o is. let before : one.0 < over.0 = one.2 in let after : over.0 < o.place = over.2 k o is in omega (arith, before, after)),
        made.here,
        λ h is slot. elim (slots.made h is) [
          | inl less ↦ (let at : generation_of (m (place.Count h.slot)) ≡ x.generation = ap (λ s. generation_of (m (place.Count s))) slot ∙ generation in omega (arith, less, at))
          | inr same ↦ (let at : generation_of (m (place.Count h.slot)) ≡ x.generation = ap (λ s. generation_of (m (place.Count s))) slot ∙ generation in
              let is : h.generation ≡ generation_of (m (place.Count h.slot)) = same.0 in omega (arith, is, at))
        ],
      ),
    )

-- the past after the Free of a seat
abbrev pub after_free : Past → ℕ → ℕ → Past
after_free p i slot = past_after p (by i (what.Free slot))

-- the slot is freed: the rest waits on
pub free_knows : (m m' : Memory) (p : Past) (i slot : ℕ) (rest : List Waiting) → IsMade (step.FreeSlot slot) m m' → ¬ (On slot (slots_in rest)) → KnowsOver m p i rest
    → KnowsOver m' (after_free p i slot) i rest
free_knows m m' p i slot rest made apart over = (
  over.0,
  (let before : over.0 < p.now.place = over.1 in omega (arith, before)),
  over.2,
  waiting_stays m p m' (after_free p i slot) i over.0 rest (λ s on. record {
    phase = with_other p.now.slot slot Vacant s (λ same. apart (subst (λ k. On k (slots_in rest)) same on));
    count = made.there (place.Count s) (λ e. cc);
    uses = omega arith;
  }) over.3,
  over.4,
)

-- what is known after a step: of the next stage, or that nothing waits; the bucket is the same
abbrev pub KnowsFreed : Memory → Past → ℕ → Cleaning → Option FreeStage → Type 0
KnowsFreed m p i c (Some s) = KnowsFree m p i c.waiting.items s
KnowsFreed m p i c None = c.waiting.items ≡ []

-- what comes of a slot that was freed, by whether it was the last one
abbrev by_last : Cleaning → ℕ → Bool → Cleaning × Option FreeStage
by_last c at last = if last then (all_freed c, None) else (c, Some (PutNextGeneration (at + 1)))

-- after a step
pub free_next : (t : Table) (m m' : Memory) (p : Past) (i : ℕ) (text : List ℕ) (c : Cleaning) (s : FreeStage) → Slots t m p → IsSoundFree c s → IsMade (free_row c s).step m m'
    → KnowsFree m p i c.waiting.items s
    → let word = found (free_row c s).step m in let came = (free_row c s).next word in
    (came.0.row ≡ c.row) × KnowsFreed m' (told p i (event_of text (free_row c s).step word)) i came.0 came.1
free_next t m m' p i text c (PutNextGeneration at) slots sound made known =
    let over : KnowsOver m p i (waiting_at c at ∷ drop (at + 1) c.waiting.items) = subst (KnowsOver m p i) (waiting_from c at sound) known in
    let (rests, apart, renewed) = renew_knows t m m' p i (waiting_at c at) (drop (at + 1) c.waiting.items) slots made over in
    (refl, (waiting_at c at, drop (at + 1) c.waiting.items, waiting_from c at sound, rests, apart, renewed))
free_next t m m' p i text c (FreeSlot at) slots sound made known =
    let (x, rest, is, over, apart, renewed) = known in
    let same : waiting_at c at ∷ drop (at + 1) c.waiting.items ≡ x ∷ rest = sym (waiting_from c at sound) ∙ is in
    let here : x.slot ≡ (waiting_at c at).slot = cc in
    let others : rest ≡ drop (at + 1) c.waiting.items = cc in
    let later : KnowsOver m' (after_free p i (waiting_at c at).slot) i rest = free_knows m m' p i (waiting_at c at).slot rest made (subst (λ k. On k (slots_in rest) → ⊥) here apart) over in
    by_end (at + 1 == length c.waiting.items) refl (subst (KnowsOver m' (after_free p i (waiting_at c at).slot) i) others later)
  where
    by_end : (last : Bool) → (at + 1 == length c.waiting.items) ≡ last → KnowsOver m' (after_free p i (waiting_at c at).slot) i (drop (at + 1) c.waiting.items)
        → ((by_last c at last).0.row ≡ c.row) × KnowsFreed m' (after_free p i (waiting_at c at).slot) i (by_last c at last).0 (by_last c at last).1
    by_end true end over = (refl, refl)
    by_end false end over = (refl, over)
