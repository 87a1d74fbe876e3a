-- Count words: their generations and holds, and how often a handle is counted by an entry.
use Rattle.std.proofs.Common.{◌≡◌, ◌≢◌, ℕ, ◌+◌, ◌-◌, ◌*◌, ◌^◌, ◌<◌, ◌≤◌, ◌⊎◌, ◌==◌, nat_le, min, Bool, true, false, cond, not, Option, Some, None, inl, inr, refl, sym, ap, ◌∙◌, arith}
use Rattle.std.proofs.lemmas.Bool.Decides.{nat_tests}
use Rattle.std.specs.Bool.{Decides}
use Rattle.std.proofs.lemmas.Bool.{eqb-true}
use Rattle.intern_log.specs.declared.event.Entry.{Entry}
use Rattle.intern_log.specs.declared.event.Handle.{Handle}
use Rattle.intern_log.specs.Log.{raised, lowered, made_permanent}
use Rattle.intern_log.specs.TextMap.{handle_eq}
use Rattle.intern_log.proofs.Handles.{handle_eq-Decides, both_hold}
use Rattle.atomic_step.specs.declared.count.Change.TheVariants.{Drop}
use Rattle.atomic_step.specs.Count.{generation_of, holds_of, holds_word, with_holds, handle_at, is_live, changed}
use Rattle.atomic_step.specs.Count.{raised as word_with_one_more}
use Rattle.cht_core.specs.Slots.{count_in}

-- the parts of the word of a handle and its holds
pub holds_in_word : (h : Handle) (count : ℕ) → count < 65536 → holds_of (holds_word h count) ≡ count
holds_in_word h count small = omega (arith, small)

pub generation_in_word : (h : Handle) (count : ℕ) → count < 65536 → generation_of (holds_word h count) ≡ h.generation
generation_in_word h count small = omega (arith, small)

-- such a word with another count
pub word_recounted : (h : Handle) (count other : ℕ) → count < 65536 → with_holds (holds_word h count) other ≡ holds_word h other
word_recounted h count other small = ap (λ generation. generation * 65536 + other) (generation_in_word h count small)

pub word_raised : (h : Handle) (count : ℕ) → count < 65536 → word_with_one_more (holds_word h count) ≡ holds_word h (min (count + 1) 65535)
word_raised h count small =
    word_recounted h count (min (holds_of (holds_word h count) + 1) 65535) small ∙ ap (λ holds. holds_word h (min (holds + 1) 65535)) (holds_in_word h count small)

pub word_lowered : (h : Handle) (count : ℕ) → count < 65536 → changed Drop (holds_word h count) ≡ holds_word h (count - 1)
word_lowered h count small = word_recounted h count (holds_of (holds_word h count) - 1) small ∙ ap (λ holds. holds_word h (holds - 1)) (holds_in_word h count small)

-- a word that is smaller than 2^64 has a generation that leaves room for any count
pub word_fits : (h : Handle) (count other : ℕ) → holds_word h count < 2 ^ 64 → other < 65536 → holds_word h other < 2 ^ 64
word_fits h count other small fits = omega (arith, small, fits)

-- a handle is the one at its slot with the generation of a word
pub handle_is : (h : Handle) (slot word : ℕ) → h.slot ≡ slot → generation_of word ≡ h.generation → h ≡ handle_at slot word
handle_is h slot word at generation = λ i. record { slot = at i; generation = sym generation i }

-- two handles are the same or not
pub handle_cases : (h k : Handle) → (h ≡ k) ⊎ (h ≢ k)
handle_cases h k = go (handle_eq h k) (handle_eq-Decides h k)
  where
    go : (b : Bool) → Decides b (h ≡ k) → (h ≡ k) ⊎ (h ≢ k)
    go true decided = inl (decided.0 refl)
    go false decided = inr (λ is. let never : false ≡ true = decided.1 is in cc)

-- the count of a handle in its own entry, in another's, and in none
pub count_here : (e : Entry) (h : Handle) → e.handle ≡ h → count_in (Some e) h ≡ e.count
count_here e h is = ap (λ b. cond b e.count 0) ((handle_eq-Decides e.handle h).1 is)

pub count_elsewhere : (e : Entry) (h : Handle) → e.handle ≢ h → count_in (Some e) h ≡ 0
count_elsewhere e h differ = go (handle_eq e.handle h) (handle_eq-Decides e.handle h)
  where
    go : (b : Bool) → Decides b (e.handle ≡ h) → cond b e.count 0 ≡ 0
    go true decided = absurd (differ (decided.0 refl))
    go false decided = refl

-- no count is more than 65,535 where no entry's is
pub count_small : (o : Option Entry) (h : Handle) → ((e : Entry) → o ≡ Some e → e.count ≤ 65535) → count_in o h < 65536
count_small None h most = omega arith
count_small (Some e) h most = go (handle_eq e.handle h)
  where
    go : (b : Bool) → cond b e.count 0 < 65536
    go true = let count : e.count ≤ 65535 = most e refl in omega (arith, count)
    go false = omega arith

-- a handle that is counted has the entry
pub counted_has : (o : Option Entry) (h : Handle) → 1 ≤ count_in o h → (e : Entry) × (o ≡ Some e) × (e.handle ≡ h)
counted_has None h some = absurd (omega (arith, some))
counted_has (Some e) h some = elim (handle_cases e.handle h) [
  | inl is ↦ (e, refl, is)
  | inr differ ↦ let none : count_in (Some e) h ≡ 0 = count_elsewhere e h differ in absurd (omega (arith, some, none))
]

-- a handle is counted in no entry of another handle
pub count_of_other : (o : Option Entry) (h k : Handle) → ((e : Entry) → o ≡ Some e → e.handle ≡ h) → h ≢ k → count_in o k ≡ 0
count_of_other None h k own differ = refl
count_of_other (Some e) h k own differ = count_elsewhere e k (λ is. differ (sym (own e refl) ∙ is))

-- a live word has the generation of the handle and a hold
pub live_word : (h : Handle) (word : ℕ) → is_live h word ≡ true → (generation_of word ≡ h.generation) × (1 ≤ holds_of word)
live_word h word live =
    let parts = both_hold (generation_of word == h.generation) (not (holds_of word == 0)) live in
    (eqb-true (generation_of word) h.generation parts.0, some (holds_of word) parts.1)
  where
    some : (holds : ℕ) → not (holds == 0) ≡ true → 1 ≤ holds
    some holds is = grind (arith, nat_tests)

-- the counts of what a Take, a Drop and a Perm leave
pub raised_count : (e : Entry) (h : Handle) → e.handle ≡ h → count_in (Some (raised e)) h ≡ min (e.count + 1) 65535
raised_count e h is = count_here (raised e) h is

-- a count of 65,535 stays, at 1 the entry is gone, and any other count is one less
pub lowered_cases : (e : Entry) → 1 ≤ e.count → e.count ≤ 65535 →
    ((e.count ≡ 65535) × (lowered e ≡ Some e)) ⊎ (((e.count ≡ 1) × (lowered e ≡ None)) ⊎ ((e.count < 65535) × (lowered e ≡ Some (record e { count = e.count - 1 }))))
lowered_cases e least most = go (e.count == 65535) refl (nat_le e.count 1) refl
  where
    go : (b : Bool) → (e.count == 65535) ≡ b → (c : Bool) → nat_le e.count 1 ≡ c →
        ((e.count ≡ 65535) × (cond b (Some e) (cond c None (Some (record e { count = e.count - 1 }))) ≡ Some e))
        ⊎ (((e.count ≡ 1) × (cond b (Some e) (cond c None (Some (record e { count = e.count - 1 }))) ≡ None))
        ⊎ ((e.count < 65535) × (cond b (Some e) (cond c None (Some (record e { count = e.count - 1 }))) ≡ Some (record e { count = e.count - 1 }))))
    go true full c last = inl (eqb-true e.count 65535 full, refl)
    go false full true last = inr (inl (let one : e.count ≤ 1 = grind (arith, nat_tests) in omega (arith, one, least), refl))
    go false full false last = inr (inr (grind (arith, nat_tests), refl))

pub lowered_count : (e : Entry) (h : Handle) → e.handle ≡ h → 1 ≤ e.count → e.count < 65535 → count_in (lowered e) h ≡ e.count - 1
lowered_count e h is least below = elim (lowered_cases e least (omega (arith, below))) [
  | inl full ↦ let most : e.count ≡ 65535 = full.0 in absurd (omega (arith, most, below))
  | inr fewer ↦ elim fewer [
    | inl last ↦ let one : e.count ≡ 1 = last.0 in let none : count_in (lowered e) h ≡ 0 = ap (λ o. count_in o h) last.1 in omega (arith, one, none)
    | inr less ↦ ap (λ o. count_in o h) less.1 ∙ count_here (record e { count = e.count - 1 }) h is
  ]
]

pub lowered_stays : (e : Entry) → e.count ≡ 65535 → lowered e ≡ Some e
lowered_stays e full = elim (lowered_cases e (omega (arith, full)) (omega (arith, full))) [
  | inl stays ↦ stays.1
  | inr fewer ↦ elim fewer [
    | inl last ↦ let one : e.count ≡ 1 = last.0 in absurd (omega (arith, one, full))
    | inr less ↦ let below : e.count < 65535 = less.0 in absurd (omega (arith, below, full))
  ]
]

pub permanent_count : (e : Entry) (h : Handle) → e.handle ≡ h → count_in (Some (made_permanent e)) h ≡ 65535
permanent_count e h is = count_here (made_permanent e) h is
