-- Which words, slots and seats a step without a change of heads, chains and entries leaves as they are.
use Rattle.std.proofs.Common.{◌≡◌, ◌≢◌, ℕ, ◌+◌, ◌-◌, ◌^◌, ◌<◌, ◌≤◌, ◌⊎◌, Option, Some, None, refl, sym, ap, subst, ◌∙◌, inl, inr, arith}
use Rattle.std.specs.Prelude.{◌*◌}
use Rattle.std.specs.Option.{option_map}
use Rattle.std.proofs.lemmas.Bool.{cases_eq}
use Rattle.table_shape.specs.declared.place.Place.{Place}
use Rattle.table_shape.specs.declared.place.Place.TheVariants as place
use Rattle.marked_word.specs.Number.{owner_word, section_word}
use Rattle.intern_log.specs.declared.event.What.{What}
use Rattle.intern_log.specs.Now.{Now, Phase, OpenSection, Vacant, Claimed, Linked, Unlinked, owner_of, with_at}
use Rattle.atomic_step.specs.declared.step.Step.{Step}
use Rattle.atomic_step.specs.Access.{word_after}
use Rattle.atomic_step.specs.Count.{generation_of, holds_of}
use Rattle.atomic_step.specs.SoundStep.{IsSoundStep}
use Rattle.atomic_step.specs.Step.{access_of}
use Rattle.cht_core.specs.declared.table.Table.{Table}
use Rattle.cht_core.specs.Backs.{LeadsOn, IsOfTry}
use Rattle.cht_core.specs.Flow.{Flow}
use Rattle.cht_core.specs.Heads.{Sections}
use Rattle.cht_core.specs.Memory.{Memory, IsMade, found}
use Rattle.cht_core.specs.Past.{Past, MayTell, kind_of}
use Rattle.cht_core.specs.Slots.{Slots, IsPast, claim_word}
use Rattle.cht_core.specs.TableState.{IsTable}
use Rattle.cht_core.specs.Tidy.{IsTidy}
use Rattle.cht_core.proofs.Basics.{with_here, with_other}
use Rattle.cht_core.proofs.CalmParts.{Calm, SameWords, SameSlots, SameSeats, SameWorks, calm_now, calm_past, calm_slots, calm_goes_on, same_resize}
use Rattle.cht_core.proofs.WordsKept.{words_kept}

-- a word that only seat i reads, or that is no head, no level and no word of a node
abbrev pub IsPrivate : Now → ℕ → Place → Type 0
IsPrivate n i place.Level = ⊥
IsPrivate n i place.NewLevel = ⊥
IsPrivate n i (place.Head row bucket) = ⊥
IsPrivate n i (place.Link s) = n.slot s ≡ Claimed i
IsPrivate n i (place.Meta s) = n.slot s ≡ Claimed i
IsPrivate n i (place.Text s at) = n.slot s ≡ Claimed i
IsPrivate n i (place.Count s) = (n.slot s ≡ Claimed i) ⊎ ((at : ℕ) × (n.slot s ≡ Unlinked i at))
IsPrivate n i _ = Unit {0}

-- a step on such a word leaves the words of the others
pub private_words : (i : ℕ) (m m' : Memory) (n : Now) (s : Step) → IsMade s m m' → IsPrivate n i (access_of s).place → m place.Counter ≤ m' place.Counter → SameWords i m m' n
private_words i m m' n s made own counter = record {
  counter = counter;
  level = elsewhere place.Level (λ z. z);
  new_level = elsewhere place.NewLevel (λ z. z);
  heads = λ row bucket. elsewhere (place.Head row bucket) (λ z. z);
  link = λ x differs. elsewhere (place.Link x) differs;
  meta = λ x differs. elsewhere (place.Meta x) differs;
  text = λ x at differs. elsewhere (place.Text x at) differs;
  count = λ x free unlinked. elsewhere (place.Count x) (λ z. elim z [ inl is ↦ free is | inr is ↦ unlinked is.0 is.1 ]);
}
  where
    elsewhere : (x : Place) → (IsPrivate n i x → ⊥) → m' x ≡ m x
    elsewhere x not = made.there x (λ is. not (subst (IsPrivate n i) (sym is) own))

-- where the slots are the same
pub same_slots : (i : ℕ) (n n' : Now) → n'.slot ≡ n.slot → SameSlots i n n'
same_slots i n n' same = record {
  linked = λ s text h at is. here s ∙ is;
  linked_back = λ s text h at is. sym (here s) ∙ is;
  held = λ s seat at k o is inside less. here s ∙ is;
  claimed = λ k s differs is. here s ∙ is;
  claimed_back = λ k s differs is. sym (here s) ∙ is;
  unlinked = λ k s at differs is. here s ∙ is;
  unlinked_back = λ k s at differs is. sym (here s) ∙ is;
}
  where
    here : (s : ℕ) → n'.slot s ≡ n.slot s
    here s = ap (λ (g : ℕ → Phase). g s) same

-- where the sections and the resize lock are the same
pub same_seats : (i : ℕ) (m : Memory) (n n' : Now) → n'.section ≡ n.section → n'.resizing ≡ n.resizing → SameSeats i m n n'
same_seats i m n n' sections resizing = record {
  section = λ k differs. ap (λ (g : ℕ → Option OpenSection). g k) sections;
  opened = λ k o is. inl (sym (ap (λ (g : ℕ → Option OpenSection). g k) sections) ∙ is);
  owner = λ k differs is. ap owner_of resizing ∙ is;
  owner_back = λ k differs is. sym (ap owner_of resizing) ∙ is;
}

-- what a seat has of its works, where the slots and the resize lock are the same
pub same_works : (i : ℕ) (m m' : Memory) (n n' : Now) → n'.slot ≡ n.slot → n'.resizing ≡ n.resizing → ((s at : ℕ) → n.slot s ≡ Unlinked i at → m' (place.Count s) ≡ m (place.Count s))
    → SameWorks i m m' n n'
same_works i m m' n n' slots resizing counts = record {
  unlinked = λ s at is. ap (λ (g : ℕ → Phase). g s) slots ∙ is;
  unlinked_back = λ s at is. sym (ap (λ (g : ℕ → Phase). g s) slots) ∙ is;
  counts = counts;
  owner = λ is. ap owner_of resizing ∙ is;
  owner_back = λ is. sym (ap owner_of resizing) ∙ is;
}

-- a step without an event
pub still_calm : (i : ℕ) (m m' : Memory) (p : Past) → SameWords i m m' p.now → Calm i m m' p p
still_calm i m m' p words = record {
  later = omega arith;
  made = λ h. refl;
  uses = λ s. refl;
  words = words;
  slots = same_slots i p.now p.now refl;
  seats = same_seats i m p.now p.now refl refl;
}

-- a slot that is changed, and another phase than the one that it had or has
module _ (slot : ℕ → Phase) (s : ℕ) (new : Phase) where
  -- one that it had not: who has it keeps it
  pub stays_elsewhere : (x : ℕ) (phase : Phase) → slot s ≢ phase → slot x ≡ phase → with_at slot s new x ≡ phase
  stays_elsewhere x phase differs is = with_other slot s new x (λ same. differs (ap slot (sym same) ∙ is)) ∙ is

  -- one that it has not: who has it had it
  pub was_elsewhere : (x : ℕ) (phase : Phase) → new ≢ phase → with_at slot s new x ≡ phase → slot x ≡ phase
  was_elsewhere x phase differs is = elim (cases_eq x s) [
    | inl same ↦ absurd (differs (sym (with_here slot s new x same) ∙ is))
    | inr other ↦ sym (with_other slot s new x other) ∙ is
  ]

-- the slot is free, or is the seat's own
abbrev pub IsOwnPhase : ℕ → Phase → Type 0
IsOwnPhase i Vacant = Unit {0}
IsOwnPhase i (Claimed k) = k ≡ i
IsOwnPhase i (Linked text h born) = ⊥
IsOwnPhase i (Unlinked k at) = k ≡ i

-- a slot of the seat's own that no reader may hold becomes another one of its own
pub own_slots : (i s : ℕ) (new : Phase) (n n' : Now) → n'.slot ≡ with_at n.slot s new → IsOwnPhase i (n.slot s) → IsOwnPhase i new
    → ((seat at k : ℕ) (o : OpenSection) → n.slot s ≡ Unlinked seat at → n.section k ≡ Some o → o.place < at → ⊥) → SameSlots i n n'
own_slots i s new n n' is was will free = record {
  linked = λ x text h at e. here x ∙ stays_elsewhere n.slot s new x (Linked text h at) (not_old (Linked text h at) (λ z. z)) e;
  linked_back = λ x text h at e. was_elsewhere n.slot s new x (Linked text h at) (not_new (Linked text h at) (λ z. z)) (sym (here x) ∙ e);
  held = λ x seat at k o e inside less. here x ∙ stays_elsewhere n.slot s new x (Unlinked seat at) (λ old. free seat at k o old inside less) e;
  claimed = λ k x differs e. here x ∙ stays_elsewhere n.slot s new x (Claimed k) (not_old (Claimed k) differs) e;
  claimed_back = λ k x differs e. was_elsewhere n.slot s new x (Claimed k) (not_new (Claimed k) differs) (sym (here x) ∙ e);
  unlinked = λ k x at differs e. here x ∙ stays_elsewhere n.slot s new x (Unlinked k at) (not_old (Unlinked k at) differs) e;
  unlinked_back = λ k x at differs e. was_elsewhere n.slot s new x (Unlinked k at) (not_new (Unlinked k at) differs) (sym (here x) ∙ e);
}
  where
    here : (x : ℕ) → n'.slot x ≡ with_at n.slot s new x
    here x = ap (λ (g : ℕ → Phase). g x) is

    not_old : (phase : Phase) → (IsOwnPhase i phase → ⊥) → n.slot s ≢ phase
    not_old phase not old = not (subst (IsOwnPhase i) old was)

    not_new : (phase : Phase) → (IsOwnPhase i phase → ⊥) → new ≢ phase
    not_new phase not old = not (subst (IsOwnPhase i) old will)

-- the words of sections stay where none is opened or closed
pub same_sections : (t : Table) (m m' : Memory) (n n' : Now) → n'.section ≡ n.section → n'.graces ≡ n.graces → m' place.Counter ≡ m place.Counter
    → ((k : ℕ) → m' (place.Section k) ≡ m (place.Section k)) → Sections t m n → Sections t m' n'
same_sections t m m' n n' sections graces counter words h = record {
  counter = counter ∙ h.counter ∙ ap (λ g. t.first_counter + 2 * g) (sym graces);
  words = λ k. words k ∙ h.words k ∙ ap (λ (g : ℕ → Option OpenSection). section_word (option_map (λ (o : OpenSection). o.counter) (g k))) (sym sections);
  seats = λ k o is. h.seats k o (sym (ap (λ (g : ℕ → Option OpenSection). g k) sections) ∙ is);
}

-- the slots stay where no claim word and no count word is changed
pub calm_same_slots : (i : ℕ) (m m' : Memory) (p q : Past) (c : Calm i m m' p q) (t : Table) → Slots t m p → q.now.slot ≡ p.now.slot → ((s : ℕ) → m' (place.Claim s) ≡ m (place.Claim s))
    → ((s : ℕ) → m' (place.Count s) ≡ m (place.Count s)) → Slots t m' (calm_past p q)
calm_same_slots i m m' p q c t h slots claims counts = calm_slots i m m' p q c t h
    (λ s. claims s ∙ h.claims s ∙ sym (ap (λ (g : ℕ → Phase). claim_word (g s)) slots))
    (λ s seat at is. ap holds_of (counts s) ∙ h.gone s seat at (sym (ap (λ (g : ℕ → Phase). g s) slots) ∙ is))
    (λ k is. subst (λ (g : ℕ → Phase). IsPast (generation_of (m' (place.Count k.slot))) k (g k.slot)) (sym slots)
    (subst (λ (word : ℕ). IsPast (generation_of word) k (p.now.slot k.slot)) (sym (counts k.slot)) (h.made k is)))
    (λ s. subst (λ (word : ℕ). generation_of word ≤ p.uses s) (sym (counts s)) (h.uses s))

-- a word that is no counter, no resize lock and no section
abbrev pub IsOfSlots : Place → Type 0
IsOfSlots place.Counter = ⊥
IsOfSlots place.ResizeLock = ⊥
IsOfSlots (place.Section number) = ⊥
IsOfSlots _ = Unit {0}

module _ (t : Table) (m m' : Memory) (p : Past) (f : Flow) (i : ℕ) (s : Step) (table : IsTable t m p f) (inside : i < t.shape.seats) (sound : IsSoundStep t.shape i s) (made : IsMade s m m')
    (own : IsPrivate p.now i (access_of s).place) (slots : IsOfSlots (access_of s).place) where
  untouched : (x : Place) → (IsOfSlots x → ⊥) → m' x ≡ m x
  untouched x not = made.there x (λ is. not (subst IsOfSlots (sym is) slots))

  -- a step on a word of the seat's own leaves the words of the others
  pub slot_words : SameWords i m m' p.now
  slot_words = private_words i m m' p.now s made own (let same : m' place.Counter ≡ m place.Counter = untouched place.Counter (λ z. z) in omega (arith, same))

  -- and leads on, with the parts of its own
  pub slot_goes_on : (q : Past) (e : Option What) → MayTell (kind_of t) p i e → IsTidy t (calm_now p.now q.now) → word_after (access_of s).deed (found s m) < 2 ^ 64
      → q.now.section ≡ p.now.section → q.now.resizing ≡ p.now.resizing → q.now.graces ≡ p.now.graces → Calm i m m' p q → Slots t m' (calm_past p q)
      → (IsOfTry p.now i s → SameWorks i m m' p.now q.now) → LeadsOn t m p f i s e m' (calm_past p q) f
  slot_goes_on q e told tidy small sections resizing graces calm slots works =
      let same : m' place.Counter ≡ m place.Counter = untouched place.Counter (λ z. z) in
      calm_goes_on i m m' p q calm t f s e table told tidy
      (words_kept t m m' i s table.words inside sound made small (subst (λ (word : ℕ). word ≤ 2 ^ 64 - 4) (sym same) table.words.counter))
      slots
      (same_sections t m m' p.now (calm_now p.now q.now) sections graces same (λ k. untouched (place.Section k) (λ z. z)) table.sections)
      (untouched place.ResizeLock (λ z. z) ∙ table.heads.owner ∙ ap (λ r. owner_word (owner_of r)) (sym resizing))
      (same_resize t m p f q.now table resizing)
      works

  -- without an event
  pub slot_still_goes : Slots t m' p → word_after (access_of s).deed (found s m) < 2 ^ 64 → (IsOfTry p.now i s → (x at : ℕ) → p.now.slot x ≡ Unlinked i at → m' (place.Count x) ≡ m (place.Count x))
      → LeadsOn t m p f i s None m' p f
  slot_still_goes kept small counts =
      slot_goes_on p None tt table.tidy small refl refl refl (still_calm i m m' p slot_words) kept (λ try. same_works i m m' p.now p.now refl refl (counts try))
