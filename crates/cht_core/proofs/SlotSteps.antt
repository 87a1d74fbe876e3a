-- Claiming and freeing a slot, and the stores into one of the seat's own, keep the table.
use Rattle.std.proofs.Common.{cond, ◌≡◌, ◌≢◌, ℕ, ◌+◌, ◌*◌, ◌^◌, ◌<◌, ◌≤◌, true, Option, Some, None, refl, sym, ap, subst, ◌∙◌, inl, inr, arith}
use Rattle.std.proofs.Math.Bool.{or-false}
use Rattle.std.proofs.lemmas.Bool.{cases_eq, eq-eqb, ne_eqb}
use Rattle.table_shape.specs.declared.place.Place.TheVariants as place
use Rattle.marked_word.specs.declared.meta.Meta.{Meta}
use Rattle.marked_word.specs.Link.{link_word}
use Rattle.intern_log.specs.declared.event.Handle.{Handle}
use Rattle.intern_log.specs.declared.event.What.TheVariants as what
use Rattle.intern_log.specs.Now.{Phase, OpenSection, Vacant, Claimed, Linked, Unlinked, with_at}
use Rattle.atomic_step.specs.declared.step.Step.TheVariants as step
use Rattle.atomic_step.specs.Count.{generation_of, holds_of, holds_word}
use Rattle.atomic_step.specs.SoundStep.{IsSoundStep}
use Rattle.cht_core.specs.declared.table.Table.{Table}
use Rattle.cht_core.specs.Backs.{KeepsTable, LeadsOn, MayFreeSlot}
use Rattle.cht_core.specs.Flow.{Flow}
use Rattle.cht_core.specs.Memory.{Memory, IsMade}
use Rattle.cht_core.specs.Past.{Past, told}
use Rattle.cht_core.specs.Slots.{Slots, IsPast, IsLastOf, claim_word}
use Rattle.cht_core.specs.TableState.{IsTable}
use Rattle.intern_log.specs.Lawful.{MayFree}
use Rattle.cht_core.proofs.Basics.{with_here, with_other, after_same}
use Rattle.cht_core.proofs.Loads.{event_goes, idle_goes}
use Rattle.cht_core.proofs.CalmParts.{Calm, calm_past, calm_slots}
use Rattle.cht_core.proofs.CalmWords.{slot_words, slot_goes_on, slot_still_goes, still_calm, calm_same_slots, own_slots, same_seats, stays_elsewhere, was_elsewhere, IsOwnPhase}
use Rattle.cht_core.proofs.TidyKept.{tidy_told}
use Rattle.cht_core.proofs.WordsKept.{word_kept, slots_few}

-- a store of a meta word keeps the table
pub put_meta_keeps : (slot : ℕ) (meta : Meta) → KeepsTable (step.PutMeta slot meta)
put_meta_keeps slot meta t m m' p f i text table inside sound backs made =
    let calm = still_calm i m m' p (slot_words t m m' p f i (step.PutMeta slot meta) table inside sound made backs tt) in
    let hash : meta.hash < 2 ^ 32 = sound.2.0 in
    let length : meta.length < 65536 = sound.2.1 in
    slot_still_goes t m m' p f i (step.PutMeta slot meta) table inside sound made backs tt
    (calm_same_slots i m m' p p calm t table.slots refl (λ s. made.there (place.Claim s) (λ e. cc)) (λ s. made.there (place.Count s) (λ e. cc)))
    (omega (arith, hash, length)) (λ try s at is. made.there (place.Count s) (λ e. cc))

-- a store of a text word keeps the table
pub put_text_keeps : (slot at word : ℕ) → KeepsTable (step.PutText slot at word)
put_text_keeps slot at word t m m' p f i text table inside sound backs made =
    let calm = still_calm i m m' p (slot_words t m m' p f i (step.PutText slot at word) table inside sound made backs.0 tt) in
    slot_still_goes t m m' p f i (step.PutText slot at word) table inside sound made backs.0 tt
    (calm_same_slots i m m' p p calm t table.slots refl (λ s. made.there (place.Claim s) (λ e. cc)) (λ s. made.there (place.Count s) (λ e. cc)))
    backs.1 (λ try s at is. made.there (place.Count s) (λ e. cc))

-- a store of a link keeps the table
pub put_link_keeps : (slot : ℕ) (next : Option ℕ) → KeepsTable (step.PutLink slot next)
put_link_keeps slot next t m m' p f i text table inside sound backs made =
    let few = slots_few t.shape table.shape in
    let link : link_word next ≤ t.shape.slots = word_kept t.shape i (step.PutLink slot next) (m (place.Link slot)) inside sound (table.words.sound (place.Link slot)) in
    let calm = still_calm i m m' p (slot_words t m m' p f i (step.PutLink slot next) table inside sound made backs tt) in
    slot_still_goes t m m' p f i (step.PutLink slot next) table inside sound made backs tt
    (calm_same_slots i m m' p p calm t table.slots refl (λ s. made.there (place.Claim s) (λ e. cc)) (λ s. made.there (place.Count s) (λ e. cc)))
    (omega (arith, few, link))
    (λ try s at is. made.there (place.Count s) (λ e. cc))

-- a handle of a generation that has passed stays one as the generation rises
past_raised : (g g' : ℕ) (h : Handle) (phase : Phase) → g ≤ g' → IsPast g h phase → IsPast g' h phase
past_raised g g' h phase up past = elim past [
  | inl less ↦ inl (omega (arith, up, less))
  | inr last ↦ elim (cases_eq g g') [
    | inl same ↦ inr (last.0 ∙ same, last.1)
    | inr differ ↦ let is : h.generation ≡ g = last.0 in inl (omega (arith, up, differ, is))
  ]
]

-- the generation of a count word
generation_in : (generation holds : ℕ) → holds < 65536 → generation_of (generation * 65536 + holds) ≡ generation
generation_in generation holds few = omega (arith, few)

-- a store of a count of the seat's own leaves the slots as they should be
count_slots : (i : ℕ) (m m' : Memory) (p : Past) (c : Calm i m m' p p) (t : Table) (s : ℕ) → Slots t m p → ((x : ℕ) → m' (place.Claim x) ≡ m (place.Claim x))
    → ((x : ℕ) → x ≢ s → m' (place.Count x) ≡ m (place.Count x)) → generation_of (m (place.Count s)) ≤ generation_of (m' (place.Count s)) → generation_of (m' (place.Count s)) ≤ p.uses s
    → ((seat at : ℕ) → p.now.slot s ≡ Unlinked seat at → holds_of (m' (place.Count s)) ≡ 0) → Slots t m' p
count_slots i m m' p c t s h claims counts up most gone = calm_slots i m m' p p c t h
    (λ x. claims x ∙ h.claims x)
    (λ x seat at is. elim (cases_eq x s) [
      | inl same ↦ subst (λ y. holds_of (m' (place.Count y)) ≡ 0) (sym same) (gone seat at (ap p.now.slot (sym same) ∙ is))
      | inr differ ↦ ap holds_of (counts x differ) ∙ h.gone x seat at is
    ])
    (λ k is. past_raised (generation_of (m (place.Count k.slot))) (generation_of (m' (place.Count k.slot))) k (p.now.slot k.slot) (rises k.slot) (h.made k is))
    (λ x. elim (cases_eq x s) [
      | inl same ↦ subst (λ y. generation_of (m' (place.Count y)) ≤ p.uses y) (sym same) most
      | inr differ ↦ subst (λ (word : ℕ). generation_of word ≤ p.uses x) (sym (counts x differ)) (h.uses x)
    ])
  where
    rises : (x : ℕ) → generation_of (m (place.Count x)) ≤ generation_of (m' (place.Count x))
    rises x = elim (cases_eq x s) [
      | inl same ↦ subst (λ y. generation_of (m (place.Count y)) ≤ generation_of (m' (place.Count y))) (sym same) up
      | inr differ ↦ let word : m' (place.Count x) ≡ m (place.Count x) = counts x differ in let stays = ap generation_of word in omega (arith, stays)
    ]

-- a store of the count of a claimed slot keeps the table
pub put_count_keeps : (h : Handle) (holds : ℕ) → KeepsTable (step.PutCount h holds)
put_count_keeps h holds t m m' p f i text table inside sound backs made =
    let claimed : p.now.slot h.slot ≡ Claimed i = backs.0.0 in
    let was : generation_of (m (place.Count h.slot)) ≡ h.generation = backs.0.1 in
    let few : holds ≤ 1 = backs.1 in
    let small : h.generation < 2 ^ 48 = sound.1 in
    let word : m' (place.Count h.slot) ≡ holds_word h holds = made.here in
    let is : generation_of (m' (place.Count h.slot)) ≡ h.generation = ap generation_of word ∙ generation_in h.generation holds (omega (arith, few)) in
    let most : generation_of (m (place.Count h.slot)) ≤ p.uses h.slot = table.slots.uses h.slot in
    let calm = still_calm i m m' p (slot_words t m m' p f i (step.PutCount h holds) table inside sound made (inl claimed) tt) in
    slot_still_goes t m m' p f i (step.PutCount h holds) table inside sound made (inl claimed) tt
    (count_slots i m m' p calm t h.slot table.slots (λ x. made.there (place.Claim x) (λ e. cc)) (λ x differ. made.there (place.Count x) (λ e. differ (cc)))
    (omega (arith, was, is)) (omega (arith, was, is, most)) (λ seat at unlinked. let clash : Claimed i ≡ Unlinked seat at = sym claimed ∙ unlinked in absurd (cc)))
    (omega (arith, few, small))
    (λ try x at unlinked. made.there (place.Count x) (λ e. let same : x ≡ h.slot = cc in let clash : Claimed i ≡ Unlinked i at = sym claimed ∙ ap p.now.slot (sym same) ∙ unlinked in cc))

-- a store of the next generation of an unlinked slot keeps the table
pub put_next_generation_keeps : (slot generation : ℕ) → KeepsTable (step.PutNextGeneration slot generation)
put_next_generation_keeps slot generation t m m' p f i text table inside sound backs made =
    let found : m (place.Count slot) ≡ holds_word (record { slot = slot; generation = generation }) 0 = backs.1 in
    let was : generation_of (m (place.Count slot)) ≡ generation = ap generation_of found ∙ generation_in generation 0 (omega arith) in
    let word : m' (place.Count slot) ≡ holds_word (record { slot = slot; generation = generation + 1 }) 0 = made.here in
    let is : generation_of (m' (place.Count slot)) ≡ generation + 1 = ap generation_of word ∙ generation_in (generation + 1) 0 (omega arith) in
    let small : generation + 1 < 2 ^ 48 = sound.1 in
    let used : generation + 1 ≤ p.uses slot = backs.2 in
    let calm = still_calm i m m' p (slot_words t m m' p f i (step.PutNextGeneration slot generation) table inside sound made (inr backs.0) tt) in
    slot_still_goes t m m' p f i (step.PutNextGeneration slot generation) table inside sound made (inr backs.0) tt
    (count_slots i m m' p calm t slot table.slots (λ x. made.there (place.Claim x) (λ e. cc)) (λ x differ. made.there (place.Count x) (λ e. differ (cc)))
    (omega (arith, was, is)) (omega (arith, is, used)) (λ seat at unlinked. ap holds_of word ∙ omega arith))
    (omega (arith, small))
    (λ try. absurd try)

-- a slot of the seat's own, which no reader may hold, becomes free or claimed
module _ (t : Table) (m m' : Memory) (p q : Past) (i slot : ℕ) (new : Phase) where
  -- the words of the slots are as they should be, where the handles of the slot are of generations that have passed
  phase_slots : Calm i m m' p q → Slots t m p → q.now.slot ≡ with_at p.now.slot slot new → m' (place.Claim slot) ≡ claim_word new → ((x : ℕ) → x ≢ slot → m' (place.Claim x) ≡ m (place.Claim x))
      → ((x : ℕ) → m' (place.Count x) ≡ m (place.Count x)) → ((seat at : ℕ) → new ≢ Unlinked seat at)
      → ((k : Handle) → p.made k ≡ true → k.slot ≡ slot → k.generation < generation_of (m (place.Count slot))) → Slots t m' (calm_past p q)
  phase_slots c h is here there counts fresh past = calm_slots i m m' p q c t h
      (λ x. elim (cases_eq x slot) [
        | inl same ↦ subst (λ y. m' (place.Claim y) ≡ claim_word (q.now.slot y)) (sym same) (here ∙ ap claim_word (sym (at slot ∙ with_here p.now.slot slot new slot refl)))
        | inr differ ↦ there x differ ∙ h.claims x ∙ ap claim_word (sym (at x ∙ with_other p.now.slot slot new x differ))
      ])
      (λ x seat when unlinked. ap holds_of (counts x) ∙ h.gone x seat when (was_elsewhere p.now.slot slot new x (Unlinked seat when) (fresh seat when) (sym (at x) ∙ unlinked)))
      (λ k made. subst (λ (word : ℕ). IsPast (generation_of word) k (q.now.slot k.slot)) (sym (counts k.slot)) (elim (cases_eq k.slot slot) [
        | inl same ↦ inl (subst (λ x. k.generation < generation_of (m (place.Count x))) (sym same) (past k made same))
        | inr differ ↦ subst (λ phase. IsPast (generation_of (m (place.Count k.slot))) k phase) (sym (at k.slot ∙ with_other p.now.slot slot new k.slot differ)) (h.made k made)
      ]))
      (λ x. subst (λ (word : ℕ). generation_of word ≤ p.uses x) (sym (counts x)) (h.uses x))
    where
      at : (x : ℕ) → q.now.slot x ≡ with_at p.now.slot slot new x
      at x = ap (λ (g : ℕ → Phase). g x) is

-- a claim word of 0 is that of a free slot, and any other is 1
claim_free : (phase : Phase) → claim_word phase ≡ 0 → phase ≡ Vacant
claim_free Vacant is = refl
claim_free (Claimed k) is = absurd (omega (arith, is))
claim_free (Linked text h born) is = absurd (omega (arith, is))
claim_free (Unlinked k at) is = absurd (omega (arith, is))

claim_taken : (phase : Phase) → claim_word phase ≢ 0 → claim_word phase ≡ 1
claim_taken Vacant not = absurd (not refl)
claim_taken (Claimed k) not = refl
claim_taken (Linked text h born) not = refl
claim_taken (Unlinked k at) not = refl

-- a handle of a slot that is free or claimed is of a generation that has passed
past_unlinked : (generation : ℕ) (h : Handle) (phase : Phase) → (IsLastOf h phase → ⊥) → IsPast generation h phase → h.generation < generation
past_unlinked generation h phase not past = elim past [ inl less ↦ less | inr last ↦ absurd (not last.1) ]

-- a claim of a free slot leads on
claims : (t : Table) (m m' : Memory) (p : Past) (f : Flow) (i : ℕ) (slot : ℕ) → IsTable t m p f → i < t.shape.seats → IsSoundStep t.shape i (step.ClaimSlot slot) → m (place.Claim slot) ≡ 0
    → IsMade (step.ClaimSlot slot) m m' → LeadsOn t m p f i (step.ClaimSlot slot) (Some (what.Claim slot)) m' (told p i (Some (what.Claim slot))) f
claims t m m' p f i slot table inside sound zero made =
    let q : Past = told p i (Some (what.Claim slot)) in
    let vacant : p.now.slot slot ≡ Vacant = claim_free (p.now.slot slot) (sym (table.slots.claims slot) ∙ zero) in
    let counts : (x : ℕ) → m' (place.Count x) ≡ m (place.Count x) = λ x. made.there (place.Count x) (λ e. cc) in
    let not_unlinked : (seat at : ℕ) → p.now.slot slot ≢ Unlinked seat at = λ seat at is. let clash : Vacant ≡ Unlinked seat at = sym vacant ∙ is in absurd (cc) in
    let calm : Calm i m m' p q = record {
      later = omega arith;
      made = λ h. or-false (p.made h);
      uses = λ x. omega arith;
      words = slot_words t m m' p f i (step.ClaimSlot slot) table inside sound made tt tt;
      slots = own_slots i slot (Claimed i) p.now q.now refl (subst (IsOwnPhase i) (sym vacant) tt) refl (λ seat at k o is within less. not_unlinked seat at is);
      seats = same_seats i m p.now q.now refl refl;
    } in
    slot_goes_on t m m' p f i (step.ClaimSlot slot) table inside sound made tt tt q (Some (what.Claim slot)) vacant
    (tidy_told t p i (Some (what.Claim slot)) table.tidy vacant) (omega arith) refl refl refl calm
    (phase_slots t m m' p q i slot (Claimed i) calm table.slots refl made.here (λ x differ. made.there (place.Claim x) (λ e. differ (cc))) counts (λ seat at is. absurd (cc))
    (λ k is same. past_unlinked (generation_of (m (place.Count slot))) k (p.now.slot slot) (subst (λ phase. IsLastOf k phase → ⊥) (sym vacant) (λ z. z))
    (subst (λ x. IsPast (generation_of (m (place.Count x))) k (p.now.slot x)) same (table.slots.made k is))))
    (λ try. record {
      unlinked = λ x at is. stays_elsewhere p.now.slot slot (Claimed i) x (Unlinked i at) (not_unlinked i at) is;
      unlinked_back = λ x at is. was_elsewhere p.now.slot slot (Claimed i) x (Unlinked i at) (λ e. absurd (cc)) is;
      counts = λ x at is. counts x;
      owner = λ is. is;
      owner_back = λ is. is;
    })

-- a claim of a slot keeps the table, whether it was free or taken
pub claim_slot_keeps : (slot : ℕ) → KeepsTable (step.ClaimSlot slot)
claim_slot_keeps slot t m m' p f i text table inside sound backs made = elim (cases_eq (m (place.Claim slot)) 0) [
  | inl zero ↦ event_goes t m m' p f i text (step.ClaimSlot slot) (Some (what.Claim slot)) (ap (λ b. cond b (Some (what.Claim slot)) None) (eq-eqb (m (place.Claim slot)) 0 zero))
      (claims t m m' p f i slot table inside sound zero made)
  | inr taken ↦
      let one : m (place.Claim slot) ≡ 1 = table.slots.claims slot ∙ claim_taken (p.now.slot slot) (λ zero. taken (table.slots.claims slot ∙ zero)) in
      idle_goes t m m' p f i text (step.ClaimSlot slot) (after_same (step.ClaimSlot slot) m m' (sym one) made)
      (ap (λ b. cond b (Some (what.Claim slot)) None) (ne_eqb (m (place.Claim slot)) 0 taken)) refl table
]

-- a slot that may be freed is the seat's own, no reader may hold it, and its handles are of generations that have passed
record IsFreeable (t : Table) (m : Memory) (p : Past) (i slot : ℕ) : Type 0 where
  pub may : MayFree p.now i (p.now.slot slot)
  pub own : IsOwnPhase i (p.now.slot slot)
  pub free : (seat at k : ℕ) (o : OpenSection) → p.now.slot slot ≡ Unlinked seat at → p.now.section k ≡ Some o → o.place < at → ⊥
  pub past : (h : Handle) → p.made h ≡ true → h.slot ≡ slot → h.generation < generation_of (m (place.Count slot))

freeable : (t : Table) (m : Memory) (p : Past) (i slot : ℕ) → Slots t m p → MayFreeSlot m p i slot → IsFreeable t m p i slot
freeable t m p i slot h free = elim free [
  | inl claimed ↦ record {
    may = subst (MayFree p.now i) (sym claimed) refl;
    own = subst (IsOwnPhase i) (sym claimed) refl;
    free = λ seat at k o is within less. let clash : Claimed i ≡ Unlinked seat at = sym claimed ∙ is in absurd (cc);
    past = λ k made is. past_unlinked (generation_of (m (place.Count slot))) k (p.now.slot slot) (subst (λ phase. IsLastOf k phase → ⊥) (sym claimed) (λ z. z))
        (subst (λ x. IsPast (generation_of (m (place.Count x))) k (p.now.slot x)) is (h.made k made));
  }
  | inr unlinked ↦ record {
    may = subst (MayFree p.now i) (sym unlinked.1) (refl, unlinked.2);
    own = subst (IsOwnPhase i) (sym unlinked.1) refl;
    free = λ seat at k o is within less.
        let phase : Unlinked i unlinked.0 ≡ Unlinked seat at = sym unlinked.1 ∙ is in
        let same : unlinked.0 ≡ at = cc in
        let later : unlinked.0 < o.place = unlinked.2 k o within in
        absurd (omega (arith, same, later, less));
    past = unlinked.3;
  }
]

-- freeing a slot keeps the table, whether it was claimed or unlinked
pub free_slot_keeps : (slot : ℕ) → KeepsTable (step.FreeSlot slot)
free_slot_keeps slot t m m' p f i text table inside sound backs made =
    let q : Past = told p i (Some (what.Free slot)) in
    let free : IsFreeable t m p i slot = freeable t m p i slot table.slots backs in
    let counts : (x : ℕ) → m' (place.Count x) ≡ m (place.Count x) = λ x. made.there (place.Count x) (λ e. cc) in
    let calm : Calm i m m' p q = record {
      later = omega arith;
      made = λ h. or-false (p.made h);
      uses = λ x. omega arith;
      words = slot_words t m m' p f i (step.FreeSlot slot) table inside sound made tt tt;
      slots = own_slots i slot Vacant p.now q.now refl free.own tt free.free;
      seats = same_seats i m p.now q.now refl refl;
    } in
    slot_goes_on t m m' p f i (step.FreeSlot slot) table inside sound made tt tt q (Some (what.Free slot)) free.may
    (tidy_told t p i (Some (what.Free slot)) table.tidy free.may) (omega arith) refl refl refl calm
    (phase_slots t m m' p q i slot Vacant calm table.slots refl made.here (λ x differ. made.there (place.Claim x) (λ e. differ (cc))) counts
    (λ seat at is. absurd (cc)) free.past)
    (λ try. record {
      unlinked = λ x at is. stays_elsewhere p.now.slot slot Vacant x (Unlinked i at) (λ e. let clash : Claimed i ≡ Unlinked i at = sym try ∙ e in absurd (cc)) is;
      unlinked_back = λ x at is. was_elsewhere p.now.slot slot Vacant x (Unlinked i at) (λ e. absurd (cc)) is;
      counts = λ x at is. counts x;
      owner = λ is. is;
      owner_back = λ is. is;
    })
