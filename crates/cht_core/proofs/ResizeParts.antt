-- What the steps of a resize leave of what its seat knows: the resize lock and its stage, and the heads that it has locked.
use Rattle.std.proofs.Common.{◌≡◌, ◌≢◌, ℕ, ◌^◌, ◌<◌, ◌≤◌, ◌⊎◌, false, Option, Some, None, refl, sym, ap, subst, ◌∙◌, inl, inr, arith}
use Rattle.std.specs.Option.{option_map}
use Rattle.chain_core.specs.Path.{IsPath}
use Rattle.marked_word.specs.Head.{is_locked}
use Rattle.table_shape.specs.declared.place.Place.TheVariants as place
use Rattle.intern_log.specs.Now.{Now, owner_of, with_lock, resizing_after_lock}
use Rattle.intern_log.specs.Now as now
use Rattle.intern_log.proofs.Slots.{same_owner}
use Rattle.atomic_step.specs.declared.step.Step.{Step}
use Rattle.atomic_step.specs.Step.{access_of}
use Rattle.cht_core.specs.declared.table.Table.{Table}
use Rattle.cht_core.specs.Flow.{Flow, IsUsed}
use Rattle.cht_core.specs.Heads.{used_head}
use Rattle.cht_core.specs.KnowsResize.{Resizing, HasLocked}
use Rattle.cht_core.specs.Memory.{Memory, IsMade, links}
use Rattle.cht_core.specs.Past.{Past}
use Rattle.cht_core.specs.Stage.{Stage, IsLeft, IsOpen, next_row}
use Rattle.cht_core.specs.TableState.{IsTable}
use Rattle.cht_core.proofs.Buckets.{bucket_cases, head_of_bucket, lock_here, lock_elsewhere}
use Rattle.cht_core.proofs.HeadWords.{one_first, no_lock}
use Rattle.cht_core.proofs.ResizeBacks.{used_at}

-- callers come to the head at the level and the stage
abbrev pub IsUsedAt : ℕ → Stage → ℕ → ℕ → Type 0
IsUsedAt level stage row bucket = ((row ≡ level) × IsLeft stage bucket × (bucket < 2 ^ row)) ⊎ ((row ≡ next_row stage level) × IsOpen stage level bucket)

pub used_of : (n : Now) (f : Flow) (level row bucket : ℕ) (stage : Stage) → n.level ≡ level → f.stage ≡ stage → IsUsedAt level stage row bucket → IsUsed n f row bucket
used_of n f level row bucket stage levels stages used =
    subst (λ (l : ℕ). ((row ≡ l) × IsLeft f.stage bucket × (bucket < 2 ^ row)) ⊎ ((row ≡ next_row f.stage l) × IsOpen f.stage l bucket)) (sym levels)
    (subst (λ (st : Stage). ((row ≡ level) × IsLeft st bucket × (bucket < 2 ^ row)) ⊎ ((row ≡ next_row st level) × IsOpen st level bucket)) (sym stages) used)

-- the heads that nobody has locked, by level and stage
pub free_at : (n : Now) (f : Flow) (i level row bucket : ℕ) (stage : Stage) (except : ℕ → ℕ → Type 0) → Resizing n f i level stage except → ¬ (IsUsedAt level stage row bucket) → ¬ (except row bucket)
    → (row ≡ level → 2 ^ level ≤ bucket) → n.lock row bucket ≡ None
free_at n f i level row bucket stage except h unused out up =
    h.free row bucket (λ used. unused (used_at n f level row bucket stage h.at_level h.at_stage used)) out (λ e. subst (λ (l : ℕ). 2 ^ l ≤ bucket) (sym h.at_level) (up (e ∙ h.at_level)))

pub resizing_at : (n : Now) (f : Flow) (i level : ℕ) (stage : Stage) (except : ℕ → ℕ → Type 0) → owner_of n.resizing ≡ Some i → n.level ≡ level → f.stage ≡ stage
    → ((row bucket : ℕ) → ¬ (IsUsedAt level stage row bucket) → ¬ (except row bucket) → (row ≡ level → 2 ^ level ≤ bucket) → n.lock row bucket ≡ None) → Resizing n f i level stage except
resizing_at n f i level stage except owner levels stages free = record {
  owner = owner;
  at_level = levels;
  at_stage = stages;
  free = λ row bucket unused out up. free row bucket (λ used. unused (used_of n f level row bucket stage levels stages used)) out
      (λ e. subst (λ (l : ℕ). 2 ^ l ≤ bucket) levels (up (e ∙ sym levels)));
}

-- the seat still resizes at the level, where the stage goes on: the heads to which callers come are so still or excepted, the excepted ones are so still or
-- callers come to them, and of the others none is locked by the step
pub resizing_on : (n n' : Now) (f f' : Flow) (i level : ℕ) (stage stage' : Stage) (except except' : ℕ → ℕ → Type 0) → Resizing n f i level stage except
    → owner_of n'.resizing ≡ owner_of n.resizing → n'.level ≡ n.level → f'.stage ≡ stage'
    → ((row bucket : ℕ) → row ≡ next_row stage level → IsOpen stage level bucket → ((row ≡ next_row stage' level) × IsOpen stage' level bucket) ⊎ except' row bucket)
    → ((row bucket : ℕ) → except row bucket → ((row ≡ next_row stage' level) × IsOpen stage' level bucket) ⊎ except' row bucket)
    → ((row bucket : ℕ) → ¬ (IsUsedAt level stage' row bucket) → ¬ (except' row bucket) → n.lock row bucket ≡ None → n'.lock row bucket ≡ None)
    → Resizing n' f' i level stage' except'
resizing_on n n' f f' i level stage stage' except except' h owner same stages opens excepts locks =
    resizing_at n' f' i level stage' except' (owner ∙ h.owner) (same ∙ h.at_level) stages (λ row bucket unused out up.
    locks row bucket unused out (free_at n f i level row bucket stage except h
    (λ used. elim used [
      | inl a ↦ (let below : bucket < 2 ^ row = a.2 in let above : 2 ^ level ≤ bucket = up a.0 in let below' : bucket < 2 ^ level = subst (λ (r : ℕ). bucket < 2 ^ r) a.0 below in omega (arith, below', above))
      | inr a ↦ elim (opens row bucket a.0 a.1) [ inl b ↦ unused (inr b) | inr b ↦ out b ]
    ])
    (λ was. elim (excepts row bucket was) [ inl b ↦ unused (inr b) | inr b ↦ out b ]) up))

-- a lock and an unlock of a head leave who has the resize lock
pub lock_owner : (i row : ℕ) (resizing : Option now.Resizing) → owner_of (option_map (resizing_after_lock i row) resizing) ≡ owner_of resizing
lock_owner i row resizing = same_owner (λ owner. owner ≡ owner_of resizing) i row resizing refl

-- what is free is so after a lock of another head, and after an unlock
pub free_after_lock : (lock : ℕ → ℕ → Option ℕ) (r b row bucket : ℕ) (owner : Option ℕ) → (row ≡ r → bucket ≡ b → ⊥) → lock row bucket ≡ None → with_lock lock r b owner row bucket ≡ None
free_after_lock lock r b row bucket owner differ free = lock_elsewhere lock r b owner row bucket differ ∙ free

pub free_after_unlock : (lock : ℕ → ℕ → Option ℕ) (r b row bucket : ℕ) → lock row bucket ≡ None → with_lock lock r b None row bucket ≡ None
free_after_unlock lock r b row bucket free = elim (bucket_cases r b row bucket) [
  | inl same ↦ lock_here lock r b None row bucket same.0 same.1
  | inr differ ↦ lock_elsewhere lock r b None row bucket differ ∙ free
]

-- a head that is locked is so after a step on another place that leaves its lock
pub locked_apart : (m m' : Memory) (n n' : Now) (i row bucket : ℕ) (first : Option ℕ) (s : Step) → IsMade s m m' → place.Head row bucket ≢ (access_of s).place → n'.lock row bucket ≡ n.lock row bucket
    → HasLocked m n i row bucket first → HasLocked m' n' i row bucket first
locked_apart m m' n n' i row bucket first s made differ lock h = (lock ∙ h.0, made.there (place.Head row bucket) differ ∙ h.1)

-- two heads of different rows, or of different buckets
pub other_rows : (r b row bucket : ℕ) → row ≢ r → place.Head row bucket ≢ place.Head r b
other_rows r b row bucket differ same = differ (head_of_bucket r b row bucket same).0

pub other_buckets : (r b row bucket : ℕ) → bucket ≢ b → place.Head row bucket ≢ place.Head r b
other_buckets r b row bucket differ same = differ (head_of_bucket r b row bucket same).1

-- the chain of a head that is used and locked begins with its first node
pub locked_chain : (t : Table) (m : Memory) (p : Past) (f : Flow) (i row bucket : ℕ) (first : Option ℕ) → IsTable t m p f → IsUsed p.now f row bucket → HasLocked m p.now i row bucket first
    → IsPath (links m) first (f.chain row bucket)
locked_chain t m p f i row bucket first table used h =
    let along = table.heads.paths row bucket used in
    let word : used_head along.0 (Some i) ≡ used_head first (Some i) = sym (along.1 ∙ ap (used_head along.0) h.0) ∙ h.1 in
    subst (λ (start : Option ℕ). IsPath (links m) start (f.chain row bucket)) (one_first along.0 first (Some i) word) along.2

-- a head that is used and not locked is the word of its first node
pub open_word : (t : Table) (m : Memory) (p : Past) (f : Flow) (row bucket head : ℕ) → IsTable t m p f → IsUsed p.now f row bucket → m (place.Head row bucket) ≡ head → is_locked head ≡ false
    → (first : Option ℕ) × (head ≡ used_head first None)
open_word t m p f row bucket head table used word open_head =
    let along = table.heads.paths row bucket used in
    let lock : p.now.lock row bucket ≡ None = no_lock along.0 (p.now.lock row bucket) (ap is_locked (sym along.1 ∙ word) ∙ open_head) in
    (along.0, sym word ∙ along.1 ∙ ap (used_head along.0) lock)
