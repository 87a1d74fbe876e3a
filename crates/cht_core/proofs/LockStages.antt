-- What a seat knows after it locks a head or opens it again, and what its steps on a bucket leave of the rest.
use Rattle.std.proofs.Common.{◌≡◌, ℕ, Bool, true, false, cond, List, Option, Some, None, refl, sym, ap, subst, ◌∙◌, arith}
use Rattle.std.specs.Prelude.{◌==◌}
use Rattle.std.proofs.lemmas.Bool.{eqb-true}
use Rattle.marked_word.specs.Head.{is_locked, first_of, locked}
use Rattle.table_shape.specs.declared.place.Place.TheVariants as place
use Rattle.intern_log.specs.declared.event.What.TheVariants as what
use Rattle.intern_log.specs.Now.{Now, owner_of}
use Rattle.intern_log.proofs.Slots.{same_owner}
use Rattle.atomic_step.specs.declared.step.Step.TheVariants as step
use Rattle.atomic_step.specs.Event.{event_of}
use Rattle.atomic_step.specs.SoundStep.{IsSoundStep}
use Rattle.atomic_step.specs.Step.{locked_head}
use Rattle.call_machine.specs.declared.lock.LockStage.{LockStage}
use Rattle.call_machine.specs.declared.lock.LockStage.TheVariants as lock
use Rattle.call_machine.specs.declared.lock.Locking.{Locking}
use Rattle.call_machine.specs.declared.lock.Locking.TheVariants as locking
use Rattle.call_machine.specs.declared.pass.Cleaning.{Cleaning}
use Rattle.call_machine.specs.declared.pass.PassStage.{PassStage}
use Rattle.call_machine.specs.declared.pass.PassStage.TheVariants as pass
use Rattle.call_machine.specs.declared.pass.Waiting.{Waiting}
use Rattle.call_machine.specs.Lock.{lock_row}
use Rattle.call_machine.specs.Pass.{pass_row}
use Rattle.cht_core.specs.declared.table.Table.{Table}
use Rattle.cht_core.specs.Backs.{Backs}
use Rattle.cht_core.specs.Flow.{Flow, IsUsed, flow_after, holds_after}
use Rattle.cht_core.specs.KnowsWork.{KnowsWaiting, Locked}
use Rattle.cht_core.specs.Memory.{Memory, IsMade, found}
use Rattle.cht_core.specs.Past.{Past, told}
use Rattle.cht_core.specs.TableState.{IsTable}
use Rattle.cht_core.proofs.Basics.{after_load}
use Rattle.cht_core.proofs.Buckets.{lock_here}
use Rattle.cht_core.proofs.HeadWords.{first_of_head, lock_set}
use Rattle.cht_core.proofs.Locking.{unlocked_path}
use Rattle.cht_core.proofs.PassWaits.{waits_on}

-- what came of a step that locks: the head may be locked, or it is
abbrev pub KnowsLocking : Memory → Now → Flow → ℕ → ℕ → ℕ → Locking → Type 0
KnowsLocking m n f i row bucket (locking.Locked first) = Locked m n f i row bucket first
KnowsLocking m n f i row bucket _ = Unit {0}

exchanged : (t : Table) (m m' : Memory) (p : Past) (f : Flow) (i row bucket head : ℕ) → IsTable t m p f → is_locked head ≡ false → (m (place.Head row bucket) ≡ head → IsUsed p.now f row bucket) →
    IsMade (step.LockHead row bucket head) m m' → (b : Bool) → (m (place.Head row bucket) == head) ≡ b →
    KnowsLocking m' (told p i (cond b (Some (what.Lock row bucket)) None)).now (record f { holds = holds_after i (cond b (Some (what.Lock row bucket)) None) f.holds }) i row bucket
    (cond b (locking.Locked (first_of (m (place.Head row bucket)))) locking.Waits)
exchanged t m m' p f i row bucket head table open_head may made false other = tt
exchanged t m m' p f i row bucket head table open_head may made true met =
    let word : m (place.Head row bucket) ≡ head = eqb-true (m (place.Head row bucket)) head met in
    let used : IsUsed p.now f row bucket = may word in
    let was = unlocked_path t m p f row bucket head table used word open_head in
    let first : first_of (m (place.Head row bucket)) ≡ was.first = ap first_of (word ∙ was.word) ∙ first_of_head was.first None in
    record {
      used = used;
      unpinned = λ pinned. let owned = table.heads.pinned row bucket pinned in let clash : None ≡ Some owned.0 = sym was.lock ∙ owned.2 in cc;
      lock = lock_here p.now.lock row bucket (Some i) row bucket refl refl;
      head = made.here ∙ ap (λ b. cond b (locked head) (m (place.Head row bucket))) met ∙ ap locked was.word ∙ lock_set was.first i ∙ ap locked_head (sym first);
    }

-- a head that was locked by the exchange leads to the first node that was found
pub lock_next : (t : Table) (m m' : Memory) (p : Past) (f : Flow) (i : ℕ) (text : List ℕ) (row bucket : ℕ) (stage : LockStage) → IsTable t m p f →
    IsSoundStep t.shape i (lock_row row bucket stage).step → Backs t m p f i text (lock_row row bucket stage).step → IsMade (lock_row row bucket stage).step m m' →
    KnowsLocking m' (told p i (event_of text (lock_row row bucket stage).step (found (lock_row row bucket stage).step m))).now
    (flow_after p.now f i text (lock_row row bucket stage).step (found (lock_row row bucket stage).step m)) i row bucket ((lock_row row bucket stage).next (found (lock_row row bucket stage).step m))
lock_next t m m' p f i text row bucket lock.LoadHead table sound used made = loaded (is_locked (m (place.Head row bucket)))
  where
    loaded : (b : Bool) → KnowsLocking m' p.now f i row bucket (cond b locking.Waits (locking.Goes (lock.LockHead (m (place.Head row bucket)))))
    loaded true = tt
    loaded false = tt
lock_next t m m' p f i text row bucket (lock.LockHead head) table sound used made =
    exchanged t m m' p f i row bucket head table used.0 used.1 made (m (place.Head row bucket) == head) refl

-- the sections, the owner of the resize lock and the level are what they were
pub record IsSameBeside (p p' : Past) : Type 0 where
  pub section : p'.now.section ≡ p.now.section
  pub owner : owner_of p'.now.resizing ≡ owner_of p.now.resizing
  pub level : p'.now.level ≡ p.now.level

same_beside : (p : Past) → IsSameBeside p p
same_beside p = record { section = refl; owner = refl; level = refl }

-- so it is after each step that locks a head
pub lock_beside : (p : Past) (i : ℕ) (text : List ℕ) (row bucket : ℕ) (stage : LockStage) (word : ℕ) → IsSameBeside p (told p i (event_of text (lock_row row bucket stage).step word))
lock_beside p i text row bucket lock.LoadHead word = same_beside p
lock_beside p i text row bucket (lock.LockHead head) word = exchange (word == head)
  where
    exchange : (b : Bool) → IsSameBeside p (told p i (cond b (Some (what.Lock row bucket)) None))
    exchange true = record { section = refl; owner = same_owner (λ owner. owner ≡ owner_of p.now.resizing) i row p.now.resizing refl; level = refl }
    exchange false = same_beside p

-- after one that opens it
pub unlock_beside : (p : Past) (i row bucket : ℕ) → IsSameBeside p (told p i (Some (what.Unlock row bucket)))
unlock_beside p i row bucket = record { section = refl; owner = refl; level = refl }

-- and after each that cleans its bucket
pub pass_beside : (p : Past) (i : ℕ) (text : List ℕ) (c : Cleaning) (stage : PassStage) (word : ℕ) → IsSameBeside p (told p i (event_of text (pass_row c stage).step word))
pass_beside p i text c (pass.LoadCount s) word = same_beside p
pass_beside p i text c (pass.LoadLink s None) word = same_beside p
pass_beside p i text c (pass.LoadLink s (Some g)) word = same_beside p
pass_beside p i text c (pass.Unlink s g next) word = record { section = refl; owner = refl; level = refl }

-- the slots that wait go on waiting as a head is opened
pub unlock_waits : (m m' : Memory) (p : Past) (i row bucket : ℕ) (first : Option ℕ) (xs : List Waiting) → IsMade (step.UnlockHead row bucket first) m m' → KnowsWaiting m p i xs →
    KnowsWaiting m' (told p i (Some (what.Unlock row bucket))) i xs
unlock_waits m m' p i row bucket first xs made waiting = waits_on m p m' (told p i (Some (what.Unlock row bucket))) i xs (omega arith)
    (λ s at is. record { phase = refl; count = made.there (place.Count s) (λ same. cc); uses = omega arith }) waiting

-- and while one is locked
pub lock_waits : (m m' : Memory) (p : Past) (i : ℕ) (text : List ℕ) (row bucket : ℕ) (stage : LockStage) (word : ℕ) (xs : List Waiting) → IsMade (lock_row row bucket stage).step m m' →
    KnowsWaiting m p i xs → KnowsWaiting m' (told p i (event_of text (lock_row row bucket stage).step word)) i xs
lock_waits m m' p i text row bucket lock.LoadHead word xs made waiting =
    subst (λ (now : Memory). KnowsWaiting now p i xs) (sym (after_load (step.LoadHead row bucket) m m' refl made)) waiting
lock_waits m m' p i text row bucket (lock.LockHead head) word xs made waiting = exchange (word == head)
  where
    counts : (s : ℕ) → m' (place.Count s) ≡ m (place.Count s)
    counts s = made.there (place.Count s) (λ same. cc)

    exchange : (b : Bool) → KnowsWaiting m' (told p i (cond b (Some (what.Lock row bucket)) None)) i xs
    exchange true = waits_on m p m' (told p i (Some (what.Lock row bucket))) i xs (omega arith) (λ s at is. record { phase = refl; count = counts s; uses = omega arith }) waiting
    exchange false = waits_on m p m' p i xs (omega arith) (λ s at is. record { phase = refl; count = counts s; uses = omega arith }) waiting
