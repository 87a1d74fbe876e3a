-- What an event of a seat makes of what the seat has: the slot that it has claimed, the slots that it has unlinked, the bucket that it
-- has locked, and the resize lock.
use Rattle.std.proofs.Common.{◌≡◌, ◌≢◌, ℕ, ◌≤◌, ◌^◌, ◌⊎◌, ◌==◌, ◌&&◌, inl, inr, Bool, true, false, cond, List, [], ◌∷◌, ◌++◌, Option, Some, None, refl, sym, ap, subst, ◌∙◌, arith}
use Rattle.std.specs.Option.{option_to_list}
use Rattle.std.specs.Prelude.{nat_eq}
use Rattle.std.proofs.lemmas.Bool.{cases_eq, eq-eqb, eqb-true}
use Rattle.chain_core.specs.Nodes.{On}
use Rattle.chain_core.proofs.Members.{on_left, on_right}
use Rattle.intern_log.specs.declared.event.What.{What}
use Rattle.intern_log.specs.declared.event.What.TheVariants as what
use Rattle.intern_log.specs.Now.{Vacant, Claimed, Linked, Unlinked, owner_of, with_at}
use Rattle.intern_log.proofs.Slots.{same_owner}
use Rattle.atomic_step.specs.Monitor.{after_one, is_held, is_lock_of}
use Rattle.atomic_step.specs.Monitor as monitor
use Rattle.call_machine.specs.WorkMonitor as works
use Rattle.cht_core.specs.Past.{Past, told}
use Rattle.cht_core.proofs.Basics.{with_here, with_other}
use Rattle.cht_core.proofs.Buckets.{bucket_cases, lock_here, lock_elsewhere}

-- the seat has claimed at most this slot
abbrev pub ClaimedAtMost : Past → ℕ → Option ℕ → Type 0
ClaimedAtMost p i claimed = (slot : ℕ) → p.now.slot slot ≡ Claimed i → claimed ≡ Some slot

-- the slots that the seat has unlinked wait, but for those that were used 2^48 times
abbrev pub UnlinkedAtMost : Past → ℕ → List ℕ → Type 0
UnlinkedAtMost p i waiting = (slot at : ℕ) → p.now.slot slot ≡ Unlinked i at → On slot waiting ⊎ (2 ^ 48 ≤ p.uses slot)

-- the seat has locked at most these heads; and at most this one
abbrev pub LockedAtMost : Past → ℕ → List (ℕ × ℕ) → Type 0
LockedAtMost p i heads = (row bucket : ℕ) → p.now.lock row bucket ≡ Some i → is_held row bucket heads ≡ true

abbrev pub LockedOne : Past → ℕ → Option (ℕ × ℕ) → Type 0
LockedOne p i lock = (row bucket : ℕ) → p.now.lock row bucket ≡ Some i → lock ≡ Some (row, bucket)

-- the seat has the resize lock at most where this is so
abbrev pub OwnsAtMost : Past → ℕ → Bool → Type 0
OwnsAtMost p i has = owner_of p.now.resizing ≡ Some i → has ≡ true

-- the value of a function that was changed at one place
pub changed_at : {A : Type 0} (g : ℕ → A) (k : ℕ) (value : A) (n : ℕ) (now : A) → with_at g k value n ≡ now → ((n ≡ k) × (value ≡ now)) ⊎ ((n ≢ k) × (g n ≡ now))
changed_at g k value n now is = elim (cases_eq n k) [
  | inl same ↦ inl (same, sym (with_here g k value n same) ∙ is)
  | inr differ ↦ inr (differ, sym (with_other g k value n differ) ∙ is)
]

-- a slot that was claimed alone is given back, or an entry is created in it
given_back : (slot claimed : ℕ) (after : Option ℕ) → cond (slot == claimed) (Some None) None ≡ Some after → slot ≡ claimed
given_back slot claimed after is = go (slot == claimed) refl is
  where
    go : (b : Bool) → (slot == claimed) ≡ b → cond b (Some None) None ≡ Some after → slot ≡ claimed
    go true same is = eqb-true slot claimed same
    go false other is = absurd (cc)

-- the number of one that is there
some_number : (a b : ℕ) → Some a ≡ Some b → a ≡ b
some_number a b same = cc

-- after an event that the monitor of claims allows the seat has claimed at most the slot that the monitor says
pub claimed_after : (p : Past) (i : ℕ) (e : Option What) (claimed after : Option ℕ) → ClaimedAtMost p i claimed → after_one monitor.slot claimed e ≡ Some after
    → ClaimedAtMost (told p i e) i after
claimed_after p i None claimed after had is x now = let same : claimed ≡ after = cc in sym same ∙ had x now
claimed_after p i (Some (what.Create text h)) None after had is x now = absurd (cc)
claimed_after p i (Some (what.Create text h)) (Some s) after had is x now = elim (changed_at p.now.slot h.slot (Linked text h p.now.place) x (Claimed i) now) [
  | inl here ↦ let clash : Linked text h p.now.place ≡ Claimed i = here.1 in absurd (cc)
  | inr there ↦ absurd (there.0 (sym (given_back h.slot s after is ∙ some_number s x (had x there.1))))
]
claimed_after p i (Some (what.Claim t)) None after had is x now = elim (changed_at p.now.slot t (Claimed i) x (Claimed i) now) [
  | inl here ↦ let same : x ≡ t = here.0 in cc
  | inr there ↦ let never : None ≡ Some x = had x there.1 in absurd (cc)
]
claimed_after p i (Some (what.Claim t)) (Some s) after had is x now = absurd (cc)
claimed_after p i (Some (what.Free t)) None after had is x now = elim (changed_at p.now.slot t Vacant x (Claimed i) now) [
  | inl here ↦ let clash : Vacant ≡ Claimed i = here.1 in absurd (cc)
  | inr there ↦ let never : None ≡ Some x = had x there.1 in absurd (cc)
]
claimed_after p i (Some (what.Free t)) (Some s) after had is x now = elim (changed_at p.now.slot t Vacant x (Claimed i) now) [
  | inl here ↦ let clash : Vacant ≡ Claimed i = here.1 in absurd (cc)
  | inr there ↦ absurd (there.0 (sym (given_back t s after is ∙ some_number s x (had x there.1))))
]
claimed_after p i (Some (what.Unlink t)) None after had is x now = elim (changed_at p.now.slot t (Unlinked i p.now.place) x (Claimed i) now) [
  | inl here ↦ let clash : Unlinked i p.now.place ≡ Claimed i = here.1 in absurd (cc)
  | inr there ↦ let never : None ≡ Some x = had x there.1 in absurd (cc)
]
claimed_after p i (Some (what.Unlink t)) (Some s) after had is x now = elim (changed_at p.now.slot t (Unlinked i p.now.place) x (Claimed i) now) [
  | inl here ↦ let clash : Unlinked i p.now.place ≡ Claimed i = here.1 in absurd (cc)
  | inr there ↦ let same : Some s ≡ after = cc in sym same ∙ had x there.1
]
claimed_after p i (Some _) None after had is x now = let never : None ≡ Some x = had x now in absurd (cc)
claimed_after p i (Some _) (Some s) after had is x now = let same : Some s ≡ after = cc in sym same ∙ had x now

-- an event by which no slot is claimed; none is unlinked; no bucket is locked
abbrev pub HasNoClaim : Option What → Type 0
HasNoClaim (Some (what.Claim s)) = ⊥
HasNoClaim _ = Unit {0}

abbrev pub HasNoUnlink : Option What → Type 0
HasNoUnlink (Some (what.Unlink s)) = ⊥
HasNoUnlink _ = Unit {0}

abbrev pub HasNoLock : Option What → Type 0
HasNoLock (Some (what.Lock row bucket)) = ⊥
HasNoLock _ = Unit {0}

-- by an event that claims no slot the seat has claimed no other slot than before
pub claimed_stays : (p : Past) (i : ℕ) (e : Option What) (claimed : Option ℕ) → HasNoClaim e → ClaimedAtMost p i claimed → ClaimedAtMost (told p i e) i claimed
claimed_stays p i None claimed none had x now = had x now
claimed_stays p i (Some (what.Create text h)) claimed none had x now = elim (changed_at p.now.slot h.slot (Linked text h p.now.place) x (Claimed i) now) [
  | inl here ↦ let clash : Linked text h p.now.place ≡ Claimed i = here.1 in absurd (cc)
  | inr there ↦ had x there.1
]
claimed_stays p i (Some (what.Claim t)) claimed none had x now = absurd none
claimed_stays p i (Some (what.Free t)) claimed none had x now = elim (changed_at p.now.slot t Vacant x (Claimed i) now) [
  | inl here ↦ let clash : Vacant ≡ Claimed i = here.1 in absurd (cc)
  | inr there ↦ had x there.1
]
claimed_stays p i (Some (what.Unlink t)) claimed none had x now = elim (changed_at p.now.slot t (Unlinked i p.now.place) x (Claimed i) now) [
  | inl here ↦ let clash : Unlinked i p.now.place ≡ Claimed i = here.1 in absurd (cc)
  | inr there ↦ had x there.1
]
claimed_stays p i (Some _) claimed none had x now = had x now

-- slots are used no less often after an event
pub uses_grow : (p : Past) (i : ℕ) (e : Option What) (s : ℕ) → p.uses s ≤ (told p i e).uses s
uses_grow p i None s = omega arith
uses_grow p i (Some w) s = omega arith

enough : (a b c : ℕ) → a ≤ b → b ≤ c → a ≤ c
enough a b c first second = omega (arith, first, second)

-- those that waited, or were used so often, still do or were
waits_or_used : (p : Past) (i : ℕ) (e : Option What) (s : ℕ) (waiting after : List ℕ) → (On s waiting → On s after) → On s waiting ⊎ (2 ^ 48 ≤ p.uses s) → On s after ⊎ (2 ^ 48 ≤ (told p i e).uses s)
waits_or_used p i e s waiting after goes was = elim was [
  | inl waits ↦ inl (goes waits)
  | inr used ↦ inr (enough (2 ^ 48) (p.uses s) ((told p i e).uses s) used (uses_grow p i e s))
]

-- the slot that was freed is the first of those that waited
freed_first : (first slot : ℕ) (slots after : List ℕ) → cond (first == slot) (Some slots) None ≡ Some after → (first ≡ slot) × (slots ≡ after)
freed_first first slot slots after is = go (first == slot) refl is
  where
    go : (b : Bool) → (first == slot) ≡ b → cond b (Some slots) None ≡ Some after → (first ≡ slot) × (slots ≡ after)
    go true same is = (eqb-true first slot same, cc)
    go false other is = absurd (cc)

-- after an event that the queue of unlinked slots allows those that the seat has unlinked wait in the queue
pub waits_after : (p : Past) (i : ℕ) (e : Option What) (waiting after : List ℕ) → UnlinkedAtMost p i waiting → after_one works.queue waiting e ≡ Some after
    → UnlinkedAtMost (told p i e) i after
waits_after p i None waiting after had is x at now = let same : waiting ≡ after = cc in subst (λ xs. On x xs ⊎ (2 ^ 48 ≤ p.uses x)) same (had x at now)
waits_after p i (Some (what.Unlink t)) waiting after had is x at now =
    let same : waiting ++ t ∷ [] ≡ after = cc in
    subst (λ xs. On x xs ⊎ (2 ^ 48 ≤ (told p i (Some (what.Unlink t))).uses x)) same (elim (changed_at p.now.slot t (Unlinked i p.now.place) x (Unlinked i at) now) [
      | inl here ↦ inl (on_right waiting (t ∷ []) x (inl (sym here.0)))
      | inr there ↦ waits_or_used p i (Some (what.Unlink t)) x waiting (waiting ++ t ∷ []) (on_left waiting (t ∷ []) x) (had x at there.1)
    ])
waits_after p i (Some (what.Free t)) [] after had is x at now = absurd (cc)
waits_after p i (Some (what.Free t)) (first ∷ slots) after had is x at now = elim (changed_at p.now.slot t Vacant x (Unlinked i at) now) [
  | inl here ↦ let clash : Vacant ≡ Unlinked i at = here.1 in absurd (cc)
  | inr there ↦
      let (same, rest) = freed_first first t slots after is in
      waits_or_used p i (Some (what.Free t)) x (first ∷ slots) after (λ on. elim on [
        | inl here ↦ absurd (there.0 (sym here ∙ same))
        | inr later ↦ subst (On x) rest later
      ]) (had x at there.1)
]
waits_after p i (Some (what.Create text h)) waiting after had is x at now = elim (changed_at p.now.slot h.slot (Linked text h p.now.place) x (Unlinked i at) now) [
  | inl here ↦ let clash : Linked text h p.now.place ≡ Unlinked i at = here.1 in absurd (cc)
  | inr there ↦ let same : waiting ≡ after = cc in waits_or_used p i (Some (what.Create text h)) x waiting after (subst (On x) same) (had x at there.1)
]
waits_after p i (Some (what.Claim t)) waiting after had is x at now = elim (changed_at p.now.slot t (Claimed i) x (Unlinked i at) now) [
  | inl here ↦ let clash : Claimed i ≡ Unlinked i at = here.1 in absurd (cc)
  | inr there ↦ let same : waiting ≡ after = cc in waits_or_used p i (Some (what.Claim t)) x waiting after (subst (On x) same) (had x at there.1)
]
waits_after p i (Some w) waiting after had is x at now = let same : waiting ≡ after = cc in waits_or_used p i (Some w) x waiting after (subst (On x) same) (had x at now)

-- a slot that was used 2^48 times is unlinked, and does not come to wait
pub never_waits : (p : Past) (i t : ℕ) (waiting : List ℕ) → 2 ^ 48 ≤ p.uses t → UnlinkedAtMost p i waiting → UnlinkedAtMost (told p i (Some (what.Unlink t))) i waiting
never_waits p i t waiting used had x at now = elim (changed_at p.now.slot t (Unlinked i p.now.place) x (Unlinked i at) now) [
  | inl here ↦ inr (subst (λ s. 2 ^ 48 ≤ (told p i (Some (what.Unlink t))).uses s) (sym here.0) (enough (2 ^ 48) (p.uses t) ((told p i (Some (what.Unlink t))).uses t) used (uses_grow p i (Some (what.Unlink t)) t)))
  | inr there ↦ waits_or_used p i (Some (what.Unlink t)) x waiting waiting (λ on. on) (had x at there.1)
]

-- by an event that unlinks no slot the seat has unlinked no other slot than before
pub waits_stay : (p : Past) (i : ℕ) (e : Option What) (waiting : List ℕ) → HasNoUnlink e → UnlinkedAtMost p i waiting → UnlinkedAtMost (told p i e) i waiting
waits_stay p i None waiting none had x at now = had x at now
waits_stay p i (Some (what.Unlink t)) waiting none had x at now = absurd none
waits_stay p i (Some (what.Create text h)) waiting none had x at now = elim (changed_at p.now.slot h.slot (Linked text h p.now.place) x (Unlinked i at) now) [
  | inl here ↦ let clash : Linked text h p.now.place ≡ Unlinked i at = here.1 in absurd (cc)
  | inr there ↦ waits_or_used p i (Some (what.Create text h)) x waiting waiting (λ on. on) (had x at there.1)
]
waits_stay p i (Some (what.Claim t)) waiting none had x at now = elim (changed_at p.now.slot t (Claimed i) x (Unlinked i at) now) [
  | inl here ↦ let clash : Claimed i ≡ Unlinked i at = here.1 in absurd (cc)
  | inr there ↦ waits_or_used p i (Some (what.Claim t)) x waiting waiting (λ on. on) (had x at there.1)
]
waits_stay p i (Some (what.Free t)) waiting none had x at now = elim (changed_at p.now.slot t Vacant x (Unlinked i at) now) [
  | inl here ↦ let clash : Vacant ≡ Unlinked i at = here.1 in absurd (cc)
  | inr there ↦ waits_or_used p i (Some (what.Free t)) x waiting waiting (λ on. on) (had x at there.1)
]
waits_stay p i (Some w) waiting none had x at now = waits_or_used p i (Some w) x waiting waiting (λ on. on) (had x at now)

-- the bucket that is unlocked is the one that was locked
own_unlocked : (row bucket : ℕ) (own : ℕ × ℕ) (after : Option (ℕ × ℕ)) → cond ((own.0 == row) && (own.1 == bucket)) (Some None) None ≡ Some after → (own.0 ≡ row) × (own.1 ≡ bucket)
own_unlocked row bucket own after is = go (own.0 == row) (own.1 == bucket) refl refl is
  where
    go : (b c : Bool) → (own.0 == row) ≡ b → (own.1 == bucket) ≡ c → cond (b && c) (Some None) None ≡ Some after → (own.0 ≡ row) × (own.1 ≡ bucket)
    go true true rows buckets is = (eqb-true own.0 row rows, eqb-true own.1 bucket buckets)
    go true false rows buckets is = absurd (cc)
    go false c rows buckets is = absurd (cc)

no_bucket : (row bucket : ℕ) → ◌≡◌ {A = Option (ℕ × ℕ)} None (Some (row, bucket)) → ⊥
no_bucket row bucket is = absurd (cc)

-- the row of a level alone keeps its locks
pub lock_of_row : (i : ℕ) (of_level : Bool) (owner : Option ℕ) → cond of_level owner None ≡ Some i → owner ≡ Some i
lock_of_row i true owner now = now
lock_of_row i false owner now = absurd (cc)

-- after an event that the monitor of one lock allows the seat has locked at most the bucket that the monitor says
one_after : (p : Past) (i : ℕ) (e : Option What) (lock after : Option (ℕ × ℕ)) → LockedOne p i lock → after_one works.locked lock e ≡ Some after
    → LockedOne (told p i e) i after
one_after p i None lock after had is r b now = let same : lock ≡ after = cc in sym same ∙ had r b now
one_after p i (Some (what.Lock row bucket)) None after had is r b now = elim (bucket_cases row bucket r b) [
  | inl same ↦ let rows : r ≡ row = same.0 in let buckets : b ≡ bucket = same.1 in cc
  | inr differ ↦ absurd (no_bucket r b (had r b (sym (lock_elsewhere p.now.lock row bucket (Some i) r b differ) ∙ now)))
]
one_after p i (Some (what.Lock row bucket)) (Some own) after had is r b now = absurd (cc)
one_after p i (Some (what.Unlock row bucket)) None after had is r b now = absurd (cc)
one_after p i (Some (what.Unlock row bucket)) (Some own) after had is r b now = elim (bucket_cases row bucket r b) [
  | inl same ↦ let clash : None ≡ Some i = sym (lock_here p.now.lock row bucket None r b same.0 same.1) ∙ now in absurd (cc)
  | inr differ ↦
      let was : Some own ≡ Some (r, b) = had r b (sym (lock_elsewhere p.now.lock row bucket None r b differ) ∙ now) in
      let own_is : own ≡ (r, b) = cc in
      let (rows, buckets) = own_unlocked row bucket own after is in
      absurd (differ (sym (ap (λ z. z.0) own_is) ∙ rows) (sym (ap (λ z. z.1) own_is) ∙ buckets))
]
one_after p i (Some (what.Level level)) lock after had is r b now = let same : lock ≡ after = cc in sym same ∙ had r b (lock_of_row i (nat_eq r level) (p.now.lock r b) now)
one_after p i (Some _) lock after had is r b now = let same : lock ≡ after = cc in sym same ∙ had r b now

-- one head is the list of it
is_head : (row bucket : ℕ) (own : ℕ × ℕ) → is_lock_of row bucket own ≡ true → own ≡ (row, bucket)
is_head row bucket (r, b) is = go (r == row) (b == bucket) refl refl is
  where
    go : (x y : Bool) → (r == row) ≡ x → (b == bucket) ≡ y → x && y ≡ true → ◌≡◌ {A = ℕ × ℕ} (r, b) (row, bucket)
    go true true rows buckets is = let same : r ≡ row = eqb-true r row rows in let here : b ≡ bucket = eqb-true b bucket buckets in cc
    go true false rows buckets is = absurd (cc)
    go false y rows buckets is = absurd (cc)

pub same_head : (row bucket : ℕ) → is_lock_of row bucket (row, bucket) ≡ true
same_head row bucket = ap (λ x. x && (bucket == bucket)) (eq-eqb row row refl) ∙ eq-eqb bucket bucket refl

as_one : (p : Past) (i : ℕ) (lock : Option (ℕ × ℕ)) → LockedAtMost p i (option_to_list lock) → LockedOne p i lock
as_one p i None had r b now = let never : false ≡ true = had r b now in absurd (cc)
as_one p i (Some own) had r b now = ap Some (is_head r b own (go (is_lock_of r b own) (had r b now)))
  where
    go : (x : Bool) → cond x true false ≡ true → x ≡ true
    go true is = refl
    go false is = is

as_list : (p : Past) (i : ℕ) (lock : Option (ℕ × ℕ)) → LockedOne p i lock → LockedAtMost p i (option_to_list lock)
as_list p i lock had r b now =
    subst (λ (o : Option (ℕ × ℕ)). is_held r b (option_to_list o) ≡ true) (sym (had r b now)) (ap (λ x. cond x true false) (same_head r b))

pub locked_after : (p : Past) (i : ℕ) (e : Option What) (lock after : Option (ℕ × ℕ)) → LockedAtMost p i (option_to_list lock) → after_one works.locked lock e ≡ Some after
    → LockedAtMost (told p i e) i (option_to_list after)
locked_after p i e lock after had is = as_list (told p i e) i after (one_after p i e lock after (as_one p i lock had) is)

-- by an event that locks no bucket the seat has locked no other bucket than before
pub locked_stays : (p : Past) (i : ℕ) (e : Option What) (lock : List (ℕ × ℕ)) → HasNoLock e → LockedAtMost p i lock → LockedAtMost (told p i e) i lock
locked_stays p i None lock none had r b now = had r b now
locked_stays p i (Some (what.Lock row bucket)) lock none had r b now = absurd none
locked_stays p i (Some (what.Unlock row bucket)) lock none had r b now = elim (bucket_cases row bucket r b) [
  | inl same ↦ let clash : None ≡ Some i = sym (lock_here p.now.lock row bucket None r b same.0 same.1) ∙ now in absurd (cc)
  | inr differ ↦ had r b (sym (lock_elsewhere p.now.lock row bucket None r b differ) ∙ now)
]
locked_stays p i (Some (what.Level level)) lock none had r b now = had r b (lock_of_row i (nat_eq r level) (p.now.lock r b) now)
locked_stays p i (Some _) lock none had r b now = had r b now

-- after an event that the monitor of the resize lock allows the seat has it at most where the monitor says so
pub owns_after : (p : Past) (i : ℕ) (e : Option What) (has after : Bool) → OwnsAtMost p i has → after_one monitor.resize has e ≡ Some after → OwnsAtMost (told p i e) i after
owns_after p i None has after had is now = let same : has ≡ after = cc in sym same ∙ had now
owns_after p i (Some what.ResizeTaken) false after had is now = cc
owns_after p i (Some what.ResizeTaken) true after had is now = absurd (cc)
owns_after p i (Some what.ResizeGiven) false after had is now = absurd (cc)
owns_after p i (Some what.ResizeGiven) true after had is now = absurd (cc)
owns_after p i (Some (what.Level level)) false after had is now = absurd (cc)
owns_after p i (Some (what.Lock row bucket)) false after had is now =
    let never : false ≡ true = had (same_owner (λ owner. owner ≡ Some i → owner_of p.now.resizing ≡ Some i) i row p.now.resizing (λ own. own) now) in absurd (cc)
owns_after p i (Some (what.Lock row bucket)) true after had is now = cc
owns_after p i (Some _) false after had is now = let never : false ≡ true = had now in absurd (cc)
owns_after p i (Some _) true after had is now = cc
