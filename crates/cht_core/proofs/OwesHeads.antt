-- The heads that a seat has locked, after an event that the monitor of locks allows.
use Rattle.std.proofs.Common.{◌≡◌, ℕ, ◌==◌, ◌&&◌, Bool, true, false, cond, List, [], ◌∷◌, Option, Some, None, refl, sym, ap, subst, ◌∙◌, inl, inr}
use Rattle.std.specs.Prelude.{nat_eq, not, filter}
use Rattle.std.proofs.lemmas.Bool.{eqb-true}
use Rattle.intern_log.specs.declared.event.What.{What}
use Rattle.intern_log.specs.declared.event.What.TheVariants as what
use Rattle.atomic_step.specs.Monitor.{after_one, is_held, is_lock_of}
use Rattle.atomic_step.specs.Monitor as monitor
use Rattle.cht_core.specs.Past.{Past, told}
use Rattle.cht_core.proofs.Buckets.{bucket_cases, lock_here, lock_elsewhere}
use Rattle.cht_core.proofs.OwesKept.{LockedAtMost, same_head, lock_of_row}

-- a head is that of a lock or another
pub is_that : (row bucket r b : ℕ) → is_lock_of row bucket (r, b) ≡ true → (row ≡ r) × (bucket ≡ b)
is_that row bucket r b is = go (r == row) (b == bucket) refl refl is
  where
    go : (x y : Bool) → (r == row) ≡ x → (b == bucket) ≡ y → x && y ≡ true → (row ≡ r) × (bucket ≡ b)
    go true true rows buckets is = (sym (eqb-true r row rows), sym (eqb-true b bucket buckets))
    go true false rows buckets is = absurd (cc)
    go false y rows buckets is = absurd (cc)

-- a head that is among others still is, where another one is taken out
stays_held : (row bucket r b : ℕ) (heads : List (ℕ × ℕ)) → (r ≡ row → b ≡ bucket → ⊥) → is_held r b heads ≡ true → is_held r b (filter (λ lock. not (is_lock_of row bucket lock)) heads) ≡ true
stays_held row bucket r b [] differ held = held
stays_held row bucket r b ((s, c) ∷ heads) differ held =
    go (is_lock_of row bucket (s, c)) (is_lock_of r b (s, c)) refl refl (stays_held row bucket r b heads differ) held
  where
    go : (that mine : Bool) → is_lock_of row bucket (s, c) ≡ that → is_lock_of r b (s, c) ≡ mine
        → (is_held r b heads ≡ true → is_held r b (filter (λ lock. not (is_lock_of row bucket lock)) heads) ≡ true) → cond mine true (is_held r b heads) ≡ true
        → is_held r b (cond (not that) ((s, c) ∷ filter (λ lock. not (is_lock_of row bucket lock)) heads) (filter (λ lock. not (is_lock_of row bucket lock)) heads)) ≡ true
    go true true other here rest held =
        let (rows, buckets) = is_that row bucket s c other in
        let (own, mine) = is_that r b s c here in
        absurd (differ (own ∙ sym rows) (mine ∙ sym buckets))
    go true false other here rest held = rest held
    go false true other here rest held = ap (λ x. cond x true (is_held r b (filter (λ lock. not (is_lock_of row bucket lock)) heads))) here
    go false false other here rest held = ap (λ x. cond x true (is_held r b (filter (λ lock. not (is_lock_of row bucket lock)) heads))) here ∙ rest held

-- a head was locked, or unlocked
was_free : (held : Bool) (heads after : List (ℕ × ℕ)) → cond held None (Some heads) ≡ Some after → heads ≡ after
was_free true heads after is = absurd (cc)
was_free false heads after is = cc

was_held : (held : Bool) (heads after : List (ℕ × ℕ)) → cond held (Some heads) None ≡ Some after → heads ≡ after
was_held true heads after is = cc
was_held false heads after is = absurd (cc)

-- after an event that the monitor of locks allows the seat has locked at most the heads that the monitor says
pub heads_after : (p : Past) (i : ℕ) (e : Option What) (heads after : List (ℕ × ℕ)) → LockedAtMost p i heads → after_one monitor.locked heads e ≡ Some after → LockedAtMost (told p i e) i after
heads_after p i None heads after had is r b now = let same : heads ≡ after = cc in subst (λ (xs : List (ℕ × ℕ)). is_held r b xs ≡ true) same (had r b now)
heads_after p i (Some (what.Lock row bucket)) heads after had is r b now =
    subst (λ (xs : List (ℕ × ℕ)). is_held r b xs ≡ true) (was_free (is_held row bucket heads) ((row, bucket) ∷ heads) after is) (elim (bucket_cases row bucket r b) [
      | inl same ↦ ap (λ x. cond x true (is_held r b heads)) (subst (λ (x : ℕ). is_lock_of r b (x, bucket) ≡ true) same.0 (subst (λ (x : ℕ). is_lock_of r b (r, x) ≡ true) same.1 (same_head r b)))
      | inr differ ↦ either (is_lock_of r b (row, bucket)) (had r b (sym (lock_elsewhere p.now.lock row bucket (Some i) r b differ) ∙ now))
    ])
  where
    either : (x : Bool) → is_held r b heads ≡ true → cond x true (is_held r b heads) ≡ true
    either true held = refl
    either false held = held
heads_after p i (Some (what.Unlock row bucket)) heads after had is r b now = elim (bucket_cases row bucket r b) [
  | inl same ↦ let clash : None ≡ Some i = sym (lock_here p.now.lock row bucket None r b same.0 same.1) ∙ now in absurd (cc)
  | inr differ ↦ subst (λ (xs : List (ℕ × ℕ)). is_held r b xs ≡ true) (was_held (is_held row bucket heads) (filter (λ lock. not (is_lock_of row bucket lock)) heads) after is)
      (stays_held row bucket r b heads differ (had r b (sym (lock_elsewhere p.now.lock row bucket None r b differ) ∙ now)))
]
heads_after p i (Some (what.Level level)) heads after had is r b now =
    let same : heads ≡ after = cc in subst (λ (xs : List (ℕ × ℕ)). is_held r b xs ≡ true) same (had r b (lock_of_row i (nat_eq r level) (p.now.lock r b) now))
heads_after p i (Some _) heads after had is r b now = let same : heads ≡ after = cc in subst (λ (xs : List (ℕ × ℕ)). is_held r b xs ≡ true) same (had r b now)
