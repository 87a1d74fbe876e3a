-- Who has the resize lock and has locked a bucket of another row replaces the row.
use Rattle.std.proofs.Common.{◌≡◌, ◌≢◌, ℕ, ◌⊎◌, ◌&&◌, ◌||◌, not, Bool, true, false, Option, Some, None, refl, sym, ap, subst, ◌∙◌, inl, inr}
use Rattle.std.proofs.lemmas.Bool.{cases_eq, eq-eqb, ne_eqb}
use Rattle.std.specs.Option.{option_map}
use Rattle.std.specs.Prelude.{nat_eq}
use Rattle.intern_log.specs.Now.{Now, Resizing, owner_of, resizing_after_lock, with_lock}
use Rattle.intern_log.specs.Orderly.{is_lock_elsewhere}
use Rattle.cht_core.specs.TableState.{IsSettled, KeepsRow}
use Rattle.cht_core.proofs.Buckets.{bucket_cases, lock_here, lock_elsewhere}

some_one : (a b : ℕ) → Some a ≡ Some b → a ≡ b
some_one a b same = cc

-- the resize lock of a known owner
pub resizing_of : (o : Option Resizing) (i : ℕ) → owner_of o ≡ Some i → (r : Resizing) × (o ≡ Some r) × (r.seat ≡ i)
resizing_of None i is = absurd (cc)
resizing_of (Some r) i is = (r, refl, some_one r.seat i is)

-- its owner has locked a bucket of another row
pub not_settled : (n : Now) (i row bucket : ℕ) → KeepsRow n → owner_of n.resizing ≡ Some i → n.lock row bucket ≡ Some i → row ≢ n.level → IsSettled n → ⊥
not_settled n i row bucket keeps owner lock other settled =
    let own : (r : Resizing) × (n.resizing ≡ Some r) × (r.seat ≡ i) = resizing_of n.resizing i owner in
    elim (keeps own.0 own.1) [
      | inl replacing ↦ settled own.0 own.1 replacing
      | inr kept ↦ other (kept.1 row bucket (lock ∙ ap Some (sym own.2)))
    ]

-- the resize lock before a Lock, by the one after it
before_lock : (o : Option Resizing) (seat row : ℕ) (r : Resizing) → option_map (resizing_after_lock seat row) o ≡ Some r → (was : Resizing) × (o ≡ Some was) × (resizing_after_lock seat row was ≡ r)
before_lock None seat row r is = absurd (cc)
before_lock (Some was) seat row r is = (was, refl, one (resizing_after_lock seat row was) r is)
  where
    one : (a b : Resizing) → Some a ≡ Some b → a ≡ b
    one a b same = cc

-- a Lock of a bucket
pub row_locked : (n : Now) (seat row bucket : ℕ) → KeepsRow n →
    KeepsRow (record n { place = n.place; lock = with_lock n.lock row bucket (Some seat); resizing = option_map (resizing_after_lock seat row) n.resizing })
row_locked n seat row bucket keeps r is =
    let was : (w : Resizing) × (n.resizing ≡ Some w) × (resizing_after_lock seat row w ≡ r) = before_lock n.resizing seat row r is in
    subst (λ (x : Resizing). (x.replacing ≡ true) ⊎ ((x.level ≡ n.level) × ((q c : ℕ) → with_lock n.lock row bucket (Some seat) q c ≡ Some x.seat → q ≡ n.level))) was.2 (after was.0 (keeps was.0 was.1))
  where
    or_left : (a b : Bool) → a ≡ true → (a || b) ≡ true
    or_left true b is = refl
    or_left false b is = absurd (cc)

    or_right : (a b : Bool) → b ≡ true → (a || b) ≡ true
    or_right true b is = refl
    or_right false b is = is

    after : (w : Resizing) → (w.replacing ≡ true) ⊎ ((w.level ≡ n.level) × ((q c : ℕ) → n.lock q c ≡ Some w.seat → q ≡ n.level)) →
        ((w.replacing || is_lock_elsewhere w.seat w.level seat row) ≡ true) ⊎ ((w.level ≡ n.level) × ((q c : ℕ) → with_lock n.lock row bucket (Some seat) q c ≡ Some w.seat → q ≡ n.level))
    after w (inl replacing) = inl (or_left w.replacing (is_lock_elsewhere w.seat w.level seat row) replacing)
    after w (inr kept) = elim (cases_eq seat w.seat) [
      | inr differ ↦ inr (
        kept.0,
        λ q c lock. elim (bucket_cases row bucket q c) [
          | inl same ↦ absurd (differ (some_one seat w.seat (sym (lock_here n.lock row bucket (Some seat) q c same.0 same.1) ∙ lock)))
          | inr apart ↦ kept.1 q c (sym (lock_elsewhere n.lock row bucket (Some seat) q c apart) ∙ lock)
        ],
      )
      | inl mine ↦ elim (cases_eq row w.level) [
        | inr other ↦ inl (or_right w.replacing (is_lock_elsewhere w.seat w.level seat row)
            (ap (λ x. x && not (nat_eq row w.level)) (eq-eqb seat w.seat mine) ∙ ap (λ x. true && not x) (ne_eqb row w.level other)))
        | inl level ↦ inr (
          kept.0,
          λ q c lock. elim (bucket_cases row bucket q c) [
            | inl same ↦ same.0 ∙ level ∙ kept.0
            | inr apart ↦ kept.1 q c (sym (lock_elsewhere n.lock row bucket (Some seat) q c apart) ∙ lock)
          ],
        )
      ]
    ]

-- an Unlock of a bucket
pub row_unlocked : (n : Now) (row bucket : ℕ) → KeepsRow n → KeepsRow (record n { place = n.place; lock = with_lock n.lock row bucket None })
row_unlocked n row bucket keeps r is = elim (keeps r is) [
  | inl replacing ↦ inl replacing
  | inr kept ↦ inr (
    kept.0,
    λ q c lock. elim (bucket_cases row bucket q c) [
      | inl same ↦ absurd (none (sym (lock_here n.lock row bucket None q c same.0 same.1) ∙ lock))
      | inr apart ↦ kept.1 q c (sym (lock_elsewhere n.lock row bucket None q c apart) ∙ lock)
    ],
  )
]
  where
    none : None ≡ Some r.seat → ⊥
    none same = cc

-- another level, once the row is replaced
pub row_replaced : (n : Now) (i : ℕ) → owner_of n.resizing ≡ Some i → (IsSettled n → ⊥) → (r : Resizing) → n.resizing ≡ Some r → r.replacing ≡ true
row_replaced n i owner unsettled r is = elim_bool r.replacing refl
  where
    same_one : (a b : Resizing) → Some a ≡ Some b → a ≡ b
    same_one a b same = cc

    clash : false ≡ true → ⊥
    clash same = cc

    elim_bool : (b : Bool) → r.replacing ≡ b → r.replacing ≡ true
    elim_bool true e = e
    elim_bool false e = absurd (unsettled (λ q at yes. clash (sym e ∙ ap (λ (x : Resizing). x.replacing) (same_one r q (sym is ∙ at)) ∙ yes)))
