-- The lock of one bucket is changed, and those of the others stay.
use Rattle.std.proofs.Common.{◌≡◌, ℕ, ◌⊎◌, Option, inl, inr, ap, ◌∙◌, true, cond, ◌&&◌}
use Rattle.std.proofs.lemmas.Bool.{cases_eq, eq-eqb, ne_eqb}
use Rattle.std.specs.Prelude.{nat_eq}
use Rattle.intern_log.specs.Now.{with_lock}
use Rattle.table_shape.specs.declared.place.Place.TheVariants as place

-- two buckets are the same or not
pub bucket_cases : (row bucket r b : ℕ) → ((r ≡ row) × (b ≡ bucket)) ⊎ (r ≡ row → b ≡ bucket → ⊥)
bucket_cases row bucket r b = elim (cases_eq r row) [
  | inr differ ↦ inr (λ rows buckets. differ rows)
  | inl rows ↦ elim (cases_eq b bucket) [ inl buckets ↦ inl (rows, buckets) | inr differ ↦ inr (λ rows buckets. differ buckets) ]
]

-- the two numbers of a head
pub head_of_bucket : (row bucket r b : ℕ) → place.Head r b ≡ place.Head row bucket → (r ≡ row) × (b ≡ bucket)
head_of_bucket row bucket r b same = (cc, cc)

-- the bucket has the new lock
pub lock_here : (lock : ℕ → ℕ → Option ℕ) (row bucket : ℕ) (owner : Option ℕ) (r b : ℕ) → r ≡ row → b ≡ bucket → with_lock lock row bucket owner r b ≡ owner
lock_here lock row bucket owner r b rows buckets =
    ap (λ x. cond (x && nat_eq b bucket) owner (lock r b)) (eq-eqb r row rows) ∙ ap (λ x. cond (true && x) owner (lock r b)) (eq-eqb b bucket buckets)

-- another bucket has the lock that it had
pub lock_elsewhere : (lock : ℕ → ℕ → Option ℕ) (row bucket : ℕ) (owner : Option ℕ) (r b : ℕ) → (r ≡ row → b ≡ bucket → ⊥) → with_lock lock row bucket owner r b ≡ lock r b
lock_elsewhere lock row bucket owner r b differ = elim (cases_eq r row) [
  | inr rows ↦ ap (λ x. cond (x && nat_eq b bucket) owner (lock r b)) (ne_eqb r row rows)
  | inl rows ↦ ap (λ x. cond (x && nat_eq b bucket) owner (lock r b)) (eq-eqb r row rows) ∙ ap (λ x. cond (true && x) owner (lock r b)) (ne_eqb b bucket (differ rows))
]
