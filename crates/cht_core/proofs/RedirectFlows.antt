-- The chains and the bases of heads that begin anew.
use Rattle.std.proofs.Common.{◌≡◌, ℕ, ◌<◌, true, cond, ◌&&◌, List, [], ◌∷◌, refl, ap, ◌∙◌, inl, inr}
use Rattle.std.proofs.lemmas.Bool.{cases_eq, eq-eqb, ne_eqb}
use Rattle.std.specs.Prelude.{nat_eq}
use Rattle.chain_core.specs.Nodes.{On}
use Rattle.cht_core.specs.Chains.{AreEarlier, AreRanked}
use Rattle.cht_core.specs.Flow.{Flow, with_base}
use Rattle.cht_core.specs.Stage.{Stage}

-- the bucket has the new base, and another one has the base that it had
pub base_here : (base : ℕ → ℕ → ℕ) (row bucket place r b : ℕ) → r ≡ row → b ≡ bucket → with_base base row bucket place r b ≡ place
base_here base row bucket place r b rows buckets =
    ap (λ x. cond (x && nat_eq b bucket) place (base r b)) (eq-eqb r row rows) ∙ ap (λ x. cond (true && x) place (base r b)) (eq-eqb b bucket buckets)

pub base_elsewhere : (base : ℕ → ℕ → ℕ) (row bucket place r b : ℕ) → (r ≡ row → b ≡ bucket → ⊥) → with_base base row bucket place r b ≡ base r b
base_elsewhere base row bucket place r b differ = elim (cases_eq r row) [
  | inr rows ↦ ap (λ x. cond (x && nat_eq b bucket) place (base r b)) (ne_eqb r row rows)
  | inl rows ↦ ap (λ x. cond (x && nat_eq b bucket) place (base r b)) (eq-eqb r row rows) ∙ ap (λ x. cond (true && x) place (base r b)) (ne_eqb b bucket (differ rows))
]

-- nodes that were made before a base are in any order
earlier_old : (base : ℕ) (births : ℕ → ℕ) (at : ℕ) (nodes : List ℕ) → ((s : ℕ) → On s nodes → births s < base) → AreEarlier base births at nodes
earlier_old base births at [] old = tt
earlier_old base births at (x ∷ nodes) old = (inr (old x (inl refl)), earlier_old base births at nodes (λ s on. old s (inr on)))

pub ranked_old : (base : ℕ) (births : ℕ → ℕ) (nodes : List ℕ) → ((s : ℕ) → On s nodes → births s < base) → AreRanked base births nodes
ranked_old base births [] old = tt
ranked_old base births (x ∷ nodes) old = (earlier_old base births (births x) nodes (λ s on. old s (inr on)), ranked_old base births nodes (λ s on. old s (inr on)))

-- a flow at a stage that it has is that flow
pub flow_at : (f : Flow) (stage : Stage) → f.stage ≡ stage → f ≡ record f { stage = stage }
flow_at f stage is = ap (λ (s : Stage). record f { stage = s }) is
