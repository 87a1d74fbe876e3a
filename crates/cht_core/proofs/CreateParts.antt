-- Small facts on chains and maps that the making of an entry uses.
use Rattle.std.proofs.Common.{◌≡◌, ◌≢◌, ℕ, ◌<◌, ◌≤◌, ◌⊎◌, cond, List, [], ◌∷◌, Some, refl, ap, subst, ◌∙◌, inl, inr, arith}
use Rattle.std.specs.Prelude.{nat_eq, ◌&&◌}
use Rattle.std.specs.Str.{bytes_eq}
use Rattle.std.proofs.lemmas.Bool.{cases_eq, eq-eqb, ne_eqb, false_from_ne_true}
use Rattle.std.proofs.lemmas.Slice.Eq.{bytes_eq-Decides}
use Rattle.chain_core.specs.Nodes.{On}
use Rattle.intern_log.specs.declared.event.Handle.{Handle}
use Rattle.intern_log.specs.declared.event.What.TheVariants as what
use Rattle.intern_log.specs.Log.{next, new_entry}
use Rattle.intern_log.specs.TextMap.{TextMap, entry_of}
use Rattle.intern_log.proofs.Entries.{entry_of-next}
use Rattle.cht_core.specs.Chains.{AreEarlier, AreRanked}
use Rattle.cht_core.specs.Flow.{with_chain}

-- another chain at one head alone
pub chain_here : (chain : ℕ → ℕ → List ℕ) (row bucket : ℕ) (nodes : List ℕ) (r b : ℕ) → r ≡ row → b ≡ bucket → with_chain chain row bucket nodes r b ≡ nodes
chain_here chain row bucket nodes r b is same = ap (λ t. cond (t && nat_eq b bucket) nodes (chain r b)) (eq-eqb r row is) ∙ ap (λ t. cond t nodes (chain r b)) (eq-eqb b bucket same)

pub chain_elsewhere : (chain : ℕ → ℕ → List ℕ) (row bucket : ℕ) (nodes : List ℕ) (r b : ℕ) → (r ≡ row → b ≡ bucket → ⊥) → with_chain chain row bucket nodes r b ≡ chain r b
chain_elsewhere chain row bucket nodes r b differ = elim (cases_eq r row) [
  | inr other ↦ ap (λ t. cond (t && nat_eq b bucket) nodes (chain r b)) (ne_eqb r row other)
  | inl is ↦ ap (λ t. cond (t && nat_eq b bucket) nodes (chain r b)) (eq-eqb r row is) ∙ ap (λ t. cond t nodes (chain r b)) (ne_eqb b bucket (differ is))
]

-- each node of a list is earlier, and one node of such a list is
pub all_earlier : (births : ℕ → ℕ) (base at : ℕ) (nodes : List ℕ) → ((s : ℕ) → On s nodes → (births s ≤ at) ⊎ (births s < base)) → AreEarlier base births at nodes
all_earlier births base at [] each = tt
all_earlier births base at (x ∷ nodes) each = (each x (inl refl), all_earlier births base at nodes (λ s on. each s (inr on)))

one_earlier : (births : ℕ → ℕ) (base at s : ℕ) (nodes : List ℕ) → AreEarlier base births at nodes → On s nodes → (births s ≤ at) ⊎ (births s < base)
one_earlier births base at s [] all on = absurd on
one_earlier births base at s (x ∷ nodes) all on = elim on [
  | inl is ↦ subst (λ k. (births k ≤ at) ⊎ (births k < base)) is all.0
  | inr later ↦ one_earlier births base at s nodes all.1 later
]

-- where the first node was made before a load, and its base is no later, all nodes were
pub all_before_load : (births : ℕ → ℕ) (base load x s : ℕ) (nodes : List ℕ) → AreRanked base births (x ∷ nodes) → base ≤ load → births x < load → On s (x ∷ nodes) → births s < load
all_before_load births base load x s nodes ranked early first on = elim on [
  | inl is ↦ subst (λ k. births k < load) is first
  | inr later ↦ elim (one_earlier births base (births x) s nodes ranked.0 later) [ inl up ↦ omega arith | inr old ↦ omega arith ]
]

-- the entry of a text after an entry was made, and that of another text
pub entry_made : (m : TextMap) (text : List ℕ) (h : Handle) (q : List ℕ) → q ≡ text → entry_of (next m (what.Create text h)) q ≡ Some (new_entry h)
entry_made m text h q is = entry_of-next m (what.Create text h) q ∙ ap (λ t. cond t (Some (new_entry h)) (entry_of m q)) ((bytes_eq-Decides q text).1 is)

pub entry_of_other : (m : TextMap) (text : List ℕ) (h : Handle) (q : List ℕ) → q ≢ text → entry_of (next m (what.Create text h)) q ≡ entry_of m q
entry_of_other m text h q differ = entry_of-next m (what.Create text h) q
    ∙ ap (λ t. cond t (Some (new_entry h)) (entry_of m q)) (false_from_ne_true (bytes_eq q text) (λ is. differ ((bytes_eq-Decides q text).0 is)))
