-- Which sections a grace waits for, and which numbers it passes.
use Rattle.std.proofs.Common.{◌≡◌, ◌⊎◌, ⊎_elim, inl, inr, ◌<◌, ◌+◌, ◌-◌, ◌%◌, ◌==◌, ℕ, Bool, true, false, refl, ap, sym}
use native.Mathlib.Omega.{arith}
use Rattle.std.specs.Prelude.{nat_lt}
use Rattle.std.proofs.lemmas.Bool.{ltb-true, ltb-false, and_cases, and_parts}
use Rattle.section_core.specs.Words.{waits_for}
use Rattle.atomic_step.proofs.Choices.{where_it_is, found_equal, not_equal}
use Rattle.call_machine.specs.declared.grace.Grace.{Grace}
use Rattle.call_machine.specs.declared.grace.Gracing.{Gracing}
use Rattle.call_machine.specs.declared.grace.Gracing.TheVariants.{Goes, Waits, Over}
use Rattle.call_machine.specs.Grace.{scanned}

-- a section that is not waited for is closed, or not older than the grace; one that is waited for is older
passed : (raised word : ℕ) → waits_for raised word ≡ false → (word % 2 ≡ 0) ⊎ (raised < word)
passed raised word is = passed_by (word % 2 == 1) refl
  where
    passed_by : (odd : Bool) → (word % 2 == 1) ≡ odd → (word % 2 ≡ 0) ⊎ (raised < word)
    passed_by false even = let no = not_equal (word % 2) 1 even in inl (omega (arith, no))
    passed_by true odd = ⊎_elim
        (λ even. absurd (cc))
        (λ later. let one = found_equal (word % 2) 1 odd in let above = ltb-false (word - 1) raised later in inr (omega (arith, one, above)))
        (and_cases (word % 2 == 1) (nat_lt (word - 1) raised) is)

waited : (raised word : ℕ) → waits_for raised word ≡ true → (word % 2 ≡ 1) × (word - 1 < raised)
waited raised word is =
    let parts = and_parts (word % 2 == 1) (nat_lt (word - 1) raised) is in
    (found_equal (word % 2) 1 parts.0, ltb-true (word - 1) raised parts.1)

-- what a scan comes to, by what it says
pub waits_law : (seats word : ℕ) (g h : Grace) → scanned seats g word ≡ (h, Waits) → (word % 2 ≡ 1) × (word - 1 < g.raised) × (h ≡ g)
waits_law seats word g h = where_it_is (λ z. z ≡ (h, Waits) → (word % 2 ≡ 1) × (word - 1 < g.raised) × (h ≡ g)) (waits_for g.raised word) _ _
    (λ older is. let so = waited g.raised word older in (so.0, so.1, sym (ap (λ (z : Grace × Gracing). z.0) is)))
    (λ newer. where_it_is (λ z. z ≡ (h, Waits) → (word % 2 ≡ 1) × (word - 1 < g.raised) × (h ≡ g)) (g.next + 1 == seats) _ _ (λ last is. let e : Over ≡ Waits = ap (λ (z : Grace × Gracing). z.1) is in absurd (cc)) (λ more is. let e : Goes ≡ Waits = ap (λ (z : Grace × Gracing). z.1) is in absurd (cc)))

pub goes_law : (seats word : ℕ) (g h : Grace) → scanned seats g word ≡ (h, Goes) → ((word % 2 ≡ 0) ⊎ (g.raised < word)) × (h.next ≡ g.next + 1) × (h.raised ≡ g.raised)
goes_law seats word g h = where_it_is (λ z. z ≡ (h, Goes) → ((word % 2 ≡ 0) ⊎ (g.raised < word)) × (h.next ≡ g.next + 1) × (h.raised ≡ g.raised)) (waits_for g.raised word) _ _
    (λ older is. let e : Waits ≡ Goes = ap (λ (z : Grace × Gracing). z.1) is in absurd (cc))
    (λ newer. where_it_is (λ z. z ≡ (h, Goes) → ((word % 2 ≡ 0) ⊎ (g.raised < word)) × (h.next ≡ g.next + 1) × (h.raised ≡ g.raised)) (g.next + 1 == seats) _ _
    (λ last is. let e : Over ≡ Goes = ap (λ (z : Grace × Gracing). z.1) is in absurd (cc))
    (λ more is. (passed g.raised word newer, sym (ap (λ (z : Grace × Gracing). z.0.next) is), sym (ap (λ (z : Grace × Gracing). z.0.raised) is))))

pub over_law : (seats word : ℕ) (g h : Grace) → scanned seats g word ≡ (h, Over) → ((word % 2 ≡ 0) ⊎ (g.raised < word)) × (g.next + 1 ≡ seats)
over_law seats word g h = where_it_is (λ z. z ≡ (h, Over) → ((word % 2 ≡ 0) ⊎ (g.raised < word)) × (g.next + 1 ≡ seats)) (waits_for g.raised word) _ _
    (λ older is. let e : Waits ≡ Over = ap (λ (z : Grace × Gracing). z.1) is in absurd (cc))
    (λ newer. where_it_is (λ z. z ≡ (h, Over) → ((word % 2 ≡ 0) ⊎ (g.raised < word)) × (g.next + 1 ≡ seats)) (g.next + 1 == seats) _ _
    (λ last is. (passed g.raised word newer, found_equal (g.next + 1) seats last))
    (λ more is. let e : Goes ≡ Over = ap (λ (z : Grace × Gracing). z.1) is in absurd (cc)))
