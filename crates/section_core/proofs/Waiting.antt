-- For which section words a grace waits.
use Rattle.std.proofs.Common.{◌≡◌, ◌<◌, ◌≤◌, ◌+◌, ◌-◌, ◌*◌, ◌%◌, ℕ, List, [], ◌⊎◌, ⊎_elim, length, get_or, Option, Some, None, IfSome, refl, sym, ap, ◌∙◌, true, false, ◌&&◌}
use native.Mathlib.Omega.{arith}
use Rattle.std.specs.List.{slice_get}
use Rattle.std.specs.Option.{is_some, option_map}
use Rattle.std.specs.Prelude.{nat_lt}
use Rattle.std.proofs.lemmas.Bool.{eq-eqb, ne_eqb, lt-ltb, le-ltb, le-leb, lt-leb, cases_eq, cases_lt}
use Rattle.section_core.specs.Sections.{was_inside, graces_of}
use Rattle.section_core.specs.Words.{section_word, waits_for}
use Rattle.section_core.proofs.Graces.{waits_is}

pub even_passed : (raised word : ℕ) → word % 2 ≡ 0 → waits_for raised word ≡ false
even_passed raised word even = ap (λ odd. odd && nat_lt (word - 1) raised) (ne_eqb (word % 2) 1 (λ odd. absurd (omega (arith, even, odd))))

-- what is left of the comparison at a word with bit 0 set
odd_compared : (raised word : ℕ) → word % 2 ≡ 1 → waits_for raised word ≡ nat_lt (word - 1) raised
odd_compared raised word odd = ap (λ is. is && nat_lt (word - 1) raised) (eq-eqb (word % 2) 1 odd)

pub opened_before : (raised counter : ℕ) → counter % 2 ≡ 0 → counter < raised → waits_for raised (section_word (Some counter)) ≡ true
opened_before raised counter even below = odd_compared raised (counter + 1) (omega (arith, even)) ∙ lt-ltb (counter + 1 - 1) raised (omega (arith, below))

pub opened_since : (raised counter : ℕ) → raised ≤ counter → waits_for raised (section_word (Some counter)) ≡ false
opened_since raised counter above = ⊎_elim
    (λ odd. odd_compared raised (counter + 1) odd ∙ le-ltb (counter + 1 - 1) raised (omega (arith, above)))
    (λ even. ap (λ is. is && nat_lt (counter + 1 - 1) raised) (ne_eqb ((counter + 1) % 2) 1 even))
    (cases_eq ((counter + 1) % 2) 1)

-- which sections a grace finds open
pub found_inside : (found : ℕ) (opened_by : Option ℕ) → IfSome opened_by (λ counter. (counter % 2 ≡ 0) × (counter ≤ found)) → waits_for (found + 2) (section_word opened_by) ≡ is_some opened_by
found_inside found None is = even_passed (found + 2) 0 refl
found_inside found (Some counter) is = opened_before (found + 2) counter is.0 (omega (arith, is.1))

pub passed_stays : (raised by : ℕ) (old new : ℕ → Option ℕ) → ((seat : ℕ) → (seat ≡ by → ⊥) → new seat ≡ old seat) → (new by ≡ old by) ⊎ IfSome (new by) (λ counter. raised ≤ counter) →
    (seat : ℕ) → waits_for raised (section_word (old seat)) ≡ false → waits_for raised (section_word (new seat)) ≡ false
passed_stays raised by old new others by_step seat passed = ⊎_elim
    (λ here. ⊎_elim
    (λ left. ap (λ n. waits_for raised (section_word (new n))) here ∙ ap (λ s. waits_for raised (section_word s)) left ∙ ap (λ n. waits_for raised (section_word (old n))) (sym here) ∙ passed)
    (λ opened. ap (λ n. waits_for raised (section_word (new n))) here ∙ now (new by) opened)
    by_step)
    (λ there. ap (λ s. waits_for raised (section_word s)) (others seat there) ∙ passed)
    (cases_eq seat by)
  where
    now : (section : Option ℕ) → IfSome section (λ counter. raised ≤ counter) → waits_for raised (section_word section) ≡ false
    now None is = even_passed raised 0 refl
    now (Some counter) is = opened_since raised counter is

pub was_inside-words : (first number : ℕ) (entered : Option ℕ) → first % 2 ≡ 0 → was_inside number entered ≡ waits_for (first + 2 * number + 2) (section_word (option_map (λ before. first + 2 * before) entered))
was_inside-words first number None even = sym (even_passed (first + 2 * number + 2) 0 refl)
was_inside-words first number (Some before) even = ⊎_elim
    (λ later. lt-leb before number later ∙ sym (opened_since (first + 2 * number + 2) (first + 2 * before) (omega (arith, later))))
    (λ earlier. le-leb before number earlier ∙ sym (opened_before (first + 2 * number + 2) (first + 2 * before) (omega (arith, even)) (omega (arith, earlier))))
    (cases_lt number before)

pub seat-words : (first begun number seat : ℕ) (entered : List (Option ℕ)) → first % 2 ≡ 0 → number < begun → seat < length entered →
    slice_get (get_or (graces_of begun entered) number []) seat ≡ Some (waits_for (first + 2 * number + 2) (section_word (option_map (λ before. first + 2 * before) (get_or entered seat None))))
seat-words first begun number seat entered even below within = waits_is begun number seat entered below within ∙ ap Some (was_inside-words first number (get_or entered seat None) even)
