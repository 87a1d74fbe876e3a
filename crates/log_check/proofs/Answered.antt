-- What a test of the code says of the model.
use Rattle.std.proofs.Common.{◌≡◌, ℕ, Bool, true, false, not, Option, Some, None, refl, sym, ap, subst, ◌∙◌, ◌↔◌}
use Rattle.std.specs.Prelude.{nat_eq}
use Rattle.std.specs.Option.{is_some, option_eq}
use Rattle.std.proofs.lemmas.Bool.Decides.{Decides-eqb}
use Rattle.intern_log.specs.Now.{Phase, Vacant, Claimed, Linked, Unlinked, OpenSection, Resizing, Now}
use Rattle.intern_log.specs.Lawful.{IsGracedSince, MayFree}
use Rattle.log_check.specs.declared.past.SlotPhase.TheVariants as seen
use Rattle.log_check.specs.Parts.{phase_seen, HasUnlinked}
use Rattle.log_check.proofs.PartLaws.{place_in, seat_in}

-- an answer that is another one says what that one says
pub along : {P : Type 0} (b c : Bool) → b ≡ c → (c ≡ true) ↔ P → (b ≡ true) ↔ P
along b c is says = ((λ yes. says.0 (sym is ∙ yes)), (λ holds. is ∙ says.1 holds))

-- of two tests in a row: the first is passed, or it is not
pub and_then : {P Q : Type 0} (b : Bool) → P → (b ≡ true) ↔ Q → (b ≡ true) ↔ (P × Q)
and_then b first says = ((λ yes. (first, says.0 yes)), (λ both. says.1 both.1))

pub and_else : {P Q : Type 0} (b : Bool) → b ≡ false → (b ≡ true) ↔ P → (b ≡ true) ↔ (P × Q)
and_else b failed says = ((λ yes. absurd (cc)), (λ both. says.1 both.0))

-- the same, where the second tells three facts
pub and_then_three : {P A B C : Type 0} (b : Bool) → P → (b ≡ true) ↔ (A × B × C) → (b ≡ true) ↔ (P × A × B × C)
and_then_three b first says = ((λ yes. let all = says.0 yes in (first, all.0, all.1, all.2)), (λ all. says.1 (all.1, all.2, all.3)))

pub and_else_three : {P A B C : Type 0} (b : Bool) → b ≡ false → (b ≡ true) ↔ P → (b ≡ true) ↔ (P × A × B × C)
and_else_three b failed says = ((λ yes. absurd (cc)), (λ all. says.1 all.0))

one_resizing : (r x : Resizing) → Some r ≡ Some x → r.seat ≡ x.seat
one_resizing r x is = let same : r ≡ x = cc in ap (λ (y : Resizing). y.seat) same

-- somebody in particular has the resize lock
pub owner_is_seat : (r : Option Resizing) (k : ℕ) → (option_eq nat_eq (seat_in r) (Some k) ≡ true) ↔ ((x : Resizing) × (r ≡ Some x) × (x.seat ≡ k))
owner_is_seat None k = ((λ is. absurd (cc)), (λ has. absurd (cc)))
owner_is_seat (Some r) k = ((λ is. (r, refl, (Decides-eqb r.seat k).0 is)), (λ has. (Decides-eqb r.seat k).1 (one_resizing r has.0 has.1 ∙ has.2)))

-- nobody has it
pub not_taken : (r : Option Resizing) → is_some (seat_in r) ≡ false → r ≡ None
not_taken None is = refl
not_taken (Some r) is = absurd (cc)

-- a section is open
pub is_opened : (o : Option OpenSection) → (is_some (place_in o) ≡ true) ↔ ((x : OpenSection) × (o ≡ Some x))
is_opened None = ((λ is. absurd (cc)), (λ has. absurd (cc)))
is_opened (Some x) = ((λ is. (x, refl)), (λ has. refl))

-- the seat has no slot left that it unlinked
pub none_left : (now : Now) (k : ℕ) (b : Bool) → (b ≡ true) ↔ HasUnlinked now k → (not b ≡ true) ↔ ((s place : ℕ) → now.slot s ≡ Unlinked k place → ⊥)
none_left now k true says = ((λ is. absurd (cc)), (λ none. let has = says.0 refl in absurd (none has.0 has.1 has.2)))
none_left now k false says = ((λ is s place left. let some : false ≡ true = says.1 (s, place, left) in absurd (cc)), (λ none. refl))

-- the phase of a slot that the code sees as unlinked
pub unlinked_seen : (phase : Phase) (owner place : ℕ) → seen.Unlinked owner place ≡ phase_seen phase → Unlinked owner place ≡ phase
unlinked_seen Vacant owner place is = absurd (cc)
unlinked_seen (Claimed o) owner place is = absurd (cc)
unlinked_seen (Linked t h born) owner place is = absurd (cc)
unlinked_seen (Unlinked o p) owner place is = cc

-- a seat may free what it unlinked once the sections of then are closed
pub unlinked_may_be_freed : (now : Now) (seat owner place : ℕ) (b : Bool) (phase : Phase) → seen.Unlinked owner place ≡ phase_seen phase → owner ≡ seat →
    (b ≡ true) ↔ IsGracedSince now place → (b ≡ true) ↔ MayFree now seat phase
unlinked_may_be_freed now seat owner place b phase is own says = subst (λ p. (b ≡ true) ↔ MayFree now seat p) (unlinked_seen phase owner place is) (and_then b own says)
