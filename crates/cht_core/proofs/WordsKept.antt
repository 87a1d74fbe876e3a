-- A sound step leaves words that may stand in the table.
use Rattle.std.proofs.Common.{◌≡◌, ℕ, refl, ◌<◌, ◌≤◌, ◌-◌, ◌*◌, ◌^◌, true, false, arith, rules}
use Rattle.std.proofs.Math.Nat.{le-mul_of_pos_right}
use Rattle.std.proofs.lemmas.Bool.Decides.{nat_tests}
use Rattle.table_shape.specs.declared.shape.Shape.{Shape}
use Rattle.table_shape.specs.declared.place.Place.{Place}
use Rattle.table_shape.specs.declared.place.Place.TheVariants as place
use Rattle.table_shape.specs.Place.{IsInside}
use Rattle.table_shape.specs.Shape.{IsSound, slot_words, words_of}
use Rattle.atomic_step.specs.declared.step.Step.{Step}
use Rattle.atomic_step.specs.Access.{word_after}
use Rattle.atomic_step.specs.SoundStep.{IsSoundStep}
use Rattle.atomic_step.specs.Step.{access_of}
use Rattle.atomic_step.specs.Table.{IsWordAt}
use Rattle.cht_core.specs.declared.table.Table.{Table}
use Rattle.cht_core.specs.Memory.{Memory, IsMade, found, is_inside}
use Rattle.cht_core.specs.TableState.{Words}
use Rattle.cht_core.proofs.Basics.{at_places}

-- a table of the shape has the word where it is inside
pub inside_is_true : (shape : Shape) (p : Place) → IsInside shape p → is_inside shape p ≡ true
inside_is_true shape place.Draws inside = refl
inside_is_true shape place.Counter inside = refl
inside_is_true shape place.ResizeLock inside = refl
inside_is_true shape place.Level inside = refl
inside_is_true shape place.NewLevel inside = refl
inside_is_true shape (place.Section number) inside = grind (arith, nat_tests)
inside_is_true shape (place.Head row bucket) inside = grind (arith, nat_tests)
inside_is_true shape (place.Claim slot) inside = grind (arith, nat_tests)
inside_is_true shape (place.Link slot) inside = grind (arith, nat_tests)
inside_is_true shape (place.Count slot) inside = grind (arith, nat_tests)
inside_is_true shape (place.Meta slot) inside = grind (arith, nat_tests)
inside_is_true shape (place.Text slot at) inside = grind (arith, nat_tests)

-- a table has at most 2^27 slots
pub slots_few : (shape : Shape) → IsSound shape → shape.slots ≤ 2 ^ 27
slots_few shape sound =
    let most : words_of shape ≤ 2 ^ 27 = sound.small in
    let each : shape.slots ≤ shape.slots * slot_words shape = le-mul_of_pos_right {m = slot_words shape} shape.slots (omega arith) in
    omega (arith, most, each)

-- the word of a sound step may stand at its place after it
pub word_kept : (shape : Shape) (seat : ℕ) (s : Step) (word : ℕ) → seat < shape.seats → IsSoundStep shape seat s
    → IsWordAt shape (access_of s).place word → IsWordAt shape (access_of s).place (word_after (access_of s).deed word)
word_kept shape seat s word small sound is = search rules

-- a sound step keeps the words of the table, where its word is small and the counter has room
pub words_kept : (t : Table) (m m' : Memory) (i : ℕ) (s : Step) → Words t m → i < t.shape.seats → IsSoundStep t.shape i s → IsMade s m m'
    → word_after (access_of s).deed (found s m) < 2 ^ 64 → m' place.Counter ≤ 2 ^ 64 - 4 → Words t m'
words_kept t m m' i s words within sound made small counter = record {
  sound = at_places s m m' (λ p w. IsWordAt t.shape p w) made (word_kept t.shape i s (found s m) within sound (words.sound (access_of s).place)) (λ p differ. words.sound p);
  small = at_places s m m' (λ p w. w < 2 ^ 64) made small (λ p differ. words.small p);
  counter = counter;
  outside = at_places s m m' (λ p w. is_inside t.shape p ≡ false → w ≡ 0) made
      (λ out. let here : is_inside t.shape (access_of s).place ≡ true = inside_is_true t.shape (access_of s).place sound.0 in absurd (cc)) (λ p differ. words.outside p);
}
