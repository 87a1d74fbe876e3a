-- A step on the words of a table, by places.
use Rattle.std.proofs.Common.{◌≡◌, ℕ, ◌<◌, ◌≢◌, List, length, refl, sym, subst, Bool, true, false, ◌==◌, arith, rules}
use Rattle.std.proofs.lemmas.List.{get_or-set_same, get_or-set_other}
use Rattle.table_shape.specs.declared.shape.Shape.{Shape}
use Rattle.table_shape.specs.declared.place.Place.{Place}
use Rattle.table_shape.specs.Shape.{words_of}
use Rattle.table_shape.specs.Place.{IsInside, index_of}
use Rattle.table_shape.proofs.Places.{same_place, index_within}
use Rattle.atomic_step.specs.declared.step.Step.{Step}
use Rattle.atomic_step.specs.Access.{word_after}
use Rattle.atomic_step.specs.SoundStep.{IsSoundStep}
use Rattle.atomic_step.specs.Step.{access_of}
use Rattle.atomic_step.specs.Table.{word_at, words_after, IsWordAt, AreWordsOf}
use Rattle.atomic_step.proofs.Choices.{found_equal, not_equal}

pub own : (shape : Shape) (s : Step) (words : List ℕ) → length words ≡ words_of shape → IsInside shape (access_of s).place
    → word_at shape (access_of s).place (words_after shape s words) ≡ word_after (access_of s).deed (word_at shape (access_of s).place words)
own shape s words whole inside =
    let below : index_of shape (access_of s).place < words_of shape = index_within shape (access_of s).place inside in
    get_or-set_same words (index_of shape (access_of s).place) (word_after (access_of s).deed (word_at shape (access_of s).place words)) 0 (omega (arith, below))

elsewhere : (shape : Shape) (s : Step) (words : List ℕ) (other : Place) → index_of shape other ≢ index_of shape (access_of s).place → word_at shape other (words_after shape s words) ≡ word_at shape other words
elsewhere shape s words other differ =
    get_or-set_other words (index_of shape (access_of s).place) (index_of shape other) (word_after (access_of s).deed (word_at shape (access_of s).place words)) 0 differ

pub others : (shape : Shape) (s : Step) (words : List ℕ) (other : Place) → IsInside shape (access_of s).place → IsInside shape other → ¬ (other ≡ (access_of s).place)
    → word_at shape other (words_after shape s words) ≡ word_at shape other words
others shape s words other inside within differ = elsewhere shape s words other (λ is. differ (same_place shape other (access_of s).place within inside is))

keeps_word : (shape : Shape) (seat : ℕ) (s : Step) (word : ℕ) → seat < shape.seats → IsSoundStep shape seat s
    → IsWordAt shape (access_of s).place word → IsWordAt shape (access_of s).place (word_after (access_of s).deed word)
keeps_word shape seat s word small sound is = search rules

-- at a place that has the index of the step's, or another one
at_place : (shape : Shape) (seat : ℕ) (s : Step) (words : List ℕ) → length words ≡ words_of shape → seat < shape.seats → IsSoundStep shape seat s → AreWordsOf shape words
    → (p : Place) → IsInside shape p → (same : Bool) → (index_of shape p == index_of shape (access_of s).place) ≡ same → IsWordAt shape p (word_at shape p (words_after shape s words))
at_place shape seat s words whole small sound are p inside true e =
    let is : p ≡ (access_of s).place = same_place shape p (access_of s).place inside sound.0 (found_equal (index_of shape p) (index_of shape (access_of s).place) e) in
    let kept : IsWordAt shape (access_of s).place (word_after (access_of s).deed (word_at shape (access_of s).place words)) =
    keeps_word shape seat s (word_at shape (access_of s).place words) small sound (are (access_of s).place sound.0) in
    subst (λ q. IsWordAt shape q (word_at shape q (words_after shape s words))) (sym is) (subst (IsWordAt shape (access_of s).place) (sym (own shape s words whole sound.0)) kept)
at_place shape seat s words whole small sound are p inside false e =
    subst (IsWordAt shape p) (sym (elsewhere shape s words p (not_equal (index_of shape p) (index_of shape (access_of s).place) e))) (are p inside)

pub keeps_table : (shape : Shape) (seat : ℕ) (s : Step) (words : List ℕ) → length words ≡ words_of shape → seat < shape.seats → IsSoundStep shape seat s → AreWordsOf shape words
    → AreWordsOf shape (words_after shape s words)
keeps_table shape seat s words whole small sound are p inside = at_place shape seat s words whole small sound are p inside (index_of shape p == index_of shape (access_of s).place) refl
