-- A machine that does the same as another inside a larger whole has the same runs.
use Rattle.std.proofs.Common.{◌≡◌, ◌∙◌, ap, subst, ℕ, refl, List, [], ◌∷◌, ◌++◌}
use Rattle.std.specs.Option.{option_to_list}
use Rattle.atomic_step.specs.Run.{Machine, AreFitting, after_words, events_of_words}

-- what each step shows of the larger one
pub record DoesTheSame {S T : Type 0} (part : Machine S) (whole : Machine T) (f : S → T) : Type 0 where
  pub got : (s : S) (word : ℕ) → whole.got (f s) word ≡ f (part.got s word)
  pub event : (s : S) (word : ℕ) → whole.event (f s) word ≡ part.event s word
  pub fits : (s : S) (word : ℕ) → whole.Fits (f s) word → part.Fits s word

pub same_run : {S T : Type 0} (part : Machine S) (whole : Machine T) (f : S → T) → DoesTheSame part whole f → (s : S) (words : List ℕ) → AreFitting whole (f s) words
    → AreFitting part s words × (events_of_words whole (f s) words ≡ events_of_words part s words) × (after_words whole (f s) words ≡ f (after_words part s words))
same_run part whole f same s [] fits = (tt, refl, refl)
same_run part whole f same s (word ∷ words) fits =
    let next = part.got s word in
    let rest = same_run part whole f same next words (subst (λ t. AreFitting whole t words) (same.got s word) fits.1) in (
      (same.fits s word fits.0, rest.0),
      ap (λ t. option_to_list (whole.event (f s) word) ++ events_of_words whole t words) (same.got s word) ∙ ap (λ e. option_to_list e ++ events_of_words whole (f next) words) (same.event s word) ∙ ap (λ es. option_to_list (part.event s word) ++ es) rest.1,
      ap (λ t. after_words whole t words) (same.got s word) ∙ rest.2,
    )
