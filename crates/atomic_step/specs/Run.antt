-- A machine that is told words one after another, the events that it makes, and what it uses up.
use Rattle.std.specs.Prelude.{ℕ, ◌+◌, List, [], ◌∷◌, ◌++◌, Option}
use Rattle.std.specs.Option.{option_to_list}
use Rattle.intern_log.specs.declared.event.What.{What}

-- what comes of a word, which event that is, and which words may be told
pub record Machine (S : Type 0) : Type 1 where
  pub got : S → ℕ → S
  pub event : S → ℕ → Option What
  pub Fits : S → ℕ → Type 0

abbrev pub AreFitting : {S : Type 0} → Machine S → S → List ℕ → Type 0
AreFitting m s [] = Unit {0}
AreFitting m s (word ∷ words) = m.Fits s word × AreFitting m (m.got s word) words

abbrev pub after_words : {S : Type 0} → Machine S → S → List ℕ → S
after_words m s [] = s
after_words m s (word ∷ words) = after_words m (m.got s word) words

abbrev pub events_of_words : {S : Type 0} → Machine S → S → List ℕ → List What
events_of_words m s [] = []
events_of_words m s (word ∷ words) = option_to_list (m.event s word) ++ events_of_words m (m.got s word) words

-- what the steps of a run cost together
abbrev pub cost_of_words : {S : Type 0} → Machine S → (S → ℕ → ℕ) → S → List ℕ → ℕ
cost_of_words m cost s [] = 0
cost_of_words m cost s (word ∷ words) = cost s word + cost_of_words m cost (m.got s word) words
