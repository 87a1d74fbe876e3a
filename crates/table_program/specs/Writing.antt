-- What a write of a whole text leaves where it fails.
use Rattle.std.specs.Prelude.{◌≡◌, ℕ, ◌<◌, List, ◌++◌, length, take, Option, option_map}

-- some bytes from the front of the text were written, and the last one was not
pub record WritesPart (text : List ℕ) (old new : Option (List ℕ)) : Type 0 where
  pub count : ℕ
  pub short : count < length text
  pub appends : new ≡ option_map (λ w. w ++ take count text) old
