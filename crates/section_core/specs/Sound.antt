-- What holds of the fields of sections.
use Rattle.std.specs.Prelude.{◌<◌, ◌≤◌, ◌+◌, ◌*◌, ◌^◌, ℕ, Option, List, All, IfSome, length}

-- the counter passes 2^48 by less than 2, there are fewer seats than numbers for them, and no section remembers a grace to come
pub record IsSound (first begun : ℕ) (entered : List (Option ℕ)) : Type 0 where
  pub counter : first + 2 * begun < 2 ^ 48 + 2
  pub seats : length entered < 2 ^ 32
  pub remembered : All (λ section. IfSome section (λ before. before ≤ begun)) entered
