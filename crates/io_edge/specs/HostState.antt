-- What is told of the files of the system.
use Rattle.std.specs.Prelude.{ℕ, Bool, List, Option}

-- whether a file is open, what is left to read of it, where the system tells it, and the count of faults
-- of all names
pub record HostFilesState : Type 0 where
  pub is_open : Bool
  pub left : Option (List ℕ)
  pub faults : ℕ
