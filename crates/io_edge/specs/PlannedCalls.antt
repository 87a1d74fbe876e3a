-- Calls that are numbered from 1, some of which are planned to fail.
use Rattle.std.specs.Prelude.{ℕ, Bool, ◌==◌, List}
use Rattle.std.specs.List.{list_any}
use Rattle.io_edge.specs.Faults.{raised}

-- how many calls were made, and the numbers of those that fail
pub record PlannedCalls : Type 0 where
  pub made : ℕ
  pub failing : List ℕ

-- whether the next call is one of those that fail
abbrev pub next_fails : PlannedCalls → Bool
next_fails calls = list_any (λ n. n == raised calls.made) calls.failing

-- the same plan after one call more
abbrev pub one_more : PlannedCalls → PlannedCalls
one_more calls = record calls { made = raised calls.made }
