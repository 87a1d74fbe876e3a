-- Counts of faults, which rise up to an end.
use Rattle.std.specs.Prelude.{ℕ, ◌<◌, ◌+◌, ◌-◌, ◌^◌, min, max}

-- the highest value of a count of faults: a count there stands still
abbrev pub FAULTS_END : ℕ
FAULTS_END = 2 ^ 64 - 1

-- the count rose, or stood at its end
abbrev pub Rose : ℕ → ℕ → Type 0
Rose old new = old < FAULTS_END → old < new

-- one more, up to the end
abbrev pub raised : ℕ → ℕ
raised count = max count (min (count + 1) FAULTS_END)
