-- The lines of bytes, and which of them count.
use Rattle.std.specs.Prelude.{ℕ, ◌+◌, Bool, true, List, [], ◌∷◌, ◌==◌, if◌then◌else◌}
use Rattle.schedule_sim.specs.Parts.{parts_at}

-- the parts without an empty last one
abbrev pub without_empty_last : List (List ℕ) → List (List ℕ)
without_empty_last [] = []
without_empty_last ([] ∷ []) = []
without_empty_last (part ∷ parts) = part ∷ without_empty_last parts

-- the lines: what stands between newlines, where a last line without one counts if it is not empty
abbrev pub lines_of : List ℕ → List (List ℕ)
lines_of bytes = without_empty_last (parts_at 10 bytes)

-- a line is passed over where it is empty or begins with `#`
abbrev pub is_passed_over : List ℕ → Bool
is_passed_over [] = true
is_passed_over (b ∷ bs) = b == 35

-- the lines that are not passed over, each with its number, where the first has the number n
abbrev pub told_from : ℕ → List (List ℕ) → List (ℕ × List ℕ)
told_from n [] = []
told_from n (line ∷ lines) = if is_passed_over line then told_from (n + 1) lines else (n, line) ∷ told_from (n + 1) lines

-- the lines of bytes that are not passed over, numbered from 1
abbrev pub told_lines : List ℕ → List (ℕ × List ℕ)
told_lines bytes = told_from 1 (lines_of bytes)
