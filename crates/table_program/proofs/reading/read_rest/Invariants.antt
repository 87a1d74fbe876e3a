use Rattle.std.proofs.Common.{◌≡◌, ℕ, ◌+◌, ◌≤◌, ◌-◌, ◌++◌, List, true}
use Rattle.std.specs.Option.{option_map}
use Rattle.std.specs.Vec.{vec_len}
use Rattle.table_program.proofs.reading.read_rest.Given as goal

-- what was left of the file is what was read and what is still left; the file is open, and faults never fell
abbrev pub invariant-loop-chunk : goal.invariant-loop-chunk
invariant-loop-chunk g l = record {
  within : vec_len l.bytes ≤ l.most + 1;
  so_far : g.F.Files.rest l.initial.files ≡ option_map (λ r. l.bytes.items ++ r) (g.F.Files.rest l.files);
  open_still : g.F.Files.is_open l.files ≡ true;
  same_name : g.F.Files.current l.files ≡ g.F.Files.current l.initial.files;
  keeps : (n : List ℕ) → g.F.Files.bytes_of l.files n ≡ g.F.Files.bytes_of l.initial.files n;
  counts : (n : List ℕ) → g.F.Files.faults l.initial.files n ≤ g.F.Files.faults l.files n;
}

-- the bytes that may still be asked for
abbrev pub decreases-loop-chunk : goal.decreases-loop-chunk
decreases-loop-chunk g l = l.most + 1 - vec_len l.bytes
