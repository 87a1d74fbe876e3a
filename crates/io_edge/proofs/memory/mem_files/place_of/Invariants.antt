use Rattle.std.proofs.Common.{◌≡◌, ◌+◌, drop}
use Rattle.io_edge.specs.MemFilesState.{place_named}
use Rattle.io_edge.proofs.memory.mem_files.place_of.Given as goal

-- no file so far has the name
abbrev pub invariant-loop-place : goal.invariant-loop-place
invariant-loop-place l = place_named l.files l.name ≡ l.place + place_named (drop l.place l.files) l.name
