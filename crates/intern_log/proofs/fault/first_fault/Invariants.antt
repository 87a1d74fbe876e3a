use Rattle.std.proofs.Common.{◌≡◌, take}
use Rattle.intern_log.specs.Log.{map_of, IsLegal}
use Rattle.intern_log.proofs.fault.first_fault.Given as goal

-- what stands before is legal, and the replay has its map
abbrev pub invariant-loop-place : goal.invariant-loop-place
invariant-loop-place l = record { texts : l.replay ≡ map_of (take l.place l.events); legal : IsLegal (take l.place l.events) }
