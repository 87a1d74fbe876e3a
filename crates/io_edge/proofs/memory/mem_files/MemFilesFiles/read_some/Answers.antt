use Rattle.std.proofs.Common.{sym}
use Rattle.io_edge.proofs.Named.{failed_at-place}
use Rattle.io_edge.proofs.memory.mem_files.MemFilesFiles.read_some.Goals as goal

pub returns-then-fails-clause-after_failed : goal.returns-then-fails-clause-after_failed
returns-then-fails-clause-after_failed c =
    let placed = rw c.in-Some.is at c.self.invariant.placed in
    rw (← c.self.view_is, c.in-Some.is)
    (sym (failed_at-place _ _ _ _ _ _ _ _ _ c.self.invariant.counted (sym placed.first) c.next_fails-fails.ensures.after c.count_fault.ensures.faults c.count_fault.ensures.others))
