use Rattle.std.proofs.Common.{◌≤◌, sym, subst}
use Rattle.io_edge.proofs.Named.{failed_at-place, failed_at-faults}
use Rattle.io_edge.specs.MemFilesState.{MemFilesState, faults_named}
use Rattle.io_edge.proofs.memory.mem_files.MemFilesFiles.open_file.Goals as goal

pub returns-then-fails-clause-after_failed : goal.returns-then-fails-clause-after_failed
returns-then-fails-clause-after_failed c =
    let place = rw (c.as_slice.ensures.value, c.as_bytes.ensures.value) at c.place_of-file.ensures in
    rw (← c.self.view_is)
    (sym (failed_at-place _ _ _ _ _ _ _ _ _ c.self.invariant.counted place c.next_fails-fails.ensures.after c.count_fault.ensures.faults c.count_fault.ensures.others))

pub returns-then-fails-clause-never_falls : goal.returns-then-fails-clause-never_falls
returns-then-fails-clause-never_falls c =
    λ n. subst (λ (state : MemFilesState). faults_named c.args.self.now n ≤ faults_named state n)
    (sym (returns-then-fails-clause-after_failed c)) (failed_at-faults c.args.self.now c.args.name.now n)
