use Rattle.std.proofs.Common.{◌≡◌, ◌-◌}
use Rattle.intern_log.specs.Buckets.{settle_level, settle_from}
use Rattle.table_program.proofs.settle.settle_level.Given as goal

abbrev pub invariant-loop-level : goal.invariant-loop-level
invariant-loop-level l = settle_level l.load l.min_level l.max_level l.live ≡ settle_from l.load l.live l.level (l.max_level - l.level)
