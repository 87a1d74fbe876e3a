use Rattle.std.proofs.Common.{◌≡◌, take}
use Rattle.intern_log.specs.Now.{now_of}
use Rattle.intern_log.specs.Lawful.{IsLawful}
use Rattle.log_check.proofs.check.first_unlawful.Given as goal

abbrev pub invariant-loop-place : goal.invariant-loop-place
invariant-loop-place l = record {
  lawful : IsLawful l.table (take l.place l.events);
  texts : l.texts ≡ (now_of l.table.min_level (take l.place l.events)).texts;
}
