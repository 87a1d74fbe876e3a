-- The numbers of a table, as the map of its log has them.
use Rattle.std.specs.Prelude.{◌≡◌, ℕ, ◌^◌, ◌==◌, List, length, count_by}
use Rattle.std.specs.FinMap as finite
use Rattle.intern_log.specs.declared.event.Entry.{Entry}
use Rattle.intern_log.specs.declared.event.Event.{Event}
use Rattle.intern_log.specs.Buckets.{longest_bucket}
use Rattle.intern_log.specs.EntryCounts.{references_of}
use Rattle.intern_log.specs.Log.{map_of}
use Rattle.intern_log.specs.TextMap.{TextMap, live_texts}
use Rattle.cht_core.specs.declared.table.Table.{Table}
use Rattle.cht_core.specs.Causes.{now_in}
use Rattle.cht_run.specs.declared.statistics.Statistics.{Statistics}

-- how many live entries have the count that no drop lowers
abbrev pub permanent_of : TextMap → ℕ
permanent_of m = count_by (λ (e : Entry). e.count == 65535) (finite.values m)

-- the numbers of a table at the end of a log
pub record IsStatistics (t : Table) (log : List Event) (s : Statistics) : Type 0 where
  pub level : s.level ≡ (now_in t log).level
  pub buckets : s.buckets ≡ 2 ^ (now_in t log).level
  pub live : s.live ≡ length (live_texts (map_of log))
  pub permanent : s.permanent ≡ permanent_of (map_of log)
  pub references : s.references ≡ references_of (map_of log)
  pub longest : s.longest ≡ longest_bucket (now_in t log).seed (now_in t log).level (live_texts (map_of log))
