-- The report that files' bytes and two logs define.
use Rattle.std.specs.Prelude.{◌≡◌, ℕ, ◌^◌, List, [], ◌∷◌, length, sum_by}
use Rattle.std.specs.List.{flat_map}
use Rattle.intern_log.specs.declared.event.Event.{Event}
use Rattle.intern_log.specs.Buckets.{settle_level, longest_bucket}
use Rattle.intern_log.specs.Finals.{finals, distinct_texts}
use Rattle.intern_log.specs.Counts.{events_in, is_create, is_take, is_found, is_drop, is_kill}
use Rattle.intern_log.specs.PlainLogs.{IsPlainSymbolLog, IsPlainStringLog}
use Rattle.table_report.specs.declared.Report.{Report}
use Rattle.table_report.specs.declared.Statistics2.{Statistics2}
use Rattle.table_report.specs.declared.SymbolCounts.{SymbolCounts}
use Rattle.table_report.specs.declared.StringCounts.{StringCounts}
use Rattle.name_scan.specs.FileTexts.{names_of, literals_of}
use Rattle.table_report.specs.Report.{report_lines}

-- how many texts a bucket holds on the average where a table settles
abbrev pub symbol_load : ℕ
symbol_load = 8

abbrev pub string_load : ℕ
string_load = 2

-- the last `hold` names of each file, and the last `hold` literals
abbrev pub final_names : List (List ℕ) → ℕ → List (List ℕ)
final_names files hold = flat_map (λ file. finals hold (names_of file)) files

abbrev pub final_literals : List (List ℕ) → ℕ → List (List ℕ)
final_literals files hold = flat_map (λ file. finals hold (literals_of file)) files

-- a table of these live texts at the level where it settles
abbrev pub settled : ℕ → ℕ → ℕ → List (List ℕ) → ℕ → Statistics2
settled load min_level max_level live references =
    let level = settle_level load min_level max_level (length live) in
    record { live = length live; references = references; buckets = 2 ^ level; longest = longest_bucket 0 level live }

abbrev pub symbol_counts : List Event → SymbolCounts
symbol_counts log = record { created = events_in is_create log; taken = events_in is_take log; dropped = events_in is_drop log }

abbrev pub string_counts : List Event → StringCounts
string_counts log = record { created = events_in is_create log; found = events_in is_found log; killed = events_in is_kill log }

-- what a run over the files tells: the names and the final names, settled; the same of the literals, to which no reference is held; the numbers of the events of the two logs
abbrev pub report_of : List (List ℕ) → ℕ → ℕ → ℕ → List Event → List Event → Report
report_of files hold min_level max_level symbol_log string_log = record {
  names = sum_by (λ file. length (names_of file)) files;
  symbols = settled symbol_load min_level max_level (distinct_texts (final_names files hold)) (length (final_names files hold));
  literals = sum_by (λ file. length (literals_of file)) files;
  strings = settled string_load min_level max_level (distinct_texts (final_literals files hold)) 0;
  symbol_log = symbol_counts symbol_log;
  string_log = string_counts string_log;
}

-- the text of that report
abbrev pub report : List (List ℕ) → ℕ → ℕ → ℕ → List Event → List Event → List ℕ
report files hold min_level max_level symbol_log string_log = report_lines (report_of files hold min_level max_level symbol_log string_log)

-- what `plain` takes in place of options: how many handles are held, and the least and the greatest level
abbrev pub plain_hold : ℕ
plain_hold = 16

abbrev pub plain_min_level : ℕ
plain_min_level = 3

abbrev pub plain_max_level : ℕ
plain_max_level = 16

-- the text is the report of the file's bytes and its plain logs
pub record IsPlainReport (bytes text : List ℕ) : Type 0 where
  pub symbol_log : List Event
  pub string_log : List Event
  pub symbols : IsPlainSymbolLog plain_hold (names_of bytes) symbol_log
  pub strings : IsPlainStringLog plain_hold (literals_of bytes) string_log
  pub is_report : text ≡ report (bytes ∷ []) plain_hold plain_min_level plain_max_level symbol_log string_log
