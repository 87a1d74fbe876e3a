-- The report of a file, from what its names and its literals come to.
use Rattle.std.proofs.Common.{◌≡◌, ℕ, List, [], ◌∷◌, length, sym, ap, ◌∙◌, append-nil, zero-add}
use Rattle.std.specs.Prelude.{Result, Ok, Err, IfOk}
use Rattle.intern_log.specs.Finals.{finals, distinct_texts}
use Rattle.intern_log.specs.EntryCounts.{references_of}
use Rattle.intern_log.specs.TextMap.{TextMap, live_texts}
use Rattle.table_report.specs.declared.Report.{Report}
use Rattle.table_report.specs.declared.Statistics2.{Statistics2}
use Rattle.table_report.specs.declared.SymbolCounts.{SymbolCounts}
use Rattle.table_report.specs.declared.StringCounts.{StringCounts}
use Rattle.name_scan.specs.FileTexts.{names_of, literals_of}
use Rattle.table_report.specs.FileReport.{settled, symbol_load, string_load, report_of, plain_hold, plain_min_level, plain_max_level, IsPlainReport}
use Rattle.table_program.specs.Symbols.{IsSymbolsOf}
use Rattle.table_report.specs.Report.{report_lines}
use Rattle.table_program.specs.StringRun.{IsStringsOf}

-- the report of one file from what two interners and the counts show
unfoldable pub report_from : List (List ℕ) → TextMap → ℕ → SymbolCounts → List (List ℕ) → TextMap → StringCounts → Report
report_from names symbols references symbol_log literals strings string_log = record {
  names = length names;
  symbols = settled symbol_load plain_min_level plain_max_level (live_texts symbols) references;
  literals = length literals;
  strings = settled string_load plain_min_level plain_max_level (live_texts strings) 0;
  symbol_log = symbol_log;
  string_log = string_log;
}

-- the same as the report of the one file
same_report : (bs : List ℕ) (symbols : TextMap) (symbol_counts : SymbolCounts) (strings : TextMap) (string_counts : StringCounts)
    (of_names : IsSymbolsOf plain_hold (names_of bs) symbols symbol_counts) (of_literals : IsStringsOf plain_hold (literals_of bs) strings string_counts) →
    report_from (names_of bs) symbols (references_of symbols) symbol_counts (literals_of bs) strings string_counts
    ≡ report_of (bs ∷ []) plain_hold plain_min_level plain_max_level of_names.log of_literals.log
unfolding report_from
same_report bs symbols symbol_counts strings string_counts of_names of_literals =
    let final_names = sym (append-nil (finals plain_hold (names_of bs))) in
    let final_literals = sym (append-nil (finals plain_hold (literals_of bs))) in
    let symbols_are = ap (λ live. settled symbol_load plain_min_level plain_max_level live (references_of symbols)) (of_names.live_are ∙ ap distinct_texts final_names)
    ∙ ap (settled symbol_load plain_min_level plain_max_level _) (of_names.references_are ∙ ap length final_names) in
    let strings_are = ap (λ live. settled string_load plain_min_level plain_max_level live 0) (of_literals.live_are ∙ ap distinct_texts final_literals) in
    let names_are = sym (zero-add (length (names_of bs))) in
    let literals_are = sym (zero-add (length (literals_of bs))) in
    λ i. record {
      names = names_are i;
      symbols = symbols_are i;
      literals = literals_are i;
      strings = strings_are i;
      symbol_log = sym of_names.counts_are i;
      string_log = sym of_literals.counts_are i;
    }

pub is_plain_report : (bs : List ℕ) (symbols : TextMap) (symbol_counts : SymbolCounts) (strings : TextMap) (string_counts : StringCounts) (text : List ℕ) →
    IsSymbolsOf plain_hold (names_of bs) symbols symbol_counts → IsStringsOf plain_hold (literals_of bs) strings string_counts →
    text ≡ report_lines (report_from (names_of bs) symbols (references_of symbols) symbol_counts (literals_of bs) strings string_counts) → IsPlainReport bs text
is_plain_report bs symbols symbol_counts strings string_counts text of_names of_literals lines = record {
  symbol_log = of_names.log;
  string_log = of_literals.log;
  symbols = of_names.is_log;
  strings = of_literals.is_log;
  is_report = lines ∙ ap report_lines (same_report bs symbols symbol_counts strings string_counts of_names of_literals);
}

-- what holds of each value where there is one
pub IfOk-weaker : {T E : Type 0} (r : Result T E) (P Q : T → Type 0) → ((x : T) → P x → Q x) → IfOk r P → IfOk r Q
IfOk-weaker (Ok x) P Q weaker holds = weaker x holds
IfOk-weaker (Err e) P Q weaker holds = tt

-- a report whose numbers are these is the one that the interners and the counts show
pub told_report : (names : List (List ℕ)) (symbols : TextMap) (symbol_counts : SymbolCounts) (literals : List (List ℕ)) (strings : TextMap) (string_counts : StringCounts)
    (name_count literal_count references : ℕ) (of_symbols of_strings : Statistics2) →
    name_count ≡ length names → literal_count ≡ length literals → references ≡ references_of symbols →
    of_symbols ≡ settled symbol_load plain_min_level plain_max_level (live_texts symbols) references →
    of_strings ≡ settled string_load plain_min_level plain_max_level (live_texts strings) 0 →
    record { names = name_count; symbols = of_symbols; literals = literal_count; strings = of_strings; symbol_log = symbol_counts; string_log = string_counts }
    ≡ report_from names symbols (references_of symbols) symbol_counts literals strings string_counts
unfolding report_from
told_report names symbols symbol_counts literals strings string_counts name_count literal_count references of_symbols of_strings names_are literals_are references_are symbols_are strings_are =
    let symbols_show = symbols_are ∙ ap (settled symbol_load plain_min_level plain_max_level (live_texts symbols)) references_are in
    λ i. record {
      names = names_are i;
      symbols = symbols_show i;
      literals = literals_are i;
      strings = strings_are i;
      symbol_log = symbol_counts;
      string_log = string_counts;
    }
