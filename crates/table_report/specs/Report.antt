use Rattle.std.specs.Prelude.{ℕ, ◌/◌, ◌%◌, List, [], ◌∷◌, ◌++◌, codes, decimal}
use Rattle.std.specs.List.{concat}
use Rattle.table_report.specs.declared.Report.{Report}
use Rattle.table_report.specs.declared.Statistics2.{Statistics2}
use Rattle.table_report.specs.declared.SymbolCounts.{SymbolCounts}
use Rattle.table_report.specs.declared.StringCounts.{StringCounts}

-- a label, and behind it a number in decimal digits
abbrev pub field : List ℕ → ℕ → List ℕ
field label number = label ++ decimal number

-- fields one after another, and a newline
abbrev pub line : List (List ℕ) → List ℕ
line fields = concat (fields ++ (codes "\n" ∷ []))

-- how many names were met, and what of them is live
unfoldable pub symbols_line : ℕ → Statistics2 → List ℕ
symbols_line names s =
    line (field (codes "symbols names=") names
    ∷ field (codes " live=") s.live
    ∷ field (codes " references=") s.references
    ∷ [])

-- how many literals were met, and how many entries are live
unfoldable pub strings_line : ℕ → Statistics2 → List ℕ
strings_line literals s =
    line (field (codes "strings literals=") literals
    ∷ field (codes " live=") s.live
    ∷ [])

-- how the live entries of a table are spread over its buckets
unfoldable pub spread_line : List ℕ → Statistics2 → List ℕ
spread_line table s =
    line (table
    ∷ field (codes " buckets=") s.buckets
    ∷ field (codes " longest=") s.longest
    ∷ field (codes " average=") (s.live / s.buckets)
    ∷ field (codes " rest=") (s.live % s.buckets)
    ∷ [])

-- how often each outcome came as the names were interned
unfoldable pub symbol_log_line : SymbolCounts → List ℕ
symbol_log_line c =
    line (field (codes "symbol log created=") c.created
    ∷ field (codes " taken=") c.taken
    ∷ field (codes " dropped=") c.dropped
    ∷ [])

-- how often each outcome came as the literals were interned
unfoldable pub string_log_line : StringCounts → List ℕ
string_log_line c =
    line (field (codes "string log created=") c.created
    ∷ field (codes " found=") c.found
    ∷ field (codes " killed=") c.killed
    ∷ [])

-- the six lines of a report
unfoldable pub report_lines : Report → List ℕ
report_lines r =
    concat (symbols_line r.names r.symbols
    ∷ spread_line (codes "symbols") r.symbols
    ∷ strings_line r.literals r.strings
    ∷ spread_line (codes "strings") r.strings
    ∷ symbol_log_line r.symbol_log
    ∷ string_log_line r.string_log
    ∷ [])
