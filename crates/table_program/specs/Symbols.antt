-- What the intern of a name does to an interner and to the counts.
use Rattle.std.specs.Prelude.{◌≡◌, ℕ, List, length}
use Rattle.circular_buffer.specs.Buffer.{Buffer}
use Rattle.intern_log.specs.declared.event.Handle.{Handle}
use Rattle.intern_log.specs.declared.event.Kind.TheVariants.{Counted}
use Rattle.intern_log.specs.declared.event.What.{What}
use Rattle.intern_log.specs.declared.event.Event.{Event}
use Rattle.intern_log.specs.TextMap.{TextMap, live_texts}
use Rattle.intern_log.specs.Finals.{finals, distinct_texts}
use Rattle.intern_log.specs.Window.{IsCountedIntern}
use Rattle.intern_log.specs.PlainLogs.{IsNumbered, IsPlainSymbolLog}
use Rattle.intern_log.specs.EntryCounts.{references_of}
use Rattle.plain_interner.specs.State.{State, Follows}
use Rattle.table_report.specs.FileReport.{symbol_counts}
use Rattle.table_report.specs.declared.SymbolCounts.{SymbolCounts}
use Rattle.name_scan.specs.declared.Token.{Token}
use Rattle.name_scan.specs.FileTexts.{names_among}
use Rattle.table_program.specs.SymbolRun.{CountsOneMore, SymbolRun}

-- the interner goes on by an intern of the name as the handle, and the counts by that event
pub record InternsName (old : State) (was : SymbolCounts) (name : List ℕ) (new : State) (is : SymbolCounts) (h : Handle) : Type 0 where
  pub what : What
  pub intern : IsCountedIntern name h what
  pub follows : Follows old what new
  pub numbered : IsNumbered old.created what
  pub counts : CountsOneMore was what is

-- the interner, the window and the counts after the names among the tokens that were found
pub record NamesSoFar (hold : ℕ) (bytes : List ℕ) (found : List Token) (plain : State) (window : Buffer Handle) (counts : SymbolCounts) : Type 0 where
  pub kind : plain.kind ≡ Counted
  pub capacity : window.capacity ≡ hold
  pub run : SymbolRun hold (names_among bytes found) plain.texts plain.created window.items counts

-- the map and the counts are those of the plain log of the names, and the last `hold` names are live and referred to
pub record IsSymbolsOf (hold : ℕ) (names : List (List ℕ)) (texts : TextMap) (counts : SymbolCounts) : Type 0 where
  pub log : List Event
  pub is_log : IsPlainSymbolLog hold names log
  pub counts_are : symbol_counts log ≡ counts
  pub live_are : live_texts texts ≡ distinct_texts (finals hold names)
  pub references_are : references_of texts ≡ length (finals hold names)
