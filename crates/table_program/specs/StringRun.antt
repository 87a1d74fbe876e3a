-- What an interner has on the way through a file's literals, and then through the entries that it made.
use Rattle.std.specs.Prelude.{◌≡◌, ℕ, ◌≤◌, List, ◌++◌, length, filter, Option, Some, None, if◌then◌else◌}
use Rattle.std.specs.List.{filter_map}
use Rattle.intern_log.specs.declared.event.Event.{Event}
use Rattle.intern_log.specs.declared.event.What.{What}
use Rattle.intern_log.specs.declared.event.What.TheVariants.{Create, Kill}
use Rattle.intern_log.specs.TextMap.{TextMap, live_texts}
use Rattle.intern_log.specs.Log.{map_of}
use Rattle.intern_log.specs.Finals.{finals, is_among_texts, distinct_texts}
use Rattle.intern_log.specs.Window.{IsLiteralList}
use Rattle.intern_log.specs.PlainLogs.{IsPlainStringLog}
use Rattle.table_report.specs.declared.StringCounts.{StringCounts}
use Rattle.table_program.specs.Holding.{Held, times_held, Holds}
use Rattle.table_program.specs.OneSeatLog.{OneSeatLog}
use Rattle.table_report.specs.FileReport.{string_counts}
use Rattle.table_program.specs.SymbolRun.{held_texts}

-- the entry that an event made: its text and its handle
abbrev pub made_by : What → Option Held
made_by (Create text h) = Some (text, h)
made_by _ = None

-- the entries that events made, in order
abbrev pub made_in : List What → List Held
made_in whats = filter_map made_by whats

-- the live texts are these, each with its handle, and each stands once
pub record HasEach (m : TextMap) (entries : List Held) : Type 0 where
  pub holds : Holds m entries
  pub once : (text : List ℕ) → times_held text entries ≤ 1

-- the map and the number of Creates are those after one intern of each of the literals, which made these entries
pub record StringRun (literals : List (List ℕ)) (texts : TextMap) (created : ℕ) (made : List Held) : Type 0 where
  pub interns : List What
  pub in_order : IsLiteralList literals interns
  pub log : OneSeatLog interns texts created
  pub made_are : made ≡ made_in interns
  pub has : HasEach texts made
  pub all : (text : List ℕ) → is_among_texts (held_texts made) text ≡ is_among_texts literals text

-- those of the entries whose text is final
abbrev pub kept_among : List (List ℕ) → List Held → List Held
kept_among final_texts entries = filter (λ (p : Held). is_among_texts final_texts p.0) entries

-- the Kill of an entry, where its text is not final
abbrev pub kill_for : List (List ℕ) → Held → Option What
kill_for final_texts p = if is_among_texts final_texts p.0 then None else Some (Kill p.1)

-- the Kills of the entries whose texts are not final
abbrev pub kills_among : List (List ℕ) → List Held → List What
kills_among final_texts entries = filter_map (kill_for final_texts) entries

-- the same on the way through the entries that were made: those that are listed so far are killed where their texts are not final, and the others are left
pub record StringListing (final_texts literals : List (List ℕ)) (listed left : List Held) (texts : TextMap) (created killed : ℕ) : Type 0 where
  pub interns : List What
  pub in_order : IsLiteralList literals interns
  pub log : OneSeatLog (interns ++ kills_among final_texts listed) texts created
  pub made_are : listed ++ left ≡ made_in interns
  pub has : HasEach texts (left ++ kept_among final_texts listed)
  pub all : (text : List ℕ) → is_among_texts (held_texts (listed ++ left)) text ≡ is_among_texts literals text
  pub killed_are : killed ≡ length (kills_among final_texts listed)

-- the map and the counts are those of the plain log of the literals, and the last `hold` literals are live
pub record IsStringsOf (hold : ℕ) (literals : List (List ℕ)) (texts : TextMap) (counts : StringCounts) : Type 0 where
  pub log : List Event
  pub is_log : IsPlainStringLog hold literals log
  pub counts_are : string_counts log ≡ counts
  pub texts_are : map_of log ≡ texts
  pub live_are : live_texts texts ≡ distinct_texts (finals hold literals)
