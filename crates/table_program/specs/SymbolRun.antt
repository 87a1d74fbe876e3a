-- What an interner, a window and counts stand for on the way through a file's names.
use Rattle.std.specs.Prelude.{◌≡◌, ℕ, ◌+◌, ◌-◌, ◌<◌, ◌≤◌, ◌^◌, List, [], length, map, count_by, if◌then◌else◌}
use Rattle.intern_log.specs.declared.event.Handle.{Handle}
use Rattle.intern_log.specs.declared.event.What.{What}
use Rattle.intern_log.specs.TextMap.{TextMap}
use Rattle.intern_log.specs.Log.{next, Allows}
use Rattle.intern_log.specs.Counts.{is_create, is_take, is_drop}
use Rattle.intern_log.specs.Finals.{finals}
use Rattle.intern_log.specs.Window.{IsCountedIntern, IsWindowRun}
use Rattle.intern_log.specs.PlainLogs.{IsNumbered, slots_taken}
use Rattle.table_report.specs.declared.SymbolCounts.{SymbolCounts}
use Rattle.table_program.specs.Holding.{Held, Holds}
use Rattle.table_program.specs.OneSeatLog.{OneSeatLog}

abbrev pub held_texts : List Held → List (List ℕ)
held_texts pairs = map (λ (p : Held). p.0) pairs

abbrev pub held_handles : List Held → List Handle
held_handles pairs = map (λ (p : Held). p.1) pairs

-- how many handles a window may hold so that no count of a symbol becomes permanent
abbrev pub IsSymbolWindow : ℕ → Type 0
IsSymbolWindow hold = (0 < hold) × (hold + 1 < 65535)

-- one more name may be counted
abbrev pub CountsFit : SymbolCounts → Type 0
CountsFit counts = counts.created + counts.taken < 2 ^ 64 - 1

-- the counts are those of the events
pub record CountsOf (whats : List What) (counts : SymbolCounts) : Type 0 where
  pub created : counts.created ≡ count_by is_create whats
  pub taken : counts.taken ≡ count_by is_take whats
  pub dropped : counts.dropped ≡ count_by is_drop whats

-- the new counts are the old ones and this event
pub record CountsOneMore (old : SymbolCounts) (what : What) (new : SymbolCounts) : Type 0 where
  pub created : new.created ≡ old.created + (if is_create what then 1 else 0)
  pub taken : new.taken ≡ old.taken + (if is_take what then 1 else 0)
  pub dropped : new.dropped ≡ old.dropped + (if is_drop what then 1 else 0)

-- the map, the number of Creates, the window and the counts are those of a legal and numbered window list of these names
pub record SymbolRun (hold : ℕ) (names : List (List ℕ)) (texts : TextMap) (created : ℕ) (window : List Handle) (counts : SymbolCounts) : Type 0 where
  pub whats : List What
  pub pairs : List Held
  pub names_are : held_texts pairs ≡ names
  pub run : IsWindowRun hold [] names whats (held_handles pairs)
  pub log : OneSeatLog whats texts created
  pub window_is : window ≡ finals hold (held_handles pairs)
  pub holds : Holds texts (finals hold pairs)
  pub counted : CountsOf whats counts
  pub all_names : counts.created + counts.taken ≡ length names
  pub few_drops : counts.dropped ≤ length names

-- the same, between the intern of one more name as the handle and the push of the handle into the window
pub record NameInterned (hold : ℕ) (names : List (List ℕ)) (name : List ℕ) (h : Handle) (texts : TextMap) (created : ℕ) (window : List Handle) (counts : SymbolCounts) : Type 0 where
  pub what : What
  pub old_texts : TextMap
  pub old_created : ℕ
  pub old_counts : SymbolCounts
  pub before : SymbolRun hold names old_texts old_created window old_counts
  pub intern : IsCountedIntern name h what
  pub allowed : Allows old_texts what
  pub numbered : IsNumbered old_created what
  pub texts_are : texts ≡ next old_texts what
  pub created_are : created ≡ old_created + slots_taken what
  pub counts_are : CountsOneMore old_counts what counts
