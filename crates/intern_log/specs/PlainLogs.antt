-- The two logs of a program of one thread that interns the names and the literals of a file.
use Rattle.std.specs.Prelude.{◌≡◌, ℕ, ◌+◌, if◌then◌else◌, List, [], ◌∷◌, ◌++◌, filter_map, Option, Some, None}
use Rattle.intern_log.specs.declared.event.Handle.{Handle}
use Rattle.intern_log.specs.declared.event.Event.{Event}
use Rattle.intern_log.specs.declared.event.What.{What}
use Rattle.intern_log.specs.declared.event.What.TheVariants.{Create, Kill}
use Rattle.intern_log.specs.Counts.{is_create}
use Rattle.intern_log.specs.Finals.{finals, is_among_texts}
use Rattle.intern_log.specs.Log.{IsLegal}
use Rattle.intern_log.specs.Window.{by_seat, IsWindowList, IsLiteralList}

-- the handle of the n-th Create, counted from 0, where no slot is used twice
abbrev pub slot_handle : ℕ → Handle
slot_handle n = record { slot = n; generation = 0 }

-- where the event is a Create, it gives out slot n
abbrev pub IsNumbered : ℕ → What → Type 0
IsNumbered n (Create text h) = h ≡ slot_handle n
IsNumbered n _ = Unit {0}

-- how many slots an event gives out
abbrev pub slots_taken : What → ℕ
slots_taken what = if is_create what then 1 else 0

-- the Creates give out the slots from `first` on, one after another
abbrev pub IsNumberedFrom : ℕ → List What → Type 0
IsNumberedFrom first [] = Unit {0}
IsNumberedFrom first (what ∷ whats) = IsNumbered first what × IsNumberedFrom (first + slots_taken what) whats

-- the Kill of a text that was created and is not among the final ones
abbrev pub kill_of : List (List ℕ) → What → Option What
kill_of final_texts (Create text h) = if is_among_texts final_texts text then None else Some (Kill h)
kill_of final_texts _ = None

-- one Kill for each text that was created and is not among the final ones, in the order of their Creates
abbrev pub kills_of : List (List ℕ) → List What → List What
kills_of final_texts whats = filter_map (kill_of final_texts) whats

-- the log of the names: the window list by seat 0 that is legal and whose Creates are numbered
pub record IsPlainSymbolLog (hold : ℕ) (names : List (List ℕ)) (log : List Event) : Type 0 where
  pub whats : List What
  pub by_one : log ≡ by_seat 0 whats
  pub window : IsWindowList hold names whats
  pub legal : IsLegal log
  pub numbered : IsNumberedFrom 0 whats

-- the log of the literals: one intern each by seat 0, then the Kills of those that are not final, legal and with numbered Creates
pub record IsPlainStringLog (hold : ℕ) (literals : List (List ℕ)) (log : List Event) : Type 0 where
  pub interns : List What
  pub by_one : log ≡ by_seat 0 (interns ++ kills_of (finals hold literals) interns)
  pub literals_in_order : IsLiteralList literals interns
  pub legal : IsLegal log
  pub numbered : IsNumberedFrom 0 interns
