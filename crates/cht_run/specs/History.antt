-- The history of a running table: the events of its log, and the numbers that its splits drew.
use Rattle.std.specs.Prelude.{◌≡◌, ℕ, ◌+◌, Bool, true, false, List, [], ◌∷◌, ◌++◌, filter, Option, Some, None}
use Rattle.std.specs.List.{All, filter_map, list_any}
use Rattle.std.specs.Option.{option_to_list}
use Rattle.intern_log.specs.declared.event.Event.{Event}
use Rattle.table_shape.specs.declared.shape.Shape.{Shape}
use Rattle.intern_log.specs.declared.event.Handle.{Handle}
use Rattle.intern_log.specs.declared.event.What.{What}
use Rattle.intern_log.specs.Own.{is_among, is_gain}
use Rattle.call_machine.specs.SoundCall.{IsHandle}
use Rattle.intern_log.specs.Lawful.{IsLawful}
use Rattle.intern_log.specs.Short.{IsShort}
use Rattle.cht_core.specs.declared.table.Table.{Table}
use Rattle.cht_core.specs.Past.{kind_of}
use Rattle.cht_core.specs.Windows.{IsTold}
use Rattle.cht_run.specs.declared.sight.Entry.{Entry}
use Rattle.cht_run.specs.declared.sight.Entry.TheVariants as entry
use Rattle.cht_run.specs.declared.sight.Earlier.{Earlier}

-- the event of an entry, and the number that it draws
abbrev pub event_in : Entry → Option Event
event_in (entry.Told e) = Some e
event_in (entry.Drew by number) = None

abbrev pub number_in : Entry → Option ℕ
number_in (entry.Told e) = None
number_in (entry.Drew by number) = Some number

-- the log, and the numbers that were drawn, in order
abbrev pub log_of : List Entry → List Event
log_of history = filter_map event_in history

abbrev pub draws_of : List Entry → List ℕ
draws_of history = filter_map number_in history

-- whether a Create or a Take of the handle is in the log; each such handle is one that a table of the shape can have
abbrev pub is_known : List Event → Handle → Bool
is_known log h = list_any (λ (e : Event). is_gain e.what h) log

abbrev pub HasHandles : Shape → List Entry → Type 0
HasHandles shape history = (h : Handle) → is_known (log_of history) h ≡ true → IsHandle shape h

-- whose entry it is
abbrev pub by_of : Entry → ℕ
by_of (entry.Told e) = e.seat
by_of (entry.Drew by number) = by

-- the entries of these numbers, and an event of a number
abbrev pub entries_by : List ℕ → List Entry → List Entry
entries_by numbers history = filter (λ (e : Entry). is_among numbers (by_of e)) history

abbrev pub told_by : ℕ → What → Entry
told_by i what = entry.Told (record { seat = i; what = what })

-- no entry is by one of the numbers
abbrev pub NoneBy : List ℕ → List Entry → Type 0
NoneBy numbers entries = All (λ (e : Entry). is_among numbers (by_of e) ≡ false) entries

-- whether a number is drawn: 0 is from the beginning
abbrev pub is_drawn : List Entry → ℕ → Bool
is_drawn history number = is_among (0 ∷ draws_of history) number

-- where these are drawn, each entry is by a number that is drawn before it
abbrev pub IsOrderlyFrom : List ℕ → List Entry → Type 0
IsOrderlyFrom known [] = Unit {0}
IsOrderlyFrom known (e ∷ history) = (is_among known (by_of e) ≡ true) × IsOrderlyFrom (known ++ option_to_list (number_in e)) history

abbrev pub IsOrderly : List Entry → Type 0
IsOrderly history = IsOrderlyFrom (0 ∷ []) history

-- the numbers are those from one on
abbrev pub IsNumbered : ℕ → List ℕ → Type 0
IsNumbered first [] = Unit {0}
IsNumbered first (n ∷ numbers) = (n ≡ first) × IsNumbered (first + 1) numbers

-- a number that one of these has drawn is one of these, or is out
abbrev pub IsOut : List ℕ → List ℕ → Entry → Type 0
IsOut numbers kids (entry.Told e) = Unit {0}
IsOut numbers kids (entry.Drew by number) = is_among numbers by ≡ true → is_among (numbers ++ kids) number ≡ true

abbrev pub AreOut : List ℕ → List ℕ → List Entry → Type 0
AreOut numbers kids history = All (IsOut numbers kids) history

-- a history goes on from another one, and nothing that came since is by one of the numbers
pub record Follows (numbers : List ℕ) (seen history : List Entry) : Type 0 where
  pub later : List Entry
  pub whole : history ≡ seen ++ later
  pub none : NoneBy numbers later

-- no number is in both lists
abbrev pub AreApart : List ℕ → List ℕ → Type 0
AreApart xs ys = (number : ℕ) → is_among xs number ≡ true → is_among ys number ≡ false

abbrev pub AreAllApart : List Earlier → Type 0
AreAllApart [] = Unit {0}
AreAllApart (e ∷ earlier) = All (λ (x : Earlier). AreApart e.numbers x.numbers) earlier × AreAllApart earlier

-- what each seat had seen before a join, it has seen since, and nothing that came since was by its numbers then; and no two had one number
pub record Remembers (history : List Entry) (earlier : List Earlier) : Type 0 where
  pub seen : All (λ (e : Earlier). Follows e.numbers e.history history) earlier
  pub apart : AreAllApart earlier

-- the log of a history was told event by event, and numbers were drawn one after another, each by a seat whose own was drawn before
pub record WasTold (t : Table) (history : List Entry) : Type 0 where
  pub told : IsTold t (log_of history)
  pub orderly : IsOrderly history
  pub numbered : IsNumbered 1 (draws_of history)

-- what is so of a history of a table: its log was told event by event, and is lawful where it is short; its handles are those of a table of the shape;
-- and numbers were drawn one after another, each by a seat whose own was drawn before
pub record HasSeen (t : Table) (history : List Entry) : Type 0 where
  pub told : IsTold t (log_of history)
  pub lawful : IsShort (log_of history) → IsLawful (kind_of t) (log_of history)
  pub handles : HasHandles t.shape history
  pub orderly : IsOrderly history
  pub numbered : IsNumbered 1 (draws_of history)
