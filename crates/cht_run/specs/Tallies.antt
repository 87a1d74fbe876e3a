-- What a seat that is alone reads in a table: its words stay as they are, and their counts add up to the numbers of its map.
use Rattle.std.specs.Prelude.{◌≡◌, ℕ, ◌<◌, ◌≤◌, ◌==◌, nat_lt, if◌then◌else◌, List, [], length, sum_by, Option, Some}
use Rattle.std.specs.List.{All}
use Rattle.std.specs.Option.{unwrap_or}
use Rattle.std.specs.FinMap as finite
use Rattle.chain_core.specs.Path.{IsPath}
use Rattle.table_shape.specs.declared.place.Place.TheVariants as place
use Rattle.intern_log.specs.declared.event.Entry.{Entry}
use Rattle.intern_log.specs.declared.event.Event.{Event}
use Rattle.intern_log.specs.Buckets.{bucket_of, in_bucket, longest_bucket}
use Rattle.intern_log.specs.Now.{Now}
use Rattle.intern_log.specs.TextMap.{live_texts}
use Rattle.atomic_step.specs.Count.{holds_of}
use Rattle.cht_core.specs.declared.table.Table.{Table}
use Rattle.cht_core.specs.Causes.{now_in}
use Rattle.cht_core.specs.Flow.{Flow}
use Rattle.cht_core.specs.Memory.{Memory, links, memory_of}
use Rattle.cht_core.specs.Past.{past_of}
use Rattle.cht_core.specs.TableState.{IsTable, IsSettled}
use Rattle.cht_run.specs.declared.seat.Seat.{Seat}
use Rattle.cht_run.specs.declared.table.Cht.{Cht}
use Rattle.cht_run.specs.declared.tally.Tally.{Tally}
use Rattle.cht_run.specs.Ends.{IsAlone, Stays}
use Rattle.cht_run.specs.Seats.{sight, history, seen, IsOf}

-- WHAT IT READS

-- the words of the table as the seat has last seen them, by their places
abbrev pub snapshot : Seat → List ℕ
snapshot seat = unwrap_or (sight seat).words []

abbrev pub memory_in : Cht → Seat → Memory
memory_in cht seat = memory_of cht.origin.table.shape (snapshot seat)

-- what its log says
abbrev pub now_for : Cht → Seat → Now
now_for cht seat = now_in cht.origin.table (seen seat)

-- the words are those of a table with this log, and no row is being replaced
pub record IsShown (t : Table) (m : Memory) (log : List Event) : Type 0 where
  pub flow : Flow
  pub table : IsTable t m (past_of t.shape.min_level log) flow
  pub settled : IsSettled (now_in t log)

-- a seat to which all others have come back has the words of the table, and they show what it has seen
pub record Reads (cht : Cht) (seat : Seat) : Type 0 where
  pub of : IsOf cht seat
  pub alone : IsAlone seat
  pub taken : (sight seat).words ≡ Some (snapshot seat)
  pub shown : IsShown cht.origin.table (memory_in cht seat) (seen seat)

-- it has read on, and has seen nothing new
pub record ReadsOn (cht : Cht) (old new : Seat) : Type 0 where
  pub reads : Reads cht new
  pub stays : Stays old new
  pub history : history new ≡ history old
  pub snapshot : snapshot new ≡ snapshot old

-- WHAT COUNTS ADD UP TO

-- what an entry with a count adds to each number; one that is gone has the count 0
abbrev pub live_in : ℕ → ℕ
live_in count = if count == 0 then 0 else 1

abbrev pub permanent_in : ℕ → ℕ
permanent_in count = if count == 65535 then 1 else 0

abbrev pub references_in : ℕ → ℕ
references_in count = if nat_lt count 65535 then count else 0

-- the three numbers, where this is the sum of what the counts add
pub record IsTally (total : (ℕ → ℕ) → ℕ) (tally : Tally) : Type 0 where
  pub live : tally.live ≡ total live_in
  pub permanent : tally.permanent ≡ total permanent_in
  pub references : tally.references ≡ total references_in

-- the sum over the count words of some slots
abbrev pub sum_at : Memory → List ℕ → (ℕ → ℕ) → ℕ
sum_at m slots f = sum_by (λ s. f (holds_of (m (place.Count s)))) slots

-- the sum over the live entries of a bucket, and over those of all buckets below one
abbrev pub sum_in : Now → ℕ → (ℕ → ℕ) → ℕ
sum_in n bucket f = sum_by (λ (x : List ℕ × Entry). if bucket_of n.seed n.level x.0 == bucket then f x.1.count else 0) (finite.entries n.texts)

abbrev pub sum_below : Now → ℕ → (ℕ → ℕ) → ℕ
sum_below n bucket f = sum_by (λ (x : List ℕ × Entry). if nat_lt (bucket_of n.seed n.level x.0) bucket then f x.1.count else 0) (finite.entries n.texts)

-- a chain leads to its end over slots of the table
pub record IsChain (m : Memory) (slots : ℕ) (first : Option ℕ) (nodes : List ℕ) : Type 0 where
  pub path : IsPath (links m) first nodes
  pub inside : All (λ s. s < slots) nodes
  pub few : length nodes ≤ slots

abbrev pub HasChain : Memory → ℕ → Option ℕ → Type 0
HasChain m slots first = (nodes : List ℕ) × IsChain m slots first nodes

-- the counts of a chain
abbrev pub IsTallyOfChain : Memory → Option ℕ → Tally → Type 0
IsTallyOfChain m first tally = (nodes : List ℕ) × IsPath (links m) first nodes × IsTally (sum_at m nodes) tally

-- no bucket of the row below one has more live texts, and some bucket has so many
pub record IsLongestBelow (n : Now) (bucket longest : ℕ) : Type 0 where
  pub most : (other : ℕ) → other < bucket → in_bucket n.seed n.level (live_texts n.texts) other ≤ longest
  pub reached : longest ≤ longest_bucket n.seed n.level (live_texts n.texts)
