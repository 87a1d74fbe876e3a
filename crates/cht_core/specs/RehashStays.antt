-- What a table keeps as it is made anew by the next seed, and that there is one way to make it so.
use Rattle.std.specs.Prelude.{◌≡◌, ◌≢◌, ℕ, ◌+◌, List, [], ◌∷◌, ◌++◌, Option}
use Rattle.table_shape.specs.declared.place.Place.{Place}
use Rattle.table_shape.specs.declared.place.Place.TheVariants as place
use Rattle.intern_log.specs.declared.event.Event.{Event}
use Rattle.intern_log.specs.Lawful.{IsQuiet}
use Rattle.intern_log.specs.Now.{Now, now_of}
use Rattle.cht_core.specs.declared.table.Table.{Table}
use Rattle.cht_core.specs.Invariant.{Inv}
use Rattle.cht_core.specs.Memory.{Memory}
use Rattle.cht_core.specs.Past.{by}
use Rattle.cht_core.specs.Rehash.{MayRehash, IsRehashed, seeds}
use Rattle.cht_core.specs.Search.{IsLinked}
use Rattle.cht_core.specs.View.{View}

-- the same map, slots, sections, locks, level and graces, one event later and with the next seed
abbrev pub one_seed_later : Now → Now
one_seed_later n = record n { place = n.place + 1; seed = n.seed + 1 }

-- so the log says it after the event
abbrev pub SaysTheSame : Type 0
SaysTheSame = (min_level : ℕ) (log : List Event) →
    now_of min_level (log ++ by 0 (seeds (now_of min_level log)) ∷ []) ≡ one_seed_later (now_of min_level log)

-- the words that no hash tells: the drawn seats, the counter, the resize lock, the levels, the sections, the claims, the counts and the
-- texts, the heads of other rows, and all words of slots that are not linked
pub record HasSameWords (m m' : Memory) (n : Now) : Type 0 where
  pub draws : m' place.Draws ≡ m place.Draws
  pub counter : m' place.Counter ≡ m place.Counter
  pub resize_lock : m' place.ResizeLock ≡ m place.ResizeLock
  pub level : m' place.Level ≡ m place.Level
  pub new_level : m' place.NewLevel ≡ m place.NewLevel
  pub sections : (k : ℕ) → m' (place.Section k) ≡ m (place.Section k)
  pub claims : (s : ℕ) → m' (place.Claim s) ≡ m (place.Claim s)
  pub counts : (s : ℕ) → m' (place.Count s) ≡ m (place.Count s)
  pub texts : (s at : ℕ) → m' (place.Text s at) ≡ m (place.Text s at)
  pub rows : (row bucket : ℕ) → row ≢ n.level → m' (place.Head row bucket) ≡ m (place.Head row bucket)
  pub links : (s : ℕ) → ¬ (IsLinked n s) → m' (place.Link s) ≡ m (place.Link s)
  pub metas : (s : ℕ) → ¬ (IsLinked n s) → m' (place.Meta s) ≡ m (place.Meta s)

abbrev pub KeepsWords : Type 0
KeepsWords = (m m' : Memory) (n : Now) → IsRehashed m m' n → HasSameWords m m' n

-- where a table may be made anew nothing is going on in it
abbrev pub IsQuietBefore : Type 0
IsQuietBefore = (t : Table) (m : Memory) (seat : ℕ → Option View) (log : List Event) → Inv t m seat log → MayRehash (now_of t.shape.min_level log) seat →
    IsQuiet (now_of t.shape.min_level log)

-- two tables that were made anew from one have the same words
abbrev pub HasOneOutcome : Type 0
HasOneOutcome = (m one other : Memory) (n : Now) → IsRehashed m one n → IsRehashed m other n → (p : Place) → one p ≡ other p
