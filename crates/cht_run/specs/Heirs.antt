-- A table that is made anew, and the seat that goes over to it.
use Rattle.std.specs.Prelude.{◌≡◌, ℕ, ◌+◌, ◌<◌, true, List, [], ◌∷◌, ◌++◌, Option, Some, None}
use Rattle.atomic_table.specs.declared.shared.Seat.{Seat as Words}
use Rattle.intern_log.specs.declared.event.What.TheVariants as what
use Rattle.cht_core.specs.declared.seat.Seat.TheVariants as doing
use Rattle.intern_log.specs.Now.{now_of}
use Rattle.intern_log.specs.Own.{is_among}
use Rattle.cht_core.specs.Past.{by}
use Rattle.cht_core.specs.Rehash.{HasNoDead}
use Rattle.cht_run.specs.declared.sight.Earlier.{Earlier}
use Rattle.cht_run.specs.declared.sight.Entry.{Entry}
use Rattle.cht_run.specs.declared.sight.Entry.TheVariants as entry
use Rattle.cht_run.specs.declared.sight.Origin.{Origin}
use Rattle.cht_run.specs.declared.sight.Sight.{Sight}
use Rattle.cht_run.specs.declared.shared.Opening.{Opening}
use Rattle.cht_run.specs.Begins.{own_at, is_resting}
use Rattle.cht_run.specs.History.{log_of}
use Rattle.cht_run.specs.Rule.{is_seat, root_of}
use Rattle.cht_run.specs.Views.{earlier_of}

-- what is left of a seat whose table is closed: no seat, but a note of all that it had
abbrev pub legacy_of : Sight → Sight
legacy_of v = record v { seat = doing.Idle (own_at v.seat); numbers = []; kids = []; given = None; earlier = earlier_of v ∷ []; words = None }

-- the numbers that it had
abbrev pub numbers_in : List Earlier → List ℕ
numbers_in [] = []
numbers_in (e ∷ earlier) = e.numbers

-- the entry of a rehash, which is by the first number
abbrev pub rehash_of : ℕ → Entry
rehash_of seed = entry.Told (by 0 (what.Rehash seed))

-- the seat of it in the table that was made anew
abbrev pub heir_of : Origin → Sight → Sight
heir_of o note = record note { origin = o; numbers = numbers_in note.earlier; history = note.history ++ rehash_of o.seed ∷ []; earlier = [] }

-- the first seat of a table: a new one, or one that comes from the table before
abbrev pub first_in : Origin → Option (Words (Unit {0}) Sight) → Sight
first_in o None = root_of o
first_in o (Some note) = heir_of o note.me.0

abbrev pub first_seat : Opening → Sight
first_seat opening = first_in opening.origin opening.heir

-- a seat that is alone, has nothing unfinished, and may make its table anew
pub record MayRemake (o : Origin) (v : Sight) : Type 0 where
  pub seat : is_seat v ≡ true
  pub root : is_among v.numbers 0 ≡ true
  pub kids : v.kids ≡ []
  pub rests : is_resting v.seat ≡ true
  pub work : (own_at v.seat).work ≡ None
  pub grace : (own_at v.seat).grace ≡ None
  pub alive : HasNoDead (now_of o.table.shape.min_level (log_of v.history))
  pub seed : o.seed < 2

-- the table by the next seed
abbrev pub by_next : Origin → Origin
by_next o = record o { seed = o.seed + 1 }
