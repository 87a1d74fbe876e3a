-- What making a table anew comes to.
use Rattle.std.specs.Prelude.{◌≡◌, ◌+◌, [], ◌∷◌, ◌++◌}
use Rattle.cht_run.specs.declared.rehash.Rehashed.{Rehashed}
use Rattle.cht_run.specs.declared.rehash.Rehashed.TheVariants as rehashed
use Rattle.cht_run.specs.declared.seat.Seat.{Seat}
use Rattle.cht_run.specs.declared.table.Cht.{Cht}
use Rattle.cht_run.specs.Ends.{Stays, HasWhole, log_in}
use Rattle.cht_run.specs.Heirs.{rehash_of}
use Rattle.cht_run.specs.Seats.{history, seen, numbers, IsOf}

-- the same table by the next seed, and the seat as it was: its log has grown by the Rehash alone
pub record IsRehash (old : Cht) (seat : Seat) (new : Cht) (heir : Seat) : Type 0 where
  pub table : new.origin.table ≡ old.origin.table
  pub seed : new.origin.seed ≡ old.origin.seed + 1
  pub of : IsOf new heir
  pub stays : Stays seat heir
  pub history : history heir ≡ history seat ++ rehash_of (old.origin.seed + 1) ∷ []

-- or the table is closed
abbrev pub Rehashes : Cht → Seat → Rehashed → Type 0
Rehashes old seat (rehashed.Done new heir) = IsRehash old seat new heir
Rehashes old seat (rehashed.OutOfMemory front) = (front.origin ≡ old.origin) × (log_in front ≡ seen seat) × HasWhole old.origin.table (numbers seat) (log_in front)
