-- What the counts of entries come to: the holds that they count, and what letting go of one does.
use Rattle.std.specs.Prelude.{ℕ, ◌-◌, if◌then◌else◌, ◌==◌, nat_lt, sum_by}
use Rattle.std.specs.FinMap as finite
use Rattle.intern_log.specs.declared.event.Entry.{Entry}
use Rattle.intern_log.specs.declared.event.Released.{Released}
use Rattle.intern_log.specs.declared.event.Released.TheVariants.{Dropped, Permanent}
use Rattle.intern_log.specs.TextMap.{TextMap}

-- what letting go of an entry with this count comes to
abbrev pub released_of : ℕ → Released
released_of count = if count == 65535 then Permanent else Dropped (count - 1)

-- how many holds an entry counts: none, where it is permanent
abbrev pub references_to : Entry → ℕ
references_to e = if nat_lt e.count 65535 then e.count else 0

-- how many holds the entries count together
abbrev pub references_of : TextMap → ℕ
references_of m = sum_by references_to (finite.values m)
