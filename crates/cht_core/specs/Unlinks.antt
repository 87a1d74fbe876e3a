-- How many slots of a bucket a seat unlinks in a piece of a log, and whether it gives the resize lock back there.
use Rattle.std.specs.Prelude.{ℕ, ◌+◌, ◌==◌, ◌&&◌, Bool, true, false, nat_lt, if◌then◌else◌, List, [], ◌∷◌}
use Rattle.intern_log.specs.declared.event.Event.{Event}
use Rattle.intern_log.specs.declared.event.What.{What}
use Rattle.intern_log.specs.declared.event.What.TheVariants as what
use Rattle.intern_log.specs.Buckets.{bucket_of}
use Rattle.intern_log.specs.Now.{Now, Phase, Linked, now_after_event}
use Rattle.cht_core.specs.declared.table.Table.{Table}

-- a slot is in a chain, and by a seed its text is of this bucket of the row
abbrev pub is_in_bucket : ℕ → ℕ → ℕ → Phase → Bool
is_in_bucket seed row bucket (Linked text h born) = bucket_of seed row text == bucket
is_in_bucket seed row bucket _ = false

-- the event unlinks a slot of the table that is in the bucket
abbrev pub is_unlink_on : Table → Now → ℕ → ℕ → What → Bool
is_unlink_on t n row bucket (what.Unlink s) = nat_lt s t.shape.slots && is_in_bucket n.seed row bucket (n.slot s)
is_unlink_on t n row bucket _ = false

-- how many of these events are such Unlinks by the seat, from what the log says before them
abbrev pub unlinks_by : Table → ℕ → ℕ → ℕ → Now → List Event → ℕ
unlinks_by t i row bucket n [] = 0
unlinks_by t i row bucket n (e ∷ log) = (if e.seat == i && is_unlink_on t n row bucket e.what then 1 else 0) + unlinks_by t i row bucket (now_after_event n e) log

-- the event gives the resize lock back
abbrev pub is_given : What → Bool
is_given what.ResizeGiven = true
is_given _ = false
