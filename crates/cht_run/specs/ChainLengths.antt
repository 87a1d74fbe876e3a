-- How long the chain of a text is.
use Rattle.std.specs.Prelude.{ℕ, ◌==◌, if◌then◌else◌, List}
use Rattle.intern_log.specs.declared.event.Event.{Event}
use Rattle.intern_log.specs.Buckets.{bucket_of}
use Rattle.intern_log.specs.Now.{Now, Phase, Linked}
use Rattle.cht_core.specs.declared.table.Table.{Table}
use Rattle.cht_core.specs.Causes.{now_in}
use Rattle.cht_core.specs.Ledger.{sum_below}

-- 1 where a slot is linked with a text of the bucket, by a seed, in the row of a level
abbrev pub one_linked : ℕ → ℕ → ℕ → Phase → ℕ
one_linked seed level bucket (Linked text h born) = if bucket_of seed level text == bucket then 1 else 0
one_linked seed level bucket _ = 0

-- how many slots below one are linked with a text of the bucket of this text, in the level's row
abbrev pub linked_beside : ℕ → Now → List ℕ → ℕ
linked_beside slots n text = sum_below slots (λ s. one_linked n.seed n.level (bucket_of n.seed n.level text) (n.slot s))

-- and how many of a table are at the end of a log
abbrev pub chain_length : Table → List Event → List ℕ → ℕ
chain_length t log text = linked_beside t.shape.slots (now_in t log) text
