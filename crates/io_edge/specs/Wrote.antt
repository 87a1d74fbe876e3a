-- Facts by the answer of a write.
use Rattle.std.specs.Prelude.{ℕ}
use Rattle.io_edge.specs.declared.sink.Wrote.{Wrote}
use Rattle.io_edge.specs.declared.sink.Wrote.TheVariants.{Bytes, Failed}

-- the fact holds of the number of bytes that were taken, if the write did not fail
abbrev pub IfWrote : Wrote → (ℕ → Type 0) → Type 0
IfWrote (Bytes n) P = P n
IfWrote Failed P = Unit {0}

-- the fact holds if the write failed
abbrev pub OnWriteFailed : Wrote → Type 0 → Type 0
OnWriteFailed (Bytes n) P = Unit {0}
OnWriteFailed Failed P = P
