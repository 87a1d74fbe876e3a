-- Facts by the answer of a read.
use Rattle.std.specs.Prelude.{ℕ}
use Rattle.io_edge.specs.declared.files.Got.{Got}
use Rattle.io_edge.specs.declared.files.Got.TheVariants.{Bytes, End, Failed}

-- the fact holds of the number of bytes that were read, if there were any
abbrev pub IfRead : Got → (ℕ → Type 0) → Type 0
IfRead (Bytes n) P = P n
IfRead End P = Unit {0}
IfRead Failed P = Unit {0}

-- the fact holds if the end of the file was met
abbrev pub OnEnd : Got → Type 0 → Type 0
OnEnd (Bytes n) P = Unit {0}
OnEnd End P = P
OnEnd Failed P = Unit {0}

-- the fact holds if the read failed
abbrev pub OnReadFailed : Got → Type 0 → Type 0
OnReadFailed (Bytes n) P = Unit {0}
OnReadFailed End P = Unit {0}
OnReadFailed Failed P = P

-- the fact holds if the read gave bytes or met the end of the file
abbrev pub UnlessReadFailed : Got → Type 0 → Type 0
UnlessReadFailed (Bytes n) P = P
UnlessReadFailed End P = P
UnlessReadFailed Failed P = Unit {0}
