-- Facts by the answer of an opening.
use Rattle.io_edge.specs.declared.files.Opened.{Opened}
use Rattle.io_edge.specs.declared.files.Opened.TheVariants.{Ready, Failed}

-- the fact holds if the file was opened
abbrev pub OnReady : Opened → Type 0 → Type 0
OnReady Ready P = P
OnReady Failed P = Unit {0}

-- the fact holds if the opening failed
abbrev pub OnOpenFailed : Opened → Type 0 → Type 0
OnOpenFailed Ready P = Unit {0}
OnOpenFailed Failed P = P
