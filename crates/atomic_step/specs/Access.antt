-- What an atomic operation makes of its word.
use Rattle.std.specs.Prelude.{ℕ, ◌+◌, ◌%◌, ◌^◌, ◌==◌, if◌then◌else◌}
use Rattle.table_shape.specs.declared.place.Place.{Place}
use Rattle.atomic_step.specs.declared.access.Access.{Access}
use Rattle.atomic_step.specs.declared.access.Deed.{Deed}
use Rattle.atomic_step.specs.declared.access.Deed.TheVariants as deed
use Rattle.atomic_step.specs.declared.access.Op.{Op}
use Rattle.atomic_step.specs.declared.access.Op.TheVariants as op
use Rattle.atomic_step.specs.declared.access.StepKind.{StepKind}

-- a word after a deed that found it
abbrev pub word_after : Deed → ℕ → ℕ
word_after deed.Load word = word
word_after (deed.Store value) word = value
word_after (deed.Swap value) word = value
word_after (deed.Add value) word = (word + value) % 2 ^ 64
word_after (deed.Exchange old new) word = if word == old then new else word

-- the operation of a deed on the word of an index; and the index and the deed of an operation
abbrev pub op_of : ℕ → Deed → Op
op_of at deed.Load = op.Load at
op_of at (deed.Store value) = op.Store at value
op_of at (deed.Swap value) = op.Swap at value
op_of at (deed.Add value) = op.Add at value
op_of at (deed.Exchange old new) = op.Exchange at old new

abbrev pub index_in : Op → ℕ
index_in (op.Load at) = at
index_in (op.Store at value) = at
index_in (op.Swap at value) = at
index_in (op.Add at value) = at
index_in (op.Exchange at old new) = at

abbrev pub deed_in : Op → Deed
deed_in (op.Load at) = deed.Load
deed_in (op.Store at value) = deed.Store value
deed_in (op.Swap at value) = deed.Swap value
deed_in (op.Add at value) = deed.Add value
deed_in (op.Exchange at old new) = deed.Exchange old new

-- a word is loaded, stored, swapped, added to or exchanged
abbrev pub loads : StepKind → Place → Access
loads kind place = record { kind = kind; place = place; deed = deed.Load }

abbrev pub stores : StepKind → Place → ℕ → Access
stores kind place value = record { kind = kind; place = place; deed = deed.Store value }

abbrev pub swaps : StepKind → Place → ℕ → Access
swaps kind place value = record { kind = kind; place = place; deed = deed.Swap value }

abbrev pub adds : StepKind → Place → ℕ → Access
adds kind place value = record { kind = kind; place = place; deed = deed.Add value }

abbrev pub exchanges : StepKind → Place → ℕ → ℕ → Access
exchanges kind place old new = record { kind = kind; place = place; deed = deed.Exchange old new }
