-- The full passes of a poll of a clean: those that unlinked 256 slots of their bucket each.
use Rattle.std.specs.Prelude.{◌≡◌, ℕ, ◌+◌, ◌/◌, ◌≤◌, List, ◌++◌, Option, Some, None}
use Rattle.table_shape.specs.declared.shape.Shape.{Shape}
use Rattle.atomic_step.specs.declared.answer.Answer.{Answer}
use Rattle.atomic_step.specs.Run.{after_words}
use Rattle.call_machine.specs.declared.work.Work.{Work as Working}
use Rattle.call_machine.specs.declared.work.Work.TheVariants as work
use Rattle.call_machine.specs.Poll.{works}
use Rattle.call_machine.specs.Work.{resumes}

-- a clean that goes on has made at most `slots / 256 + 1` of them over its bucket since its poll began
abbrev pub MakesFew : Shape → Working → Option Answer → Type 0
MakesFew shape (work.Clean c) None = c.along.full_passes ≤ shape.slots / 256 + 1
MakesFew shape (work.Clean c) (Some a) = Unit {0}
MakesFew shape (work.Resize r) a = Unit {0}

-- it is so at each place of a run of polls, wherever that is cut in two
abbrev pub RunsWithFew : Shape → Working → List ℕ → Type 0
RunsWithFew shape from words = (front back : List ℕ) → words ≡ front ++ back → let at = after_words (works shape) (resumes from) front in MakesFew shape at.0 at.1
