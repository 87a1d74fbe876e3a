use Rattle.std.specs.Cmp.Lexicographic.{slice_cmp}
use Rattle.std.specs.Ordering.{nat_cmp}
use Rattle.std.specs.FinMap as finite
use Rattle.intern_log.proofs.entry_laws.no_entry_at_first.Goals as goal

pub returns : goal.returns
returns c = record { law = λ text. finite.get-empty (slice_cmp nat_cmp) text }
