use Rattle.std.proofs.lemmas.List.Sorted.{length_permutation}
use Rattle.plain_interner.proofs.plain.Plain.live.Goals as goal

pub returns : goal.returns
returns c = record { live = rw (← c.self.view_is) (length_permutation _ _ c.names.ensures.names) }
