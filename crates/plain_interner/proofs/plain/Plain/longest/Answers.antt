use Rattle.std.proofs.Common.{◌∙◌}
use Rattle.plain_interner.proofs.Longest.{longest_of-permuted}
use Rattle.plain_interner.proofs.plain.Plain.longest.Goals as goal

pub returns : goal.returns
returns c = record { longest = rw (← c.self.view_is) (c.longest.ensures ∙ longest_of-permuted c.args.level _ _ c.names.ensures.names) }
