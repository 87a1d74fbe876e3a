use Rattle.std.proofs.Common.{sym, subst, ◌∙◌, IsPermutation}
use Rattle.std.specs.FinMap as finite
use Rattle.plain_interner.specs.Entries.{text_map}
use Rattle.plain_interner.proofs.TextMaps.{values-text_map}
use Rattle.plain_interner.proofs.entries.Entries.entries.Goals as goal

pub returns-clause-entries : goal.returns-clause-entries
returns-clause-entries c =
    let es = c.self.inside.texts.entries in
    rw (← c.self.view_is) (subst (IsPermutation (finite.values (text_map es))) (sym (c.as_slice.ensures ∙ c.values.ensures.rest)) (values-text_map es c.self.invariant.distinct))
