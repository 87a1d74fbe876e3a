use Rattle.std.proofs.Common.{sym, subst, ◌∙◌, IsPermutation}
use Rattle.intern_log.specs.TextMap.{live_texts}
use Rattle.plain_interner.specs.Entries.{text_map}
use Rattle.plain_interner.proofs.TextMaps.{live_texts-text_map}
use Rattle.plain_interner.proofs.entries.Entries.names.Goals as goal

pub returns-clause-names : goal.returns-clause-names
returns-clause-names c =
    let es = c.self.inside.texts.entries in
    rw (← c.self.view_is) (subst (IsPermutation (live_texts (text_map es))) (sym (c.as_slice.ensures ∙ c.keys.ensures.rest)) (live_texts-text_map es c.self.invariant.distinct))
