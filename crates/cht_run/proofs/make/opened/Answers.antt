use Rattle.std.proofs.Common.{◌∙◌, ℕ, List, [], refl, sym, subst}
use Rattle.atomic_table.specs.Table.{opening}
use Rattle.cht_run.specs.declared.sight.Origin.{Origin}
use Rattle.cht_run.specs.Rule.{Kept, root_of}
use Rattle.cht_run.proofs.Opens.{opens}
use Rattle.cht_run.proofs.make.opened.Goals as goal

pub of_words-requires : goal.of_words-requires
of_words-requires c =
    let o : Origin = record { table = c.args.table; seed = 0 } in
    subst (λ (words : List ℕ). Kept o (opening words [] (root_of o))) (sym (c.as_slice.ensures.value ∙ c.in_ok-words.ensures.value)) (opens o c.requires.shape c.requires.counter refl)
