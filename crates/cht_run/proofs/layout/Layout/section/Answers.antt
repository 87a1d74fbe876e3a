use Rattle.std.proofs.Common.{sym, ◌∙◌}
use Rattle.cht_run.proofs.Layouts.{section_is}
use Rattle.cht_run.proofs.layout.Layout.section.Goals as goal

pub returns-then-self : goal.returns-then-self
returns-then-self c =
    let l = c.args.self.now in
    record { value = λ inside. section_is l.shape l.greatest_from c.args.seat l.sound l.greatest (sym l.spread ∙ c.if-self.true) inside }
