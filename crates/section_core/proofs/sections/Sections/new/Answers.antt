use Rattle.std.proofs.Common.{rules}
use Rattle.section_core.proofs.States.{state-new}
use Rattle.section_core.proofs.sections.Sections.new.Goals as goal

pub returns : goal.returns
returns c = record { value = state-new c.args.first c.args.seats c.in_ok-vec.field-0.items (c.in_ok-vec.ensures.items_if_clones_equal (λ y clone. search rules)) }
