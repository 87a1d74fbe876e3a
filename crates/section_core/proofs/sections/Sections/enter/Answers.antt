use Rattle.section_core.proofs.States.{state-entered}
use Rattle.section_core.proofs.sections.Sections.enter.Goals as goal

pub returns : goal.returns
returns c = let fields = c.self.inside in record { value = state-entered fields.first fields.begun c.args.seat fields.entered.items c.args.self.now c.self.view_is c.requires.outside }
