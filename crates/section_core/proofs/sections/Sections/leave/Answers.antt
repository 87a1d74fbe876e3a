use Rattle.section_core.proofs.States.{state-left}
use Rattle.section_core.proofs.sections.Sections.leave.Goals as goal

pub returns : goal.returns
returns c = let fields = c.self.inside in record { value = state-left fields.first fields.begun c.args.seat fields.entered.items c.args.self.now c.self.view_is }
