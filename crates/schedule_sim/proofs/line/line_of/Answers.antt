use Rattle.std.proofs.Common.{sym, ◌∙◌}
use Rattle.schedule_sim.proofs.line.line_of.Goals as goal

pub returns-in-Some-plain_line-clause-line : goal.returns-in-Some-plain_line-clause-line
returns-in-Some-plain_line-clause-line c = rw (sym c.of-parts.ensures.parts ∙ c.in-Some.ensures.part) (c.in-Some-plain_line.ensures.line c.args.kind)
