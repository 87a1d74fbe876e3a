use Rattle.std.proofs.Common.{[], ◌∷◌, refl}
use Rattle.cht_core.specs.declared.state.Started.TheVariants as begun
use Rattle.schedule_sim.specs.PrintedLines.{Answers}
use Rattle.schedule_sim.proofs.Texts.{one_line}
use Rattle.schedule_sim.proofs.run.begin.Goals as goal

pub returns-in_ok-push_answer-in-Answered-clause-made : goal.returns-in_ok-push_answer-in-Answered-clause-made
returns-in_ok-push_answer-in-Answered-clause-made c = (
  Answers c.args.seat c.in-Answered.answer ∷ [],
  (begun.Answered c.in-Answered.answer, c.in-Answered.ensures.value, refl),
  one_line c.args.out.now.items _ (Answers c.args.seat c.in-Answered.answer) c.in_ok-push_answer-in-Answered.ensures.text,
)
