use Rattle.schedule_sim.specs.PrintedLines.{texts_in}
use Rattle.schedule_sim.proofs.Walks.{HasMet}
use Rattle.schedule_sim.proofs.chain.texts_of_chain.Given as goal

abbrev pub invariant-loop : goal.invariant-loop
invariant-loop l = record { met : HasMet l.shape l.words l.row l.bucket (texts_in l.texts.items) l.next }
