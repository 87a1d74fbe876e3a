use Rattle.schedule_sim.proofs.run.run_line.Goals as goal

pub returns-in-Call-clause-made : goal.returns-in-Call-clause-made
returns-in-Call-clause-made c = rw c.in-Call.is c.begin_asked.ensures.made

pub returns-in-Step-clause-made : goal.returns-in-Step-clause-made
returns-in-Step-clause-made c = rw c.in-Step.is c.make_steps.ensures.made

pub returns-in-Until-clause-made : goal.returns-in-Until-clause-made
returns-in-Until-clause-made c = rw c.in-Until.is c.go_on.ensures.made

pub returns-in-Run-clause-made : goal.returns-in-Run-clause-made
returns-in-Run-clause-made c = rw c.in-Run.is c.go_on-in-Run.ensures.made

pub returns-in-Chain-clause-made : goal.returns-in-Chain-clause-made
returns-in-Chain-clause-made c = rw c.in-Chain.is c.show_chain.ensures.made

pub returns-in-Rehash-clause-made : goal.returns-in-Rehash-clause-made
returns-in-Rehash-clause-made c = rw c.in-Rehash.is c.make_anew.ensures.made
