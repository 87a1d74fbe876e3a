use Rattle.schedule_sim.specs.PrintedLines.{texts_in}
use Rattle.schedule_sim.proofs.Walks.{chain_shown}
use Rattle.schedule_sim.proofs.run.show_chain.Goals as goal

pub returns-clause-made : goal.returns-clause-made
returns-clause-made c = chain_shown c.args.shape.now c.words-words.result.now c.args.row c.args.bucket c.in-Some.found.0 c.in-Some.found.1 c.args.state.now (texts_in c.as_slice.result.now)
    c.args.out.now.items _ c.words-words.ensures.value c.requires.of c.in-Some.ensures.value.0 c.in-Some.ensures.value.1 c.in-Some.ensures.value.2
    (rw c.as_slice.ensures.value (rw c.in-Some-2.is at c.in_ok-texts.ensures.chain)) c.in_ok-push_chain.ensures.text
