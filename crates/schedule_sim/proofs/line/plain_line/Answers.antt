use Rattle.schedule_sim.proofs.line.plain_line.Goals as goal

pub returns-then-is_word-clause-line : goal.returns-then-is_word-clause-line
returns-then-is_word-clause-line c = rw (c.is_word.ensures.0 c.if-is_word.true) c.step_line.ensures.line

pub returns-then-is_word-2-clause-line : goal.returns-then-is_word-2-clause-line
returns-then-is_word-2-clause-line c = rw (c.is_word-else-is_word.ensures.0 c.if-is_word-2.true) c.until_line.ensures.line

pub returns-then-is_word-3-clause-line : goal.returns-then-is_word-3-clause-line
returns-then-is_word-3-clause-line c = rw (c.is_word-else-is_word-2.ensures.0 c.if-is_word-3.true) c.run_line.ensures.line

pub returns-then-is_word-4-clause-line : goal.returns-then-is_word-4-clause-line
returns-then-is_word-4-clause-line c = rw (c.is_word-else-is_word-3.ensures.0 c.if-is_word-4.true) c.chain_line.ensures.line

pub returns-then-is_word-5-clause-line : goal.returns-then-is_word-5-clause-line
returns-then-is_word-5-clause-line c = rw (c.is_word-else-is_word-4.ensures.0 c.if-is_word-5.true) c.rehash_line.ensures.line
