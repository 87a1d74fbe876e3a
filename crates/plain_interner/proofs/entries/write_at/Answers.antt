use Rattle.plain_interner.proofs.TextMaps.{text_map-written}
use Rattle.plain_interner.proofs.entries.write_at.Goals as goal

pub returns-clause-written : goal.returns-clause-written
returns-clause-written c = λ t e at. text_map-written c.args.texts.now c.args.index t e c.args.entry c.pair_mut-kept.ensures.unique at
