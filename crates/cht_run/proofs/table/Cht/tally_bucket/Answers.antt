use Rattle.cht_run.proofs.Counting.{bucket_chain, bucket_counted}
use Rattle.cht_run.proofs.table.Cht.tally_bucket.Goals as goal

pub tally_chain-requires-clause-chain : goal.tally_chain-requires-clause-chain
tally_chain-requires-clause-chain c =
    let r = c.read_first-first in
    bucket_chain c.args.self.now c.args.seat.now r.new.seat c.requires.reads r.ensures.on c.args.level c.args.bucket c.requires.level c.requires.bucket r.result r.ensures.value

pub returns-clause-tally : goal.returns-clause-tally
returns-clause-tally c =
    let r = c.read_first-first in
    bucket_counted c.args.self.now c.args.seat.now r.new.seat c.requires.reads r.ensures.on c.args.level c.args.bucket c.requires.level c.requires.bucket r.result r.ensures.value c.tally_chain.result c.tally_chain.ensures.tally
