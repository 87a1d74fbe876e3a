use Rattle.std.proofs.Common.{refl}
use Rattle.cht_run.proofs.Counting.{numbers_read}
use Rattle.cht_run.proofs.table.Cht.statistics.Goals as goal

pub returns-clause-numbers : goal.returns-clause-numbers
returns-clause-numbers c =
    let first = c.open_words in
    let level = c.read_level-level in
    let row = c.tally_row-longest in
    numbers_read c.args.self.now c.args.seat.now first.new.seat level.new.seat first.ensures.history first.ensures.reads level.ensures.on _ row.result.0 level.ensures.value c.buckets_of.ensures.value row.ensures.tally refl refl refl
    row.ensures.longest
