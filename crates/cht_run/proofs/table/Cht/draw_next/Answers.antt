use Rattle.std.proofs.Common.{arith}
use Rattle.cht_run.proofs.Draws.{none_left, one_drawn}
use Rattle.cht_run.proofs.table.Cht.draw_next.Goals as goal

pub returns-then-word-from-clause-drawn : goal.returns-then-word-from-clause-drawn
returns-then-word-from-clause-drawn g c =
    none_left c.args.self.now g.M.Began.sight g.M.Began.call c.args.request.now c.args.seat.now c.fetch_add-word.new.seat c.args.along.now c.fetch_add-word.result c.requires.at c.requires.none c.fetch_add-word.ensures.sits c.fetch_add-word.ensures.told
    (let test = c.if-word-from.true in let same = c.from.ensures in omega (arith, test, same))

pub returns-clause-drawn : goal.returns-clause-drawn
returns-clause-drawn g c =
    one_drawn c.args.self.now g.M.Began.sight g.M.Began.call c.args.request.now c.args.seat.now c.fetch_add-word.new.seat c.args.along.now c.fetch_add-word.result c.requires.at c.requires.none c.fetch_add-word.ensures.sits c.fetch_add-word.ensures.told
    (let test = c.if-word-from.false in let same = c.from.ensures in omega (arith, test, same))
