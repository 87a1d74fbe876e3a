use Rattle.cht_run.proofs.Reading.{opens_words}
use Rattle.cht_run.proofs.table.Cht.open_words.Goals as goal

pub returns-clause-reads : goal.returns-clause-reads
returns-clause-reads c = opens_words c.args.self.now c.args.seat.now c.look.new.seat 0 c.look.result c.look.ensures.of c.look.ensures.same c.requires.alone c.requires.nothing c.args.seat.now.rests c.look.ensures.told
