use Rattle.std.proofs.Common.{◌∙◌, arith}
use Rattle.cht_run.specs.History.{log_of}
use Rattle.cht_run.proofs.TextReads.{read_more}
use Rattle.cht_run.proofs.table.Cht.read_words.Goals as goal

pub loop-at-preserved : goal.loop-at-preserved
loop-at-preserved g c = record {
  at = c.read_word.ensures.at;
  own = c.read_word.ensures.own ∙ c.loop-at.invariant.own;
  read =
      read_more g.M.Began.sight.origin.table (log_of c.loop-at.seat.me.0.history) (log_of c.read_word.new.seat.me.0.history) c.args.request.now.handle c.args.long c.loop-at.at c.read_word.result c.args.out.now c.loop-at.out
      c.read_word.ensures.at.stands.sees.told c.read_word.ensures.longer c.loop-at.invariant.read c.read_word.ensures.says (omega arith) (omega arith);
}
