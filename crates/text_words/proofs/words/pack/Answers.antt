use Rattle.std.proofs.Common.{arith}
use Rattle.text_words.specs.Words.{word_at}
use Rattle.text_words.proofs.Packing.{set-made_list}
use Rattle.text_words.proofs.words.pack.Goals as goal

pub loop-at-preserved : goal.loop-at-preserved
loop-at-preserved c =
    rw c.loop-at.invariant (set-made_list (word_at c.args.text.now) c.args.out.now c.loop-at.at c.word_at.result (omega arith) c.word_at.ensures.value)
