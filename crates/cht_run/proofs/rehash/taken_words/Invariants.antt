use Rattle.cht_run.proofs.Copies.{Copied}
use Rattle.cht_run.proofs.rehash.taken_words.Given as goal

abbrev pub invariant-loop-index : goal.invariant-loop-index
invariant-loop-index l = record { copied : Copied l.closed.words.items l.words.items l.index }
