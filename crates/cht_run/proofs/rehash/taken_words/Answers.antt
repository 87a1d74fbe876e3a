use Rattle.std.proofs.Common.{◌≡◌, ℕ, List, sym, subst, arith}
use Rattle.atomic_table.specs.Table.{Final, Seen}
use Rattle.cht_run.specs.Rule.{Kept}
use Rattle.cht_run.proofs.Copies.{copied_one, copied_all}
use Rattle.cht_run.proofs.rehash.taken_words.Goals as goal

pub loop-index-preserved : goal.loop-index-preserved
loop-index-preserved c =
    let closed = c.close_with-closed.result.words in
    let long = c.loop-index.invariant.copied.long in
    let counts = c.close_with-closed.ensures.counts.0 in
    let items = closed.ok.0 in
    let size = c.word_count-size.ensures in
    let less = c.loop-index-test.true in
    record { copied = copied_one closed.items c.loop-index.words.items c.loop-index.index c.word.result c.loop-index.invariant.copied (omega (arith, long, counts, items, size, less)) c.word.ensures }

pub returns : goal.returns
returns c =
    let closed = c.close_with-closed.result.words in
    let counts = c.close_with-closed.ensures.counts.0 in
    let items = closed.ok.0 in
    let size = c.word_count-size.ensures in
    let end = c.loop-index.auto.index-end in
    let last = c.loop-index-test.false in
    let same : c.loop-index.words.items ≡ closed.items = copied_all closed.items c.loop-index.words.items c.loop-index.index c.loop-index.invariant.copied (omega (arith, counts, items, size, end, last)) in
    let slots = c.close_with-closed.result.slots.items in
    record { taken = (slots, subst (λ (ws : List ℕ). Final (Seen (Kept c.args.old.shared.key.origin) c.args.raw.id c.args.raw.me.0) ws slots) (sym same) c.close_with-closed.ensures.values.2) }
