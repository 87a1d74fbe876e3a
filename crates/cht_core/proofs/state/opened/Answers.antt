use Rattle.cht_core.proofs.StateOpens.{opened_core}
use Rattle.cht_core.proofs.state.opened.Goals as goal

pub invariant_of-result : goal.invariant_of-result
invariant_of-result c =
    opened_core c.args.table c.requires.shape c.requires.counter c.args.size c.index.result c.index-2.result c.index-3.result c.from.result c.in_ok-words.words.items
    c.in_ok-first_seats.field-0.items c.new.result.items
    c.requires.size (c.in_ok-words.ensures.items_if_clones_equal (λ y clone. clone)) c.index.ensures.value c.index-2.ensures.value c.index-3.ensures.value c.from.ensures
    c.in_ok-first_seats.ensures.value c.new.ensures.items
