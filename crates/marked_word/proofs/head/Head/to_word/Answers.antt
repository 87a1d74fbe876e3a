use Rattle.marked_word.proofs.Marks.{mark_below, or_of_link_and_marks}
use Rattle.marked_word.proofs.head.Head.to_word.Goals as goal

pub returns : goal.returns
returns c =
    let head = c.args.self.now in
    record { value = rw (c.from.ensures, c.from-2.ensures, ← c.link_word.ensures.value) (or_of_link_and_marks c.link_word.result _ _ c.link_word.ensures.small (mark_below head.redirect) (mark_below head.lock)) }
