use Rattle.std.proofs.Common.{◌∷◌, [], All, length, subst, sym, ap, ◌∙◌, ◌++◌}
use Rattle.chain_core.specs.Path.{IsPathIn}
use Rattle.resize_core.specs.declared.moves.Move.{Move}
use Rattle.resize_core.specs.declared.moves.Place.TheVariants.{EvenHead}
use Rattle.resize_core.specs.Moves.{IsPlaceIn, end_of, links_after_all, heads_after_all}
use Rattle.resize_core.specs.Join.{joining}
use Rattle.resize_core.proofs.Joins.{joined, joining_in, one_more}
use Rattle.resize_core.proofs.shrink.join.Goals as goal

pub returns-clause-path : goal.returns-clause-path
returns-clause-path c even odd low high apart =
    let one_move = one_more c.new-moves.result.items c.push.new.self.items c.end_of.result (end_of EvenHead c.in_ok-even.even.items) c.args.heads.odd
    c.in_ok-push.ensures.items c.new-moves.ensures.items (c.end_of.ensures.value ∙ ap (end_of EvenHead) c.deref.ensures.value) in
    let moves = one_move ∙ ap (λ nodes. joining c.args.heads nodes ∷ []) (c.in_ok-even.ensures.found even low) in
    subst (λ l. IsPathIn (links_after_all c.args.next.now l) (heads_after_all c.args.heads l).even (even ++ odd)) (sym moves) (joined c.args.next.now c.args.heads even odd low high apart).0

pub returns-clause-odd_stays : goal.returns-clause-odd_stays
returns-clause-odd_stays c even odd low high apart =
    let one_move = one_more c.new-moves.result.items c.push.new.self.items c.end_of.result (end_of EvenHead c.in_ok-even.even.items) c.args.heads.odd
    c.in_ok-push.ensures.items c.new-moves.ensures.items (c.end_of.ensures.value ∙ ap (end_of EvenHead) c.deref.ensures.value) in
    let moves = one_move ∙ ap (λ nodes. joining c.args.heads nodes ∷ []) (c.in_ok-even.ensures.found even low) in
    subst (λ l. IsPathIn (links_after_all c.args.next.now l) (heads_after_all c.args.heads l).odd odd) (sym moves) (joined c.args.next.now c.args.heads even odd low high apart).1

pub returns-clause-inside : goal.returns-clause-inside
returns-clause-inside c =
    let one_move = one_more c.new-moves.result.items c.push.new.self.items c.end_of.result (end_of EvenHead c.in_ok-even.even.items) c.args.heads.odd
    c.in_ok-push.ensures.items c.new-moves.ensures.items (c.end_of.ensures.value ∙ ap (end_of EvenHead) c.deref.ensures.value) in
    subst (All (λ (step : Move). IsPlaceIn (length c.args.next.now) step.place)) (sym one_move)
    (joining_in c.args.next.now c.args.heads c.in_ok-even.even.items c.in_ok-even.ensures.path)
