use Rattle.std.proofs.Common.{refl}
use Rattle.schedule_sim.proofs.Forms.{peel}
use Rattle.schedule_sim.proofs.opening.next_shape.Goals as goal

pub returns-in_err-max_level-clause-none : goal.returns-in_err-max_level-clause-none
returns-in_err-max_level-clause-none c = λ _ shape more small is.
    let one = peel _ _ _ _ _ c.in_ok-slots.ensures.number is in
    let two = peel _ _ _ _ _ c.in_ok-text_words.ensures.number one in
    let three = peel _ _ _ _ _ c.in_ok-min_level.ensures.number two in
    c.in_err-max_level.ensures.none refl _ _ small.max_level three

pub returns-in_err-seats-clause-none : goal.returns-in_err-seats-clause-none
returns-in_err-seats-clause-none c = λ _ shape more small is.
    let one = peel _ _ _ _ _ c.in_ok-slots.ensures.number is in
    let two = peel _ _ _ _ _ c.in_ok-text_words.ensures.number one in
    let three = peel _ _ _ _ _ c.in_ok-min_level.ensures.number two in
    let four = peel _ _ _ _ _ c.in_ok-max_level.ensures.number three in
    c.in_err-seats.ensures.none refl _ _ small.seats four
