use Rattle.std.proofs.Common.{◌≡◌, sym, ◌∙◌, subst, false, IsTrue}
use Rattle.cht_core.specs.State.{IsFirstCounter}
use Rattle.schedule_sim.specs.Fit.{IsFit}
use Rattle.schedule_sim.proofs.Forms.{peel}
use Rattle.schedule_sim.proofs.Openings.{fit_small, same_shape, same_counter}
use Rattle.schedule_sim.proofs.opening.opening_of.Goals as goal

pub returns-then-not-is_fit-clause-none : goal.returns-then-not-is_fit-clause-none
returns-then-not-is_fit-clause-none c = λ _ kind shape counter o.
    let one = peel _ _ _ _ _ c.in_ok-next.ensures.part (c.of-parts.ensures.parts ∙ o.parts) in
    let two = peel _ _ _ _ _ c.in_ok-next-2.ensures.part one in
    let same = same_shape c.in_ok-shape.shape shape _ _ c.in_ok-shape.ensures.small (fit_small shape o.fit) (sym c.in_ok-shape.ensures.shape ∙ two) in
    let yes : IsTrue c.is_fit.result = c.is_fit.ensures.1 (subst IsFit (sym same.0) o.fit) in
    let wrong : c.is_fit.result ≡ false = c.if-not-is_fit.true in
    cc

pub returns-then-not-is_first_counter-clause-none : goal.returns-then-not-is_first_counter-clause-none
returns-then-not-is_first_counter-clause-none c = λ _ kind shape counter o.
    let one = peel _ _ _ _ _ c.in_ok-next.ensures.part (c.of-parts.ensures.parts ∙ o.parts) in
    let two = peel _ _ _ _ _ c.in_ok-next-2.ensures.part one in
    let same = same_shape c.in_ok-shape.shape shape _ _ c.in_ok-shape.ensures.small (fit_small shape o.fit) (sym c.in_ok-shape.ensures.shape ∙ two) in
    let equal = same_counter c.in_ok-first_counter.first_counter counter c.in_ok-first_counter.ensures.small o.begins (sym c.in_ok-first_counter.ensures.number ∙ same.1) in
    let yes : IsTrue c.is_first_counter.result = c.is_first_counter.ensures.1 (subst IsFirstCounter (sym equal) o.begins) in
    let wrong : c.is_first_counter.result ≡ false = c.if-not-is_first_counter.true in
    cc
