use Rattle.std.proofs.Common.{◌<◌, ◌≤◌, length, refl, arith}
use Rattle.section_core.specs.Sections.{IsLowest}
use Rattle.section_core.proofs.States.{state-lowest, state-over}
use Rattle.section_core.proofs.sections.Sections.check.Goals as goal

-- the grace waits for the seat at which the search stops
found : (c : goal.Then-was_inside) → IsLowest c.args.self.now c.args.grace c.loop-seat.seat
found c =
    let fields = c.self.inside in
    let within : c.loop-seat.seat < length fields.entered.items = omega (arith, c.loop-seat-test.true, c.len-seat-end.ensures) in
    state-lowest fields.first fields.begun c.grace.inside.number c.args.grace c.loop-seat.seat fields.entered.items c.args.self.now c.index.result.now c.was_inside.result
    c.self.view_is c.grace.view_is c.requires.begun within c.loop-seat.invariant c.index.ensures c.was_inside.ensures.value c.if-was_inside.true

pub returns-then-was_inside-clause-ready : goal.returns-then-was_inside-clause-ready
returns-then-was_inside-clause-ready c =
    ((λ is. absurd (cc)), (λ over. absurd (over c.loop-seat.seat (found c).waits)))

pub returns-then-was_inside-clause-pending : goal.returns-then-was_inside-clause-pending
returns-then-was_inside-clause-pending c = (refl, found c)

pub returns-clause-ready : goal.returns-clause-ready
returns-clause-ready c =
    let fields = c.self.inside in
    let size : length fields.entered.items ≤ c.loop-seat.seat = omega (arith, c.loop-seat-test.false, c.len-seat-end.ensures) in
    let over = state-over fields.first fields.begun c.grace.inside.number c.args.grace fields.entered.items c.args.self.now c.self.view_is c.grace.view_is c.requires.begun
    (λ lower within. c.loop-seat.invariant lower (omega (arith, within, size))) in
    ((λ _. over), (λ _. refl))
