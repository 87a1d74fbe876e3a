use Rattle.std.proofs.Common.{◌≡◌, ◌<◌, length, sym, ap, ◌∙◌, arith, Some}
use Rattle.call_machine.specs.Machine.{shape_of}
use Rattle.cht_core.specs.declared.seat.Seat.TheVariants as doing
use Rattle.cht_core.specs.State.{seat_in}
use Rattle.cht_core.proofs.StateStarts.{seat_read, next_kind_is}
use Rattle.cht_core.proofs.state.State.next_kind.Goals as goal

pub returns-in-Do : goal.returns-in-Do
returns-in-Do c =
    let seats = c.self.inside.seats.items in
    let machine = c.in-Running.machine in
    let below : c.args.seat < length seats = omega arith in
    let at : seat_in seats c.args.seat ≡ Some (doing.Running machine) = seat_read seats c.args.seat c.index.result.now below c.index.ensures ∙ c.in-Some.is ∙ ap Some c.in-Running.is in
    record { value = rw (← c.self.view_is) (next_kind_is seats c.args.seat machine (shape_of machine) c.in-Do.op c.in-Do.kind at (sym c.want.ensures.value ∙ c.in-Do.is)) }
