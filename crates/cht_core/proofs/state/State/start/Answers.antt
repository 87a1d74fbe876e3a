use Rattle.std.proofs.Common.{◌≡◌, ◌<◌, length, sym, ap, ◌∙◌, arith, Some}
use Rattle.cht_core.specs.declared.seat.Seat.TheVariants as doing
use Rattle.cht_core.specs.State.{seat_in}
use Rattle.cht_core.proofs.StateStarts.{seat_read, start_core, start_said}
use Rattle.cht_core.proofs.state.State.start.Goals as goal

pub invariant_of-self : goal.invariant_of-self
invariant_of-self c =
    let seats = c.self.inside.seats.items in
    let below : c.args.seat < length seats = omega arith in
    let at : seat_in seats c.args.seat ≡ Some (doing.Idle c.in-Idle.own) = seat_read seats c.args.seat c.index.result.now below c.index.ensures ∙ c.in-Some.is ∙ ap Some c.in-Idle.is in
    let again : seat_in seats c.args.seat ≡ Some (doing.Idle c.in-Idle-taken.own) =
    seat_read seats c.args.seat c.index_mut.result.now below c.index_mut.ensures.value ∙ sym c.take.ensures.value ∙ c.in-Some-take.is ∙ ap Some c.in-Idle-taken.is in
    start_core _ c.self.invariant c.args.seat c.in-Idle.own c.in-Idle-taken.own at again c.args.call c.as_slice.result.now c.as_slice.ensures.value c.can_start.ensures.bytes
    (c.can_start.ensures.exact.0 c.if-not-can_start.false) c.take.new.self c.begun-next.result.0 c.begun-next.result.1 c.begun-next.ensures.seat c.begun-next.ensures.answer

pub returns : goal.returns
returns c =
    let seats = c.self.inside.seats.items in
    let below : c.args.seat < length seats = omega arith in
    let at : seat_in seats c.args.seat ≡ Some (doing.Idle c.in-Idle.own) = seat_read seats c.args.seat c.index.result.now below c.index.ensures ∙ c.in-Some.is ∙ ap Some c.in-Idle.is in
    let again : seat_in seats c.args.seat ≡ Some (doing.Idle c.in-Idle-taken.own) =
    seat_read seats c.args.seat c.index_mut.result.now below c.index_mut.ensures.value ∙ sym c.take.ensures.value ∙ c.in-Some-take.is ∙ ap Some c.in-Idle-taken.is in
    record {
      value = rw (← c.self.view_is) (start_said _ c.self.invariant c.args.seat c.in-Idle.own c.in-Idle-taken.own at again c.args.call c.as_slice.result.now c.as_slice.ensures.value
          c.can_start.ensures.bytes
          (c.can_start.ensures.exact.0 c.if-not-can_start.false) c.take.new.self c.begun-next.result.0 c.begun-next.result.1 c.begun-next.ensures.seat c.begun-next.ensures.answer
          c.started_with.result c.started_with.ensures.value);
    }
