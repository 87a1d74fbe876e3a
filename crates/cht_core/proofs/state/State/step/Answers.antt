use Rattle.std.proofs.Common.{◌≡◌, ◌<◌, length, sym, ap, ◌∙◌, arith, Some}
use Rattle.atomic_step.specs.declared.plan.Plan.TheVariants as plan
use Rattle.call_machine.specs.Machine.{plan_of}
use Rattle.cht_core.specs.declared.seat.Seat.TheVariants as doing
use Rattle.cht_core.specs.State.{seat_in}
use Rattle.cht_core.proofs.StateLaw.{any_step_keeps, any_word_fits}
use Rattle.cht_core.proofs.StateStarts.{seat_read}
use Rattle.cht_core.proofs.StateSteps.{shows_core, lawful_core, running_goes, step_sound, code_index, code_fits, code_core, code_said}
use Rattle.cht_core.proofs.state.State.step.Goals as goal

pub returns-then-place-len-clause-shows : goal.returns-then-place-len-clause-shows
returns-then-place-len-clause-shows c = rw (← c.self.view_is) (shows_core _ c.self.invariant)

pub returns-in_default-clause-shows : goal.returns-in_default-clause-shows
returns-in_default-clause-shows c = rw (← c.self.view_is) (shows_core _ c.self.invariant)

pub returns-in_default-at-clause-shows : goal.returns-in_default-at-clause-shows
returns-in_default-at-clause-shows c = rw (← c.self.view_is) (shows_core _ c.self.invariant)

pub returns-in_err-event-clause-shows : goal.returns-in_err-event-clause-shows
returns-in_err-event-clause-shows c = rw (← c.self.view_is) (shows_core _ c.self.invariant)

pub returns-in_err-record-clause-shows : goal.returns-in_err-record-clause-shows
returns-in_err-record-clause-shows c = rw c.in_err-record.ensures.err (shows_core _ c.self.invariant)

pub unreachable-requires : goal.unreachable-requires
unreachable-requires c =
    let seats = c.self.inside.seats.items in
    let below : c.args.seat < length seats = omega arith in
    let at : seat_in seats c.args.seat ≡ Some (doing.Running c.in-Running.machine) =
    seat_read seats c.args.seat c.index.result.now below c.index.ensures ∙ c.in-Some.is ∙ ap Some c.in-Running.is in
    running_goes _ c.self.invariant c.args.seat c.in-Running.machine c.plan.result c.in_default-plan.field-0 at c.plan.ensures.value c.in_default-plan.is

pub op-op-requires-clause-inside : goal.op-op-requires-clause-inside
op-op-requires-clause-inside c =
    let seats = c.self.inside.seats.items in
    let below : c.args.seat < length seats = omega arith in
    let at : seat_in seats c.args.seat ≡ Some (doing.Running c.in-Running.machine) =
    seat_read seats c.args.seat c.index.result.now below c.index.ensures ∙ c.in-Some.is ∙ ap Some c.in-Running.is in
    let planned : plan_of c.in-Running.machine ≡ plan.Step c.in-Step.step = sym c.plan.ensures.value ∙ c.in-Step.is in
    (step_sound any_step_keeps any_word_fits _ c.self.invariant c.args.seat c.in-Running.machine c.in-Step.step at planned).0

pub op-op-requires-clause-value : goal.op-op-requires-clause-value
op-op-requires-clause-value c =
    let seats = c.self.inside.seats.items in
    let below : c.args.seat < length seats = omega arith in
    let at : seat_in seats c.args.seat ≡ Some (doing.Running c.in-Running.machine) =
    seat_read seats c.args.seat c.index.result.now below c.index.ensures ∙ c.in-Some.is ∙ ap Some c.in-Running.is in
    let planned : plan_of c.in-Running.machine ≡ plan.Step c.in-Step.step = sym c.plan.ensures.value ∙ c.in-Step.is in
    (step_sound any_step_keeps any_word_fits _ c.self.invariant c.args.seat c.in-Running.machine c.in-Step.step at planned).1

pub index-word-requires : goal.index-word-requires
index-word-requires c =
    let seats = c.self.inside.seats.items in
    let below : c.args.seat < length seats = omega arith in
    let at : seat_in seats c.args.seat ≡ Some (doing.Running c.in-Running.machine) =
    seat_read seats c.args.seat c.index.result.now below c.index.ensures ∙ c.in-Some.is ∙ ap Some c.in-Running.is in
    let planned : plan_of c.in-Running.machine ≡ plan.Step c.in-Step.step = sym c.plan.ensures.value ∙ c.in-Step.is in
    let inside : c.at-index.result < length c.self.inside.words.items =
    code_index any_step_keeps any_word_fits _ c.self.invariant c.args.seat c.in-Running.machine at
    c.in-Step.step planned c.op-op.result c.op-op.ensures.value c.at-index.result c.at-index.ensures.value in
    omega (arith, inside)

pub index_mut-requires : goal.index_mut-requires
index_mut-requires c =
    let seats = c.self.inside.seats.items in
    let below : c.args.seat < length seats = omega arith in
    let at : seat_in seats c.args.seat ≡ Some (doing.Running c.in-Running.machine) =
    seat_read seats c.args.seat c.index.result.now below c.index.ensures ∙ c.in-Some.is ∙ ap Some c.in-Running.is in
    let planned : plan_of c.in-Running.machine ≡ plan.Step c.in-Step.step = sym c.plan.ensures.value ∙ c.in-Step.is in
    let inside : c.at-index.result < length c.self.inside.words.items =
    code_index any_step_keeps any_word_fits _ c.self.invariant c.args.seat c.in-Running.machine at
    c.in-Step.step planned c.op-op.result c.op-op.ensures.value c.at-index.result c.at-index.ensures.value in
    omega (arith, inside)

pub advance-answer-requires : goal.advance-answer-requires
advance-answer-requires c =
    let seats = c.self.inside.seats.items in
    let below : c.args.seat < length seats = omega arith in
    let at : seat_in seats c.args.seat ≡ Some (doing.Running c.in-Running.machine) =
    seat_read seats c.args.seat c.index.result.now below c.index.ensures ∙ c.in-Some.is ∙ ap Some c.in-Running.is in
    let planned : plan_of c.in-Running.machine ≡ plan.Step c.in-Step.step = sym c.plan.ensures.value ∙ c.in-Step.is in
    let lent : c.index_mut-2.result.now ≡ Some (doing.Running c.in-Running.machine) =
    sym (seat_read seats c.args.seat c.index_mut-2.result.now below c.index_mut-2.ensures.value) ∙ at in
    record {
      fits = (
        c.in-Running.machine,
        lent,
        code_fits any_step_keeps any_word_fits _ c.self.invariant c.args.seat c.in-Running.machine at c.in-Step.step planned
            c.op-op.result c.op-op.ensures.value c.at-index.result c.at-index.ensures.value c.index-word.result.now c.index-word.ensures,
      );
    }

pub invariant_of-self-2 : goal.invariant_of-self-2
invariant_of-self-2 c =
    let seats = c.self.inside.seats.items in
    let below : c.args.seat < length seats = omega arith in
    let at : seat_in seats c.args.seat ≡ Some (doing.Running c.in-Running.machine) =
    seat_read seats c.args.seat c.index.result.now below c.index.ensures ∙ c.in-Some.is ∙ ap Some c.in-Running.is in
    let planned : plan_of c.in-Running.machine ≡ plan.Step c.in-Step.step = sym c.plan.ensures.value ∙ c.in-Step.is in
    let lent : c.index_mut-2.result.now ≡ Some (doing.Running c.in-Running.machine) =
    sym (seat_read seats c.args.seat c.index_mut-2.result.now below c.index_mut-2.ensures.value) ∙ at in
    code_core any_step_keeps any_word_fits _ c.self.invariant c.args.seat c.in-Running.machine at c.in-Step.step planned
    c.op-op.result c.op-op.ensures.value c.at-index.result c.at-index.ensures.value c.index-word.result.now c.index-word.ensures
    c.after.result c.in_ok-event.event c.record.new.log.items c.advance-answer.new.seat c.add_drawn.new.seats.items
    c.after.ensures.value c.in_ok-event.ensures.value c.in_ok-record.ensures.ok (c.advance-answer.ensures.seat c.in-Running.machine lent) c.add_drawn.ensures.value

pub returns-clause-value : goal.returns-clause-value
returns-clause-value c =
    let seats = c.self.inside.seats.items in
    let below : c.args.seat < length seats = omega arith in
    let at : seat_in seats c.args.seat ≡ Some (doing.Running c.in-Running.machine) =
    seat_read seats c.args.seat c.index.result.now below c.index.ensures ∙ c.in-Some.is ∙ ap Some c.in-Running.is in
    let planned : plan_of c.in-Running.machine ≡ plan.Step c.in-Step.step = sym c.plan.ensures.value ∙ c.in-Step.is in
    let lent : c.index_mut-2.result.now ≡ Some (doing.Running c.in-Running.machine) =
    sym (seat_read seats c.args.seat c.index_mut-2.result.now below c.index_mut-2.ensures.value) ∙ at in
    rw (← c.self.view_is) (code_said any_step_keeps any_word_fits _ c.self.invariant c.args.seat c.in-Running.machine at c.in-Step.step planned
    c.op-op.result c.op-op.ensures.value c.at-index.result c.at-index.ensures.value c.index-word.result.now c.index-word.ensures
    c.after.result c.in_ok-event.event c.record.new.log.items c.advance-answer.new.seat c.add_drawn.new.seats.items
    c.after.ensures.value c.in_ok-event.ensures.value c.in_ok-record.ensures.ok (c.advance-answer.ensures.seat c.in-Running.machine lent) c.add_drawn.ensures.value
    c.stepped_with.result c.advance-answer.result c.stepped_with.ensures.value (c.advance-answer.ensures.answer c.in-Running.machine lent))

pub returns-clause-lawful : goal.returns-clause-lawful
returns-clause-lawful c = lawful_core _ (invariant_of-self-2 c)

pub returns-clause-shows : goal.returns-clause-shows
returns-clause-shows c = shows_core _ (invariant_of-self-2 c)
