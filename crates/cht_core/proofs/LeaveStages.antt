-- The stages in which a call leaves: a slot that was claimed in vain is given back, and the section is closed; and the draw of a number.
use Rattle.std.proofs.Common.{◌≡◌, ℕ, ◌+◌, ◌<◌, ◌≤◌, ◌^◌, nat_le, Bool, true, false, cond, List, [], None, refl, inl, arith}
use Rattle.table_shape.specs.declared.place.Place.TheVariants as place
use Rattle.intern_log.specs.declared.event.What.TheVariants as what
use Rattle.atomic_step.specs.declared.answer.Answer.TheVariants as answer
use Rattle.atomic_step.specs.declared.step.Step.TheVariants as step
use Rattle.call_machine.specs.declared.draw.DrawStage.{DrawStage}
use Rattle.call_machine.specs.declared.draw.DrawStage.TheVariants as draw
use Rattle.call_machine.specs.declared.leave.LeaveStage.{LeaveStage}
use Rattle.call_machine.specs.declared.leave.LeaveStage.TheVariants as leave
use Rattle.call_machine.specs.declared.leave.Then.{Then}
use Rattle.call_machine.specs.declared.leave.Then.TheVariants as next
use Rattle.call_machine.specs.declared.stage.Along.{Along}
use Rattle.call_machine.specs.declared.stage.Asked.{Asked}
use Rattle.call_machine.specs.declared.stage.CallStage.{CallStage}
use Rattle.call_machine.specs.declared.stage.CallStage.TheVariants as stage
use Rattle.call_machine.specs.Draw.{draw_row}
use Rattle.call_machine.specs.Leave.{leave_row, left_for}
use Rattle.cht_core.specs.declared.table.Table.{Table}
use Rattle.cht_core.specs.Flow.{Flow}
use Rattle.cht_core.specs.KnowsCall.{KnowsKept, KnowsStage, KnowsCall}
use Rattle.cht_core.specs.Memory.{Memory, IsMade}
use Rattle.cht_core.specs.Past.{Past, past_after, by}
use Rattle.cht_core.proofs.Basics.{with_here}
use Rattle.cht_core.proofs.CallTurns.{Serves, kept_stays}

module _ (t : Table) (m : Memory) (p : Past) (f : Flow) (i load : ℕ) (passed : List ℕ) (q : Asked) (w : Along) where
  -- the section is closed: the call answers, or begins anew
  closed_known : (m' : Memory) → IsMade (step.CloseSection q.number) m m' → (after : Then) → KnowsKept m p.now i q w → w.walk.passed ≤ q.shape.slots
      → KnowsCall m' (past_after p (by i what.Close)) f i load [] q (left_for w after).0 (left_for w after).1
  closed_known m' made (next.Answer a) kept few = (with_here p.now.section i None i refl, few)
  closed_known m' made next.TryAgain kept few = (
    (
      with_here p.now.section i None i refl,
      kept_stays m p.now m' (past_after p (by i what.Close)).now i q.seed q.text w.kept (record {
        claimed = λ s is. is;
        count = λ s is. made.there (place.Count s) (λ same. let clash : place.Count s ≡ place.Section q.number = same in cc);
        meta = λ s is. made.there (place.Meta s) (λ same. let clash : place.Meta s ≡ place.Section q.number = same in cc);
        text = λ s at is. made.there (place.Text s at) (λ same. let clash : place.Text s at ≡ place.Section q.number = same in cc);
      }) kept,
      refl,
      refl,
    ),
    omega arith,
  )

  -- each stage of leaving a section
  pub leave_serves : (s : LeaveStage) → KnowsCall m p f i load passed q w (stage.Leave s) → Serves t m p f i load passed q (leave_row q w s)
  leave_serves (leave.UndoCount k after) h = record { backs = (h.0.1, omega arith); leads = λ m' made went. ((h.0.0, h.0.1.0), h.1) }
  leave_serves (leave.UndoClaim slot after) h = record { backs = inl h.0.1; leads = λ m' made went. ((h.0.0, tt), h.1) }
  leave_serves (leave.Close after) h = record { backs = h.0.0; leads = λ m' made went. closed_known m' made after h.0.1 h.1 }

  draw_known : (m' : Memory) (b : Bool) (x y : CallStage) → KnowsStage m' p f i load passed q w x → KnowsStage m' p f i load passed q w y
      → KnowsStage m' p f i load passed q w (cond b x y)
  draw_known m' true x y first second = first
  draw_known m' false x y first second = second

  -- each stage of drawing a number, as long as the word has room for one more
  pub draw_serves : (s : DrawStage) → m place.Draws + 1 < 2 ^ 64 → KnowsCall m p f i load passed q w (stage.Draw s) → Serves t m p f i load passed q (draw_row q w s)
  draw_serves draw.Load room h = record {
    backs = tt;
    leads = λ m' made went.
        let word : ℕ = m place.Draws in
        (draw_known m' (nat_le q.shape.seats word) (stage.Answered answer.SeatsSpent) (stage.Draw draw.Add) h.0 h.0, h.1);
  }
  draw_serves draw.Add room h = record { backs = room; leads = λ m' made went. (h.0, h.1) }
