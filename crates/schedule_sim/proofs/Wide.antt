-- No call begins at a seat that no table has, nor by a handle that none has.
use Rattle.std.proofs.Common.{◌<◌, ◌≤◌, ◌^◌, ℕ, length, Option, Some, None, arith, refl, sym, subst}
use Rattle.std.proofs.lemmas.List.{get_or_past}
use Rattle.call_machine.specs.declared.call.Call.TheVariants as call
use Rattle.cht_core.specs.declared.seat.Seat.{Seat}
use Rattle.cht_core.specs.declared.seat.Seat.TheVariants as doing
use Rattle.cht_core.specs.State.{Core, seat_in}
use Rattle.schedule_sim.specs.declared.script.Asked.{Asked}
use Rattle.schedule_sim.specs.declared.script.Asked.TheVariants as asked
use Rattle.schedule_sim.specs.Turns.{IsNotMet, IsWide}

-- a number above 32 bits is of no seat
pub no_seat : (c : Core) (asks : Asked) (k : ℕ) → length c.seats ≤ 256 → 2 ^ 32 ≤ k → IsNotMet c asks (seat_in c.seats k)
no_seat c asks k few wide = subst (IsNotMet c asks) (sym (get_or_past c.seats k None (omega (arith, few, wide)))) tt

too_wide : (slot slots : ℕ) → 2 ^ 32 ≤ slot → slots < 2 ^ 32 → slot < slots → ⊥
too_wide slot slots wide small inside = omega arith

pub wide_not_met : (c : Core) (asks : Asked) (o : Option Seat) → c.table.shape.slots < 2 ^ 32 → IsWide asks → IsNotMet c asks o
wide_not_met c asks None small wide = tt
wide_not_met c asks (Some (doing.Running m)) small wide = tt
wide_not_met c (asked.Drop slot generation) (Some (doing.Idle own)) small wide =
    (call.Drop (record { slot = slot; generation = generation }), refl, λ can. too_wide slot c.table.shape.slots wide small can.may.1.0)
wide_not_met c (asked.Permanent slot generation) (Some (doing.Idle own)) small wide =
    (call.Permanent (record { slot = slot; generation = generation }), refl, λ can. too_wide slot c.table.shape.slots wide small can.may.1.0)
wide_not_met c (asked.Kill slot generation) (Some (doing.Idle own)) small wide =
    (call.Kill (record { slot = slot; generation = generation }), refl, λ can. too_wide slot c.table.shape.slots wide small can.may.1.0)
wide_not_met c (asked.Intern text) (Some (doing.Idle own)) small wide = absurd wide
wide_not_met c (asked.Lookup text) (Some (doing.Idle own)) small wide = absurd wide
wide_not_met c asked.Clean (Some (doing.Idle own)) small wide = absurd wide
wide_not_met c asked.Grow (Some (doing.Idle own)) small wide = absurd wide
wide_not_met c asked.Shrink (Some (doing.Idle own)) small wide = absurd wide
wide_not_met c asked.Poll (Some (doing.Idle own)) small wide = absurd wide
