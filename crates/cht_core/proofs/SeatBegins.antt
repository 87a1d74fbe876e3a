-- A seat between its calls may begin each call whose condition holds.
use Rattle.std.proofs.Common.{◌≡◌, ℕ, ◌+◌, ◌-◌, ◌≤◌, ◌<◌, ◌^◌, List, Option, Some, refl, sym, subst, arith}
use Rattle.intern_log.specs.declared.event.Event.{Event}
use Rattle.intern_log.specs.declared.event.Handle.{Handle}
use Rattle.intern_log.specs.Own.{mine, gains, losses}
use Rattle.call_machine.specs.declared.machine.Machine.{Machine}
use Rattle.call_machine.specs.Machine.{started, caller_of}
use Rattle.call_machine.proofs.Machines.{start_law}
use Rattle.cht_core.specs.declared.seat.Seat.{Seat}
use Rattle.cht_core.specs.declared.seat.Seat.TheVariants as doing
use Rattle.cht_core.specs.declared.table.Table.{Table}
use Rattle.cht_core.specs.Begins.{MayBegin, IsHeld, begun_view}
use Rattle.cht_core.specs.Graces.{GrowsWithFew}
use Rattle.cht_core.specs.Passes.{PassesFind}
use Rattle.cht_core.specs.Invariant.{Inv}
use Rattle.cht_core.specs.Looks.{LooksAtFew}
use Rattle.cht_core.specs.Memory.{Memory}
use Rattle.cht_core.specs.Owes.{Owes}
use Rattle.cht_core.specs.Past.{Past, past_of}
use Rattle.cht_core.specs.View.{View, IsOwnOf, KnowsOwn, Knows}
use Rattle.cht_core.proofs.FewSeats.{starts_few}
use Rattle.cht_core.proofs.LooksStay.{starts_looks}
use Rattle.cht_core.proofs.FoundSeats.{starts_find}
use Rattle.cht_core.proofs.OwesRests.{owes_started}
use Rattle.cht_core.proofs.SeatBeginCalls.{starts_begins}
use Rattle.cht_core.proofs.SeatMoves.{IsNoMore, owed_by, moved_inv}

-- who holds a handle by the log holds it in the flow
pub holds_by_log : (t : Table) (m : Memory) (seat : ℕ → Option View) (log : List Event) (i : ℕ) (v : View) (inv : Inv t m seat log) → seat i ≡ Some v → (h : Handle) →
    IsHeld log v.numbers h → 1 ≤ inv.flow.holds i h
holds_by_log t m seat log i v inv at h held =
    let own : inv.flow.holds i h + losses (mine log v.numbers) h ≡ gains (mine log v.numbers) h = inv.holds.own i v h at in
    let some : 1 ≤ gains (mine log v.numbers) h - losses (mine log v.numbers) h = held in
    omega (arith, own, some)

-- a seat between its calls may begin a call
pub may_begin : MayBegin
may_begin t m seat seat' log i v own c inv at idle may bytes meets moves =
    let p : Past = past_of t.shape.min_level log in
    let known : IsOwnOf t i own × KnowsOwn m p inv.flow i own = subst (λ (s : Seat). Knows t m p inv.flow i (record v { seat = s })) idle (inv.knows i v at) in
    let owed : Owes p i (doing.Idle own) = subst (Owes p i) idle (owed_by t m seat log i v inv at) in
    let k : Machine = started t.kind t.shape p.now.seed own c in
    let few : p.now.seed ≤ 2 = inv.table.tidy.seed in
    let small : p.now.seed < 2 ^ 32 = omega (arith, few) in
    let begins = starts_begins t m p inv.flow i v.load own known.0 known.1 log v.numbers (holds_by_log t m seat log i v inv at) (λ h made. made) c may.2 bytes meets
    (start_law t.kind t.shape p.now.seed own c inv.table.shape small known.0.sound may) in
    let less : IsNoMore v.seat (doing.Running k) = subst (λ (s : Seat). IsNoMore s (doing.Running k)) (sym idle) begins.1 in
    moved_inv t m seat seat' log i v (begun_view t p.now.seed v own c) inv at moves refl begins.0 (owes_started p i t.kind t.shape p.now.seed own c known.0.single may owed) less
    (starts_few p.now log inv.flow (caller_of t.kind t.shape p.now.seed own) own c (subst (GrowsWithFew p.now log inv.flow) idle (inv.graces i v at)))
    (starts_looks t.shape.slots inv.flow (caller_of t.kind t.shape p.now.seed own) own c (subst (LooksAtFew t.shape.slots inv.flow) idle (inv.looks i v at)))
    (starts_find t p.now log inv.flow i (caller_of t.kind t.shape p.now.seed own) own c (subst (PassesFind t p.now log inv.flow i) idle (inv.passes i v at)))
