-- What a seat of a counted table holds is live.
use Rattle.std.proofs.Common.{◌≡◌, ℕ, ◌≤◌, List, Option, Some, inl, inr, subst, arith}
use Rattle.intern_log.specs.declared.event.Event.{Event}
use Rattle.intern_log.specs.declared.event.Kind.TheVariants.{Counted}
use Rattle.intern_log.specs.Now.{opening}
use Rattle.intern_log.specs.TextMap.{TextMap, IsLive}
use Rattle.intern_log.proofs.LawfulLaws.{texts-now_after}
use Rattle.cht_core.specs.declared.table.Table.{Table}
use Rattle.cht_core.specs.Invariant.{Inv}
use Rattle.cht_core.specs.Ledger.{sum_below}
use Rattle.cht_core.specs.Memory.{Memory}
use Rattle.cht_core.specs.Past.{past_of}
use Rattle.cht_core.specs.View.{View}
use Rattle.cht_core.proofs.Ledgers.{part_of_sum}
use Rattle.cht_core.proofs.LiveCounts.{live_cases}
use Rattle.cht_core.proofs.SeatBegins.{holds_by_log}
use Rattle.cht_run.specs.Holds.{HoldLive}

pub held_are_live : (t : Table) (m : Memory) (seat : ℕ → Option View) (log : List Event) (i : ℕ) (v : View) → Inv t m seat log → seat i ≡ Some v → t.kind ≡ Counted → HoldLive log v.numbers
held_are_live t m seat log i v inv at counted h held =
    let now = (past_of t.shape.min_level log).now in
    let some : 1 ≤ inv.flow.holds i h = holds_by_log t m seat log i v inv at h held in
    let all : inv.flow.holds i h ≤ sum_below t.shape.seats (λ k. inv.flow.holds k h) = part_of_sum t.shape.seats (λ k. inv.flow.holds k h) i (inv.numbers.seats i v at).0 in
    elim (live_cases t now h inv.table.tidy) [
      | inl live ↦ subst (λ (m : TextMap). IsLive m h) (texts-now_after (opening t.shape.min_level) log) live
      | inr dead ↦ absurd (let none : sum_below t.shape.seats (λ k. inv.flow.holds k h) ≡ 0 = (inv.table.ledger counted).gone h dead in omega (arith, some, all, none))
    ]
