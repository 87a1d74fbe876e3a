-- A handle that a seat holds was created.
use Rattle.std.proofs.Common.{◌≡◌, ℕ, List, Option, Some, subst}
use Rattle.intern_log.specs.declared.event.Event.{Event}
use Rattle.intern_log.specs.declared.event.Handle.{Handle}
use Rattle.intern_log.specs.declared.event.Kind.TheVariants.{Counted}
use Rattle.intern_log.specs.TextMap.{IsLive}
use Rattle.intern_log.specs.Now.{opening}
use Rattle.intern_log.proofs.LawfulLaws.{texts-now_after}
use Rattle.cht_core.specs.declared.table.Table.{Table}
use Rattle.cht_core.specs.Begins.{IsHeld}
use Rattle.cht_core.specs.CauseCalls.{WasMade}
use Rattle.cht_core.specs.Invariant.{Inv}
use Rattle.cht_core.specs.Memory.{Memory}
use Rattle.cht_core.specs.Past.{past_of}
use Rattle.cht_core.specs.View.{View}
use Rattle.cht_core.proofs.CauseLogs.{live_was_made}
use Rattle.cht_core.proofs.LiveCounts.{LiveAt, live_held}
use Rattle.cht_core.proofs.SeatBegins.{holds_by_log}

pub held_was_made : (t : Table) (m : Memory) (seat : ℕ → Option View) (log : List Event) (i : ℕ) (v : View) (h : Handle) → Inv t m seat log → seat i ≡ Some v → t.kind ≡ Counted →
    IsHeld log v.numbers h → WasMade t log h
held_was_made t m seat log i v h inv at counted held =
    let here : (text : List ℕ) × LiveAt m (past_of t.shape.min_level log).now h.slot text h =
    live_held t m (past_of t.shape.min_level log) inv.flow inv.table i h counted (inv.numbers.seats i v at).0 (holds_by_log t m seat log i v inv at h held) in
    live_was_made t log h (subst (λ texts. IsLive texts h) (texts-now_after (opening t.shape.min_level) log) (here.0, (here.1.entry, here.1.is, here.1.own)))
