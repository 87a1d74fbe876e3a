-- A dead slot is unlinked.
use Rattle.std.proofs.Common.{◌≡◌, ℕ, ◌-◌, ◌≤◌, ◌^◌, Option, Some, sym, subst, arith}
use Rattle.table_shape.specs.declared.place.Place.TheVariants as place
use Rattle.intern_log.specs.declared.event.What.TheVariants as what
use Rattle.intern_log.specs.Lawful.{IsLinkedDead}
use Rattle.atomic_step.specs.declared.step.Edge.{Edge}
use Rattle.atomic_step.specs.declared.step.Edge.TheVariants as edge
use Rattle.atomic_step.specs.declared.step.Step.TheVariants as step
use Rattle.call_machine.proofs.Nodes.{few_slots}
use Rattle.cht_core.specs.Backs.{KeepsTable, LeadsFrom}
use Rattle.cht_core.specs.Flow.{Flow, IsUsed}
use Rattle.cht_core.specs.KnowsWork.{Locked}
use Rattle.cht_core.specs.Memory.{Memory}
use Rattle.cht_core.specs.TableState.{Words}
use Rattle.intern_log.specs.Now.{Now}
use Rattle.cht_core.proofs.EdgeWords.{small_edge, not_counter}
use Rattle.cht_core.proofs.Relinks.{relinked}
use Rattle.cht_core.proofs.TidyKept.{tidy_told}
use Rattle.cht_core.proofs.UnlinkParts.{unlink_past, unlink_flow, unlink_table, unlink_grows, unlink_spares}
use Rattle.cht_core.proofs.WordsKept.{words_kept}

-- the seat has locked the bucket from which the edge leads
pub leads_locked : (m : Memory) (n : Now) (f : Flow) (i row bucket s : ℕ) (from : Edge) → LeadsFrom m n f i row bucket from s → (first : Option ℕ) × Locked m n f i row bucket first
leads_locked m n f i row bucket s (edge.Head r b) leads = (Some s, leads.2)
leads_locked m n f i row bucket s (edge.Link last) leads = leads.0

-- a seat unlinks a dead slot of a bucket that it has locked
pub unlink_keeps : (slot : ℕ) (from : Edge) (next : Option ℕ) → KeepsTable (step.Unlink slot from next)
unfolding unlink_past unlink_flow
unlink_keeps slot from next t m m' p f i text table inside sound backs made =
    let row : ℕ = backs.row in
    let bucket : ℕ = backs.bucket in
    let locked = leads_locked m p.now f i row bucket slot from backs.leads in
    let used : IsUsed p.now f row bucket = locked.1.used in
    let lock : p.now.lock row bucket ≡ Some i = locked.1.lock in
    let z = relinked t m m' p f i row bucket slot from next table backs.leads backs.link made in
    let dead = backs.dead in
    let may : IsLinkedDead p.now (p.now.slot slot) = subst (IsLinkedDead p.now) (sym dead.3) dead.5 in
    let tidy = tidy_told t p i (Some (what.Unlink slot)) table.tidy may in
    let few = few_slots t.shape table.shape in
    let counter : m' place.Counter ≡ m place.Counter = made.there place.Counter (not_counter from) in
    let before : m place.Counter ≤ 2 ^ 64 - 4 = table.words.counter in
    let words : Words t m' = words_kept t m m' i (step.Unlink slot from next) table.words inside sound made (small_edge t.shape from next few sound.2.1) (omega arith) in
    record {
      told = may;
      table = unlink_table t m m' p f i row bucket slot z.0 table used lock backs.on dead.0 dead.1 dead.2 dead.3 dead.5 z.1 locked.1.unpinned tidy words;
      grows = unlink_grows t m m' p f i row bucket slot z.0 table used lock backs.on dead.0 dead.1 dead.2 dead.3 dead.5 z.1 locked.1.unpinned;
      spares = λ k differ. unlink_spares t m m' p f i row bucket slot z.0 table used lock backs.on dead.0 dead.1 dead.2 dead.3 dead.5 z.1 locked.1.unpinned k differ;
      leaves = λ try. absurd try;
    }
