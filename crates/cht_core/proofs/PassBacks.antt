-- What a seat that cleans a bucket knows lets it make its steps.
use Rattle.std.proofs.Common.{◌≡◌, ℕ, List, Option, Some, None, refl, sym, subst}
use Rattle.chain_core.specs.Nodes.{On}
use Rattle.chain_core.specs.Path.{IsPath}
use Rattle.chain_core.proofs.Ways.{path_begins}
use Rattle.intern_log.specs.Now.{Now}
use Rattle.atomic_step.specs.SoundStep.{IsSoundStep}
use Rattle.call_machine.specs.declared.lock.LockStage.{LockStage}
use Rattle.call_machine.specs.declared.lock.LockStage.TheVariants as lock
use Rattle.call_machine.specs.declared.pass.Cleaning.{Cleaning}
use Rattle.call_machine.specs.declared.pass.PassStage.{PassStage}
use Rattle.call_machine.specs.declared.pass.PassStage.TheVariants as pass
use Rattle.call_machine.specs.Lock.{lock_row}
use Rattle.call_machine.specs.Pass.{edge_behind, pass_row, passes_on}
use Rattle.cht_core.specs.declared.table.Table.{Table}
use Rattle.cht_core.specs.Backs.{Backs, LeadsFrom}
use Rattle.cht_core.specs.Flow.{Flow, IsUsed}
use Rattle.cht_core.specs.KnowsWork.{KnowsPass, LeadsTo, Locked}
use Rattle.cht_core.specs.Memory.{Memory, links}
use Rattle.cht_core.specs.Past.{Past}
use Rattle.cht_core.specs.TableState.{IsTable}
use Rattle.cht_core.proofs.Locking.{locked_path}

-- a head to which callers come may be locked
pub lock_backs : (t : Table) (m : Memory) (p : Past) (f : Flow) (i : ℕ) (text : List ℕ) (row bucket : ℕ) (stage : LockStage) → IsSoundStep t.shape i (lock_row row bucket stage).step →
    IsUsed p.now f row bucket → Backs t m p f i text (lock_row row bucket stage).step
lock_backs t m p f i text row bucket lock.LoadHead sound used = tt
lock_backs t m p f i text row bucket (lock.LockHead head) sound used = (sound.1, λ met. used)

-- the edge behind the last node that stays leads to the present node
leads_behind : (m : Memory) (n : Now) (f : Flow) (i : ℕ) (c : Cleaning) (last : Option ℕ) (s : ℕ) → Locked m n f i c.row c.bucket c.first → LeadsTo m f c last s →
    LeadsFrom m n f i c.row c.bucket (edge_behind c last) s
leads_behind m n f i c None s locked leads = (refl, refl, subst (Locked m n f i c.row c.bucket) leads locked)
leads_behind m n f i c (Some last) s locked leads = ((c.first, locked), leads.0, leads.1)

-- each step of a pass is one that the table asks for nothing, or unlinks a dead node of a locked bucket
pub pass_backs : (t : Table) (m : Memory) (p : Past) (f : Flow) (i : ℕ) (text : List ℕ) (c : Cleaning) (stage : PassStage) → KnowsPass m p.now f i c stage →
    Backs t m p f i text (pass_row c stage).step
pass_backs t m p f i text c (pass.LoadCount s) knows = tt
pass_backs t m p f i text c (pass.LoadLink s None) knows = tt
pass_backs t m p f i text c (pass.LoadLink s (Some g)) knows = tt
pass_backs t m p f i text c (pass.Unlink s g next) knows = record {
  row = c.row;
  bucket = c.bucket;
  leads = leads_behind m p.now f i c c.last s knows.0.0 knows.0.2;
  on = knows.0.1;
  generation = g;
  dead = knows.1;
  link = knows.2;
}

-- what is known of the next stage of a pass, or of the locked bucket where the pass is over
abbrev pub KnowsCame : Memory → Now → Flow → ℕ → Cleaning → Option PassStage → Type 0
KnowsCame m n f i c None = Locked m n f i c.row c.bucket c.first
KnowsCame m n f i c (Some stage) = KnowsPass m n f i c stage

-- a pass goes on at a node of its chain to which the edge behind the last one leads, or is over
pub pass_goes_on : (m : Memory) (n : Now) (f : Flow) (i : ℕ) (c : Cleaning) (next : Option ℕ) → Locked m n f i c.row c.bucket c.first →
    ((s : ℕ) → next ≡ Some s → On s (f.chain c.row c.bucket) × LeadsTo m f c c.last s) → KnowsCame m n f i c (passes_on next)
pass_goes_on m n f i c None locked at = locked
pass_goes_on m n f i c (Some s) locked at = let node = at s refl in (locked, node.0, node.1)

-- a pass over a locked bucket begins at its first node
pub pass_begins : (t : Table) (m : Memory) (p : Past) (f : Flow) (i : ℕ) (c : Cleaning) → IsTable t m p f → Locked m p.now f i c.row c.bucket c.first → c.last ≡ None →
    KnowsCame m p.now f i c (passes_on c.first)
pass_begins t m p f i c table locked none = pass_goes_on m p.now f i c c.first locked (λ s is. (
  path_begins (links m) s (f.chain c.row c.bucket)
      (subst (λ (start : Option ℕ). IsPath (links m) start (f.chain c.row c.bucket)) is (locked_path t m p f i c.row c.bucket c.first table locked)),
  subst (λ (last : Option ℕ). LeadsTo m f c last s) (sym none) is,
))

-- the same for a stage by name
pub pass_begins_at : (t : Table) (m : Memory) (p : Past) (f : Flow) (i : ℕ) (c : Cleaning) (stage : PassStage) → IsTable t m p f → Locked m p.now f i c.row c.bucket c.first → c.last ≡ None →
    passes_on c.first ≡ Some stage → KnowsPass m p.now f i c stage
pass_begins_at t m p f i c stage table locked none begins = subst (KnowsCame m p.now f i c) begins (pass_begins t m p f i c table locked none)
