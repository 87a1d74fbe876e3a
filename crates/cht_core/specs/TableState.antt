-- What holds of the words and the log of a table together, whatever its seats are at.
use Rattle.std.specs.Prelude.{◌≡◌, ℕ, ◌^◌, ◌<◌, ◌≤◌, ◌-◌, ◌⊎◌, true, false, Some, None}
use Rattle.intern_log.specs.declared.event.Kind.TheVariants.{Counted}
use Rattle.intern_log.specs.Now.{Now, OpenSection, Resizing}
use Rattle.table_shape.specs.declared.place.Place.{Place}
use Rattle.table_shape.specs.declared.place.Place.TheVariants as place
use Rattle.table_shape.specs.Shape.{IsSound}
use Rattle.atomic_step.specs.Table.{IsWordAt}
use Rattle.cht_core.specs.declared.table.Table.{Table}
use Rattle.cht_core.specs.Chains.{Chains}
use Rattle.cht_core.specs.Flow.{Flow}
use Rattle.cht_core.specs.Heads.{Heads, Sections}
use Rattle.cht_core.specs.Ledger.{Balanced}
use Rattle.cht_core.specs.Memory.{Memory, is_inside}
use Rattle.cht_core.specs.Past.{Past}
use Rattle.cht_core.specs.Slots.{Slots}
use Rattle.cht_core.specs.Stage.{Stage, Quiet, Closing, IsWhole, named_level}
use Rattle.cht_core.specs.Tidy.{IsTidy}

-- each word is one that may stand at its place, and a place that the table does not have has 0
pub record Words (t : Table) (m : Memory) : Type 0 where
  pub sound : (p : Place) → IsWordAt t.shape p (m p)
  pub small : (p : Place) → m p < 2 ^ 64
  pub counter : m place.Counter ≤ 2 ^ 64 - 4
  pub outside : (p : Place) → is_inside t.shape p ≡ false → m p ≡ 0

-- no row is being replaced
abbrev pub IsSettled : Now → Type 0
IsSettled n = (r : Resizing) → n.resizing ≡ Some r → r.replacing ≡ true → ⊥

-- who has the resize lock replaces the row; or it took the lock at this level, and has locked buckets of the level's row alone
abbrev pub KeepsRow : Now → Type 0
KeepsRow n = (r : Resizing) → n.resizing ≡ Some r → (r.replacing ≡ true) ⊎ ((r.level ≡ n.level) × ((row bucket : ℕ) → n.lock row bucket ≡ Some r.seat → row ≡ n.level))

abbrev pub IsClear : Stage → Now → Type 0
IsClear Closing n = Unit {0}
IsClear _ n = (k : ℕ) (o : OpenSection) → n.section k ≡ Some o → n.since ≤ o.place

pub record IsTable (t : Table) (m : Memory) (p : Past) (f : Flow) : Type 0 where
  pub shape : IsSound t.shape
  pub tidy : IsTidy t p.now
  pub words : Words t m
  pub slots : Slots t m p
  pub sections : Sections t m p.now
  pub heads : Heads m p.now f
  pub chains : Chains p.now f
  -- except in its last stage no section is open from before the last Level; while nobody has the resize lock there is no resize; and while its owner has
  -- locked no bucket of another row, no head is redirected
  pub clear : IsClear f.stage p.now
  pub idle : p.now.resizing ≡ None → f.stage ≡ Quiet
  pub whole : IsSettled p.now → IsWhole f.stage
  pub row : KeepsRow p.now
  -- a level that callers are sent on to is one of the table
  pub named : (level : ℕ) → named_level f.stage p.now.level ≡ Some level → (t.shape.min_level ≤ level) × (level ≤ t.shape.max_level)
  pub ledger : t.kind ≡ Counted → Balanced t.shape.seats p.now.texts f.holds
