-- Whose call a machine is.
use Rattle.std.proofs.Common.{◌≡◌, ℕ}
use Rattle.intern_log.specs.Now.{Now}
use Rattle.call_machine.specs.declared.caller.Caller.{Caller}
use Rattle.call_machine.specs.declared.stage.Asked.{Asked}
use Rattle.cht_core.specs.declared.table.Table.{Table}
use Rattle.cht_core.specs.Slots.{AreBytes}

-- a call, or the caller of a work, is of a seat of this table
pub record IsAskedOf (t : Table) (n : Now) (i : ℕ) (q : Asked) : Type 0 where
  pub shape : q.shape ≡ t.shape
  pub kind : q.kind ≡ t.kind
  pub seed : q.seed ≡ n.seed
  pub number : q.number ≡ i
  pub bytes : AreBytes q.text

pub record IsCallerOf (t : Table) (n : Now) (i : ℕ) (caller : Caller) : Type 0 where
  pub shape : caller.shape ≡ t.shape
  pub kind : caller.kind ≡ t.kind
  pub seed : caller.seed ≡ n.seed
  pub number : caller.number ≡ i
