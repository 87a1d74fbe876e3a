-- What a seat has at most: nothing that its call or its work does not know of.
use Rattle.std.specs.Prelude.{◌≡◌, ℕ, ◌^◌, ◌≤◌, ◌⊎◌, true, Bool, List, [], Option, Some, None, is_some}
use Rattle.std.specs.Option.{option_to_list}
use Rattle.chain_core.specs.Nodes.{On}
use Rattle.intern_log.specs.Now.{Claimed, Unlinked, owner_of}
use Rattle.atomic_step.specs.Monitor.{is_held}
use Rattle.call_machine.specs.declared.machine.Machine.TheVariants as machine
use Rattle.call_machine.specs.declared.work.Work.{Work}
use Rattle.call_machine.specs.declared.work.Work.TheVariants as work
use Rattle.call_machine.specs.CallSections.{claimed_slot}
use Rattle.call_machine.specs.Poll.{work_left}
use Rattle.call_machine.specs.ResizeLocks.{locked_heads}
use Rattle.call_machine.specs.WholeClean as cleans
use Rattle.call_machine.specs.WholeMachine.{has_lock}
use Rattle.call_machine.specs.WholeSweep as sweeps
use Rattle.cht_core.specs.declared.seat.Seat.{Seat}
use Rattle.cht_core.specs.declared.seat.Seat.TheVariants as doing
use Rattle.cht_core.specs.Past.{Past}

-- the slot that a seat has claimed
abbrev pub claimed_by : Seat → Option ℕ
claimed_by (doing.Running (machine.Call c w g)) = claimed_slot c
claimed_by _ = None

-- the slots that a seat has unlinked and is still to free
abbrev pub waiting_of_work : Option Work → List ℕ
waiting_of_work (Some (work.Clean c)) = cleans.still_waiting c.along.cleaning c.stage
waiting_of_work _ = []

abbrev pub waiting_of : Seat → List ℕ
waiting_of (doing.Idle own) = waiting_of_work own.work
waiting_of (doing.Running (machine.Call c w g)) = waiting_of_work w
waiting_of (doing.Running (machine.Begin b)) = []
waiting_of (doing.Running (machine.Poll p)) = waiting_of_work (work_left p.work p.answer)
waiting_of (doing.Running (machine.Sweep s)) = sweeps.waiting_slots s

-- the heads that a seat has locked, each by its row and its bucket: a clean and a sweep at most one
abbrev pub locked_in_work : Option Work → List (ℕ × ℕ)
locked_in_work (Some (work.Clean c)) = option_to_list (cleans.locked_at c.along.cleaning c.stage)
locked_in_work (Some (work.Resize r)) = locked_heads r.direction r.along r.stage
locked_in_work None = []

abbrev pub locked_by : Seat → List (ℕ × ℕ)
locked_by (doing.Idle own) = locked_in_work own.work
locked_by (doing.Running (machine.Call c w g)) = locked_in_work w
locked_by (doing.Running (machine.Begin b)) = []
locked_by (doing.Running (machine.Poll p)) = locked_in_work (work_left p.work p.answer)
locked_by (doing.Running (machine.Sweep s)) = option_to_list (sweeps.has_locked s)

-- whether a seat has the resize lock
abbrev pub is_owner : Seat → Bool
is_owner (doing.Idle own) = is_some own.work
is_owner (doing.Running m) = has_lock m

-- what the log says that a seat has, it is at
pub record Owes (p : Past) (i : ℕ) (s : Seat) : Type 0 where
  pub claimed : (slot : ℕ) → p.now.slot slot ≡ Claimed i → claimed_by s ≡ Some slot
  pub unlinked : (slot at : ℕ) → p.now.slot slot ≡ Unlinked i at → On slot (waiting_of s) ⊎ (2 ^ 48 ≤ p.uses slot)
  pub locked : (row bucket : ℕ) → p.now.lock row bucket ≡ Some i → is_held row bucket (locked_by s) ≡ true
  pub owner : owner_of p.now.resizing ≡ Some i → is_owner s ≡ true

-- who is no seat has nothing, but for slots that are never freed
pub record OwesNothing (p : Past) (i : ℕ) : Type 0 where
  pub section : p.now.section i ≡ None
  pub claimed : (slot : ℕ) → p.now.slot slot ≡ Claimed i → ⊥
  pub unlinked : (slot at : ℕ) → p.now.slot slot ≡ Unlinked i at → 2 ^ 48 ≤ p.uses slot
  pub locked : (row bucket : ℕ) → p.now.lock row bucket ≡ Some i → ⊥
  pub owner : owner_of p.now.resizing ≡ Some i → ⊥

abbrev pub IsAllOf : Past → ℕ → Option Seat → Type 0
IsAllOf p i (Some s) = Owes p i s
IsAllOf p i None = OwesNothing p i
