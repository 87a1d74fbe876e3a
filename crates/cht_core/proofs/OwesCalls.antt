-- What a step of a call makes of what its seat has: of one that readers and inserters make, of one by handle, and of one that begins a
-- work or a grace.
use Rattle.std.proofs.Common.{ℕ, ◌==◌, [], Option, Some, None}
use Rattle.std.specs.Prelude.{IfSome}
use Rattle.intern_log.specs.declared.event.What.{What}
use Rattle.intern_log.specs.declared.event.What.TheVariants as what
use Rattle.atomic_step.proofs.Choices.{either_way}
use Rattle.call_machine.specs.declared.begin.Beginning.{Beginning}
use Rattle.call_machine.specs.declared.begin.BeginStage.{BeginStage}
use Rattle.call_machine.specs.declared.begin.BeginStage.TheVariants as begin
use Rattle.call_machine.specs.declared.caller.Caller.{Caller}
use Rattle.call_machine.specs.declared.grace.Grace.{Grace}
use Rattle.call_machine.specs.declared.grace.GraceStage.TheVariants.{RaiseCounter, LoadSection}
use Rattle.call_machine.specs.declared.machine.Machine.TheVariants as machine
use Rattle.call_machine.specs.declared.stage.Calling.{Calling}
use Rattle.call_machine.specs.declared.work.Work.{Work}
use Rattle.call_machine.specs.Begin.{begin_got, begin_event, IsBeginEvent}
use Rattle.call_machine.specs.Calls as calls
use Rattle.call_machine.specs.CallEvents.{IsOfCall}
use Rattle.call_machine.specs.CallSections.{claimed_slot}
use Rattle.call_machine.specs.SoundCall.{IsSoundCall, FitsCall}
use Rattle.call_machine.proofs.CallEvents.{slot_law, no_work_law}
use Rattle.cht_core.specs.declared.seat.Seat.{Seat}
use Rattle.cht_core.specs.declared.seat.Seat.TheVariants as doing
use Rattle.cht_core.specs.Owes.{Owes, claimed_by, waiting_of_work, waiting_of, locked_in_work, locked_by}
use Rattle.cht_core.specs.Past.{Past, told}
use Rattle.cht_core.proofs.OwesKept.{ClaimedAtMost, UnlinkedAtMost, LockedAtMost, HasNoClaim, HasNoUnlink, HasNoLock, claimed_after, claimed_stays, waits_stay, locked_stays}

-- what a seat has at most, but for the resize lock
pub record HasAtMost (p : Past) (i : ℕ) (s : Seat) : Type 0 where
  pub claimed : ClaimedAtMost p i (claimed_by s)
  pub unlinked : UnlinkedAtMost p i (waiting_of s)
  pub locked : LockedAtMost p i (locked_by s)

-- a call unlinks no slot and locks no bucket
call_unlinks_none : (e : Option What) → IfSome e IsOfCall → HasNoUnlink e
call_unlinks_none None is = tt
call_unlinks_none (Some (what.Unlink s)) is = absurd is
call_unlinks_none (Some _) is = tt

call_locks_none : (e : Option What) → IfSome e IsOfCall → HasNoLock e
call_locks_none None is = tt
call_locks_none (Some (what.Lock row bucket)) is = absurd is
call_locks_none (Some _) is = tt

-- after a step of a call
pub call_has : (p : Past) (i : ℕ) (c : Calling) (w : Option Work) (g : Option Grace) (word : ℕ) → IsSoundCall c → FitsCall c word → Owes p i (doing.Running (machine.Call c w g))
    → HasAtMost (told p i (calls.event_of c word)) i (doing.Running (machine.Call (calls.got_of c word) w g))
call_has p i c w g word sound fits owes = record {
  claimed = claimed_after p i (calls.event_of c word) (claimed_slot c) (claimed_slot (calls.got_of c word)) owes.claimed (slot_law c word sound fits);
  unlinked = waits_stay p i (calls.event_of c word) (waiting_of_work w) (call_unlinks_none (calls.event_of c word) (no_work_law c word)) owes.unlinked;
  locked = locked_stays p i (calls.event_of c word) (locked_in_work w) (call_locks_none (calls.event_of c word) (no_work_law c word)) owes.locked;
}

-- a call that begins a work or a grace takes or gives back the resize lock, or raises the counter
begin_event_law : (caller : Caller) (s : BeginStage) (word : ℕ) → IsBeginEvent (begin_event (record { caller = caller; stage = s }) word)
begin_event_law caller (begin.LoadCounter t) word = tt
begin_event_law caller (begin.TakeResizeLock t) word = either_way IsBeginEvent (word == 0) (Some what.ResizeTaken) None tt tt
begin_event_law caller (begin.LoadLevel d) word = tt
begin_event_law caller (begin.GiveResizeLock a) word = tt
begin_event_law caller (begin.Grace g RaiseCounter) word = tt
begin_event_law caller (begin.Grace g LoadSection) word = tt
begin_event_law caller (begin.Answered a l) word = tt

begin_changes_none : (e : Option What) → IsBeginEvent e → HasNoClaim e × HasNoUnlink e × HasNoLock e
begin_changes_none None is = (tt, tt, tt)
begin_changes_none (Some what.ResizeTaken) is = (tt, tt, tt)
begin_changes_none (Some what.ResizeGiven) is = (tt, tt, tt)
begin_changes_none (Some what.Grace) is = (tt, tt, tt)
begin_changes_none (Some _) is = absurd is

-- after a step of such a call
pub begin_has : (p : Past) (i : ℕ) (b : Beginning) (word : ℕ) → Owes p i (doing.Running (machine.Begin b)) → HasAtMost (told p i (begin_event b word)) i (doing.Running (machine.Begin (begin_got b word)))
begin_has p i b word owes =
    let none = begin_changes_none (begin_event b word) (begin_event_law b.caller b.stage word) in
    record {
      claimed = claimed_stays p i (begin_event b word) None none.0 owes.claimed;
      unlinked = waits_stay p i (begin_event b word) [] none.1 owes.unlinked;
      locked = locked_stays p i (begin_event b word) [] none.2 owes.locked;
    }
