-- How many slots a call claims, and how many it may still claim.
use Rattle.std.specs.Prelude.{ℕ, ◌+◌, Bool, true, false, if◌then◌else◌, List, [], ◌∷◌, Option, Some, None}
use Rattle.intern_log.specs.declared.event.Handle.{Handle}
use Rattle.intern_log.specs.declared.event.What.{What}
use Rattle.intern_log.specs.declared.event.What.TheVariants as what
use Rattle.atomic_step.specs.declared.answer.Answer.{Answer}
use Rattle.atomic_step.specs.declared.answer.Answer.TheVariants as answer
use Rattle.atomic_step.specs.declared.count.Change.{Change}
use Rattle.call_machine.specs.declared.caller.Caller.{Caller}
use Rattle.call_machine.specs.declared.insert.InsertStage.TheVariants as insert
use Rattle.call_machine.specs.declared.leave.LeaveStage.TheVariants as leave
use Rattle.call_machine.specs.declared.leave.Then.{Then}
use Rattle.call_machine.specs.declared.leave.Then.TheVariants as next
use Rattle.call_machine.specs.declared.stage.Calling.{Calling}
use Rattle.call_machine.specs.declared.stage.CallStage.{CallStage}
use Rattle.call_machine.specs.declared.stage.CallStage.TheVariants as stage
use Rattle.call_machine.specs.declared.stage.Goal.{Goal}
use Rattle.call_machine.specs.declared.stage.Goal.TheVariants.{Lookup}
use Rattle.call_machine.specs.BeginCall.{begun_split, begun_walk, begun_change, begun_read}

-- how many Claims an event is, and how many a list of events has
abbrev pub claims_of : Option What → ℕ
claims_of (Some (what.Claim slot)) = 1
claims_of _ = 0

abbrev pub claims_in : List What → ℕ
claims_in [] = 0
claims_in (e ∷ events) = claims_of (Some e) + claims_in events

-- whether the walk is that of an intern: a look-up claims none
abbrev pub is_intern : Goal → Bool
is_intern Lookup = false
is_intern _ = true

-- a walk may end with a Claim where no slot is kept
abbrev pub can_claim_walking : Goal → Option Handle → Bool
can_claim_walking goal None = is_intern goal
can_claim_walking goal (Some h) = false

-- a call that answers NoSlot counts as one that may still claim the slot that it did not find
abbrev pub can_claim_answering : Answer → Bool
can_claim_answering answer.NoSlot = true
can_claim_answering _ = false

-- once the section is closed the call walks again or answers
abbrev pub can_claim_then : Goal → Option Handle → Then → Bool
can_claim_then goal kept (next.Answer a) = can_claim_answering a
can_claim_then goal kept next.TryAgain = can_claim_walking goal kept

-- whether the call may still claim a slot; one that is given back is kept no more, and a split and calls by handle claim none
abbrev pub can_claim_at : Goal → Option Handle → CallStage → Bool
can_claim_at goal kept (stage.Answered a) = can_claim_answering a
can_claim_at goal kept (stage.Find s) = can_claim_walking goal kept
can_claim_at goal kept (stage.Node s) = can_claim_walking goal kept
can_claim_at goal kept (stage.Insert (insert.Claim slot tried)) = true
can_claim_at goal kept (stage.Leave (leave.Close after)) = can_claim_then goal kept after
can_claim_at goal kept (stage.Leave (leave.UndoCount h after)) = can_claim_then goal None after
can_claim_at goal kept (stage.Leave (leave.UndoClaim slot after)) = can_claim_then goal None after
can_claim_at goal kept _ = false

-- one, where it is so, and else none
abbrev pub one_if : Bool → ℕ
one_if so = if so then 1 else 0

-- how many slots the call may still claim
abbrev pub may_claim : Calling → ℕ
may_claim c = one_if (can_claim_at c.asked.goal c.along.kept c.stage)

-- it holds at the beginning of each call but an intern
abbrev pub AtEachBeginningButInterns : (Calling → Type 0) → Type 0
AtEachBeginningButInterns P = (caller : Caller) (text : List ℕ) (change : Change) (h : Handle) →
    P (begun_split caller) × P (begun_walk caller Lookup text) × P (begun_change caller change h) × P (begun_read caller h)
