-- A work, a grace or a sweep that is under way: the machine to which the call of its seat has come.
use Rattle.std.specs.Prelude.{◌≡◌, ℕ, ◌<◌, ◌≤◌, if◌then◌else◌, Bool, true, false, Option, Some, None}
use Rattle.table_shape.specs.declared.shape.Shape.{Shape}
use Rattle.marked_word.specs.Head.{is_locked, first_of}
use Rattle.atomic_step.specs.declared.answer.Answer.{Answer}
use Rattle.atomic_step.specs.declared.answer.Answer.TheVariants as answer
use Rattle.atomic_step.specs.declared.plan.Plan.TheVariants as plan
use Rattle.atomic_step.specs.declared.step.Step.TheVariants as step
use Rattle.call_machine.specs.declared.call.Call.{Call}
use Rattle.call_machine.specs.declared.call.Call.TheVariants as call
use Rattle.call_machine.specs.declared.grace.Grace.{Grace}
use Rattle.call_machine.specs.declared.grace.Gracing.{Gracing}
use Rattle.call_machine.specs.declared.grace.Gracing.TheVariants as gracing
use Rattle.call_machine.specs.declared.machine.Machine.{Machine}
use Rattle.call_machine.specs.declared.machine.Machine.TheVariants as machine
use Rattle.call_machine.specs.declared.pass.Cleaning.{Cleaning}
use Rattle.call_machine.specs.declared.pass.FreeStage.{FreeStage}
use Rattle.call_machine.specs.declared.pass.FreeStage.TheVariants as free
use Rattle.call_machine.specs.declared.pass.PassStage.{PassStage}
use Rattle.call_machine.specs.declared.work.Work.{Work}
use Rattle.call_machine.specs.declared.lock.Locking.{Locking}
use Rattle.call_machine.specs.declared.lock.Locking.TheVariants as locking
use Rattle.call_machine.specs.declared.lock.LockStage.TheVariants as lock
use Rattle.call_machine.specs.Grace.{scanned}
use Rattle.call_machine.specs.Machine.{plan_of, got_of, IsOfWork}
use Rattle.call_machine.specs.Pass.{pass_row, free_row}
use Rattle.call_machine.specs.Poll.{polling}
use Rattle.call_machine.specs.SoundMachine.{IsSoundMachine}
use Rattle.call_machine.specs.SoundPass.{IsSoundPass, IsSoundFree, IsSoundCleaning}
use Rattle.cht_core.specs.PollMeasure.{poll_left}
use Rattle.cht_run.specs.declared.polls.PollEnd.{PollEnd}
use Rattle.cht_run.specs.declared.polls.PollEnd.TheVariants as end
use Rattle.cht_run.specs.declared.sight.Sight.{Sight}
use Rattle.cht_run.specs.declared.table.Cht.{Cht}
use Rattle.cht_run.specs.Begins.{caller_in, first_of as first_machine}
use Rattle.cht_run.specs.Calls.{nowhere}
use Rattle.cht_run.specs.Runs.{Ran, IsPolling}
use Rattle.cht_run.specs.Seats.{Raw, Sits}

-- the call that a seat began has come to this machine
pub record IsAt (cht : Cht) (b : Sight) (c : Call) (raw : Raw) (m : Machine) : Type 0 where
  pub sits : Sits cht raw
  pub ran : Ran b c raw.me.0 m
  pub of : IsOfWork m

-- where it is the poll of a work, that has less left to do than it had; or no more
abbrev pub HasLess : Shape → Machine → Machine → Type 0
HasLess shape m n = IsPolling shape m → IsPolling shape n × (poll_left shape n < poll_left shape m)

abbrev pub HasNoMore : Shape → Machine → Machine → Type 0
HasNoMore shape m n = IsPolling shape m → IsPolling shape n × (poll_left shape n ≤ poll_left shape m)

-- it has come further, from one machine to another
pub record Further (cht : Cht) (b : Sight) (c : Call) (raw : Raw) (m n : Machine) : Type 0 where
  pub at : IsAt cht b c raw n
  pub less : HasLess cht.origin.table.shape m n

-- it has come on so far, by no steps or by some
pub record Onward (cht : Cht) (b : Sight) (c : Call) (raw : Raw) (m n : Machine) : Type 0 where
  pub at : IsAt cht b c raw n
  pub no_more : HasNoMore cht.origin.table.shape m n

-- the poll of a work: the work, and what the poll answers, if anything
abbrev pub polled : Sight → Work × Option Answer → Machine
polled b at = machine.Poll (polling (caller_in b) at)

-- what the poll answers
abbrev pub answer_at : PollEnd → Answer
answer_at (end.Done worked) = answer.Done worked
answer_at (end.PendingSeat seat) = answer.PendingSeat seat
answer_at (end.PendingBucket row bucket) = answer.PendingBucket row bucket

-- the work is done
abbrev pub IsDone : PollEnd → Type 0
IsDone (end.Done worked) = Unit {0}
IsDone _ = ⊥

-- the machine of a call of no seat
abbrev pub no_machine : Machine
no_machine = first_machine nowhere call.Split

-- THE PARTS OF CALLS

-- a call within which a locked bucket is cleaned
pub record IsPassing (passes : Cleaning → Option PassStage → Machine) : Type 0 where
  pub of : (c : Cleaning) (s : Option PassStage) → IsOfWork (passes c s)
  pub plan : (c : Cleaning) (s : PassStage) → plan_of (passes c (Some s)) ≡ plan.Step (pass_row c s).step
  pub got : (c : Cleaning) (s : PassStage) (word : ℕ) → got_of (passes c (Some s)) word ≡ (let next = (pass_row c s).next word in passes next.0 next.1)
  pub sound : (c : Cleaning) (s : PassStage) → IsSoundMachine (passes c (Some s)) → ((shape : Shape) × IsSoundCleaning shape c) × IsSoundPass c s

-- one within which the slots that wait are freed
pub record IsFreeing (frees : Cleaning → Option FreeStage → Machine) : Type 0 where
  pub of : (c : Cleaning) (s : Option FreeStage) → IsOfWork (frees c s)
  pub plan : (c : Cleaning) (s : FreeStage) → plan_of (frees c (Some s)) ≡ plan.Step (free_row c s).step
  pub got : (c : Cleaning) (s : FreeStage) (word : ℕ) → got_of (frees c (Some s)) word ≡ (let next = (free_row c s).next word in frees next.0 next.1)
  pub sound : (c : Cleaning) (s : FreeStage) → IsSoundMachine (frees c (Some s)) → ((shape : Shape) × IsSoundCleaning shape c) × IsSoundFree c s

-- one within which the sections are looked at, of so many seats
pub record IsScanning (seats : ℕ) (scans : Grace → Gracing → Machine) : Type 0 where
  pub of : (g : Grace) (s : Gracing) → IsOfWork (scans g s)
  pub plan : (g : Grace) → plan_of (scans g gracing.Goes) ≡ plan.Step (step.LoadSection g.next)
  pub got : (g : Grace) (word : ℕ) → got_of (scans g gracing.Goes) word ≡ (let next = scanned seats g word in scans next.0 next.1)
  pub inside : (g : Grace) → IsSoundMachine (scans g gracing.Goes) → g.next < seats

-- at the next slot that is freed, if one waits
abbrev pub frees_on : Option ℕ → Option FreeStage
frees_on None = None
frees_on (Some at) = Some (free.PutNextGeneration at)

-- where looking at the sections ends: at one that is waited for, or behind the last one
abbrev pub scanned_to : Bool → Gracing
scanned_to true = gracing.Over
scanned_to false = gracing.Waits

-- a head was looked at that is to be locked
abbrev pub looked_at : ℕ → Locking
looked_at head = if is_locked head then locking.Waits else locking.Goes (lock.LockHead head)

-- the exchange that locks it was made, or another was faster
abbrev pub tried_lock : ℕ → Bool → Locking
tried_lock head true = locking.Locked (first_of head)
tried_lock head false = locking.Waits
