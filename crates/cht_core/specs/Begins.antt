-- When a call may begin, and what is at a seat when a call begins, when it has answered, and when the seat is new.
use Rattle.std.specs.Prelude.{◌≡◌, ◌≢◌, ℕ, ◌*◌, ◌/◌, ◌≤◌, ◌<◌, true, false, List, [], ◌∷◌, ◌++◌, Option, Some, None}
use Rattle.std.specs.List.{list_any}
use Rattle.intern_log.specs.declared.event.Event.{Event}
use Rattle.intern_log.specs.declared.event.Handle.{Handle}
use Rattle.intern_log.specs.declared.event.Kind.{Kind}
use Rattle.intern_log.specs.declared.event.Kind.TheVariants.{Counted, Weak}
use Rattle.intern_log.specs.Log.{creates}
use Rattle.intern_log.specs.Now.{now_of}
use Rattle.intern_log.specs.Own.{held, is_among}
use Rattle.table_shape.specs.declared.shape.Shape.{Shape}
use Rattle.atomic_step.specs.declared.answer.Answer.{Answer}
use Rattle.atomic_step.specs.declared.plan.Plan.TheVariants as plan
use Rattle.call_machine.specs.declared.call.Call.{Call}
use Rattle.call_machine.specs.declared.call.Call.TheVariants as call
use Rattle.call_machine.specs.declared.machine.Machine.{Machine}
use Rattle.call_machine.specs.declared.machine.Own.{Own}
use Rattle.call_machine.specs.Machine.{started, plan_of, own_of}
use Rattle.call_machine.specs.SoundMachine.{MayStart}
use Rattle.cht_core.specs.declared.seat.Seat.TheVariants as doing
use Rattle.cht_core.specs.declared.table.Table.{Table}
use Rattle.cht_core.specs.Invariant.{Inv, Moves}
use Rattle.cht_core.specs.Memory.{Memory}
use Rattle.cht_core.specs.Slots.{AreBytes}
use Rattle.cht_core.specs.View.{View}

-- the seats with these numbers hold the handle; or it was created
abbrev pub IsHeld : List Event → List ℕ → Handle → Type 0
IsHeld log numbers h = 1 ≤ held log numbers h

abbrev pub IsCreated : List Event → Handle → Type 0
IsCreated log h = list_any (λ (e : Event). creates e.what h) log ≡ true

-- the log allows the call: a handle that is let go of, or whose text is read in a counted table, is held by the caller, and any other was created
abbrev pub MayRead : Kind → List Event → List ℕ → Handle → Type 0
MayRead Counted log numbers h = IsHeld log numbers h
MayRead Weak log numbers h = IsCreated log h

abbrev pub MeetsLog : Kind → List Event → List ℕ → Call → Type 0
MeetsLog kind log numbers (call.Drop h) = IsHeld log numbers h
MeetsLog kind log numbers (call.Permanent h) = IsHeld log numbers h
MeetsLog kind log numbers (call.Kill h) = IsCreated log h
MeetsLog kind log numbers (call.TextOf h) = MayRead kind log numbers h
MeetsLog kind log numbers _ = Unit {0}

-- the text of a call is one of bytes
abbrev pub HasBytes : Call → Type 0
HasBytes (call.Intern text) = AreBytes text.now
HasBytes (call.Lookup text) = AreBytes text.now
HasBytes (call.InternWait text) = AreBytes text.now
HasBytes (call.Sweep text) = AreBytes text.now
HasBytes _ = Unit {0}

-- a seat as others know it while it is between its calls, and as a call of it begins
abbrev pub idle_view : View → Own → View
idle_view v own = record v { seat = doing.Idle own }

abbrev pub begun_view : Table → ℕ → View → Own → Call → View
begun_view t seed v own c = record v { seat = doing.Running (started t.kind t.shape seed own c); passed = [] }

-- a seat between its calls may begin each call whose condition holds
abbrev pub MayBegin : Type 0
MayBegin = (t : Table) (m : Memory) (seat seat' : ℕ → Option View) (log : List Event) (i : ℕ) (v : View) (own : Own) (c : Call) →
    Inv t m seat log → seat i ≡ Some v → v.seat ≡ doing.Idle own → MayStart t.kind t.shape own c → HasBytes c → MeetsLog t.kind log v.numbers c →
    Moves seat seat' i (begun_view t (now_of t.shape.min_level log).seed v own c) → Inv t m seat' log

-- a seat whose call has answered may be between its calls
abbrev pub MayRest : Type 0
MayRest = (t : Table) (m : Memory) (seat seat' : ℕ → Option View) (log : List Event) (i : ℕ) (v : View) (machine : Machine) (a : Answer) →
    Inv t m seat log → seat i ≡ Some v → v.seat ≡ doing.Running machine → plan_of machine ≡ plan.Answered a → Moves seat seat' i (idle_view v (own_of machine)) → Inv t m seat' log

-- a seat whose number nobody has may be added: it looks for free slots from its share of them on, and has nothing unfinished
abbrev pub first_own : Shape → ℕ → Own
first_own shape number = record { number = number; cursor = number * (shape.slots / shape.seats); work = None; grace = None }

abbrev pub new_view : Shape → ℕ → View
new_view shape number = record { seat = doing.Idle (first_own shape number); load = 0; passed = []; numbers = number ∷ [] }

abbrev pub MayBeAdded : Type 0
MayBeAdded = (t : Table) (m : Memory) (seat seat' : ℕ → Option View) (log : List Event) (i : ℕ) →
    Inv t m seat log → seat i ≡ None → i < t.shape.seats → ((k : ℕ) (v : View) → seat k ≡ Some v → is_among v.numbers i ≡ false) →
    Moves seat seat' i (new_view t.shape i) → Inv t m seat' log

-- an idle seat without a work or a grace may be joined into another one, which then has the numbers of both
pub record Joins (seat seat' : ℕ → Option View) (i j : ℕ) (v u : View) (own : Own) : Type 0 where
  pub to : seat i ≡ Some v
  pub from : seat j ≡ Some u
  pub differ : i ≢ j
  pub idle : u.seat ≡ doing.Idle own
  pub no_work : own.work ≡ None
  pub joined : seat' i ≡ Some (record v { numbers = u.numbers ++ v.numbers })
  pub gone : seat' j ≡ None
  pub other : (k : ℕ) → k ≢ i → k ≢ j → seat' k ≡ seat k

abbrev pub MayJoin : Type 0
MayJoin = (t : Table) (m : Memory) (seat seat' : ℕ → Option View) (log : List Event) (i j : ℕ) (v u : View) (own : Own) →
    Inv t m seat log → Joins seat seat' i j v u own → Inv t m seat' log
