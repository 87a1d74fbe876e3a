-- What a seat is at, and what it knows of the table.
use Rattle.std.specs.Prelude.{◌≡◌, ℕ, List, [], ◌∷◌, IfSome}
use Rattle.intern_log.specs.declared.event.Kind.{Kind}
use Rattle.intern_log.specs.Now.{Now}
use Rattle.atomic_step.specs.declared.step.Step.{Step}
use Rattle.atomic_step.specs.declared.step.Step.TheVariants as step
use Rattle.call_machine.specs.declared.machine.Machine.{Machine}
use Rattle.call_machine.specs.declared.machine.Machine.TheVariants as machine
use Rattle.call_machine.specs.declared.machine.Own.{Own}
use Rattle.call_machine.specs.Machine.{shape_of, number_of, got_of, own_of}
use Rattle.call_machine.specs.Poll.{work_left}
use Rattle.call_machine.specs.SoundMachine.{IsSoundMachine, IsSoundOwn}
use Rattle.call_machine.specs.WholeMachine.{IsSingle}
use Rattle.cht_core.specs.declared.seat.Seat.{Seat}
use Rattle.cht_core.specs.declared.seat.Seat.TheVariants as doing
use Rattle.cht_core.specs.declared.table.Table.{Table}
use Rattle.cht_core.specs.Flow.{Flow}
use Rattle.cht_core.specs.KnowsCall.{KnowsCall}
use Rattle.cht_core.specs.KnowsWork.{KnowsGrace, KnowsWork, KnowsBegin, KnowsSweep}
use Rattle.cht_core.specs.Memory.{Memory}
use Rattle.cht_core.specs.Past.{Past}
use Rattle.cht_core.specs.Search.{IsOutside}
use Rattle.cht_core.specs.Slots.{AreBytes}

-- a seat, the place at which it last loaded a head, the nodes that its walk has passed, and the numbers whose holds are its own
pub record View : Type 0 where
  pub seat : Seat
  pub load : ℕ
  pub passed : List ℕ
  pub numbers : List ℕ

-- the same after a step
abbrev pub load_after : Step → ℕ → ℕ → ℕ
load_after (step.LoadHead row bucket) now load = now
load_after _ now load = load

abbrev pub passed_after : Step → List ℕ → List ℕ
passed_after (step.LoadLink slot) passed = slot ∷ passed
passed_after (step.OpenSection number counter) passed = []
passed_after (step.CloseSection number) passed = []
passed_after _ passed = passed

abbrev pub view_after : Now → View → Machine → Step → ℕ → View
view_after n v m s word = record v { seat = doing.Running (got_of m word); load = load_after s n.place v.load; passed = passed_after s v.passed }

-- the kind and the seed of the table whose machine it is
abbrev pub kind_in : Machine → Kind
kind_in (machine.Call c w g) = c.asked.kind
kind_in (machine.Begin b) = b.caller.kind
kind_in (machine.Poll p) = p.caller.kind
kind_in (machine.Sweep s) = s.asked.caller.kind

abbrev pub seed_in : Machine → ℕ
seed_in (machine.Call c w g) = c.asked.seed
seed_in (machine.Begin b) = b.caller.seed
seed_in (machine.Poll p) = p.caller.seed
seed_in (machine.Sweep s) = s.asked.caller.seed

-- the text of its call
abbrev pub text_in : Machine → List ℕ
text_in (machine.Call c w g) = c.asked.text
text_in _ = []

-- the machine is that of a seat of this table, by the seed that the table has now
pub record IsOfSeat (t : Table) (n : Now) (i : ℕ) (m : Machine) : Type 0 where
  pub shape : shape_of m ≡ t.shape
  pub kind : kind_in m ≡ t.kind
  pub seed : seed_in m ≡ n.seed
  pub number : number_of m ≡ i
  pub bytes : AreBytes (text_in m)
  pub sound : IsSoundMachine m
  pub single : IsSingle (own_of m)

-- what a seat has of its own between its calls
pub record IsOwnOf (t : Table) (i : ℕ) (own : Own) : Type 0 where
  pub number : own.number ≡ i
  pub sound : IsSoundOwn t.shape own
  pub single : IsSingle own

abbrev pub KnowsOwn : Memory → Past → Flow → ℕ → Own → Type 0
KnowsOwn m p f i own = IsOutside p.now i × IfSome own.work (KnowsWork m p f i) × IfSome own.grace (KnowsGrace p.now)

abbrev pub KnowsMachine : Memory → Past → Flow → ℕ → ℕ → List ℕ → Machine → Type 0
KnowsMachine m p f i load passed (machine.Call c w g) =
    KnowsCall m p f i load passed c.asked c.along c.stage × IfSome w (KnowsWork m p f i) × IfSome g (KnowsGrace p.now)
KnowsMachine m p f i load passed (machine.Begin b) = IsOutside p.now i × KnowsBegin p.now f i b.stage
KnowsMachine m p f i load passed (machine.Poll q) = IsOutside p.now i × IfSome (work_left q.work q.answer) (KnowsWork m p f i)
KnowsMachine m p f i load passed (machine.Sweep s) = KnowsSweep m p f i s.asked s.along s.stage

abbrev pub Knows : Table → Memory → Past → Flow → ℕ → View → Type 0
Knows t m p f i v = KnowsOf v.seat
  where
    KnowsOf : Seat → Type 0
    KnowsOf (doing.Idle own) = IsOwnOf t i own × KnowsOwn m p f i own
    KnowsOf (doing.Running machine) = IsOfSeat t p.now i machine × KnowsMachine m p f i v.load v.passed machine
