-- What a seat knows, and that it has nothing more, still holds after a step of another seat.
use Rattle.std.proofs.Common.{ℕ, ◌<◌, ◌≤◌, ◌^◌, List, Option, Some, None, IfSome, sym, ◌∙◌, inl, inr, arith}
use Rattle.call_machine.specs.declared.grace.Grace.{Grace}
use Rattle.call_machine.specs.declared.machine.Machine.{Machine}
use Rattle.call_machine.specs.declared.machine.Machine.TheVariants as machine
use Rattle.call_machine.specs.declared.machine.Own.{Own}
use Rattle.call_machine.specs.declared.work.Work.{Work}
use Rattle.call_machine.specs.Poll.{work_left}
use Rattle.cht_core.specs.declared.seat.Seat.{Seat}
use Rattle.cht_core.specs.declared.seat.Seat.TheVariants as doing
use Rattle.cht_core.specs.declared.table.Table.{Table}
use Rattle.cht_core.specs.Flow.{Flow}
use Rattle.cht_core.specs.KnowsWork.{KnowsGrace, KnowsWork}
use Rattle.cht_core.specs.Memory.{Memory}
use Rattle.cht_core.specs.Owes.{Owes, OwesNothing, IsAllOf}
use Rattle.cht_core.specs.Past.{Past}
use Rattle.cht_core.specs.Rely.{Grows, Leaves, Spares}
use Rattle.cht_core.specs.TableState.{IsTable}
use Rattle.cht_core.specs.Tidy.{IsTidy}
use Rattle.cht_core.specs.View.{View, IsOfSeat, KnowsOwn, KnowsMachine, Knows}
use Rattle.cht_core.proofs.StableCalls.{call_grows}
use Rattle.cht_core.proofs.StableWorks.{grace_grows, work_grows, begin_grows, sweep_grows}

module _ (m : Memory) (p : Past) (f : Flow) (m' : Memory) (p' : Past) (f' : Flow) (g : Grows m p f m' p' f') where
  -- the grace that a seat has, if it has one
  pub own_grace_grows : (grace : Option Grace) → IfSome grace (KnowsGrace p.now) → IfSome grace (KnowsGrace p'.now)
  own_grace_grows None h = tt
  own_grace_grows (Some r) h = grace_grows m p f m' p' f' g r h

  -- the work that a seat has, if it has one
  pub own_work_grows : (t : Table) → IsTidy t p.now → IsTable t m' p' f' → (i : ℕ) → Leaves i m p f m' p' f' → (work : Option Work) → IfSome work (KnowsWork m p f i) → IfSome work (KnowsWork m' p' f' i)
  own_work_grows t tidy table' i leaves None h = tt
  own_work_grows t tidy table' i leaves (Some w) h = work_grows m p f m' p' f' g t tidy table' i leaves w h

  module _ (t : Table) (table : IsTable t m p f) (table' : IsTable t m' p' f') (i : ℕ) (seat : i < t.shape.seats) (z : Spares i m p f m' p' f') where
    of_seat_grows : (k : Machine) → IsOfSeat t p.now i k → IsOfSeat t p'.now i k
    of_seat_grows k h = record { shape = h.shape; kind = h.kind; seed = h.seed ∙ sym g.seed; number = h.number; bytes = h.bytes; sound = h.sound; single = h.single }

    own_grows : (own : Own) → KnowsOwn m p f i own → KnowsOwn m' p' f' i own
    own_grows own h = (z.section ∙ h.0, own_work_grows t table.tidy table' i z.leaves own.work h.1, own_grace_grows own.grace h.2)

    machine_grows : (load : ℕ) (passed : List ℕ) (k : Machine) → IsOfSeat t p.now i k → KnowsMachine m p f i load passed k → KnowsMachine m' p' f' i load passed k
    machine_grows load passed (machine.Call c w r) of h = (
      call_grows t m p f m' p' f' table.tidy table' g i z load passed c.asked c.along of.kind seat c.stage h.0,
      own_work_grows t table.tidy table' i z.leaves w h.1,
      own_grace_grows r h.2,
    )
    machine_grows load passed (machine.Begin b) of h = (z.section ∙ h.0, begin_grows m p f m' p' f' g t table.tidy table' i z.leaves b.stage h.1)
    machine_grows load passed (machine.Poll q) of h = (z.section ∙ h.0, own_work_grows t table.tidy table' i z.leaves (work_left q.work q.answer) h.1)
    machine_grows load passed (machine.Sweep s) of h = sweep_grows m p f m' p' f' g t table.tidy table' i z s.asked s.along s.stage h

    -- what a seat knows still holds
    pub knows_grows : (v : View) → Knows t m p f i v → Knows t m' p' f' i v
    knows_grows v h = go v.seat h
      where
        go : (s : Seat) → Knows t m p f i (record v { seat = s }) → Knows t m' p' f' i (record v { seat = s })
        go (doing.Idle own) h = (h.0, own_grows own h.1)
        go (doing.Running k) h = (of_seat_grows k h.0, machine_grows v.load v.passed k h.0 h.1)

  module _ (i : ℕ) (z : Spares i m p f m' p' f') where
    enough : (a b c : ℕ) → a ≤ b → b ≤ c → a ≤ c
    enough a b c first second = omega (arith, first, second)

    -- a seat still has nothing more than what it is at
    pub owes_grows : (s : Seat) → Owes p i s → Owes p' i s
    owes_grows s h = record {
      claimed = λ slot is. h.claimed slot (z.claimed_back slot is);
      unlinked = λ slot at is. elim (h.unlinked slot at (z.leaves.unlinked_back slot at is)) [
        | inl waits ↦ inl waits
        | inr used ↦ inr (enough (2 ^ 48) (p.uses slot) (p'.uses slot) used (g.uses slot))
      ];
      locked = λ row bucket is. h.locked row bucket (z.leaves.locks_back row bucket is);
      owner = λ is. h.owner (z.leaves.owner_back is);
    }

    -- who is no seat still has nothing
    pub owes_nothing_grows : OwesNothing p i → OwesNothing p' i
    owes_nothing_grows h = record {
      section = z.section ∙ h.section;
      claimed = λ slot is. h.claimed slot (z.claimed_back slot is);
      unlinked = λ slot at is. enough (2 ^ 48) (p.uses slot) (p'.uses slot) (h.unlinked slot at (z.leaves.unlinked_back slot at is)) (g.uses slot);
      locked = λ row bucket is. h.locked row bucket (z.leaves.locks_back row bucket is);
      owner = λ is. h.owner (z.leaves.owner_back is);
    }

    -- and so for every number, whether it is a seat or none
    pub all_of_grows : (s : Option Seat) → IsAllOf p i s → IsAllOf p' i s
    all_of_grows (Some s) h = owes_grows s h
    all_of_grows None h = owes_nothing_grows h
