-- The graces that the seats of a table have begun have places.
use Rattle.std.proofs.Common.{◌≡◌, ℕ, ◌<◌, List, [], ◌∷◌, Option, Some, None, IfSome, subst, inl, inr}
use Rattle.chain_core.specs.Nodes.{On}
use Rattle.intern_log.specs.Now.{Unlinked}
use Rattle.call_machine.specs.declared.begin.BeginStage.{BeginStage}
use Rattle.call_machine.specs.declared.begin.BeginStage.TheVariants as begin
use Rattle.call_machine.specs.declared.begin.Left.TheVariants as left
use Rattle.call_machine.specs.declared.clean.CleanAlong.{CleanAlong}
use Rattle.call_machine.specs.declared.clean.CleanStage.{CleanStage}
use Rattle.call_machine.specs.declared.clean.CleanStage.TheVariants as clean
use Rattle.call_machine.specs.declared.grace.Grace.{Grace}
use Rattle.call_machine.specs.declared.grace.GraceStage.TheVariants as grace
use Rattle.call_machine.specs.declared.machine.Machine.TheVariants as machine
use Rattle.call_machine.specs.declared.pass.Waiting.{Waiting}
use Rattle.call_machine.specs.declared.sweep.SweepAlong.{SweepAlong}
use Rattle.call_machine.specs.declared.sweep.SweepAsked.{SweepAsked}
use Rattle.call_machine.specs.declared.sweep.SweepStage.{SweepStage}
use Rattle.call_machine.specs.declared.sweep.SweepStage.TheVariants as sweep
use Rattle.call_machine.specs.declared.work.Work.{Work}
use Rattle.call_machine.specs.declared.work.Work.TheVariants as work
use Rattle.call_machine.specs.Poll.{work_left}
use Rattle.cht_core.specs.declared.seat.Seat.{Seat}
use Rattle.cht_core.specs.declared.seat.Seat.TheVariants as doing
use Rattle.cht_core.specs.declared.table.Table.{Table}
use Rattle.cht_core.specs.Flow.{Flow}
use Rattle.cht_core.specs.KnowsResize.{Graced}
use Rattle.cht_core.specs.KnowsWork.{KnowsGrace, KnowsWork, KnowsCleaning, KnowsSweep, KnowsBegin, KnowsWaited, AreWaiting, slots_in}
use Rattle.cht_core.specs.Memory.{Memory}
use Rattle.cht_core.specs.Parts.{own_grace, begun_grace, waited_grace, work_grace, clean_grace, sweep_grace, HasGrace}
use Rattle.cht_core.specs.Past.{Past}
use Rattle.cht_core.specs.View.{View, Knows}

-- a grace has a place, before which the seat unlinked each slot that waits
abbrev pub HasPlace : Past → ℕ → Grace × List ℕ → Type 0
HasPlace p k begun = (at : ℕ) × Graced p.now begun.0 at × ((s : ℕ) → On s begun.1 → (by : ℕ) × (p.now.slot s ≡ Unlinked k by) × (by < at))

module _ (m : Memory) (p : Past) (f : Flow) (k : ℕ) where
  all_unlinked : (at : ℕ) (xs : List Waiting) → AreWaiting m p k at xs → (s : ℕ) → On s (slots_in xs) → (by : ℕ) × (p.now.slot s ≡ Unlinked k by) × (by < at)
  all_unlinked at [] waiting s on = absurd on
  all_unlinked at (x ∷ xs) waiting s on = elim on [
    | inl is ↦ subst (λ slot. (by : ℕ) × (p.now.slot slot ≡ Unlinked k by) × (by < at)) is (waiting.0.0, waiting.0.1, waiting.0.2)
    | inr later ↦ all_unlinked at xs waiting.1 s later
  ]

  waited_place : (xs : List Waiting) (g : Grace) → KnowsWaited m p k xs g → HasPlace p k (g, slots_in xs)
  waited_place xs g known = (known.0, known.1, all_unlinked known.0 xs known.2)

  same_grace : (a b : Grace × List ℕ) → Some a ≡ Some b → HasPlace p k a → HasPlace p k b
  same_grace a b is known = let same : a ≡ b = cc in subst (HasPlace p k) same known

  -- the grace of a clean, and of a sweep
  clean_place : (begun : Grace × List ℕ) (w : CleanAlong) (s : CleanStage) → KnowsCleaning m p f k w s → clean_grace w s ≡ Some begun → HasPlace p k begun
  clean_place begun w clean.LoadLevel known is = absurd (cc)
  clean_place begun w (clean.Lock s) known is = absurd (cc)
  clean_place begun w (clean.Pass s) known is = absurd (cc)
  clean_place begun w clean.UnlockHead known is = absurd (cc)
  clean_place begun w (clean.Grace freeing grace.RaiseCounter) known is = absurd (cc)
  clean_place begun w (clean.Grace freeing grace.LoadSection) known is =
      same_grace (w.grace, slots_in w.cleaning.waiting.items) begun is (waited_place w.cleaning.waiting.items w.grace known.1)
  clean_place begun w (clean.Free freeing s) known is = absurd (cc)
  clean_place begun w clean.GiveResizeLock known is = absurd (cc)

  work_place : (begun : Grace × List ℕ) (w : Option Work) → IfSome w (KnowsWork m p f k) → work_grace w ≡ Some begun → HasPlace p k begun
  work_place begun None known is = absurd (cc)
  work_place begun (Some (work.Clean c)) known is = clean_place begun c.along c.stage known.1 is
  work_place begun (Some (work.Resize r)) known is = absurd (cc)

  sweep_place : (begun : Grace × List ℕ) (q : SweepAsked) (w : SweepAlong) (s : SweepStage) → KnowsSweep m p f k q w s → sweep_grace w s ≡ Some begun → HasPlace p k begun
  sweep_place begun q w sweep.Check known is = absurd (cc)
  sweep_place begun q w (sweep.Find s) known is = absurd (cc)
  sweep_place begun q w sweep.Lock known is = absurd (cc)
  sweep_place begun q w (sweep.Close why) known is = absurd (cc)
  sweep_place begun q w (sweep.Pass s) known is = absurd (cc)
  sweep_place begun q w sweep.UnlockHead known is = absurd (cc)
  sweep_place begun q w (sweep.Grace grace.RaiseCounter) known is = absurd (cc)
  sweep_place begun q w (sweep.Grace grace.LoadSection) known is =
      same_grace (w.grace, slots_in w.cleaning.waiting.items) begun is (waited_place w.cleaning.waiting.items w.grace known.1)
  sweep_place begun q w (sweep.Free s) known is = absurd (cc)
  sweep_place begun q w (sweep.Answered a) known is = absurd (cc)

  -- a grace that a seat has begun by itself
  same_own : (a b : Grace) → Some a ≡ Some b → KnowsGrace p.now a → KnowsGrace p.now b
  same_own a b is known = let same : a ≡ b = cc in subst (KnowsGrace p.now) same known

  begun_place : (g : Grace) (s : BeginStage) → KnowsBegin p.now f k s → begun_grace s ≡ Some g → KnowsGrace p.now g
  begun_place g (begin.LoadCounter t) known is = absurd (cc)
  begun_place g (begin.TakeResizeLock t) known is = absurd (cc)
  begun_place g (begin.LoadLevel d) known is = absurd (cc)
  begun_place g (begin.GiveResizeLock a) known is = absurd (cc)
  begun_place g (begin.Grace h grace.RaiseCounter) known is = absurd (cc)
  begun_place g (begin.Grace h grace.LoadSection) known is = same_own h g is known
  begun_place g (begin.Answered a left.Nothing) known is = absurd (cc)
  begun_place g (begin.Answered a left.Clean) known is = absurd (cc)
  begun_place g (begin.Answered a (left.Resize d level)) known is = absurd (cc)
  begun_place g (begin.Answered a (left.Grace h)) known is = same_own h g is known

  own_place : (g : Grace) (o : Option Grace) → IfSome o (KnowsGrace p.now) → o ≡ Some g → KnowsGrace p.now g
  own_place g o known is = subst (λ o. IfSome o (KnowsGrace p.now)) is known

  module _ (t : Table) (v : View) where
    own_known : (g : Grace) (s : Seat) → Knows t m p f k (record v { seat = s }) → own_grace s ≡ Some g → KnowsGrace p.now g
    own_known g (doing.Idle own) known is = own_place g own.grace known.1.2 is
    own_known g (doing.Running (machine.Call c w r)) known is = own_place g r known.1.2 is
    own_known g (doing.Running (machine.Begin b)) known is = begun_place g b.stage known.1.1 is
    own_known g (doing.Running (machine.Poll q)) known is = absurd (cc)
    own_known g (doing.Running (machine.Sweep s)) known is = absurd (cc)

    waited_known : (begun : Grace × List ℕ) (s : Seat) → Knows t m p f k (record v { seat = s }) → waited_grace s ≡ Some begun → HasPlace p k begun
    waited_known begun (doing.Idle own) known is = work_place begun own.work known.1.1 is
    waited_known begun (doing.Running (machine.Call c w r)) known is = work_place begun w known.1.1 is
    waited_known begun (doing.Running (machine.Begin b)) known is = absurd (cc)
    waited_known begun (doing.Running (machine.Poll q)) known is = work_place begun (work_left q.work q.answer) known.1.1 is
    waited_known begun (doing.Running (machine.Sweep s)) known is = sweep_place begun s.asked s.along s.stage known.1 is

    -- each grace of a seat has a place
    pub grace_known : (g : Grace) (waiting : List ℕ) → Knows t m p f k v → HasGrace v.seat g waiting → HasPlace p k (g, waiting)
    grace_known g waiting known has = elim has [
      | inl own ↦ (let begun = own_known g v.seat known own.0 in (begun.0, begun.1, λ s on. absurd (subst (On s) own.1 on)))
      | inr waited ↦ waited_known (g, waiting) v.seat known waited
    ]
