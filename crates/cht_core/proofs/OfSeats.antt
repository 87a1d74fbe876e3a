-- A machine is of its seat's table after a step too.
use Rattle.std.proofs.Common.{◌≡◌, ℕ, Option, inl, inr, refl, sym, ap, subst, ◌∙◌}
use Rattle.intern_log.specs.Now.{Now}
use Rattle.call_machine.specs.declared.begin.Left.{Left}
use Rattle.call_machine.specs.declared.begin.Left.TheVariants as left
use Rattle.call_machine.specs.declared.caller.Caller.{Caller}
use Rattle.call_machine.specs.declared.grace.Grace.{Grace}
use Rattle.call_machine.specs.declared.machine.Machine.{Machine}
use Rattle.call_machine.specs.declared.machine.Machine.TheVariants as machine
use Rattle.call_machine.specs.declared.work.Work.{Work}
use Rattle.call_machine.specs.Begin.{left_of}
use Rattle.call_machine.specs.Machine.{own_of, own_begun, IsSameMachine}
use Rattle.call_machine.specs.SoundMachine.{IsSoundMachine}
use Rattle.call_machine.specs.WholeMachine.{IsSingle}
use Rattle.cht_core.specs.declared.table.Table.{Table}
use Rattle.cht_core.specs.Slots.{AreBytes}
use Rattle.cht_core.specs.View.{IsOfSeat}

-- a call that begins leaves a work or a grace, and not both
begun_single : (caller : Caller) (l : Left) → IsSingle (own_begun caller l)
begun_single caller left.Nothing = inl refl
begun_single caller left.Clean = inr refl
begun_single caller (left.Resize d level) = inr refl
begun_single caller (left.Grace g) = inl refl

-- the same machine after a step is one of the same seat
pub of_seat_after : (t : Table) (n n' : Now) (i : ℕ) (k x : Machine) → IsSameMachine k x → IsSoundMachine x → n'.seed ≡ n.seed → IsOfSeat t n i k → IsOfSeat t n' i x
of_seat_after t n n' i (machine.Call c w g) (machine.Call d work grace) same sound seed of = record {
  shape = ap (λ q. q.shape) same.0 ∙ of.shape;
  kind = ap (λ q. q.kind) same.0 ∙ of.kind;
  seed = ap (λ q. q.seed) same.0 ∙ of.seed ∙ sym seed;
  number = ap (λ q. q.number) same.0 ∙ of.number;
  bytes = subst (λ q. AreBytes q.text) (sym same.0) of.bytes;
  sound = sound;
  single = subst (λ (o : Option Grace). IsSingle (own_of (machine.Call d work o))) (sym same.2) (subst (λ (o : Option Work). IsSingle (own_of (machine.Call d o g))) (sym same.1) of.single);
}
of_seat_after t n n' i (machine.Begin b) (machine.Begin d) same sound seed of = record {
  shape = ap (λ (c : Caller). c.shape) same ∙ of.shape;
  kind = ap (λ (c : Caller). c.kind) same ∙ of.kind;
  seed = ap (λ (c : Caller). c.seed) same ∙ of.seed ∙ sym seed;
  number = ap (λ (c : Caller). c.number) same ∙ of.number;
  bytes = of.bytes;
  sound = sound;
  single = begun_single d.caller (left_of d.stage);
}
of_seat_after t n n' i (machine.Poll p) (machine.Poll d) same sound seed of = record {
  shape = ap (λ (c : Caller). c.shape) same.0 ∙ of.shape;
  kind = ap (λ (c : Caller). c.kind) same.0 ∙ of.kind;
  seed = ap (λ (c : Caller). c.seed) same.0 ∙ of.seed ∙ sym seed;
  number = ap (λ (c : Caller). c.number) same.0 ∙ of.number;
  bytes = of.bytes;
  sound = sound;
  single = inr refl;
}
of_seat_after t n n' i (machine.Sweep s) (machine.Sweep d) same sound seed of = record {
  shape = ap (λ q. q.caller.shape) same ∙ of.shape;
  kind = ap (λ q. q.caller.kind) same ∙ of.kind;
  seed = ap (λ q. q.caller.seed) same ∙ of.seed ∙ sym seed;
  number = ap (λ q. q.caller.number) same ∙ of.number;
  bytes = of.bytes;
  sound = sound;
  single = inl refl;
}
of_seat_after t n n' i _ _ same sound seed of = absurd same
