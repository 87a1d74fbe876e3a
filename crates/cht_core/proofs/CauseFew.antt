-- A poll of a clean makes few full passes over a bucket, and its seat has the resize lock as it begins.
use Rattle.std.proofs.Common.{◌≡◌, ℕ, ◌*◌, ◌/◌, ◌≤◌, nat_lt, Bool, true, false, List, ◌++◌, Option, Some, None, refl, subst, arith}
use Rattle.std.specs.Prelude.{IfSome}
use Rattle.std.proofs.lemmas.Bool.Decides.{nat_tests}
use Rattle.intern_log.specs.declared.event.Event.{Event}
use Rattle.intern_log.specs.Now.{owner_of}
use Rattle.call_machine.specs.declared.caller.Caller.{Caller}
use Rattle.call_machine.specs.declared.clean.Clean.{Clean}
use Rattle.call_machine.specs.declared.clean.CleanAlong.{CleanAlong}
use Rattle.call_machine.specs.declared.clean.CleanStage.{CleanStage}
use Rattle.call_machine.specs.declared.clean.CleanStage.TheVariants as clean
use Rattle.call_machine.specs.declared.machine.Machine.TheVariants as machine
use Rattle.call_machine.specs.declared.machine.Own.{Own}
use Rattle.call_machine.specs.declared.work.Work.{Work}
use Rattle.call_machine.specs.declared.work.Work.TheVariants as work
use Rattle.cht_core.specs.declared.seat.Seat.{Seat}
use Rattle.cht_core.specs.declared.seat.Seat.TheVariants as doing
use Rattle.cht_core.specs.declared.table.Table.{Table}
use Rattle.cht_core.specs.Caused.{Caused}
use Rattle.cht_core.specs.CauseCalls.{Way}
use Rattle.cht_core.specs.Causes.{now_in, IsCreateAt, own_unlinks, HasMade, HasUnlinked}
use Rattle.cht_core.specs.Flow.{Flow}
use Rattle.cht_core.specs.Invariant.{Inv}
use Rattle.cht_core.specs.KnowsWork.{KnowsWork}
use Rattle.cht_core.specs.Memory.{Memory}
use Rattle.cht_core.specs.Past.{Past, past_of}
use Rattle.cht_core.specs.View.{View, IsOwnOf, KnowsOwn, Knows}
use Rattle.cht_core.specs.Windows.{Another, IsTold}
use Rattle.cht_core.proofs.CauseUnlinks.{created_beside}
use Rattle.cht_core.proofs.CauseWorks.{too_many}
use Rattle.cht_core.proofs.ResizeOwner.{resize_owner}

unlinked_full : (t : Table) (i : ℕ) (seen window : List Event) (w : CleanAlong) (s : CleanStage) → HasUnlinked t i seen window w s → HasMade t i seen window w 0
unlinked_full t i seen window w clean.LoadLevel h = omega (arith, h)
unlinked_full t i seen window w (clean.Lock s) h = omega (arith, h)
unlinked_full t i seen window w (clean.Pass s) h = omega (arith, h)
unlinked_full t i seen window w clean.UnlockHead h = omega (arith, h)
unlinked_full t i seen window w (clean.Grace which s) h = omega (arith, h)
unlinked_full t i seen window w (clean.Free which s) h = omega (arith, h)
unlinked_full t i seen window w clean.GiveResizeLock h = omega (arith, h)

no_more : (a b : ℕ) → nat_lt a b ≡ false → b ≤ a
no_more a b is = grind (arith, nat_tests)

module _ (t : Table) (i : ℕ) (way : Way) (seen window : List Event) (load : ℕ) (caller : Caller) (c : Clean)
    (caused : Caused t i way seen window load (machine.Poll (record { caller = caller; work = work.Clean c; answer = None }))) where
  -- each full pass of the poll over the bucket unlinked 256 slots of it in the window
  pub passes_unlinked : 256 * c.along.full_passes ≤ own_unlinks t i c.along.cleaning.row c.along.cleaning.bucket seen window
  passes_unlinked = let made = unlinked_full t i seen window c.along c.stage caused.1.1 in omega (arith, made)

  -- and where no other seat creates an entry there they are at most `slots / 256`
  pub passes_few : IsTold t (seen ++ window) → ¬ (Another i (IsCreateAt t c.along.cleaning.row c.along.cleaning.bucket) seen window) → c.along.full_passes ≤ t.shape.slots / 256
  passes_few told none = go (nat_lt (t.shape.slots / 256) c.along.full_passes) refl
    where
      go : (b : Bool) → nat_lt (t.shape.slots / 256) c.along.full_passes ≡ b → c.along.full_passes ≤ t.shape.slots / 256
      go false is = no_more (t.shape.slots / 256) c.along.full_passes is
      go true is =
          absurd (none (created_beside t i c.along.cleaning.row c.along.cleaning.bucket seen window told caused.1.0 caused.0
          (too_many t i seen window c.along (unlinked_full t i seen window c.along c.stage caused.1.1) is)))

-- THE RESIZE LOCK

owned_by_work : (m : Memory) (p : Past) (f : Flow) (i : ℕ) (w : Work) → KnowsWork m p f i w → owner_of p.now.resizing ≡ Some i
owned_by_work m p f i (work.Clean c) knows = knows.0.owner
owned_by_work m p f i (work.Resize r) knows = resize_owner m p.now f i r.direction r.along r.stage knows

-- a seat with an unfinished work has the resize lock
pub work_has_lock : (t : Table) (m : Memory) (seat : ℕ → Option View) (log : List Event) (i : ℕ) (v : View) (own : Own) (w : Work) → Inv t m seat log → seat i ≡ Some v →
    v.seat ≡ doing.Idle own → own.work ≡ Some w → owner_of (now_in t log).resizing ≡ Some i
work_has_lock t m seat log i v own w inv at idle is =
    let p : Past = past_of t.shape.min_level log in
    let known : IsOwnOf t i own × KnowsOwn m p inv.flow i own = subst (λ (s : Seat). Knows t m p inv.flow i (record v { seat = s })) idle (inv.knows i v at) in
    owned_by_work m p inv.flow i w (subst (λ (o : Option Work). IfSome o (KnowsWork m p inv.flow i)) is known.1.1)
